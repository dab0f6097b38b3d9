-- The types of the names on a left side.
use Rattle.std.proofs.Common.{◌≡◌, Bool, true, false, not, ◌&&◌, ◌||◌, List, [], ◌∷◌, length, refl, sym, ◌∙◌, ap, arith}
use Rattle.std.specs.Prelude.{Option, None, Some, is_some}
use Rattle.std.specs.Option.{option_map, option_map_or}
use Rattle.hept_ast.specs.Faults.{Judging, fits_left, left_types, pair_types}
use Rattle.hept_ast.specs.Parts.{declaration}
use Rattle.hept_ast.specs.Texts.{Name}
use Rattle.hept_ast.specs.Types.{same_type, same_types}
use Rattle.hept_ast.specs.declared.tree.Decl.{Decl}
use Rattle.hept_ast.specs.declared.tree.Ty.{Ty}
use Rattle.declared_types.specs.Lefts.{are_seen, fit_names, has_type, have_types}

-- ---- types of other number than the names

and_no : (b : Bool) → b && false ≡ false
and_no true = refl
and_no false = refl

pub have_others : (seen : List Decl) (xs : List Name) (ts : List Ty) → (length xs ≡ length ts → ⊥) → false ≡ have_types seen xs ts
have_others seen [] [] h = absurd (h refl)
have_others seen [] (t ∷ ts) h = refl
have_others seen (x ∷ xs) [] h = refl
have_others seen (x ∷ xs) (t ∷ ts) h = sym (and_no (has_type seen x t)) ∙ ap (λ b. has_type seen x t && b) (have_others seen xs ts (λ e. h (omega (arith, e))))

-- ---- the definition

seen_one : (q : Option Decl) (r : Option (List Ty)) (b : Bool) → b ≡ is_some r → is_some q && b ≡ is_some (pair_types (option_map (λ d. d.ty) q) r)
seen_one None r b e = refl
seen_one (Some d) None b e = e
seen_one (Some d) (Some ts) b e = e

seen_is : (w : Judging) (xs : List Name) → are_seen w.seen xs ≡ is_some (left_types w xs)
seen_is w [] = refl
seen_is w (x ∷ xs) = seen_one (declaration w.seen x) (left_types w xs) (are_seen w.seen xs) (seen_is w xs)

none_left : (seen : List Decl) (ts : List Ty) → have_types seen [] ts ≡ same_types [] ts
none_left seen [] = refl
none_left seen (t ∷ ts) = refl

have_cons : (q : Option Decl) (r : Option (List Ty)) (us : List Ty) (t : Ty) (ts : List Ty) (b : Bool) → pair_types (option_map (λ d. d.ty) q) r ≡ Some us → ((vs : List Ty) → r ≡ Some vs → b ≡ same_types vs ts)
    → option_map_or (λ d. same_type d.ty t) q false && b ≡ same_types us (t ∷ ts)
have_cons None r us t ts b e h = absurd (let n : ⊥ = cc in n)
have_cons (Some d) None us t ts b e h = absurd (let n : ⊥ = cc in n)
have_cons (Some d) (Some vs) us t ts b e h =
    let same : d.ty ∷ vs ≡ us = cc in
    ap (λ c. same_type d.ty t && c) (h vs refl) ∙ ap (λ u. same_types u (t ∷ ts)) same

have_no : (q : Option Decl) (r : Option (List Ty)) (us : List Ty) → pair_types (option_map (λ d. d.ty) q) r ≡ Some us → false ≡ same_types us []
have_no None r us e = absurd (let n : ⊥ = cc in n)
have_no (Some d) None us e = absurd (let n : ⊥ = cc in n)
have_no (Some d) (Some vs) us e = let same : d.ty ∷ vs ≡ us = cc in ap (λ u. same_types u []) same

have_is : (w : Judging) (xs : List Name) (us ts : List Ty) → left_types w xs ≡ Some us → have_types w.seen xs ts ≡ same_types us ts
have_is w [] us ts e = let same : [] ≡ us = cc in none_left w.seen ts ∙ ap (λ u. same_types u ts) same
have_is w (x ∷ xs) us [] e = have_no (declaration w.seen x) (left_types w xs) us e
have_is w (x ∷ xs) us (t ∷ ts) e = have_cons (declaration w.seen x) (left_types w xs) us t ts (have_types w.seen xs ts) e (λ vs g. have_is w xs vs ts g)

by_types : (w : Judging) (xs : List Name) (ts : List Ty) (r : Option (List Ty)) → left_types w xs ≡ r → fit_names w.seen xs ts ≡ fits_left w r ts
by_types w xs ts None e = ap (λ b. not b || have_types w.seen xs ts) (seen_is w xs ∙ ap is_some e)
by_types w xs ts (Some us) e = ap (λ b. not b || have_types w.seen xs ts) (seen_is w xs ∙ ap is_some e) ∙ have_is w xs us ts e

pub fit_names-is : (w : Judging) (xs : List Name) (ts : List Ty) → fit_names w.seen xs ts ≡ fits_left w (left_types w xs) ts
fit_names-is w xs ts = by_types w xs ts (left_types w xs) refl
