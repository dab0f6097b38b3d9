-- Demands on the types of expressions, and the faults of parts.
use Rattle.std.proofs.Common.{◌≡◌, ℕ, Bool, true, not, List, [], ◌∷◌, ◌++◌, refl, sym, ◌∙◌, ap, map}
use Rattle.std.specs.Prelude.{Option, None, Some, ◌||◌}
use Rattle.std.specs.List.{flat_map, list_any}
use Rattle.std.specs.Option.{option_map_or}
use Rattle.hept_ast.specs.Faults.{Fault, Judged, Judging, Mismatch, NotDefined, UnknownName, can_branch, decl_faults, demanded, fault, init_faults, fits_left, lack_faults, left_types, one_type, part_faults, second_definitions, tag_faults, tag_fits, unknown_tag}
use Rattle.hept_ast.specs.Limits.{earlier_of, earliest}
use Rattle.hept_ast.specs.Parts as part
use Rattle.hept_ast.specs.Parts.{branch_case, equation_case, sets_of}
use Rattle.hept_ast.specs.Types.{Plain_type, same_tag, tags_of, type_is_known, type_of_tag}
use Rattle.hept_ast.specs.declared.tree.Branch.{Branch}
use Rattle.hept_ast.specs.declared.tree.Decl.{Decl}
use Rattle.hept_ast.specs.declared.tree.Equation.{Equation}
use Rattle.hept_ast.specs.declared.tree.Init.{Init}
use Rattle.hept_ast.specs.declared.tree.Tag.{Tag}
use Rattle.hept_ast.specs.declared.tree.Ty.{Ty}
use Rattle.block_definitions.specs.Defined.{block_faults, undefined_fault}
use Rattle.declared_types.specs.Tags.{branch_tag_faults, fits_tag, is_left_out, lack_fault, tag_faults_by}
use Rattle.declared_types.specs.Typing.{decl_faults_by, init_faults_by}
use Rattle.type_futures.specs.Demands.{has_branches, only_of}
use Rattle.declared_types.specs.Lefts.{fit_names}
use Rattle.declared_types.proofs.LeftTypes.{fit_names-is}
use Rattle.hept_ast.specs.Texts.{Name}
use Rattle.earliest_fault.proofs.Noting.{any_mapped, flat_mapped}
use Rattle.type_futures.proofs.Swaps.{noted_last, only_mismatch}

-- ---- demands

pub demand_noted : (w : Judging) (p : ℕ) (pass : List Ty → Bool) (j : Judged (List Ty)) (fits : Bool) (first o q : Option Fault)
    → o ≡ earlier_of first (earliest j.faults) → fits ≡ option_map_or pass j.types true → q ≡ earlier_of o (earliest (fault p Mismatch (not fits)))
    → q ≡ earlier_of first (earliest (demanded w p pass j))
demand_noted w p pass j fits first o q e f h =
    noted_last p Mismatch (not (option_map_or pass j.types true)) j.faults first o q only_mismatch e (h ∙ ap (λ b. earlier_of o (earliest (fault p Mismatch (not b)))) f)

pub passes : (f g : List Ty → Bool) (r : Option (List Ty)) → ((ts : List Ty) → f ts ≡ g ts) → option_map_or f r true ≡ option_map_or g r true
passes f g None h = refl
passes f g (Some ts) h = h ts

pub only_of-is : (w : Judging) (r : Option (List Ty)) → only_of r ≡ one_type w r
only_of-is w None = refl
only_of-is w (Some []) = refl
only_of-is w (Some (t ∷ [])) = refl
only_of-is w (Some (t ∷ u ∷ ts)) = refl

branches_are : (w : Judging) (ts : List Ty) → has_branches ts ≡ can_branch w ts
branches_are w [] = refl
branches_are w (t ∷ []) = refl
branches_are w (t ∷ u ∷ ts) = refl

pub can_branch-is : (w : Judging) (r : Option (List Ty)) → option_map_or has_branches r true ≡ option_map_or (can_branch w) r true
can_branch-is w r = passes has_branches (can_branch w) r (branches_are w)

pub fits_left-is : (w : Judging) (xs : List Name) (r : Option (List Ty)) → option_map_or (fit_names w.seen xs) r true ≡ option_map_or (fits_left w (left_types w xs)) r true
fits_left-is w xs r = passes (fit_names w.seen xs) (fits_left w (left_types w xs)) r (fit_names-is w xs)

-- ---- lists of faults

pub flat_same : {X Y : Type 0} (f g : X → List Y) (xs : List X) → ((x : X) → f x ≡ g x) → flat_map f xs ≡ flat_map g xs
flat_same f g [] h = refl
flat_same f g (x ∷ xs) h = ap (λ t. t ++ flat_map f xs) (h x) ∙ ap (λ t. g x ++ t) (flat_same f g xs h)

any_same : {X : Type 0} (p q : X → Bool) (xs : List X) → ((x : X) → p x ≡ q x) → list_any p xs ≡ list_any q xs
any_same p q [] h = refl
any_same p q (x ∷ xs) h = ap (λ b. b || list_any p xs) (h x) ∙ ap (λ b. q x || b) (any_same p q xs h)

-- ---- the faults of a block

init_is : (w : Judging) (d : Decl) (i : Option Init) → init_faults_by w.types d i ≡ init_faults w d i
init_is w d None = refl
init_is w d (Some i) = refl

decl_is : (w : Judging) (d : Decl) → decl_faults_by w.types d ≡ decl_faults w d
decl_is w d = ap (λ t. fault d.place.0 UnknownName (not (type_is_known w.types d.ty)) ++ t) (init_is w d d.init)

pub decls_are : (w : Judging) (ds : List Decl) → flat_map (decl_faults_by w.types) ds ≡ flat_map (decl_faults w) ds
decls_are w ds = flat_same (decl_faults_by w.types) (decl_faults w) ds (decl_is w)

pub block_is : (w : Judging) (ds : List Decl) (body : List Equation) → block_faults w.types ds body ≡ part_faults w (part.Block ds (map equation_case body))
block_is w ds body =
    ap (λ t. t ++ flat_map (undefined_fault (flat_map sets_of body)) ds ++ second_definitions [] (map equation_case body)) (decls_are w ds)
    ∙ ap (λ t. flat_map (decl_faults w) ds ++ flat_map (undefined_fault t) ds ++ second_definitions [] (map equation_case body)) (sym (flat_mapped (λ c. c.sets) equation_case body))

-- ---- the faults of a switch

fits_is : (w : Judging) (s : Option Plain_type) (t : Ty) → fits_tag s t ≡ tag_fits w s t
fits_is w None t = refl
fits_is w (Some s) t = refl

tag_is : (w : Judging) (p : ℕ) (t : Tag) (on : Option Ty) → tag_faults_by w.types p t on ≡ tag_faults w p t on
tag_is w p t None = refl
tag_is w p t (Some on) = ap (λ b. fault p UnknownName (unknown_tag w t) ++ fault p Mismatch (not b)) (fits_is w (type_of_tag w.types t) on)

pub tags_are : (w : Judging) (bs : List Branch) (on : Option Ty) → branch_tag_faults w.types on bs ≡ flat_map (λ c. tag_faults w c.place c.label on) (map branch_case bs)
tags_are w bs on =
    flat_same (λ (b : Branch). tag_faults_by w.types b.place.0 b.tag on) (λ b. tag_faults w b.place.0 b.tag on) bs (λ b. tag_is w b.place.0 b.tag on)
    ∙ sym (flat_mapped (λ c. tag_faults w c.place c.label on) branch_case bs)

left_out_is : (bs : List Branch) (t : Tag) → is_left_out (λ (b : Branch). b.tag) bs t ≡ not (list_any (same_tag t) (map (λ c. c.label) (map branch_case bs)))
left_out_is bs t = ap not (sym (any_mapped (same_tag t) (λ c. c.label) (map branch_case bs) ∙ any_mapped (λ c. same_tag t c.label) branch_case bs))

pub lack_is : (w : Judging) (p : ℕ) (bs : List Branch) (on : Option Ty) → lack_fault w.types p bs on ≡ lack_faults w p (map (λ c. c.label) (map branch_case bs)) on
lack_is w p bs None = refl
lack_is w p bs (Some on) =
    ap (fault p NotDefined) (any_same (is_left_out (λ (b : Branch). b.tag) bs) (λ t. not (list_any (same_tag t) (map (λ c. c.label) (map branch_case bs)))) (tags_of w.types on) (left_out_is bs))
