-- What has types has operands with types and without faults.
use Rattle.std.proofs.Common.{◌≡◌, ℕ, Bool, true, false, List, [], ◌∷◌, ◌++◌, length, map, refl, sym, ◌∙◌, ap, subst, arith}
use Rattle.std.specs.Prelude.{Option, None, Some, ◌==◌, ◌&&◌, not, if◌then◌else◌}
use Rattle.std.specs.List.{flat_map, list_all, list_any}
use Rattle.std.proofs.lemmas.Bool.{false≢true}
use Rattle.std.proofs.lemmas.List.{append-nil}
use Rattle.std.proofs.lemmas.Bool.Decides.{nat_tests}
use Rattle.hept_ast.specs.Texts.{Name}
use Rattle.hept_ast.specs.Types.{Fit, Fits, Misfit, Plain_type, Untyped, alike, all_are, async_fit, binary_fit, bool, call_fit, divides, fits_if, future_of, get_fit, has_tags, if_fit, int, is_plain, plain_pair, same_tag, same_type, same_types, type_of_tag, types_of, unary_fit}
use Rattle.hept_ast.specs.Faults.{Duplicate, Fault, Judged, Judging, NestedAsync, Recursive, UnknownName, ZeroDivisor, append_types, barred, both, branch_fit, call_judged, calls_lead, fault, is_nonzero, judge, judged, judged_by, judged_of, lack_faults, merge_fit, nested, node_named, pair_types, read_faults, tag_fits, type_of_variable, unknown_tag, when_fit, with_operand, with_own}
use Rattle.hept_ast.specs.declared.tree.Expr.{Expr}
use Rattle.hept_ast.specs.declared.tree.MergeBranch.{MergeBranch}
use Rattle.hept_ast.specs.declared.tree.Node.{Node}
use Rattle.hept_ast.specs.declared.tree.Plain.TheVariants.{Int, Bool as Truth_value}
use Rattle.hept_ast.specs.declared.tree.Tag.{Tag}
use Rattle.hept_ast.specs.declared.tree.Ty.{Ty}
use Rattle.hept_ast.specs.declared.tree.Ty.TheVariants as ty
use Rattle.hept_ast.specs.declared.tree.UnaryOp.{UnaryOp}
use Rattle.hept_ast.specs.declared.tree.UnaryOp.TheVariants.{Minus, Not}
use Rattle.hept_ast.specs.declared.tree.BinaryOp.{BinaryOp}
use Rattle.hept_ast.specs.declared.tree.BinaryOp.TheVariants.{Add, Sub, Mul, Div, Rem, Or, And, Eq, Ne, Lt, Le, Gt, Ge}
use Rattle.hept_ast.specs.declared.tree.Form.{Form, out-Form, roll-Form}
use Rattle.hept_ast.specs.declared.tree.Form.TheOpen.{Form-F}
use Rattle.hept_ast.specs.declared.tree.Form.TheViews.{roll-out-Form}
use Rattle.hept_ast.specs.declared.tree.Form.TheVariants as form
use Rattle.hept_ast.proofs.JudgeOf.{judge_of, one, row, branch_row, judge-Unary, judge-Binary, judge-If, judge-Fby, judge-Arrow, judge-Pre, judge-When, judge-Merge, judge-Call, judge-AsyncCall, judge-Get}

-- ---- an expression by its own faults and its operands

pub record Fitted {A : Type 0} (own : List Fault) (operands : Judged A) (fit : A → Fit) (us : List Ty) : Type 0 where
  pub types : A
  pub given : operands.types ≡ Some types
  pub fits : fit types ≡ Fits us
  pub owns : own ≡ []
  pub clean : operands.faults ≡ []

pub none_some : {A P : Type 0} (x : A) → None ≡ Some x → P
none_some x e = cc

pub some_some : {A : Type 0} (x y : A) → Some x ≡ Some y → x ≡ y
some_some x y e = cc

pub empty_parts : {A : Type 0} (xs ys : List A) → xs ++ ys ≡ [] → (xs ≡ []) × (ys ≡ [])
empty_parts [] ys e = (refl, e)
empty_parts (x ∷ xs) ys e = let d : x ∷ (xs ++ ys) ≡ [] = e in cc

with_own-some : (own : List Fault) (ts us : List Ty) → with_own own ts ≡ Some us → (own ≡ []) × (ts ≡ us)
with_own-some [] ts us e = (refl, some_some ts us e)
with_own-some (f ∷ fs) ts us e = none_some us e

pub judged_by-some : (p : ℕ) (own : List Fault) (fit : Fit) (us : List Ty) → (judged_by p own fit).types ≡ Some us → (own ≡ []) × (fit ≡ Fits us)
judged_by-some p own (Fits ts) us e = let h = with_own-some own ts us e in (h.0, ap Fits h.1)
judged_by-some p own Misfit us e = none_some us e
judged_by-some p own Untyped us e = none_some us e

judged_of-some : {A : Type 0} (p : ℕ) (fs : List Fault) (types : Option A) (fit : A → Fit) (us : List Ty) → (judged_of p fs types fit).types ≡ Some us
    → (ts : A) × (types ≡ Some ts) × (fit ts ≡ Fits us) × (fs ≡ [])
judged_of-some p fs None fit us e = none_some us e
judged_of-some p fs (Some ts) fit us e = let h = judged_by-some p fs (fit ts) us e in (ts, refl, h.1, h.0)

pub judged-some : {A : Type 0} (p : ℕ) (own : List Fault) (operands : Judged A) (fit : A → Fit) (us : List Ty) → (judged p own operands fit).types ≡ Some us → Fitted own operands fit us
judged-some p own operands fit us e =
    let h = judged_of-some p (own ++ operands.faults) operands.types fit us e in
    let k = empty_parts own operands.faults h.3 in
    record { types = h.0; given = h.1; fits = h.2; owns = k.0; clean = k.1 }

-- ---- operands in a row

-- operands with these types and without faults
abbrev pub Gives : Judging → Bool → List Expr → List (List Ty) → Type 0
Gives w under [] [] = Unit {0}
Gives w under [] (t ∷ ts) = ⊥
Gives w under (e ∷ es) [] = ⊥
Gives w under (e ∷ es) (t ∷ ts) = ((judge_of w under e).types ≡ Some t) × ((judge_of w under e).faults ≡ []) × Gives w under es ts

abbrev pub GivesBranches : Judging → List MergeBranch → List (List Ty) → Type 0
GivesBranches w [] [] = Unit {0}
GivesBranches w [] (t ∷ ts) = ⊥
GivesBranches w (b ∷ bs) [] = ⊥
GivesBranches w (b ∷ bs) (t ∷ ts) = ((judge_of w false b.value).types ≡ Some t) × ((judge_of w false b.value).faults ≡ []) × GivesBranches w bs ts

pair-some : {A : Type 0} (o : Option A) (os : Option (List A)) (ts : List A) → pair_types o os ≡ Some ts → (t : A) × (us : List A) × (o ≡ Some t) × (os ≡ Some us) × (ts ≡ t ∷ us)
pair-some None os ts e = none_some ts e
pair-some (Some t) None ts e = none_some ts e
pair-some (Some t) (Some us) ts e = (t, us, refl, refl, sym (some_some (t ∷ us) ts e))

pub row-gives : (w : Judging) (under : Bool) (es : List Expr) (ts : List (List Ty)) → (row w under es).types ≡ Some ts → (row w under es).faults ≡ [] → Gives w under es ts
row-gives w under [] [] e k = tt
row-gives w under [] (t ∷ ts) e k = cc
row-gives w under (e ∷ es) [] h k =
    let r = pair-some (judge_of w under e).types (row w under es).types [] h in cc (r.4)
row-gives w under (e ∷ es) (t ∷ ts) h k =
    let r = pair-some (judge_of w under e).types (row w under es).types (t ∷ ts) h in
    let f = empty_parts (judge_of w under e).faults (row w under es).faults k in
    let head : r.0 ≡ t = cc (r.4) in
    let tail : r.1 ≡ ts = cc (r.4) in
    (r.2 ∙ ap Some head, f.0, row-gives w under es ts (r.3 ∙ ap Some tail) f.1)

branch_fit-some : (w : Judging) (tag : Tag) (on : Option Ty) (ts us : List Ty) → branch_fit w tag on ts ≡ Fits us → ts ≡ us
branch_fit-some w tag None ts us e = cc
branch_fit-some w tag (Some on) ts us e = tested (tag_fits w (type_of_tag w.types tag) on) e
  where
    tested : (b : Bool) → (if b then Fits ts else Misfit) ≡ Fits us → ts ≡ us
    tested true e = cc
    tested false e = cc

pub branches-give : (w : Judging) (on : Option Ty) (earlier : List Tag) (bs : List MergeBranch) (ts : List (List Ty)) → (branch_row w on earlier bs).types ≡ Some ts
    → (branch_row w on earlier bs).faults ≡ [] → GivesBranches w bs ts
branches-give w on earlier [] [] e k = tt
branches-give w on earlier [] (t ∷ ts) e k = cc
branches-give w on earlier (b ∷ bs) [] h k =
    let own = fault b.place.0 UnknownName (unknown_tag w b.tag) ++ fault b.place.0 Duplicate (list_any (same_tag b.tag) earlier) in
    let j = judged b.place.0 own (judge_of w false b.value) (branch_fit w b.tag on) in
    let r = pair-some j.types (branch_row w on (b.tag ∷ earlier) bs).types [] h in cc (r.4)
branches-give w on earlier (b ∷ bs) (t ∷ ts) h k =
    let own = fault b.place.0 UnknownName (unknown_tag w b.tag) ++ fault b.place.0 Duplicate (list_any (same_tag b.tag) earlier) in
    let j = judged b.place.0 own (judge_of w false b.value) (branch_fit w b.tag on) in
    let r = pair-some j.types (branch_row w on (b.tag ∷ earlier) bs).types (t ∷ ts) h in
    let f = empty_parts j.faults (branch_row w on (b.tag ∷ earlier) bs).faults k in
    let g = judged-some b.place.0 own (judge_of w false b.value) (branch_fit w b.tag on) r.0 r.2 in
    let head : r.0 ≡ t = cc (r.4) in
    let tail : r.1 ≡ ts = cc (r.4) in
    (g.given ∙ ap Some (branch_fit-some w b.tag on g.types r.0 g.fits ∙ head), g.clean, branches-give w on (b.tag ∷ earlier) bs ts (r.3 ∙ ap Some tail) f.1)

-- ---- each operand has exactly one type

abbrev pub IsSingle : List Ty → Type 0
IsSingle t = (s : Ty) × (t ≡ s ∷ [])

abbrev pub Singles : List (List Ty) → Type 0
Singles [] = Unit {0}
Singles (t ∷ ts) = IsSingle t × Singles ts

both_true : (a b : Bool) → a && b ≡ true → (a ≡ true) × (b ≡ true)
both_true true b e = (refl, e)
both_true false b e = absurd (false≢true e)

no_more : (b : Bool) → b && false ≡ true → ⊥
no_more true e = false≢true e
no_more false e = false≢true e

single_type : (s : Ty) (t : List Ty) → same_types (s ∷ []) t ≡ true → IsSingle t
single_type s [] e = absurd (false≢true e)
single_type s (v ∷ []) e = (v, refl)
single_type s (v ∷ u ∷ t) e = absurd (no_more (same_type s v) e)

single_length : (t : List Ty) → (length t == 1) ≡ true → IsSingle t
single_length [] e = absurd (false≢true e)
single_length (s ∷ []) e = (s, refl)
single_length (s ∷ u ∷ t) e = let d : (length (s ∷ u ∷ t) == 1) ≡ false = grind (arith, nat_tests) in absurd (false≢true (sym d ∙ e))

all_single : (s : Ty) (ts : List (List Ty)) → all_are (s ∷ []) ts ≡ true → Singles ts
all_single s [] e = tt
all_single s (t ∷ ts) e = let k = both_true (same_types (s ∷ []) t) (all_are (s ∷ []) ts) e in (single_type s t k.0, all_single s ts k.1)

lengths_single : (ts : List (List Ty)) → list_all (λ t. length t == 1) ts ≡ true → Singles ts
lengths_single [] e = tt
lengths_single (t ∷ ts) e = let k = both_true (length t == 1) (list_all (λ t. length t == 1) ts) e in (single_length t k.0, lengths_single ts k.1)

pub fits_fits : (ts us : List Ty) → Fits ts ≡ Fits us → ts ≡ us
fits_fits ts us e = cc

pub fits_if-some : (b : Bool) (us ts : List Ty) → fits_if b us ≡ Fits ts → (b ≡ true) × (us ≡ ts)
fits_if-some true us ts e = (refl, fits_fits us ts e)
fits_if-some false us ts e = cc

first_single : (t : List Ty) (rest : List (List Ty)) → IsSingle t → all_are t rest ≡ true → Singles (t ∷ rest)
first_single t rest (s, is) e = ((s, is), all_single s rest (ap (λ (r : List Ty). all_are r rest) (sym is) ∙ e))

pub alike-some : (t : List Ty) (rest : List (List Ty)) (us : List Ty) → alike (t ∷ rest) ≡ Fits us → (t ≡ us) × Singles (t ∷ rest)
alike-some t rest us e =
    let h = fits_if-some (length t == 1 && all_are t rest) t us e in
    let k = both_true (length t == 1) (all_are t rest) h.0 in
    (h.1, first_single t rest (single_length t k.0) k.1)

alike-single : (ts : List (List Ty)) (us : List Ty) → alike ts ≡ Fits us → Singles ts
alike-single [] us e = cc
alike-single (t ∷ ts) us e = (alike-some t ts us e).1

plain_pair-single : (ts : List (List Ty)) (us : List Ty) → plain_pair ts ≡ Fits us → Singles ts
plain_pair-single [] us e = cc
plain_pair-single (t ∷ ts) us e =
    let h = fits_if-some (length t == 1 && list_all is_plain t && all_are t ts) bool us e in
    let k = both_true (length t == 1 && list_all is_plain t) (all_are t ts) h.0 in
    let l = both_true (length t == 1) (list_all is_plain t) k.0 in
    first_single t ts (single_length t l.0) k.1

unary-single : (op : UnaryOp) (ts : List (List Ty)) (us : List Ty) → unary_fit op ts ≡ Fits us → Singles ts
unary-single Minus ts us e = all_single (ty.Plain Int) ts (fits_if-some (all_are int ts) int us e).0
unary-single Not ts us e = all_single (ty.Plain Truth_value) ts (fits_if-some (all_are bool ts) bool us e).0

binary-single : (op : BinaryOp) (ts : List (List Ty)) (us : List Ty) → binary_fit op ts ≡ Fits us → Singles ts
binary-single Add ts us e = all_single (ty.Plain Int) ts (fits_if-some (all_are int ts) int us e).0
binary-single Sub ts us e = all_single (ty.Plain Int) ts (fits_if-some (all_are int ts) int us e).0
binary-single Mul ts us e = all_single (ty.Plain Int) ts (fits_if-some (all_are int ts) int us e).0
binary-single Div ts us e = all_single (ty.Plain Int) ts (fits_if-some (all_are int ts) int us e).0
binary-single Rem ts us e = all_single (ty.Plain Int) ts (fits_if-some (all_are int ts) int us e).0
binary-single Or ts us e = all_single (ty.Plain Truth_value) ts (fits_if-some (all_are bool ts) bool us e).0
binary-single And ts us e = all_single (ty.Plain Truth_value) ts (fits_if-some (all_are bool ts) bool us e).0
binary-single Eq ts us e = plain_pair-single ts us e
binary-single Ne ts us e = plain_pair-single ts us e
binary-single Lt ts us e = all_single (ty.Plain Int) ts (fits_if-some (all_are int ts) bool us e).0
binary-single Le ts us e = all_single (ty.Plain Int) ts (fits_if-some (all_are int ts) bool us e).0
binary-single Gt ts us e = all_single (ty.Plain Int) ts (fits_if-some (all_are int ts) bool us e).0
binary-single Ge ts us e = all_single (ty.Plain Int) ts (fits_if-some (all_are int ts) bool us e).0

pub where_true : (b : Bool) (f : Fit) (us : List Ty) → (if b then f else Misfit) ≡ Fits us → (b ≡ true) × (f ≡ Fits us)
where_true true f us e = (refl, e)
where_true false f us e = cc

if-single : (ts : List (List Ty)) (us : List Ty) → if_fit ts ≡ Fits us → Singles ts
if-single [] us e = cc
if-single (c ∷ ts) us e = let h = where_true (same_types bool c) (alike ts) us e in (single_type (ty.Plain Truth_value) c h.0, alike-single ts us h.1)

pub get-some : (ts : List (List Ty)) (us : List Ty) → get_fit ts ≡ Fits us → (t : Plain_type) × (ts ≡ (ty.Future t ∷ []) ∷ []) × (us ≡ ty.Plain t ∷ [])
get-some [] us e = cc
get-some ([] ∷ ts) us e = cc
get-some ((ty.Plain t ∷ q) ∷ ts) us e = cc
get-some ((ty.Future t ∷ []) ∷ []) us e = (t, refl, sym (fits_fits (ty.Plain t ∷ []) us e))
get-some ((ty.Future t ∷ []) ∷ u ∷ ts) us e = cc
get-some ((ty.Future t ∷ u ∷ q) ∷ ts) us e = cc

get-single : (ts : List (List Ty)) (us : List Ty) → get_fit ts ≡ Fits us → Singles ts
get-single ts us e = let h = get-some ts us e in subst Singles (sym h.1) ((ty.Future h.0, refl), tt)

call-single : (g : Node) (ts : List (List Ty)) (us : List Ty) → call_fit g ts ≡ Fits us → Singles ts
call-single g ts us e =
    let h = fits_if-some (same_types (types_of g.inputs) (flat_map (λ t. t) ts) && list_all (λ t. length t == 1) ts) (types_of g.outputs) us e in
    lengths_single ts (both_true (same_types (types_of g.inputs) (flat_map (λ t. t) ts)) (list_all (λ t. length t == 1) ts) h.0).1

pub async-some : (f : Fit) (us : List Ty) → async_fit f ≡ Fits us → (ts : List Ty) × (f ≡ Fits ts) × (us ≡ map future_of ts)
async-some (Fits ts) us e = tested (list_all is_plain ts) e
  where
    tested : (b : Bool) → (if b then Fits (map future_of ts) else Untyped) ≡ Fits us → (vs : List Ty) × (Fits ts ≡ Fits vs) × (us ≡ map future_of vs)
    tested true d = (ts, refl, sym (fits_fits (map future_of ts) us d))
    tested false d = cc
async-some Misfit us e = cc
async-some Untyped us e = cc

-- ---- what stands in no strong condition, over a variable or in a branch

pub barred-some : (w : Judging) (f : Fit) (us : List Ty) → barred w f ≡ Fits us → f ≡ Fits us
barred-some w f us e = tested w.strong e
  where
    tested : (b : Bool) → (if b then Misfit else f) ≡ Fits us → f ≡ Fits us
    tested true d = cc
    tested false d = d

pub when-some : (w : Judging) (tag : Tag) (on : Option Ty) (ts : List (List Ty)) (us : List Ty) → when_fit w tag on ts ≡ Fits us → alike ts ≡ Fits us
when-some w tag None ts us e = cc
when-some w tag (Some on) ts us e = (where_true (tag_fits w (type_of_tag w.types tag) on && has_tags on) (alike ts) us e).1

pub merge-some : (w : Judging) (on : Option Ty) (ts : List (List Ty)) (us : List Ty) → merge_fit w on ts ≡ Fits us → alike ts ≡ Fits us
merge-some w None ts us e = cc
merge-some w (Some on) ts us e = (where_true (has_tags on) (alike ts) us e).1

-- ---- forms

-- operands in a row that fit
pub record RowFits (w : Judging) (under : Bool) (es : List Expr) (fit : List (List Ty) → Fit) (us : List Ty) : Type 0 where
  pub types : List (List Ty)
  pub gives : Gives w under es types
  pub fits : fit types ≡ Fits us

pub record BranchesFit (w : Judging) (bs : List MergeBranch) (fit : List (List Ty) → Fit) (us : List Ty) : Type 0 where
  pub types : List (List Ty)
  pub gives : GivesBranches w bs types
  pub fits : fit types ≡ Fits us

row_fits : (w : Judging) (under : Bool) (es : List Expr) (p : ℕ) (own : List Fault) (fit : List (List Ty) → Fit) (us : List Ty) → (judged p own (row w under es) fit).types ≡ Some us → RowFits w under es fit us
row_fits w under es p own fit us e =
    let h = judged-some p own (row w under es) fit us e in
    record { types = h.types; gives = row-gives w under es h.types h.given h.clean; fits = h.fits }

same_judged : {A : Type 0} (t u : Option A) (f g : List Fault) → t ≡ u → f ≡ g → let j : Judged A = record { types = t; faults = f } in j ≡ record { types = u; faults = g }
same_judged t u f g d e = cc

first_types : (t : Option (List Ty)) (us : Option (List (List Ty))) → append_types (pair_types t (Some [])) us ≡ pair_types t us
first_types None None = refl
first_types None (Some us) = refl
first_types (Some t) None = refl
first_types (Some t) (Some us) = refl

both_row : (w : Judging) (a : Expr) (j : Judged (List (List Ty))) → both (one w false a) j ≡ with_operand (judge_of w false a) j
both_row w a j =
    same_judged _ _ _ _ (first_types (judge_of w false a).types j.types) (ap (λ (fs : List Fault). fs ++ j.faults) (append-nil (judge_of w false a).faults))

two_row : (w : Judging) (a b : Expr) → both (one w false a) (one w false b) ≡ row w false (a ∷ b ∷ [])
two_row w a b = both_row w a (one w false b)

three_row : (w : Judging) (c a b : Expr) → both (one w false c) (both (one w false a) (one w false b)) ≡ row w false (c ∷ a ∷ b ∷ [])
three_row w c a b = both_row w c (both (one w false a) (one w false b)) ∙ ap (with_operand (judge_of w false c)) (two_row w a b)

-- the types of one thing are those of an equal one
pub types_along : {A : Type 0} {j k : Judged A} {o : Option A} → j ≡ k → j.types ≡ o → k.types ≡ o
types_along {A} d e = sym (ap (λ (x : Judged A). x.types) d) ∙ e

module _ (w : Judging) (under : Bool) (p : ℕ) (us : List Ty) where
  pub of-Unary : (op : UnaryOp) (a : Expr) → (judge w under p (form.Unary op a)).types ≡ Some us → RowFits w false (a ∷ []) (unary_fit op) us
  of-Unary op a e = row_fits w false (a ∷ []) p [] (unary_fit op) us (types_along (judge-Unary w under p op a) e)

  pub of-Binary : (op : BinaryOp) (a b : Expr) → (judge w under p (form.Binary op a b)).types ≡ Some us → RowFits w false (a ∷ b ∷ []) (binary_fit op) us
  of-Binary op a b e =
      let own = fault p ZeroDivisor (divides op && not (is_nonzero b.form && true)) in
      row_fits w false (a ∷ b ∷ []) p own (binary_fit op) us (types_along (judge-Binary w under p op a b ∙ ap (λ (j : Judged (List (List Ty))). judged p own j (binary_fit op)) (two_row w a b)) e)

  pub of-If : (c a b : Expr) → (judge w under p (form.If c a b)).types ≡ Some us → RowFits w false (c ∷ a ∷ b ∷ []) if_fit us
  of-If c a b e = row_fits w false (c ∷ a ∷ b ∷ []) p [] if_fit us (types_along (judge-If w under p c a b ∙ ap (λ (j : Judged (List (List Ty))). judged p [] j if_fit) (three_row w c a b)) e)

  unbarred : (es : List Expr) (side : Bool) (fit : List (List Ty) → Fit) → RowFits w side es (λ ts. barred w (fit ts)) us → RowFits w side es fit us
  unbarred es side fit h = record { types = h.types; gives = h.gives; fits = barred-some w (fit h.types) us h.fits }

  pub of-Fby : (a b : Expr) → (judge w under p (form.Fby a b)).types ≡ Some us → RowFits w false (a ∷ b ∷ []) alike us
  of-Fby a b e =
      unbarred (a ∷ b ∷ []) false alike
      (row_fits w false (a ∷ b ∷ []) p [] (λ ts. barred w (alike ts)) us (types_along (judge-Fby w under p a b ∙ ap (λ (j : Judged (List (List Ty))). judged p [] j (λ ts. barred w (alike ts))) (two_row w a b)) e))

  pub of-Arrow : (a b : Expr) → (judge w under p (form.Arrow a b)).types ≡ Some us → RowFits w false (a ∷ b ∷ []) alike us
  of-Arrow a b e =
      unbarred (a ∷ b ∷ []) false alike
      (row_fits w false (a ∷ b ∷ []) p [] (λ ts. barred w (alike ts)) us (types_along (judge-Arrow w under p a b ∙ ap (λ (j : Judged (List (List Ty))). judged p [] j (λ ts. barred w (alike ts))) (two_row w a b)) e))

  pub of-Pre : (a : Expr) → (judge w under p (form.Pre a)).types ≡ Some us → RowFits w false (a ∷ []) alike us
  of-Pre a e = unbarred (a ∷ []) false alike (row_fits w false (a ∷ []) p [] (λ ts. barred w (alike ts)) us (types_along (judge-Pre w under p a) e))

  pub of-Get : (a : Expr) → (judge w under p (form.Get a)).types ≡ Some us → RowFits w true (a ∷ []) get_fit us
  of-Get a e = unbarred (a ∷ []) true get_fit (row_fits w true (a ∷ []) p [] (λ ts. barred w (get_fit ts)) us (types_along (judge-Get w under p a) e))

  pub of-When : (a : Expr) (tag : Tag) (x : Name) → (judge w under p (form.When a tag x)).types ≡ Some us → RowFits w false (a ∷ []) alike us
  of-When a tag x e =
      let h = row_fits w false (a ∷ []) p (read_faults w p x ++ fault p UnknownName (unknown_tag w tag)) (when_fit w tag (type_of_variable w x)) us (types_along (judge-When w under p a tag x) e) in
      record { types = h.types; gives = h.gives; fits = when-some w tag (type_of_variable w x) h.types us h.fits }

  pub of-Merge : (x : Name) (bs : List MergeBranch) → (judge w under p (form.Merge x bs)).types ≡ Some us → BranchesFit w bs alike us
  of-Merge x bs e =
      let on = type_of_variable w x in
      let h = judged-some p (read_faults w p x ++ lack_faults w p (map (λ b. b.tag) bs) on) (branch_row w on [] bs) (merge_fit w on) us (types_along (judge-Merge w under p x bs) e) in
      record { types = h.types; gives = branches-give w on [] bs h.types h.given h.clean; fits = merge-some w on h.types us h.fits }

  -- a call of a node
  called : (o : Option Node) (own : List Fault) (give : Fit → Fit) (es : List Expr) → (call_judged w p o own give (row w false es)).types ≡ Some us
      → (g : Node) × (o ≡ Some g) × RowFits w false es (λ ts. give (call_fit g ts)) us
  called None own give es e =
      let h = row_fits w false es p (record { place = p; kind = UnknownName } ∷ own) (λ ts. barred w Untyped) us e in
      let k : Untyped ≡ Fits us = barred-some w Untyped us h.fits in cc
  called (Some g) own give es e =
      (g, refl, unbarred es false (λ ts. give (call_fit g ts)) (row_fits w false es p (fault p Recursive (calls_lead w.nodes g.name w.node.name) ++ own) (λ ts. barred w (give (call_fit g ts))) us e))

  pub of-Call : (f : Name) (es : List Expr) → (judge w under p (form.Call f es)).types ≡ Some us → (g : Node) × (node_named w.nodes f ≡ Some g) × RowFits w false es (call_fit g) us
  of-Call f es e = called (node_named w.nodes f) [] (λ g. g) es (types_along (judge-Call w under p f es) e)

  pub of-AsyncCall : (q : ℕ) (f : Name) (es : List Expr) → (judge w under p (form.AsyncCall q f es)).types ≡ Some us
      → (g : Node) × (node_named w.nodes f ≡ Some g) × RowFits w false es (λ ts. async_fit (call_fit g ts)) us
  of-AsyncCall q f es e = called (node_named w.nodes f) (fault p NestedAsync (nested w)) async_fit es (types_along (judge-AsyncCall w under p q f es) e)

-- ---- operands of a form

-- exactly one type, and no fault
pub record HasOneType (w : Judging) (under : Bool) (e : Expr) : Type 0 where
  pub type : Ty
  pub types : (judge_of w under e).types ≡ Some (type ∷ [])
  pub clean : (judge_of w under e).faults ≡ []

abbrev pub HaveOneType : Judging → Bool → List Expr → Type 0
HaveOneType w under [] = Unit {0}
HaveOneType w under (e ∷ es) = HasOneType w under e × HaveOneType w under es

abbrev pub BranchesHaveOneType : Judging → List MergeBranch → Type 0
BranchesHaveOneType w [] = Unit {0}
BranchesHaveOneType w (b ∷ bs) = HasOneType w false b.value × BranchesHaveOneType w bs

each_one : (w : Judging) (under : Bool) (es : List Expr) (ts : List (List Ty)) → Gives w under es ts → Singles ts → HaveOneType w under es
each_one w under [] ts g s = tt
each_one w under (e ∷ es) [] g s = elim g [ ]
each_one w under (e ∷ es) (t ∷ ts) g s = (record { type = s.0.0; types = g.0 ∙ ap Some s.0.1; clean = g.1 }, each_one w under es ts g.2 s.1)

each_branch : (w : Judging) (bs : List MergeBranch) (ts : List (List Ty)) → GivesBranches w bs ts → Singles ts → BranchesHaveOneType w bs
each_branch w [] ts g s = tt
each_branch w (b ∷ bs) [] g s = elim g [ ]
each_branch w (b ∷ bs) (t ∷ ts) g s = (record { type = s.0.0; types = g.0 ∙ ap Some s.0.1; clean = g.1 }, each_branch w bs ts g.2 s.1)

row_one : (w : Judging) (under : Bool) (es : List Expr) (fit : List (List Ty) → Fit) (us : List Ty) → RowFits w under es fit us → ((ts : List (List Ty)) → fit ts ≡ Fits us → Singles ts) → HaveOneType w under es
row_one w under es fit us h k = each_one w under es h.types h.gives (k h.types h.fits)

abbrev pub OperandsHaveOneType : Judging → Form-F Form Expr MergeBranch → Type 0
OperandsHaveOneType w (Form-F.Const k) = Unit {0}
OperandsHaveOneType w (Form-F.Var x) = Unit {0}
OperandsHaveOneType w (Form-F.Last x) = Unit {0}
OperandsHaveOneType w (Form-F.Unary op a) = HaveOneType w false (a ∷ [])
OperandsHaveOneType w (Form-F.Binary op a b) = HaveOneType w false (a ∷ b ∷ [])
OperandsHaveOneType w (Form-F.If c a b) = HaveOneType w false (c ∷ a ∷ b ∷ [])
OperandsHaveOneType w (Form-F.Fby a b) = HaveOneType w false (a ∷ b ∷ [])
OperandsHaveOneType w (Form-F.Pre a) = HaveOneType w false (a ∷ [])
OperandsHaveOneType w (Form-F.Arrow a b) = HaveOneType w false (a ∷ b ∷ [])
OperandsHaveOneType w (Form-F.When a tag x) = HaveOneType w false (a ∷ [])
OperandsHaveOneType w (Form-F.Merge x bs) = BranchesHaveOneType w bs
OperandsHaveOneType w (Form-F.Call f es) = HaveOneType w false es
OperandsHaveOneType w (Form-F.AsyncCall q f es) = HaveOneType w false es
OperandsHaveOneType w (Form-F.AsyncConst k) = Unit {0}
OperandsHaveOneType w (Form-F.Get a) = HaveOneType w true (a ∷ [])

by_view : (f : Form) (v : Form-F Form Expr MergeBranch) → out-Form f ≡ v → f ≡ roll-Form v
by_view f v o = sym (roll-out-Form f) ∙ ap roll-Form o

module _ (w : Judging) (under : Bool) (p : ℕ) (us : List Ty) where
  at_form : {f g : Form} → f ≡ g → (judge w under p f).types ≡ Some us → (judge w under p g).types ≡ Some us
  at_form d e = sym (ap (λ (f : Form). (judge w under p f).types) d) ∙ e

  rolled_operands : (v : Form-F Form Expr MergeBranch) → (judge w under p (roll-Form v)).types ≡ Some us → OperandsHaveOneType w v
  rolled_operands (Form-F.Const k) e = tt
  rolled_operands (Form-F.Var x) e = tt
  rolled_operands (Form-F.Last x) e = tt
  rolled_operands (Form-F.Unary op a) e = row_one w false (a ∷ []) (unary_fit op) us (of-Unary w under p us op a (at_form (form.rolls-Unary op a) e)) (λ ts. unary-single op ts us)
  rolled_operands (Form-F.Binary op a b) e = row_one w false (a ∷ b ∷ []) (binary_fit op) us (of-Binary w under p us op a b (at_form (form.rolls-Binary op a b) e)) (λ ts. binary-single op ts us)
  rolled_operands (Form-F.If c a b) e = row_one w false (c ∷ a ∷ b ∷ []) if_fit us (of-If w under p us c a b (at_form (form.rolls-If c a b) e)) (λ ts. if-single ts us)
  rolled_operands (Form-F.Fby a b) e = row_one w false (a ∷ b ∷ []) alike us (of-Fby w under p us a b (at_form (form.rolls-Fby a b) e)) (λ ts. alike-single ts us)
  rolled_operands (Form-F.Pre a) e = row_one w false (a ∷ []) alike us (of-Pre w under p us a (at_form (form.rolls-Pre a) e)) (λ ts. alike-single ts us)
  rolled_operands (Form-F.Arrow a b) e = row_one w false (a ∷ b ∷ []) alike us (of-Arrow w under p us a b (at_form (form.rolls-Arrow a b) e)) (λ ts. alike-single ts us)
  rolled_operands (Form-F.When a tag x) e = row_one w false (a ∷ []) alike us (of-When w under p us a tag x (at_form (form.rolls-When a tag x) e)) (λ ts. alike-single ts us)
  rolled_operands (Form-F.Merge x bs) e =
      let h = of-Merge w under p us x bs (at_form (form.rolls-Merge x bs) e) in each_branch w bs h.types h.gives (alike-single h.types us h.fits)
  rolled_operands (Form-F.Call f es) e = let h = of-Call w under p us f es (at_form (form.rolls-Call f es) e) in row_one w false es (call_fit h.0) us h.2 (λ ts. call-single h.0 ts us)
  rolled_operands (Form-F.AsyncCall q f es) e =
      let h = of-AsyncCall w under p us q f es (at_form (form.rolls-AsyncCall q f es) e) in
      row_one w false es (λ ts. async_fit (call_fit h.0 ts)) us h.2 (λ ts d. let k = async-some (call_fit h.0 ts) us d in call-single h.0 ts k.0 k.1)
  rolled_operands (Form-F.AsyncConst k) e = tt
  rolled_operands (Form-F.Get a) e = row_one w true (a ∷ []) get_fit us (of-Get w under p us a (at_form (form.rolls-Get a) e)) (λ ts. get-single ts us)

-- the operands of an expression with types have one type each
pub operands_typed : (w : Judging) (under : Bool) (e : Expr) (v : Form-F Form Expr MergeBranch) (us : List Ty) → out-Form e.form ≡ v → (judge_of w under e).types ≡ Some us → OperandsHaveOneType w v
operands_typed w under e v us o h = rolled_operands w under e.place.0 us v (at_form w under e.place.0 us (by_view e.form v o) h)

-- a merge with types has no fault at its variable
pub merge_reads : (w : Judging) (under : Bool) (e : Expr) (x : Name) (bs : List MergeBranch) (us : List Ty) → out-Form e.form ≡ Form-F.Merge x bs → (judge_of w under e).types ≡ Some us → read_faults w e.place.0 x ≡ []
merge_reads w under e x bs us o h =
    let p = e.place.0 in
    let on = type_of_variable w x in
    let k = at_form w under p us (by_view e.form (Form-F.Merge x bs) o ∙ form.rolls-Merge x bs) h in
    let lacks = lack_faults w p (map (λ b. b.tag) bs) on in
    let g = judged-some p (read_faults w p x ++ lacks) (branch_row w on [] bs) (merge_fit w on) us (types_along (judge-Merge w under p x bs) k) in
    (empty_parts (read_faults w p x) lacks g.owns).0
