-- What constructs give of operands of their types is a value of the type that they give.
use Rattle.std.proofs.Common.{◌≡◌, ℕ, zero, suc, ◌<◌, ◌≤◌, ◌+◌, ◌-◌, ◌*◌, ◌%◌, ◌/◌, ◌^◌, Bool, true, false, ◌&&◌, List, [], ◌∷◌, length, map, refl, sym, ap, subst, ◌∙◌, arith}
use Rattle.std.specs.Prelude.{⊤, if◌then◌else◌, ◌==◌, ℤ, pos, negsuc, int_div, int_rem, unsigned_abs}
use Rattle.std.specs.List.{list_all}
use Rattle.std.proofs.lemmas.Slice.Eq.{bytes_eq-Decides}
use Rattle.std.proofs.lemmas.Bool.{ltb-true, ltb-false}
use Rattle.std.proofs.Math.Nat.{mod-lt, mod-le, div-le_self}
use lib.Signed.{mag}
use lib.Dec.{ltb}
use lib.IntN.{neg_ℤ}
use mir.Val.{sel}
use Rattle.hept_ast.specs.Texts.{Name, same}
use Rattle.hept_ast.specs.Values.{number_of, bits_of, truth, unary_value, binary_value}
use Rattle.hept_ast.specs.Types.{Plain_type, same_plain, same_type, same_types, int, bool, is_plain, future_of, Fit, Fits, Misfit, Untyped, fits_if, all_are, alike, unary_fit, plain_pair, binary_fit, if_fit, async_fit, get_fit}
use Rattle.hept_ast.specs.declared.tree.TypeDec.{TypeDec}
use Rattle.hept_ast.specs.declared.tree.Ty.{Ty}
use Rattle.hept_ast.specs.declared.tree.Ty.TheVariants as ty
use Rattle.hept_ast.specs.declared.tree.Plain.TheVariants.{Int, Bool as Truth_value, Named}
use Rattle.hept_ast.specs.declared.tree.UnaryOp.{UnaryOp}
use Rattle.hept_ast.specs.declared.tree.UnaryOp.TheVariants.{Minus, Not}
use Rattle.hept_ast.specs.declared.tree.BinaryOp.{BinaryOp}
use Rattle.hept_ast.specs.declared.tree.BinaryOp.TheVariants.{Add, Sub, Mul, Div, Rem, Or, And, Eq, Ne, Lt, Le, Gt, Ge}
use Rattle.hept_ast.specs.TypedValues.{value_count, IsValueOf}

-- ---- equal types

pub same_is : (x y : Name) → same x y ≡ true → x ≡ y
same_is x y e = (bytes_eq-Decides x y).0 e

pub plain_is : (s t : Plain_type) → same_plain s t ≡ true → s ≡ t
plain_is Int Int e = refl
plain_is Truth_value Truth_value e = refl
plain_is (Named x) (Named y) e = ap Named (same_is x y e)
plain_is _ _ e = cc

pub type_is : (s t : Ty) → same_type s t ≡ true → s ≡ t
type_is (ty.Plain s) (ty.Plain t) e = ap ty.Plain (plain_is s t e)
type_is (ty.Future s) (ty.Future t) e = ap ty.Future (plain_is s t e)
type_is _ _ e = cc

pub both_true : (a b : Bool) → (a && b) ≡ true → (a ≡ true) × (b ≡ true)
both_true true b e = (refl, e)
both_true false b e = cc

pub types_is : (ss ts : List Ty) → same_types ss ts ≡ true → ss ≡ ts
types_is [] [] e = refl
types_is [] (t ∷ ts) e = cc
types_is (s ∷ ss) [] e = cc
types_is (s ∷ ss) (t ∷ ts) e =
    let p = both_true (same_type s t) (same_types ss ts) e in
    let h : s ≡ t = type_is s t p.0 in
    let k : ss ≡ ts = types_is ss ts p.1 in
    cc

pub all_true : {A : Type 0} (p : A → Bool) (x : A) (xs : List A) → list_all p (x ∷ xs) ≡ true → (p x ≡ true) × (list_all p xs ≡ true)
all_true p x xs e = both_true (p x) (list_all p xs) e

-- ---- what fits

abbrev fit_types : Fit → List Ty
fit_types (Fits ts) = ts
fit_types Misfit = []
fit_types Untyped = []

pub fits_is : (ts us : List Ty) → Fits ts ≡ Fits us → ts ≡ us
fits_is ts us e = ap fit_types e

pub fits_parts : (b : Bool) (ts us : List Ty) → fits_if b ts ≡ Fits us → (b ≡ true) × (ts ≡ us)
fits_parts true ts us e = (refl, fits_is ts us e)
fits_parts false ts us e = cc

pub alike_one : (us ts : List Ty) → alike (us ∷ []) ≡ Fits ts → us ≡ ts
alike_one us ts e = (fits_parts _ us ts e).1

pub alike_two : (us vs ts : List Ty) → alike (us ∷ vs ∷ []) ≡ Fits ts → (us ≡ ts) × (vs ≡ ts)
alike_two us vs ts e =
    let p = fits_parts _ us ts e in
    let q = both_true (length us == 1) (all_are us (vs ∷ [])) p.0 in
    let r = all_true (same_types us) vs [] q.1 in
    let h : us ≡ vs = types_is us vs r.0 in
    (p.1, sym h ∙ p.1)

pub all_one : (us ts : List Ty) → all_are ts (us ∷ []) ≡ true → us ≡ ts
all_one us ts e = sym (types_is ts us (all_true (same_types ts) us [] e).0)

pub all_two : (us vs ts : List Ty) → all_are ts (us ∷ vs ∷ []) ≡ true → (us ≡ ts) × (vs ≡ ts)
all_two us vs ts e =
    let p = all_true (same_types ts) us (vs ∷ []) e in
    (sym (types_is ts us p.0), all_one vs ts p.1)

pub if_fits : (is us vs ts : List Ty) → if_fit (is ∷ us ∷ vs ∷ []) ≡ Fits ts → (is ≡ bool) × (us ≡ ts) × (vs ≡ ts)
if_fits is us vs ts e = go (same_types bool is) refl e
  where
    go : (b : Bool) → same_types bool is ≡ b → (if b then alike (us ∷ vs ∷ []) else Misfit) ≡ Fits ts → (is ≡ bool) × (us ≡ ts) × (vs ≡ ts)
    go true h k = let p = alike_two us vs ts k in (sym (types_is bool is h), p.0, p.1)
    go false h k = cc

pub get_fits : (us ts : List Ty) → get_fit (us ∷ []) ≡ Fits ts → (t : Plain_type) × (us ≡ ty.Future t ∷ []) × (ts ≡ ty.Plain t ∷ [])
get_fits [] ts e = cc
get_fits (ty.Plain s ∷ us) ts e = cc
get_fits (ty.Future s ∷ []) ts e = (s, refl, sym (fits_is _ ts e))
get_fits (ty.Future s ∷ u ∷ us) ts e = cc

pub async_fits : (f : Fit) (ts : List Ty) → async_fit f ≡ Fits ts → (us : List Ty) × (f ≡ Fits us) × (ts ≡ map future_of us)
async_fits Misfit ts e = cc
async_fits Untyped ts e = cc
async_fits (Fits us) ts e = go (list_all is_plain us) e
  where
    go : (b : Bool) → (if b then Fits (map future_of us) else Untyped) ≡ Fits ts → (vs : List Ty) × (Fits us ≡ Fits vs) × (ts ≡ map future_of vs)
    go true h = (us, refl, sym (fits_is _ ts h))
    go false h = cc

pub future_count : (types : List TypeDec) (t : Ty) → value_count types (future_of t) ≡ value_count types t
future_count types (ty.Plain t) = refl
future_count types (ty.Future t) = refl

-- ---- operators

pub truth_small : (b : Bool) → truth b < 2
truth_small true = omega arith
truth_small false = omega arith

mod_small : (n : ℕ) → n % 2 ^ 32 < 2 ^ 32
mod_small n = mod-lt n (omega arith)

sub_small : (n : ℕ) → 2 ^ 32 - suc n < 2 ^ 32
sub_small n = omega arith

negative_small : (n : ℕ) → bits_of (neg_ℤ (pos n)) < 2 ^ 32
negative_small zero = omega arith
negative_small (suc n) = sub_small n

pub bits_small : (z : ℤ) → mag z < 2 ^ 31 → bits_of z < 2 ^ 32
bits_small (pos n) h = omega (arith, h)
bits_small (negsuc n) h = sub_small n

number_small : (v : ℕ) → v < 2 ^ 32 → mag (number_of v) < 2 ^ 31
number_small v h = go (ltb v (2 ^ 31)) refl
  where
    go : (b : Bool) → ltb v (2 ^ 31) ≡ b → mag (sel b (pos v) (negsuc (2 ^ 32 - suc v))) < 2 ^ 31
    go true e = ltb-true v (2 ^ 31) e
    go false e = let k : 2 ^ 31 ≤ v = ltb-false v (2 ^ 31) e in omega (arith, h, k)

div_small : (x y : ℤ) → mag x < 2 ^ 31 → bits_of (int_div x y) < 2 ^ 32
div_small (pos a) (pos b) h = omega (arith, div-le_self a b, h)
div_small (pos a) (negsuc b) h = negative_small (a / suc b)
div_small (negsuc a) (pos b) h = negative_small (suc a / b)
div_small (negsuc a) (negsuc b) h = omega (arith, div-le_self (suc a) (suc b), h)

rem_small : (x y : ℤ) → mag x < 2 ^ 31 → bits_of (int_rem x y) < 2 ^ 32
rem_small (pos a) y h = omega (arith, mod-le a (unsigned_abs y), h)
rem_small (negsuc a) y h = negative_small (suc a % unsigned_abs y)

-- operators on types: operands and result
pub record UnaryTyped (types : List TypeDec) (op : UnaryOp) (us ts : List Ty) : Type 0 where
  pub operand : Ty
  pub result : Ty
  pub operands : us ≡ operand ∷ []
  pub results : ts ≡ result ∷ []
  pub value : (v : ℕ) → IsValueOf types operand v → IsValueOf types result (unary_value op v)

pub unary_typed : (types : List TypeDec) (op : UnaryOp) (us ts : List Ty) → unary_fit op (us ∷ []) ≡ Fits ts → UnaryTyped types op us ts
unary_typed types Minus us ts e =
    let p = fits_parts _ int ts e in
    record { operand = ty.Plain Int; result = ty.Plain Int; operands = all_one us int p.0; results = sym p.1; value = λ v h. mod_small (2 ^ 32 - v) }
unary_typed types Not us ts e =
    let p = fits_parts _ bool ts e in
    record { operand = ty.Plain Truth_value; result = ty.Plain Truth_value; operands = all_one us bool p.0; results = sym p.1; value = λ v h. omega arith }

pub record BinaryTyped (types : List TypeDec) (op : BinaryOp) (us vs ts : List Ty) : Type 0 where
  pub left : Ty
  pub right : Ty
  pub result : Ty
  pub lefts : us ≡ left ∷ []
  pub rights : vs ≡ right ∷ []
  pub results : ts ≡ result ∷ []
  pub value : (a b : ℕ) → IsValueOf types left a → IsValueOf types right b → IsValueOf types result (binary_value op a b)

numbers_typed : (types : List TypeDec) (op : BinaryOp) (us vs ts : List Ty) → ((a b : ℕ) → a < 2 ^ 32 → b < 2 ^ 32 → binary_value op a b < 2 ^ 32) →
    fits_if (all_are int (us ∷ vs ∷ [])) int ≡ Fits ts → BinaryTyped types op us vs ts
numbers_typed types op us vs ts h e =
    let p = fits_parts _ int ts e in
    let q = all_two us vs int p.0 in
    record { left = ty.Plain Int; right = ty.Plain Int; result = ty.Plain Int; lefts = q.0; rights = q.1; results = sym p.1; value = h }

tests_typed : (types : List TypeDec) (op : BinaryOp) (us vs ts : List Ty) → ((a b : ℕ) → binary_value op a b < 2) →
    fits_if (all_are int (us ∷ vs ∷ [])) bool ≡ Fits ts → BinaryTyped types op us vs ts
tests_typed types op us vs ts h e =
    let p = fits_parts _ bool ts e in
    let q = all_two us vs int p.0 in
    record { left = ty.Plain Int; right = ty.Plain Int; result = ty.Plain Truth_value; lefts = q.0; rights = q.1; results = sym p.1; value = λ a b i j. h a b }

truths_typed : (types : List TypeDec) (op : BinaryOp) (us vs ts : List Ty) → ((a b : ℕ) → binary_value op a b < 2) →
    fits_if (all_are bool (us ∷ vs ∷ [])) bool ≡ Fits ts → BinaryTyped types op us vs ts
truths_typed types op us vs ts h e =
    let p = fits_parts _ bool ts e in
    let q = all_two us vs bool p.0 in
    record { left = ty.Plain Truth_value; right = ty.Plain Truth_value; result = ty.Plain Truth_value; lefts = q.0; rights = q.1; results = sym p.1; value = λ a b i j. h a b }

pub one_of : (us : List Ty) → (length us == 1) ≡ true → (u : Ty) × (us ≡ u ∷ [])
one_of [] e = cc
one_of (u ∷ []) e = (u, refl)
one_of (u ∷ v ∷ us) e = absurd (many us e)
  where
    many : (ws : List Ty) → (length (u ∷ v ∷ ws) == 1) ≡ true → ⊥
    many ws h = grind arith

pairs_typed : (types : List TypeDec) (op : BinaryOp) (us vs ts : List Ty) → ((a b : ℕ) → binary_value op a b < 2) →
    plain_pair (us ∷ vs ∷ []) ≡ Fits ts → BinaryTyped types op us vs ts
pairs_typed types op us vs ts h e =
    let p = fits_parts _ bool ts e in
    let q = both_true ((length us == 1) && list_all is_plain us) (all_are us (vs ∷ [])) p.0 in
    let r = both_true (length us == 1) (list_all is_plain us) q.0 in
    let o = one_of us r.0 in
    let same : vs ≡ us = all_one vs us q.1 in
    record { left = o.0; right = o.0; result = ty.Plain Truth_value; lefts = o.1; rights = same ∙ o.1; results = sym p.1; value = λ a b i j. h a b }

pub binary_typed : (types : List TypeDec) (op : BinaryOp) (us vs ts : List Ty) → binary_fit op (us ∷ vs ∷ []) ≡ Fits ts → BinaryTyped types op us vs ts
binary_typed types Add us vs ts e = numbers_typed types Add us vs ts (λ a b h k. mod_small (a + b)) e
binary_typed types Sub us vs ts e = numbers_typed types Sub us vs ts (λ a b h k. mod_small (a + (2 ^ 32 - b))) e
binary_typed types Mul us vs ts e = numbers_typed types Mul us vs ts (λ a b h k. mod_small (a * b)) e
binary_typed types Div us vs ts e = numbers_typed types Div us vs ts (λ a b h k. div_small (number_of a) (number_of b) (number_small a h)) e
binary_typed types Rem us vs ts e = numbers_typed types Rem us vs ts (λ a b h k. rem_small (number_of a) (number_of b) (number_small a h)) e
binary_typed types Or us vs ts e = truths_typed types Or us vs ts (λ a b. truth_small _) e
binary_typed types And us vs ts e = truths_typed types And us vs ts (λ a b. truth_small _) e
binary_typed types Eq us vs ts e = pairs_typed types Eq us vs ts (λ a b. truth_small _) e
binary_typed types Ne us vs ts e = pairs_typed types Ne us vs ts (λ a b. truth_small _) e
binary_typed types Lt us vs ts e = tests_typed types Lt us vs ts (λ a b. truth_small _) e
binary_typed types Le us vs ts e = tests_typed types Le us vs ts (λ a b. truth_small _) e
binary_typed types Gt us vs ts e = tests_typed types Gt us vs ts (λ a b. truth_small _) e
binary_typed types Ge us vs ts e = tests_typed types Ge us vs ts (λ a b. truth_small _) e

-- all of the same types
abbrev pub EachIs : List Ty → List (List Ty) → Type 0
EachIs ts [] = ⊤
EachIs ts (us ∷ tss) = (us ≡ ts) × EachIs ts tss

each_of : (us : List Ty) (tss : List (List Ty)) → all_are us tss ≡ true → EachIs us tss
each_of us [] e = tt
each_of us (vs ∷ tss) e =
    let p = all_true (same_types us) vs tss e in
    (sym (types_is us vs p.0), each_of us tss p.1)

pub alike_each : (tss : List (List Ty)) (ts : List Ty) → alike tss ≡ Fits ts → EachIs ts tss
alike_each [] ts e = tt
alike_each (us ∷ tss) ts e =
    let p = fits_parts _ us ts e in
    let q = both_true (length us == 1) (all_are us tss) p.0 in
    (p.1, subst (λ (x : List Ty). EachIs x tss) p.1 (each_of us tss q.1))
