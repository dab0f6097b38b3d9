-- The positions of names, and the values of constructors and divisors.
use Rattle.std.proofs.Common.{◌≡◌, ℕ, suc, ◌+◌, ◌<◌, ◌≤◌, Bool, true, false, ◌||◌, cond, List, [], ◌∷◌, length, drop, get_or, Some, refl, sym, subst, ap, ◌∙◌, add-one, arith, length-drop}
use Rattle.std.specs.Prelude.{slice_get}
use Rattle.std.proofs.Math.Seq.{drop-cons}
use Rattle.std.proofs.lemmas.Slice.Eq.{bytes_eq-Decides}
use Rattle.std.proofs.lemmas.Option.{slice_get_within}
use Rattle.hept_ast.specs.Texts.{Name, const_value, constructor_value, is_in, place_in, same}
use Rattle.hept_ast.specs.declared.tree.TypeDec.{TypeDec}
use Rattle.hept_ast.specs.declared.tree.Const.{Const}
use Rattle.hept_ast.specs.declared.tree.Expr.{Expr}
use Rattle.hept_ast.specs.declared.tree.Form.TheVariants as form
use Rattle.plan_expressions.specs.Computable.{HasDivisor, divisor, IsDivisorOf}

later_at : (y : Name) (xs : List Name) (k : ℕ) (x : Name) → slice_get xs k ≡ Some x → slice_get (y ∷ xs) (k + 1) ≡ Some x
later_at y xs k x h = rw add-one h

later_in : (a b : Bool) → a ≡ false → (a || b) ≡ true → b ≡ true
later_in true b e h = absurd (cc)
later_in false b e h = h

pub named_at : (x : Name) (xs : List Name) → is_in x xs ≡ true → slice_get xs (place_in x xs) ≡ Some x
named_at x [] h = absurd (cc)
named_at x (y ∷ xs) h =
    let step : (b : Bool) → same x y ≡ b → slice_get (y ∷ xs) (cond b 0 (place_in x xs + 1)) ≡ Some x =
    λ b. elim b as (λ c. same x y ≡ c → slice_get (y ∷ xs) (cond c 0 (place_in x xs + 1)) ≡ Some x) [
      | true ↦ λ e. ap Some (sym ((bytes_eq-Decides x y).0 e))
      | false ↦ λ e. later_at y xs (place_in x xs) x (named_at x xs (later_in (same x y) (is_in x xs) e h))
    ] in
    step (same x y) refl

pub within_names : (x : Name) (xs : List Name) → is_in x xs ≡ true → place_in x xs < length xs
within_names x xs h = slice_get_within xs (place_in x xs) x (named_at x xs h)

-- ---- constructors

first_place : (x : Name) (xs : List Name) → place_in x xs < length xs → is_in x xs ≡ true
first_place x [] h = absurd (omega arith)
first_place x (y ∷ xs) h = by_name (same x y) (λ g. first_place x xs g) h
  where
    by_name : (b : Bool) → (place_in x xs < length xs → is_in x xs ≡ true) → cond b 0 (place_in x xs + 1) < suc (length xs) → (b || is_in x xs) ≡ true
    by_name true later g = refl
    by_name false later g = later (omega arith)

no_place : (x : Name) (xs : List Name) (b : Bool) → is_in x xs ≡ b → length xs ≤ place_in x xs → b ≡ false
no_place x xs true h g = let lt : place_in x xs < length xs = within_names x xs h in absurd (omega arith)
no_place x xs false h g = refl

at_type : (types : List TypeDec) (i : ℕ) (d : TypeDec) (x : Name) → i < length types → d ≡ get_or types i d →
    constructor_value (drop i types) x ≡ cond (is_in x d.constructors) (place_in x d.constructors) (constructor_value (drop (i + 1) types) x)
at_type types i d x lt e =
    let s : suc i ≡ i + 1 = omega arith in
    ap (λ (ts : List TypeDec). constructor_value ts x) (drop-cons types i d lt)
    ∙ ap (λ (c : TypeDec). cond (is_in x c.constructors) (place_in x c.constructors) (constructor_value (drop (suc i) types) x)) (sym e)
    ∙ ap (λ (k : ℕ). cond (is_in x d.constructors) (place_in x d.constructors) (constructor_value (drop k types) x)) s

pub constructor_here : (types : List TypeDec) (i place : ℕ) (d : TypeDec) (cs : List Name) (x : Name) → i < length types → d ≡ get_or types i d → cs ≡ d.constructors → place ≡ place_in x cs → place < length cs →
    constructor_value (drop i types) x ≡ constructor_value types x → place ≡ constructor_value types x
constructor_here types i place d cs x lt e c p below h =
    let known : is_in x d.constructors ≡ true = subst (λ (ns : List Name). is_in x ns ≡ true) c (first_place x cs (subst (λ (n : ℕ). n < length cs) p below)) in
    p ∙ ap (place_in x) c
    ∙ sym (at_type types i d x lt e ∙ ap (λ (b : Bool). cond b (place_in x d.constructors) (constructor_value (drop (i + 1) types) x)) known) ∙ h

pub constructor_later : (types : List TypeDec) (i place : ℕ) (d : TypeDec) (cs : List Name) (x : Name) → i < length types → d ≡ get_or types i d → cs ≡ d.constructors → place ≡ place_in x cs → length cs ≤ place →
    constructor_value (drop i types) x ≡ constructor_value types x → constructor_value (drop (i + 1) types) x ≡ constructor_value types x
constructor_later types i place d cs x lt e c p above h =
    let unknown : is_in x d.constructors ≡ false =
    subst (λ (ns : List Name). is_in x ns ≡ false) c (no_place x cs (is_in x cs) refl (subst (λ (n : ℕ). length cs ≤ n) p above)) in
    sym (at_type types i d x lt e ∙ ap (λ (b : Bool). cond b (place_in x d.constructors) (constructor_value (drop (i + 1) types) x)) unknown) ∙ h

empty : (types : List TypeDec) → length types ≡ 0 → types ≡ []
empty [] h = refl
empty (t ∷ types) h = absurd (omega arith)

none_after : (types : List TypeDec) (i : ℕ) → length types ≤ i → drop i types ≡ []
none_after types i h = empty (drop i types) (omega (arith, length-drop i types))

pub constructor_none : (types : List TypeDec) (i : ℕ) (x : Name) → length types ≤ i → constructor_value (drop i types) x ≡ constructor_value types x → 0 ≡ constructor_value types x
constructor_none types i x le h = ap (λ (ts : List TypeDec). constructor_value ts x) (sym (none_after types i le)) ∙ h

-- ---- divisors

pub divisor_of : (types : List TypeDec) (e : Expr) (k : Const) (v : ℕ) → e.form ≡ form.Const k → v ≡ const_value types k → HasDivisor types e → IsDivisorOf types e v
divisor_of types e k v is value (divisor l here nonzero) =
    let same_form : form.Const k ≡ form.Const l = sym is ∙ here in
    let same_constant : k ≡ l = cc in
    record { constant = k; is = is; value_of = value; nonzero = λ z. nonzero (ap (const_value types) (sym same_constant) ∙ sym value ∙ z) }

pub divisor_form : (types : List TypeDec) (e : Expr) → HasDivisor types e → ((k : Const) → e.form ≡ form.Const k → ⊥) → ⊥
divisor_form types e (divisor k is nonzero) never = never k is
