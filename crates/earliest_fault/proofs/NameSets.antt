-- A set of names after an insertion.
use Rattle.std.proofs.Common.{◌≡◌, ℕ, suc, ◌+◌, ◌<◌, length, get_or, take, arith, Bool, true, false, ◌||◌, List, [], ◌∷◌, ◌++◌, refl, sym, ◌∙◌, ap, map, if◌then◌else◌}
use Rattle.std.specs.List.{list_any}
use Rattle.std.proofs.lemmas.List.{map-append}
use Rattle.std.proofs.lemmas.List.Folds.{list_any-append}
use Rattle.std.proofs.lemmas.Slice.Eq.{bytes_eq-Decides}
use Rattle.hept_ast.specs.Texts.{Name, is_in, same}
use Rattle.earliest_fault.proofs.Noting.{any_mapped, any_take}

or_no : (a : Bool) → a || false ≡ a
or_no true = refl
or_no false = refl

or_yes : (a : Bool) → a || true ≡ true
or_yes true = refl
or_yes false = refl

-- a name of the list, once more
again : (ys : List Name) (v x : Name) (b : Bool) → is_in v ys ≡ true → same x v ≡ b → is_in x ys ≡ is_in x ys || b
again ys v x true h e = (ap (λ t. is_in t ys) ((bytes_eq-Decides x v).0 e) ∙ h) ∙ sym (or_yes (is_in x ys))
again ys v x false h e = sym (or_no (is_in x ys))

tested : {K : Type 0} (view : K → Name) (ks : List K) (k : K) (x : Name) (b : Bool) → is_in (view k) (map view ks) ≡ b
    → is_in x (map view (if b then ks else ks ++ k ∷ [])) ≡ is_in x (map view ks) || same x (view k)
tested view ks k x true e = again (map view ks) (view k) x (same x (view k)) e refl
tested view ks k x false e =
    ap (is_in x) (map-append view ks (k ∷ []))
    ∙ (list_any-append (same x) (map view ks) (view k ∷ []) ∙ ap (λ t. is_in x (map view ks) || t) (or_no (same x (view k))))

pub inserted : {K : Type 0} (view : K → Name) (ks news : List K) (k : K) (x : Name) → news ≡ (if list_any (λ q. same (view k) (view q)) ks then ks else ks ++ k ∷ [])
    → is_in x (map view news) ≡ is_in x (map view ks) || same x (view k)
inserted view ks news k x e =
    ap (λ t. is_in x (map view t)) e ∙ tested view ks k x (list_any (λ q. same (view k) (view q)) ks) (any_mapped (same (view k)) view ks)

or_assoc : (a b c : Bool) → (a || b) || c ≡ a || (b || c)
or_assoc true b c = refl
or_assoc false b c = refl

-- one more name of a list
pub more_met : {K : Type 0} (view : K → Name) (ks : List K) (i : ℕ) (d k : K) (x : Name) (first met now : Bool) → i < length ks → k ≡ get_or ks i d
    → met ≡ first || is_in x (map view (take i ks)) → now ≡ met || same x (view k) → now ≡ first || is_in x (map view (take (i + 1) ks))
more_met {K = K} view ks i d k x first met now below g h n =
    n ∙ (ap (λ b. b || same x (view k)) h
    ∙ (or_assoc first (is_in x (map view (take i ks))) (same x (view k))
    ∙ ap (λ b. first || b)
    (ap (λ b. b || same x (view k)) (any_mapped (same x) view (take i ks))
    ∙ (ap (λ (t : K). list_any (λ q. same x (view q)) (take i ks) || same x (view t)) g
    ∙ (sym (any_take (λ q. same x (view q)) ks i d below) ∙ (ap (λ j. list_any (λ q. same x (view q)) (take j ks)) (let s : suc i ≡ i + 1 = omega arith in s) ∙ sym (any_mapped (same x) view (take (i + 1) ks))))))))
