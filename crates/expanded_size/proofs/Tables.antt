-- Tables of sizes, as they are filled.
use Rattle.std.proofs.Common.{◌≡◌, ◌≢◌, ◌⊎◌, inl, inr, ℕ, zero, suc, ◌+◌, ◌<◌, List, [], ◌∷◌, length, set, refl, sym, ap, ◌∙◌, arith, Option, None, Some}
use Rattle.std.specs.Option.{option_and_then}
use Rattle.std.proofs.lemmas.List.{get_or-set_same, get_or-set_other}
use Rattle.std.proofs.lemmas.Option.{none-some}
use Rattle.expanded_size.specs.Sizes.{kept}
use Rattle.expanded_size.specs.Tables.{IsNext, known, size_by, with_callees}

same_or_not : (i j : ℕ) → (i ≡ j) ⊎ (i ≢ j)
same_or_not zero zero = inl refl
same_or_not zero (suc j) = inr (λ e. omega arith)
same_or_not (suc i) zero = inr (λ e. omega arith)
same_or_not (suc i) (suc j) = elim (same_or_not i j) [ inl e ↦ inl (ap suc e) | inr n ↦ inr (λ e. n (omega arith)) ]

-- how many sizes of a table are not known
abbrev pub open_places : List (Option ℕ) → ℕ
open_places [] = 0
open_places (None ∷ sizes) = open_places sizes + 1
open_places (Some n ∷ sizes) = open_places sizes

-- ---- a size that is written where none was known

module _ (sizes : List (Option ℕ)) (p : ℕ) (v : Option ℕ) (none : known sizes p ≡ None) where
  still_known : (i n : ℕ) → known sizes i ≡ Some n → known (set sizes p v) i ≡ Some n
  still_known i n is = get_or-set_other sizes p i v None (λ e. none-some n (sym none ∙ (sym (ap (known sizes) e) ∙ is))) ∙ is

  next_callee : (size i n : ℕ) (is : List ℕ) (o : Option ℕ) → known sizes i ≡ o → option_and_then (λ m. with_callees sizes (kept (size + m)) is) o ≡ Some n
      → ((m : ℕ) → with_callees sizes (kept (size + m)) is ≡ Some n → with_callees (set sizes p v) (kept (size + m)) is ≡ Some n)
      → option_and_then (λ m. with_callees (set sizes p v) (kept (size + m)) is) (known (set sizes p v) i) ≡ Some n
  next_callee size i n is None at e rest = absurd (none-some n e)
  next_callee size i n is (Some m) at e rest = ap (option_and_then (λ m. with_callees (set sizes p v) (kept (size + m)) is)) (still_known i m at) ∙ rest m e

  still_with : (size n : ℕ) (is : List ℕ) → with_callees sizes size is ≡ Some n → with_callees (set sizes p v) size is ≡ Some n
  still_with size n [] e = e
  still_with size n (i ∷ is) e = next_callee size i n is (known sizes i) refl e (λ m h. still_with (kept (size + m)) n is h)

-- each size that is known is that of its callees
abbrev pub IsRight : List ℕ → List (List ℕ) → List (Option ℕ) → Type 0
IsRight counts callees sizes = (i n : ℕ) → known sizes i ≡ Some n → size_by counts callees sizes i ≡ Some n

pub step : (counts : List ℕ) (callees : List (List ℕ)) (sizes : List (Option ℕ)) (p m : ℕ) → IsRight counts callees sizes → p < length sizes → IsNext counts callees sizes p m → IsRight counts callees (set sizes p (Some m))
step counts callees sizes p m right within next i n is = go (same_or_not i p)
  where
    go : (i ≡ p) ⊎ (i ≢ p) → size_by counts callees (set sizes p (Some m)) i ≡ Some n
    go (inl e) =
        let at : Some m ≡ Some n = sym (get_or-set_same sizes p (Some m) None within) ∙ (sym (ap (known (set sizes p (Some m))) e) ∙ is) in
        ap (size_by counts callees (set sizes p (Some m))) e ∙ (still_with sizes p (Some m) next.open_one _ m _ next.found ∙ at)
    go (inr e) = still_with sizes p (Some m) next.open_one _ n _ (right i n (sym (get_or-set_other sizes p i (Some m) None e) ∙ is))

fewer_by : (sizes : List (Option ℕ)) (m : ℕ) (o : Option ℕ) → o ≡ None → open_places (Some m ∷ sizes) < open_places (o ∷ sizes)
fewer_by sizes m None e = omega arith
fewer_by sizes m (Some n) e = absurd (none-some n (sym e))

later_by : (sizes others : List (Option ℕ)) (o : Option ℕ) → open_places others < open_places sizes → open_places (o ∷ others) < open_places (o ∷ sizes)
later_by sizes others None h = omega arith
later_by sizes others (Some n) h = h

pub fewer : (sizes : List (Option ℕ)) (p m : ℕ) → p < length sizes → known sizes p ≡ None → open_places (set sizes p (Some m)) < open_places sizes
fewer [] p m within none = absurd (omega arith)
fewer (o ∷ sizes) zero m within none = fewer_by sizes m o none
fewer (o ∷ sizes) (suc p) m within none = later_by sizes (set sizes p (Some m)) o (fewer sizes p m (omega arith) none)
