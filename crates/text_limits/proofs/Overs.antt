-- The first item too many.
use Rattle.std.proofs.Common.{zero, suc, ◌<◌, ◌≤◌, length, take, drop, get_or, map, ◌≡◌, ℕ, List, [], ◌∷◌, refl, sym, ◌∙◌, ap, arith}
use Rattle.std.proofs.lemmas.List.{length-map}
use Rattle.hept_ast.specs.Faults.{Fault, Limit}
use Rattle.hept_ast.specs.Limits.{over}

abbrev too_many : {B : Type 0} → (B → ℕ) → (kept limit : ℕ) → List B → List Fault
too_many place kept limit xs = map (λ y. record { place = place y; kind = Limit kept limit }) (take 1 xs)

one : {A B : Type 0} (place : B → ℕ) (f : A → B) (kept limit k : ℕ) (xs : List A) (d : A) → k < length xs
    → too_many place kept limit (drop k (map f xs)) ≡ record { place = place (f (get_or xs k d)); kind = Limit kept limit } ∷ []
one place f kept limit k [] d h = absurd (omega arith)
one place f kept limit zero (y ∷ xs) d h = refl
one place f kept limit (suc k) (y ∷ xs) d h = one place f kept limit k xs d (omega arith)

none : {A B : Type 0} (place : B → ℕ) (f : A → B) (kept limit k : ℕ) (xs : List A) → length xs ≤ k → too_many place kept limit (drop k (map f xs)) ≡ []
none place f kept limit zero [] h = refl
none place f kept limit (suc k) [] h = refl
none place f kept limit zero (y ∷ xs) h = absurd (omega arith)
none place f kept limit (suc k) (y ∷ xs) h = none place f kept limit k xs (omega arith)

pub over_one : {A B : Type 0} (place : B → ℕ) (f : A → B) (limit : ℕ) (xs : List A) (x : A) → limit < length xs → x ≡ get_or xs limit x → over limit place (map f xs) ≡ record { place = place (f x); kind = Limit (length xs) limit } ∷ []
over_one place f limit xs x h e =
    ap (λ n. too_many place n limit (drop limit (map f xs))) (length-map xs f)
    ∙ (one place f (length xs) limit limit xs x h ∙ ap (λ y. record { place = place (f y); kind = Limit (length xs) limit } ∷ []) (sym e))

pub over_none : {A B : Type 0} (place : B → ℕ) (f : A → B) (limit : ℕ) (xs : List A) → length xs ≤ limit → over limit place (map f xs) ≡ []
over_none place f limit xs h = none place f (length (map f xs)) limit limit xs h

-- the place of the first too many does not depend on how the list is mapped
mapped : {A B : Type 0} (place : B → ℕ) (f : A → B) (kept limit k : ℕ) (ys : List A) → too_many place kept limit (drop k (map f ys)) ≡ too_many (λ x. place (f x)) kept limit (drop k ys)
mapped place f kept limit zero [] = refl
mapped place f kept limit (suc k) [] = refl
mapped place f kept limit zero (y ∷ ys) = refl
mapped place f kept limit (suc k) (y ∷ ys) = mapped place f kept limit k ys

pub over_mapped : {A B : Type 0} (place : B → ℕ) (f : A → B) (limit : ℕ) (xs : List A) → over limit place (map f xs) ≡ over limit (λ x. place (f x)) xs
over_mapped place f limit xs = ap (λ n. too_many place n limit (drop limit (map f xs))) (length-map xs f) ∙ mapped place f (length xs) limit limit xs

pub over_here : {A : Type 0} (place : A → ℕ) (limit : ℕ) (xs : List A) (x : A) → limit < length xs → x ≡ get_or xs limit x → over limit place xs ≡ record { place = place x; kind = Limit (length xs) limit } ∷ []
over_here place limit xs x h e = sym (over_mapped place (λ y. y) limit xs) ∙ over_one place (λ y. y) limit xs x h e

pub over_past : {A : Type 0} (place : A → ℕ) (limit : ℕ) (xs : List A) → length xs ≤ limit → over limit place xs ≡ []
over_past place limit xs h = sym (over_mapped place (λ y. y) limit xs) ∙ over_none place (λ y. y) limit xs h
