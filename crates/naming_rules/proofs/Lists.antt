-- What holds of each element of a list.
use Rattle.std.proofs.Common.{ℕ, suc, ◌<◌, List, [], ◌∷◌, ◌++◌, length, All, Contains, arith, refl}
use Rattle.std.proofs.lemmas.List.Elements.{All-contains, All-nil, All-cons}
use Rattle.naming_rules.proofs.Shapes.{Each}

pub each_of : {A : Type 0} (P : A → Type 0) (xs : List A) → ((x : A) → Contains xs x → P x) → Each P xs
each_of P [] h = tt
each_of {A} P (x ∷ xs) h = (h x (0, omega arith, refl), each_of P xs (λ y c. h y (later y c)))
  where
    later : (y : A) → Contains xs y → Contains (x ∷ xs) y
    later y c = (suc c.0, longer c.0 c.1, c.2)
      where
        longer : (k : ℕ) → k < length xs → suc k < length (x ∷ xs)
        longer k h = omega arith

pub each_from : {A : Type 0} (P : A → Type 0) (xs : List A) → All P xs → Each P xs
each_from P xs h = each_of P xs (λ x c. All-contains P xs x h c)

pub each_to : {A : Type 0} (P : A → Type 0) (xs : List A) → Each P xs → All P xs
each_to P [] h = All-nil P
each_to P (x ∷ xs) h = All-cons P x xs h.0 (each_to P xs h.1)

pub each_left : {A : Type 0} (P : A → Type 0) (xs ys : List A) → Each P (xs ++ ys) → Each P xs
each_left P [] ys h = tt
each_left P (x ∷ xs) ys h = (h.0, each_left P xs ys h.1)

pub each_right : {A : Type 0} (P : A → Type 0) (xs ys : List A) → Each P (xs ++ ys) → Each P ys
each_right P [] ys h = h
each_right P (x ∷ xs) ys h = each_right P xs ys h.1

pub each_both : {A : Type 0} (P : A → Type 0) (xs ys : List A) → Each P xs → Each P ys → Each P (xs ++ ys)
each_both P [] ys h k = k
each_both P (x ∷ xs) ys h k = (h.0, each_both P xs ys h.1 k)
