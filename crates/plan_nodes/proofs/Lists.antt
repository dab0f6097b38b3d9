-- What holds of each element of lists joined end to end, and what these lists contain.
use Rattle.std.proofs.Common.{◌≡◌, ℕ, suc, List, [], ◌∷◌, ◌++◌, All, refl, arith}
use Rattle.std.specs.Prelude.{Contains, Some, slice_get}
use Rattle.std.specs.List.{flat_map}
use Rattle.std.proofs.lemmas.List.Elements.{All-append, All-cons, All-contains_itself, All-head, All-nil, All-tail, All-weaker, Contains-append_left, Contains-append_right}

pub all_front : {A : Type 0} (P : A → Type 0) (xs ys : List A) → All P (xs ++ ys) → All P xs
all_front P [] ys h = All-nil P
all_front P (x ∷ xs) ys h = All-cons P x xs (All-head P x (xs ++ ys) h) (all_front P xs ys (All-tail P x (xs ++ ys) h))

pub last_of : {A : Type 0} (P : A → Type 0) (xs : List A) (y : A) → All P (xs ++ y ∷ []) → P y
last_of P [] y h = All-head P y [] h
last_of P (x ∷ xs) y h = last_of P xs y (All-tail P x (xs ++ y ∷ []) h)

pub all_joined : {A B : Type 0} (P : B → Type 0) (f : A → List B) (xs : List A) → ((k : ℕ) (x : A) → slice_get xs k ≡ Some x → All P (f x)) → All P (flat_map f xs)
all_joined P f [] h = All-nil P
all_joined P f (x ∷ xs) h = All-append P (f x) (flat_map f xs) (h 0 x refl) (all_joined P f xs (λ k y e. h (suc k) y e))

-- each list is contained
pub each_joined : {A B : Type 0} (f : A → List B) (xs : List A) → All (λ x. All (Contains (flat_map f xs)) (f x)) xs
each_joined f [] = All-nil (λ x. All (Contains []) (f x))
each_joined f (x ∷ xs) =
    All-cons (λ y. All (Contains (f x ++ flat_map f xs)) (f y)) x xs
    (All-weaker (Contains (f x)) (Contains (f x ++ flat_map f xs)) (λ b c. Contains-append_left (f x) (flat_map f xs) b c) (f x) (All-contains_itself (f x)))
    (All-weaker (λ y. All (Contains (flat_map f xs)) (f y)) (λ y. All (Contains (f x ++ flat_map f xs)) (f y))
    (λ y h. All-weaker (Contains (flat_map f xs)) (Contains (f x ++ flat_map f xs)) (λ b c. Contains-append_right (f x) (flat_map f xs) b c) (f y) h) xs (each_joined f xs))

pub first_contained : {A : Type 0} (x : A) (xs : List A) → Contains (x ∷ xs) x
first_contained x xs = (0, (omega arith), refl)
