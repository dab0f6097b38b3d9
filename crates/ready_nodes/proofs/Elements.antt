-- What holds of all elements of a list: of those of lists that they give, and of that which is found at a place.
use Rattle.std.proofs.Common.{◌≡◌, ℕ, suc, List, [], ◌∷◌, Some, refl}
use Rattle.std.specs.Prelude.{All, slice_get}
use Rattle.std.specs.List.{flat_map}
use Rattle.std.proofs.lemmas.List.Elements.{All-append, All-cons, All-contains, All-head, All-nil, All-tail}
use Rattle.sound_expressions.proofs.Expressions.{all_left, all_right}
use Rattle.core_fitting.proofs.Fitting.{contains_at}

pub all_flat : {A B : Type 0} (P : B → Type 0) (f : A → List B) (xs : List A) → All (λ x. All P (f x)) xs → All P (flat_map f xs)
all_flat P f [] h = All-nil P
all_flat P f (x ∷ xs) h = All-append P (f x) (flat_map f xs) (All-head (λ x. All P (f x)) x xs h) (all_flat P f xs (All-tail (λ x. All P (f x)) x xs h))

pub found_in : {A : Type 0} (P : A → Type 0) (xs : List A) → All P xs → (k : ℕ) (x : A) → slice_get xs k ≡ Some x → P x
found_in P xs h k x e = All-contains P xs x h (contains_at xs k x e)

pub all_each : {A B : Type 0} (P : B → Type 0) (f : A → List B) (xs : List A) → All P (flat_map f xs) → All (λ x. All P (f x)) xs
all_each P f [] h = All-nil (λ x. All P (f x))
all_each P f (x ∷ xs) h = All-cons (λ x. All P (f x)) x xs (all_left P (f x) (flat_map f xs) h) (all_each P f xs (all_right P (f x) (flat_map f xs) h))

-- what holds at each place holds of all
pub at_each : {A : Type 0} (P : A → Type 0) (xs : List A) → ((k : ℕ) (x : A) → slice_get xs k ≡ Some x → P x) → All P xs
at_each P [] h = All-nil P
at_each P (x ∷ xs) h = All-cons P x xs (h 0 x refl) (at_each P xs (λ k y e. h (suc k) y e))
