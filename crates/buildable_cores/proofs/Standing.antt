-- Elements of lists by their places.
use Rattle.std.proofs.Common.{◌≡◌, ℕ, zero, suc, ◌<◌, List, [], ◌∷◌, ◌++◌, length, map, refl, sym, ap, subst, arith, Some}
use Rattle.std.specs.Prelude.{All, Contains, slice_get, slice_index_or}
use Rattle.std.specs.List.{flat_map}
use Rattle.std.proofs.lemmas.List.Elements.{All-nil, All-cons}

-- an element stands at a place of a list
pub record Stands {A : Type 0} (xs : List A) (x : A) : Type 0 where
  pub place : ℕ
  pub at : slice_get xs place ≡ Some x

pub stands_first : {A : Type 0} (x : A) (xs : List A) → Stands (x ∷ xs) x
stands_first x xs = record { place = 0; at = refl }

pub stands_next : {A : Type 0} (y : A) (xs : List A) (x : A) → Stands xs x → Stands (y ∷ xs) x
stands_next y xs x h = record { place = suc h.place; at = h.at }

-- what a list contains stands at a place of it
pub stands_in : {A : Type 0} (xs : List A) (x : A) → Contains xs x → Stands xs x
stands_in [] x i = let l = i.1 in absurd (omega arith)
stands_in (y ∷ ys) x i = go i.0 i.1 i.2 (stands_in ys x)
  where
    go : (j : ℕ) → j < length (y ∷ ys) → slice_index_or (y ∷ ys) j x ≡ x → (Contains ys x → Stands ys x) → Stands (y ∷ ys) x
    go zero l e later = record { place = 0; at = ap Some e }
    go (suc j) l e later = stands_next y ys x (later (j, omega arith, e))

pub stands_right : {A : Type 0} (xs ys : List A) (x : A) → Stands ys x → Stands (xs ++ ys) x
stands_right [] ys x h = h
stands_right (y ∷ xs) ys x h = stands_next y (xs ++ ys) x (stands_right xs ys x h)

in_front : {A : Type 0} (xs ys : List A) (k : ℕ) (x : A) → slice_get xs k ≡ Some x → slice_get (xs ++ ys) k ≡ Some x
in_front [] ys k x h = absurd (cc)
in_front (y ∷ xs) ys zero x h = h
in_front (y ∷ xs) ys (suc k) x h = in_front xs ys k x h

pub stands_left : {A : Type 0} (xs ys : List A) (x : A) → Stands xs x → Stands (xs ++ ys) x
stands_left xs ys x h = record { place = h.place; at = in_front xs ys h.place x h.at }

mapped_at : {A B : Type 0} (f : A → B) (xs : List A) (k : ℕ) (x : A) → slice_get xs k ≡ Some x → slice_get (map f xs) k ≡ Some (f x)
mapped_at f [] k x h = absurd (cc)
mapped_at f (y ∷ xs) zero x h = cc
mapped_at f (y ∷ xs) (suc k) x h = mapped_at f xs k x h

pub stands_mapped : {A B : Type 0} (f : A → B) (xs : List A) (x : A) → Stands xs x → Stands (map f xs) (f x)
stands_mapped f xs x h = record { place = h.place; at = mapped_at f xs h.place x h.at }

-- what all elements of a list satisfy, by their places
pub all_standing : {A : Type 0} (P : A → Type 0) (xs : List A) → ((x : A) → Stands xs x → P x) → All P xs
all_standing P [] h = All-nil P
all_standing P (x ∷ xs) h = All-cons P x xs (h x (stands_first x xs)) (all_standing P xs (λ y s. h y (stands_next x xs y s)))

flat_at : {A B : Type 0} (f : A → List B) (xs : List A) (k : ℕ) (x : A) (y : B) → slice_get xs k ≡ Some x → Stands (f x) y → Stands (flat_map f xs) y
flat_at f [] k x y h s = absurd (cc)
flat_at f (z ∷ xs) zero x y h s = stands_left (f z) (flat_map f xs) y (let e : z ≡ x = cc in subst (λ w. Stands (f w) y) (sym e) s)
flat_at f (z ∷ xs) (suc k) x y h s = stands_right (f z) (flat_map f xs) y (flat_at f xs k x y h s)

-- of the lists that the elements of a list give
pub stands_flat : {A B : Type 0} (f : A → List B) (xs : List A) (x : A) (y : B) → Stands xs x → Stands (f x) y → Stands (flat_map f xs) y
stands_flat f xs x y h s = flat_at f xs h.place x y h.at s
