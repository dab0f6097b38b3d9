-- Lists in another order, step by step: what follows from `IsPermutation` by an induction.
use Rattle.std.proofs.Common.{ℕ, zero, suc, ◌<◌, List, [], ◌∷◌, length, map, get_or, set, arith}
use Rattle.std.specs.List.{swap}
use Rattle.std.specs.List.Sorted.{IsPermutation}
use Rattle.std.proofs.lemmas.List.Sorted.{IsPermutation-keeps}
use Rattle.hept_ast.specs.Paths.{IsAmong, at_head, in_tail, AllDiffer}

pub data Exchanged {A : Type 0} : List A → List A → Type 0 where
  nothing : Exchanged [] []
  one_more : {x : A} {xs ys : List A} → Exchanged xs ys → Exchanged (x ∷ xs) (x ∷ ys)
  first_two : {x y : A} {xs : List A} → Exchanged (x ∷ y ∷ xs) (y ∷ x ∷ xs)
  in_turn : {xs ys zs : List A} → Exchanged xs ys → Exchanged ys zs → Exchanged xs zs

unmoved : {A : Type 0} (xs : List A) → Exchanged xs xs
unmoved [] = nothing
unmoved (x ∷ xs) = one_more (unmoved xs)

-- the first element and the one at j of the rest in each other's place
front_set : {A : Type 0} (x d : A) (xs : List A) (j : ℕ) → j < length xs → Exchanged (x ∷ xs) (get_or xs j d ∷ set xs j x)
front_set x d [] j h = absurd (omega arith)
front_set x d (z ∷ zs) zero h = first_two
front_set x d (z ∷ zs) (suc j) h = in_turn first_two (in_turn (one_more (front_set x d zs j (omega arith))) first_two)

both_set : {A : Type 0} (d : A) (xs : List A) (i j : ℕ) → i < length xs → j < length xs → Exchanged xs (set (set xs i (get_or xs j d)) j (get_or xs i d))
both_set d [] i j h k = absurd (omega arith)
both_set d (z ∷ zs) zero zero h k = unmoved (z ∷ zs)
both_set d (z ∷ zs) zero (suc j) h k = front_set z d zs j (omega arith)
both_set d (z ∷ zs) (suc i) zero h k = front_set z d zs i (omega arith)
both_set d (z ∷ zs) (suc i) (suc j) h k = one_more (both_set d zs i j (omega arith) (omega arith))

swapped : {A : Type 0} (xs : List A) (i j : ℕ) → i < length xs → j < length xs → Exchanged xs (swap xs i j)
swapped [] i j h k = nothing
swapped (d ∷ xs) i j h k = both_set d (d ∷ xs) i j h k

pub exchanged : {A : Type 0} (xs ys : List A) → IsPermutation xs ys → Exchanged xs ys
exchanged xs ys h = IsPermutation-keeps xs (λ l. Exchanged xs l) (unmoved xs) (λ l i j p q k. in_turn k (swapped l i j p q)) ys h

back : {A : Type 0} (xs ys : List A) → Exchanged xs ys → Exchanged ys xs
back _ _ nothing = nothing
back _ _ (one_more h) = one_more (back _ _ h)
back _ _ first_two = first_two
back _ _ (in_turn h k) = in_turn (back _ _ k) (back _ _ h)

-- ---- what stands in such lists

among_exchanged : {A B : Type 0} (f : A → B) (y : B) (xs ys : List A) → Exchanged xs ys → IsAmong y (map f xs) → IsAmong y (map f ys)
among_exchanged f y _ _ nothing i = i
among_exchanged f y _ _ (one_more h) at_head = at_head
among_exchanged f y _ _ (one_more h) (in_tail i) = in_tail (among_exchanged f y _ _ h i)
among_exchanged f y _ _ first_two at_head = in_tail at_head
among_exchanged f y _ _ first_two (in_tail at_head) = at_head
among_exchanged f y _ _ first_two (in_tail (in_tail i)) = in_tail (in_tail i)
among_exchanged f y _ _ (in_turn h k) i = among_exchanged f y _ _ k (among_exchanged f y _ _ h i)

apart : {A : Type 0} (x y : A) (xs : List A) → (IsAmong x (y ∷ xs) → ⊥) → IsAmong y (x ∷ xs) → (IsAmong y xs → ⊥) → ⊥
apart x y xs h at_head k = h at_head
apart x y xs h (in_tail i) k = k i

pub differ_exchanged : {A B : Type 0} (f : A → B) (xs ys : List A) → Exchanged xs ys → AllDiffer (map f xs) → AllDiffer (map f ys)
differ_exchanged f _ _ nothing d = d
differ_exchanged f _ _ (one_more {x = x} {xs = xs} {ys = ys} h) d = ((λ i. d.0 (among_exchanged f (f x) ys xs (back _ _ h) i)), differ_exchanged f xs ys h d.1)
differ_exchanged f _ _ (first_two {x = x} {y = y} {xs = xs}) d =
    ((λ i. apart (f x) (f y) (map f xs) d.0 i d.1.0), ((λ i. d.0 (in_tail i)), d.1.1))
differ_exchanged f _ _ (in_turn h k) d = differ_exchanged f _ _ k (differ_exchanged f _ _ h d)
