-- Lists whose elements stand in another list, in its order.
use Rattle.std.proofs.Common.{◌≡◌, ℕ, List, [], ◌∷◌, ◌++◌, sym, subst}
use Rattle.hept_ast.specs.Paths.{IsAmong, at_head, in_tail, AllDiffer}

pub data Sub : List ℕ → List ℕ → Type 0 where
  empty : {ys : List ℕ} → Sub [] ys
  taken : {x : ℕ} {xs ys : List ℕ} → Sub xs ys → Sub (x ∷ xs) (x ∷ ys)
  passed : {y : ℕ} {xs ys : List ℕ} → Sub xs ys → Sub xs (y ∷ ys)

pub all : (xs : List ℕ) → Sub xs xs
all [] = empty
all (x ∷ xs) = taken (all xs)

pub left : (xs ys : List ℕ) → Sub xs (xs ++ ys)
left [] ys = empty
left (x ∷ xs) ys = taken (left xs ys)

pub last : (xs : List ℕ) → Sub xs (xs ++ [])
last xs = left xs []

pub before : (ys : List ℕ) {us vs : List ℕ} → Sub us vs → Sub us (ys ++ vs)
before [] q = q
before (y ∷ ys) q = passed (before ys q)

pub both : {xs ys : List ℕ} (us vs : List ℕ) → Sub xs ys → Sub us vs → Sub (xs ++ us) (ys ++ vs)
both us vs (empty {ys = ys}) q = before ys q
both us vs (taken p) q = taken (both us vs p q)
both us vs (passed p) q = passed (both us vs p q)

pub two_then : (xs us vs : List ℕ) → Sub (xs ++ us) (xs ++ (us ++ vs))
two_then xs us vs = both us (us ++ vs) (all xs) (left us vs)

pub two : (xs us : List ℕ) → Sub (xs ++ us) (xs ++ (us ++ []))
two xs us = two_then xs us []

pub through : {xs ys zs : List ℕ} → Sub xs ys → Sub ys zs → Sub xs zs
through empty q = empty
through p (passed q) = passed (through p q)
through (taken p) (taken q) = taken (through p q)
through (passed p) (taken q) = passed (through p q)

pub same_left : {xs us ys : List ℕ} → xs ≡ us → Sub us ys → Sub xs ys
same_left {ys = ys} e q = subst (λ (l : List ℕ). Sub l ys) (sym e) q

-- ---- what differs in a list differs in what stands in it

pub among_sub : {x : ℕ} {xs ys : List ℕ} → IsAmong x xs → Sub xs ys → IsAmong x ys
among_sub i (empty {ys = ys}) = elim i [ ]
among_sub i (passed q) = in_tail (among_sub i q)
among_sub at_head (taken q) = at_head
among_sub (in_tail i) (taken q) = in_tail (among_sub i q)

pub differ_sub : {xs ys : List ℕ} → Sub xs ys → AllDiffer ys → AllDiffer xs
differ_sub empty d = tt
differ_sub (taken q) d = (λ i. d.0 (among_sub i q), differ_sub q d.1)
differ_sub (passed q) d = differ_sub q d.1
