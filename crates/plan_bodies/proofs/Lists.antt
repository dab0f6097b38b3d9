-- Lists with one element more at the end.
use Rattle.std.proofs.Common.{◌≡◌, ◌⊎◌, inl, inr, ℕ, zero, suc, List, [], ◌∷◌, ◌++◌, length, Some, refl, ap}
use Rattle.std.specs.Prelude.{slice_get}

-- an element is one of those before, or the last
pub last_or_before : {A : Type 0} (xs : List A) (y : A) (k : ℕ) (z : A) → slice_get (xs ++ y ∷ []) k ≡ Some z → (slice_get xs k ≡ Some z) ⊎ ((k ≡ length xs) × (z ≡ y))
last_or_before [] y zero z h = inr (refl, (cc))
last_or_before [] y (suc k) z h = absurd (cc)
last_or_before (x ∷ xs) y zero z h = inl h
last_or_before (x ∷ xs) y (suc k) z h = elim (last_or_before xs y k z h) [ inl a ↦ inl a | inr b ↦ inr (ap suc b.0, b.1) ]
