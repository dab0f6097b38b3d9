-- What a search among branches finds.
use Rattle.std.proofs.Common.{◌≡◌, ℕ, ◌+◌, ◌<◌, Bool, true, List, ◌∷◌, Some, length, drop, get_or, slice_get, if◌then◌else◌, refl, sym, ap, ◌∙◌}
use Rattle.std.specs.List.{find}
use Rattle.std.proofs.lemmas.Option.{slice_get_read}
use Rattle.std.proofs.lemmas.List.{drop_more}

first_found : {X : Type 0} (p : X → Bool) (b : X) (rest : List X) → p b ≡ true → find p (b ∷ rest) ≡ Some b
first_found p b rest h = ap (λ (x : Bool). if x then Some b else find p rest) h

-- the element at a position where a search has come, if the test holds of it
pub found_there : {X : Type 0} (p : X → Bool) (xs : List X) (i : ℕ) (b : X) → i < length xs → b ≡ get_or xs i b → p b ≡ true → find p xs ≡ find p (drop i xs) →
    (slice_get xs i ≡ Some b) × (find p xs ≡ Some b)
found_there {X} p xs i b within is has searched = (
  slice_get_read xs (length xs) i b refl within is,
  searched ∙ ap (λ (ys : List X). find p ys) (drop_more xs i b within) ∙ ap (λ (x : X). find p (x ∷ drop (i + 1) xs)) (sym is) ∙ first_found p b (drop (i + 1) xs) has,
)
