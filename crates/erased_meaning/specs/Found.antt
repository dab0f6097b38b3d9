-- What a search finds.
use Rattle.std.specs.Prelude.{◌≡◌, ℕ, true, false, List, Option, Some, None}
use Rattle.hept_ast.specs.Texts.{Name, is_in, place_in}

-- the position of a name among names, where it is among them
abbrev pub IsPlaceIn : Name → List Name → Option ℕ → Type 0
IsPlaceIn x xs None = is_in x xs ≡ false
IsPlaceIn x xs (Some i) = (is_in x xs ≡ true) × (place_in x xs ≡ i)
