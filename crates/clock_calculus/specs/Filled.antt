-- The clocks of a node, set in a map.
use Rattle.std.specs.Prelude.{◌≡◌, ℕ, if◌then◌else◌, ◌==◌, ◌&&◌, List, Some}
use Rattle.hept_ast.specs.ClockMaps.{ClockMap, path_in}
use Rattle.hept_ast.specs.Scopes.{Clock}
use Rattle.hept_ast.specs.Texts.{Name, is_in}

-- the clocks of these variables of a node are set, and nothing else has changed
abbrev pub IsFilled : (old new : ClockMap) → (node : ℕ) → List Name → (Name → Clock) → Type 0
IsFilled old new k xs c = (j : ℕ) (y : Name) → path_in new j y ≡ (if j == k && is_in y xs then Some (record { steps = c y }) else path_in old j y)
