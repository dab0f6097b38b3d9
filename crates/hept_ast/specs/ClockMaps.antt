-- Maps from nodes and variables to clocks.
use Rattle.std.specs.Prelude.{◌≡◌, ℕ, if◌then◌else◌, ◌==◌, ◌&&◌, List, [], Option, Some, None, slice_get, unwrap_or}
use Rattle.std.specs.List.{find}
use Rattle.std.specs.Option.{option_map}
use Rattle.hept_ast.specs.Texts.{Name, same}
use Rattle.hept_ast.specs.Scopes.{Clock}
use Rattle.hept_ast.specs.declared.clocks.NamedClock.{NamedClock}
use Rattle.hept_ast.specs.declared.tree.ClockPath.{ClockPath}

-- for each node, by its position, the clocks of its variables
abbrev pub ClockMap : Type 0
ClockMap = List (List NamedClock)

-- the first clock of a name
abbrev pub path_among : List NamedClock → Name → Option ClockPath
path_among cs x = option_map (λ c. c.path) (find (λ c. same x c.name) cs)

-- the clocks with that of one name set
abbrev pub IsPut : (old new : List NamedClock) → Name → ClockPath → Type 0
IsPut old new x p = (y : Name) → path_among new y ≡ (if same y x then Some p else path_among old y)

abbrev pub path_in : ClockMap → (node : ℕ) → Name → Option ClockPath
path_in m k x = path_among (unwrap_or (slice_get m k) []) x

abbrev pub steps_or_none : Option ClockPath → Clock
steps_or_none None = []
steps_or_none (Some p) = p.steps

-- the clock of a variable, and the base clock where none was set
abbrev pub clock_in : ClockMap → (node : ℕ) → Name → Clock
clock_in m k x = steps_or_none (path_in m k x)

-- the map with one clock set
abbrev pub IsSetIn : (old new : ClockMap) → (node : ℕ) → Name → ClockPath → Type 0
IsSetIn old new k x p = (j : ℕ) (y : Name) → path_in new j y ≡ (if j == k && same y x then Some p else path_in old j y)

abbrev pub IsSameMap : (old new : ClockMap) → Type 0
IsSameMap old new = (j : ℕ) (y : Name) → path_in new j y ≡ path_in old j y
