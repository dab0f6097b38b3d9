-- The least clocks of a node are the same wherever they are found.
use Rattle.std.specs.Prelude.{◌≡◌, true}
use Rattle.hept_ast.specs.Clocks.{AreLeastClocks}
use Rattle.hept_ast.specs.Parts.{variables}
use Rattle.hept_ast.specs.Scopes.{Clock}
use Rattle.hept_ast.specs.Stages.{HasLeastClocks}
use Rattle.hept_ast.specs.ClockMaps.{ClockMap, clock_in}
use Rattle.hept_ast.specs.Texts.{Name, is_in, names}
use Rattle.hept_ast.specs.declared.tree.Node.{Node}
use Rattle.hept_ast.specs.declared.tree.Program.{Program}

-- two least assignments of a node give each of its variables the same clock
abbrev pub LeastClocksAgree : Type 0
LeastClocksAgree =
    (node : Node) (c d : Name → Clock) → AreLeastClocks node c → AreLeastClocks node d → (x : Name) → is_in x (names (variables node)) ≡ true → c x ≡ d x

-- two maps of the least clocks of a program give the same clocks everywhere
abbrev pub LeastMapsAgree : Type 0
LeastMapsAgree = (program : Program) (m n : ClockMap) → HasLeastClocks program m → HasLeastClocks program n → clock_in m ≡ clock_in n
