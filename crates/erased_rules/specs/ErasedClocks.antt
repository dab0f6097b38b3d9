-- Erasure keeps the clocks.
use Rattle.hept_ast.specs.Texts.{Name}
use Rattle.hept_ast.specs.Scopes.{Clock}
use Rattle.hept_ast.specs.Clocks.{AreClocks, AreLeastClocks, IsClocked}
use Rattle.hept_ast.specs.Erasure.{erased_node, erased}
use Rattle.hept_ast.specs.declared.tree.Node.{Node}
use Rattle.hept_ast.specs.declared.tree.Program.{Program}

-- the clocks of a node's variables are clocks of those of the erased node
abbrev pub ErasedKeepsClocks : Type 0
ErasedKeepsClocks = (n : Node) (c : Name → Clock) → AreClocks n c → AreClocks (erased_node n) c

-- and the other way round
abbrev pub ClocksOfErased : Type 0
ClocksOfErased = (n : Node) (c : Name → Clock) → AreClocks (erased_node n) c → AreClocks n c

-- the least clocks of a node are those of the erased node
abbrev pub ErasedKeepsLeastClocks : Type 0
ErasedKeepsLeastClocks = (n : Node) (c : Name → Clock) → AreLeastClocks n c → AreLeastClocks (erased_node n) c

abbrev pub LeastClocksOfErased : Type 0
LeastClocksOfErased = (n : Node) (c : Name → Clock) → AreLeastClocks (erased_node n) c → AreLeastClocks n c

-- a program has clocks exactly where its erasure has
abbrev pub ErasedKeepsClocked : Type 0
ErasedKeepsClocked = (p : Program) → IsClocked p → IsClocked (erased p)

abbrev pub ClockedOfErased : Type 0
ClockedOfErased = (p : Program) → IsClocked (erased p) → IsClocked p
