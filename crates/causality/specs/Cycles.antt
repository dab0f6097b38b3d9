-- Whether a node's variables read one another in a cycle.
use Rattle.std.specs.Prelude.{◌≡◌, ℕ, ◌<◌, ⊤, List, Option, Some, None, slice_get}
use Rattle.hept_ast.specs.Texts.{Name}
use Rattle.hept_ast.specs.Scopes.{Clock}
use Rattle.hept_ast.specs.Causal.{HasNoCycle, Reads, IsKeptCycle}
use Rattle.hept_ast.specs.declared.tree.Program.{Program}
use Rattle.hept_ast.specs.declared.tree.Node.{Node}
use Rattle.causality.specs.Vertices.{IsNodeCycle}
use Rattle.causality.specs.declared.causal.CausalFault.{CausalFault}
use Rattle.causality.specs.declared.causal.CausalFault.TheVariants.{Cycle, Memory}

-- a cycle of a node, or that there is none
abbrev pub IsCycleAnswer : Node → (Name → Clock) → Option (List Name) → Type 0
IsCycleAnswer node clock None = HasNoCycle (Reads node clock)
IsCycleAnswer node clock (Some vars) = IsNodeCycle node clock vars

-- none of the first n nodes has a cycle
abbrev pub HaveNoCycle : List Node → (ℕ → Name → Clock) → (n : ℕ) → Type 0
HaveNoCycle nodes clock n = (j : ℕ) (node : Node) → j < n → slice_get nodes j ≡ Some node → HasNoCycle (Reads node (clock j))

abbrev pub IsCausalFault : Program → (ℕ → Name → Clock) → CausalFault → Type 0
IsCausalFault program clock (Cycle node vars) = IsKeptCycle program clock node.0 vars
IsCausalFault program clock Memory = ⊤
