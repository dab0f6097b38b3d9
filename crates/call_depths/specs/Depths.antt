-- How many nodes a chain of calls in a core can have.
use Rattle.std.specs.Prelude.{◌≡◌, ℕ, suc, true, length, Option, Some}
use Rattle.hept_ast.specs.Texts.{Name, is_in}
use Rattle.hept_ast.specs.Settings.{no_marks, no_replies, of_core}
use Rattle.hept_ast.specs.Scopes.{Text, Lowered}
use Rattle.hept_ast.specs.Faults.{calls_of}
use Rattle.hept_ast.specs.declared.tree.Core.{Core}
use Rattle.hept_ast.specs.declared.tree.CoreNode.{CoreNode}
use Rattle.core_rules.specs.Cores.{as_node}
use Rattle.core_rules.specs.WellFormed.{IsWellFormed}

-- a node of a core that is called by another, as the meaning finds it
abbrev pub nodes_in : Core → Name → Option Text
nodes_in core = (of_core core no_marks no_replies).node

-- chains of calls from a node have at most so many nodes
pub data EndsWithin (core : Core) : (depth : ℕ) → CoreNode → Type 0 where
  ends : {depth : ℕ} {node : CoreNode} → ((f : Name) (callee : CoreNode) → is_in f (calls_of (Some (as_node node))) ≡ true → nodes_in core f ≡ Some (Lowered callee) → EndsWithin core depth callee) → EndsWithin core (suc depth) node

-- in a well-formed core no chain has more nodes than the core
abbrev pub CallsAreBounded : Type 0
CallsAreBounded = (core : Core) → IsWellFormed core → (f : Name) (node : CoreNode) → nodes_in core f ≡ Some (Lowered node) → EndsWithin core (length core.nodes) node
