-- What is built for a node's expanded text.
use Rattle.std.specs.Prelude.{◌≡◌, ℕ, ◌<◌, All, length}
use Rattle.hept_ast.specs.Texts.{names}
use Rattle.hept_ast.specs.declared.tree.Core.{Core}
use Rattle.hept_ast.specs.declared.tree.CoreNode.{CoreNode}
use Rattle.step_plans.specs.Plans.{IsCalled, Progress, start_of, top_of}
use Rattle.step_engine.specs.Running.{IsStoreWithin}
use Rattle.plan_expressions.specs.Building.{AreActionsWithin, HaveRegisters, Leads}
use Rattle.plan_equations.specs.Grounds.{ground_of}
use Rattle.plan_nodes.specs.Built.{HaveCells}
use Rattle.plan_nodes.specs.declared.nodes.BuiltText.{BuiltText}

-- from the start of an instant on: all cells, a presence for each call, and the values of the outputs
pub record BuildsText (core : Core) (node : CoreNode) (text : BuiltText) : Type 0 where
  pub last : Progress
  pub leads : Leads (ground_of core node) (start_of node 0) text.draft last
  pub have : HaveCells (ground_of core node) last.entries (ground_of core node).memories text.cells
  pub called : All (IsCalled last.entries) (ground_of core node).calls
  pub as_many : length text.outputs.items ≡ length node.outputs
  pub outputs_are : HaveRegisters last.entries (top_of node) (names node.outputs) text.outputs.items text.draft.at

-- what is named is there
pub record IsTextWithin (inputs : ℕ) (text : BuiltText) : Type 0 where
  pub room : inputs < text.draft.at
  pub initial : length text.cells.initial.items ≡ length text.cells.stores.items
  pub actions : AreActionsWithin (length text.cells.stores.items) text.draft
  pub stores : All (IsStoreWithin text.draft.at) text.cells.stores.items
  pub outputs : All (λ q. q < text.draft.at) text.outputs.items
