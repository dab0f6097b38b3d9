-- What a stepper of an accepted program stands for.
use Rattle.std.specs.Prelude.{◌≡◌, ℕ, Bool, false, List, [], ◌∷◌, ◌++◌, length, map, Some, slice_get, IsSomeAnd}
use Rattle.hept_ast.specs.Scopes.{Written}
use Rattle.hept_ast.specs.Meaning.{Setting}
use Rattle.hept_ast.specs.Outputs.{HaveValues, Outputs, output_questions}
use Rattle.hept_ast.specs.Settings.{of_program, no_marks, no_replies}
use Rattle.hept_ast.specs.ClockMaps.{clock_in}
use Rattle.hept_ast.specs.Stages.{ClockedProgram, IsAcceptedProgram}
use Rattle.hept_ast.specs.TypedValues.{RowsFit}
use Rattle.hept_ast.specs.declared.tree.Core.{Core}
use Rattle.hept_ast.specs.declared.tree.Node.{Node}
use Rattle.accepted_meaning.specs.Ranges.{IsInRange}
use Rattle.core_making.specs.Made.{MeansNode}
use Rattle.step_plans.specs.Memories as memories
use Rattle.step_plans.specs.Plans.{IsPlanOf}
use Rattle.step_plans.specs.declared.plan.NodePlan.{NodePlan}
use Rattle.plan_equations.specs.Grounds.{ground_of}
use Rattle.node_memory.specs.Standing.{IsSound, StandsAfter, no_calls}
use Rattle.node_memory.specs.Memories.{HoldsCellsOf, IsMemoryOf, state_of}
use Rattle.step_objects.specs.Shapes.{FitsShape}
use Rattle.step_objects.specs.Interfaces.{input_shape, main_text}
use Rattle.step_cells.specs.declared.cell.Cell.{Cell}
use Rattle.program_stepper.specs.declared.stepper.Stepper.{Stepper}

-- ---- the meaning

-- an accepted program with its clocks
abbrev pub setting : ClockedProgram → Setting
setting c = of_program c.program (clock_in c.clocks) no_marks no_replies

-- the node that is run gives these rows of output values on rows of input values
abbrev pub GivesRows : ClockedProgram → (rows outs : List (List ℕ)) → Type 0
GivesRows c rows outs = IsSomeAnd (main_text c.program) (λ text. Outputs (setting c) text rows outs)

-- the values of its outputs at the last of the rows
abbrev pub GivesLast : ClockedProgram → (rows : List (List ℕ)) (row out : List ℕ) → Type 0
GivesLast c rows row out = IsSomeAnd (main_text c.program) (λ text. HaveValues (setting c) (rows ++ row ∷ []) (output_questions text (length rows)) out)

-- ---- the stepper

-- how many values a row of inputs has
abbrev pub input_count : Stepper → ℕ
input_count s = s.plan.inputs

-- how many values a row of outputs has
abbrev pub output_count : Stepper → ℕ
output_count s = length s.plan.outputs.items

-- what a call of the plan with the memory needs
pub record IsReady (s : Stepper) : Type 0 where
  pub sound : IsSound s.plan
  pub no_async : s.plan.offerings.items ≡ []
  pub memory : IsMemoryOf s.plan s.memory
  pub alone : HoldsCellsOf no_calls s.memory

-- a call for each row, none of them marked
abbrev pub unmarked : List (List ℕ) → List (Bool × List ℕ)
unmarked rows = map (λ row. (false, row)) rows

-- the plan of the node of a core that means what this node of the program does, and what its calls need on rows that fit
pub record IsPlanFor (c : ClockedProgram) (number : ℕ) (node : Node) (plan : NodePlan) : Type 0 where
  pub core : Core
  pub means : MeansNode c core number node
  pub is_plan : IsPlanOf (ground_of core means.low) [] means.low plan
  pub ready : (rows : List (List ℕ)) → RowsFit c.program.types node.inputs rows → memories.IsReady core (ground_of core means.low) [] no_calls (unmarked rows)

-- The stepper is where the rows have left the program: its plan is for the node that is run, and its memory stands for a call for
-- each row.
pub record Stands (c : ClockedProgram) (rows : List (List ℕ)) (s : Stepper) : Type 0 where
  pub ready : IsReady s
  pub accepted : IsAcceptedProgram c
  pub range : IsInRange c.program
  pub number : ℕ
  pub node : Node
  pub at : slice_get c.program.nodes number ≡ Some node
  pub main : main_text c.program ≡ Some (Written number node)
  pub planned : IsPlanFor c number node s.plan
  pub fits : RowsFit c.program.types node.inputs rows
  pub memory : StandsAfter planned.core (ground_of planned.core planned.means.low) [] no_calls (unmarked rows) false (state_of s.memory)

-- it is where some rows have left a program, and the row fits the program's inputs
pub record CanStep (s : Stepper) (row : List Cell) : Type 0 where
  pub accepted : ClockedProgram
  pub rows : List (List ℕ)
  pub stands : Stands accepted rows s
  pub fits : FitsShape (input_shape accepted.program) row
