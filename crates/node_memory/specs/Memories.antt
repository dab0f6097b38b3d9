-- The memory of a node: of which plan it is, and which calls it stands for.
use Rattle.std.specs.Prelude.{◌≡◌, ℕ, Bool, true, false, List, [], ◌∷◌, ◌++◌, All, length, map}
use Rattle.hept_ast.specs.Sites.{Site}
use Rattle.hept_ast.specs.declared.tree.Core.{Core}
use Rattle.hept_ast.specs.declared.tree.CoreNode.{CoreNode}
use Rattle.step_cells.specs.Cells.{value_in}
use Rattle.step_cells.specs.declared.cell.Cell.{Cell}
use Rattle.step_plans.specs.Books.{Book, IsCellOf}
use Rattle.step_plans.specs.Plans.{Ground, IsPlanOf}
use Rattle.step_plans.specs.Instants.{Kept_state}
use Rattle.step_plans.specs.Memories.{IsEmpty, IsGroundIn, IsReady}
use Rattle.step_plans.specs.declared.plan.NodePlan.{NodePlan}
use Rattle.node_memory.specs.Standing.{HasFewSources, IsOneCallMore, StandsAfter, no_calls}
use Rattle.node_memory.specs.declared.memory.NodeMemory.{NodeMemory}

-- a memory of the node of this plan
pub record IsMemoryOf (plan : NodePlan) (m : NodeMemory) : Type 0 where
  pub cells : length m.cells.items ≡ length plan.stores.items
  pub futures : length m.futures.items ≡ plan.futures
  pub marks : length m.marks.items ≡ length plan.offerings.items
  pub values : length m.values.items ≡ plan.values
  pub input : All (HasFewSources (length m.input.items)) plan.offerings.items
  pub initial : m.initial.items ≡ plan.initial.items
  pub future_initial : m.future_initial.items ≡ plan.future_initial.items

abbrev pub futures_of : NodeMemory → List Cell
futures_of m = m.futures.items

abbrev pub state_of : NodeMemory → Kept_state
state_of m = record { cells = m.cells.items; futures = m.futures.items; marks = m.marks.items }

-- it holds no handle but those of the book
abbrev pub HoldsCellsOf : Book → NodeMemory → Type 0
HoldsCellsOf book m = All (IsCellOf book) m.futures.items

-- before the first call
abbrev pub StandsForNone : NodePlan → NodeMemory → Type 0
StandsForNone plan m = (core : Core) (g : Ground) (sites : List Site) (node : CoreNode) (book : Book) → IsPlanOf g sites node plan → IsEmpty book → StandsAfter core g sites book [] false (state_of m)

-- a restart: the next call is a marked one
abbrev pub StandsAgain : (old new : NodeMemory) → Type 0
StandsAgain old new = (plan : NodePlan) (core : Core) (g : Ground) (sites : List Site) (node : CoreNode) (book : Book) (calls : List (Bool × List ℕ)) (mark : Bool) → IsMemoryOf plan old → IsPlanOf g sites node plan →
    StandsAfter core g sites book calls mark (state_of old) → StandsAfter core g sites book calls true (state_of new)

-- and where the node makes no async calls, it stands for no calls as well
abbrev pub MayStandAgain : NodePlan → NodeMemory → Type 0
MayStandAgain plan m = (core : Core) (g : Ground) (node : CoreNode) (book : Book) → IsPlanOf g [] node plan → IsEmpty book → HoldsCellsOf book m → StandsAfter core g [] book [] false (state_of m)

-- a call by a service, beside the calls of a book before and after it
abbrev pub ServesCall : NodePlan → (inputs : List Cell) → (out : List ℕ) → (old new : NodeMemory) → (book later : Book) → Type 0
ServesCall plan inputs out old new book later = (core : Core) (g : Ground) (sites : List Site) (node : CoreNode) (calls : List (Bool × List ℕ)) (mark : Bool) → IsPlanOf g sites node plan → IsGroundIn core g →
    StandsAfter core g sites book calls mark (state_of old) → IsReady core g sites later (calls ++ (mark, map value_in inputs) ∷ []) →
    IsOneCallMore core g sites node later calls (mark, map value_in inputs) out (state_of new)

-- a call of a node that makes no async calls
abbrev pub MakesCall : NodePlan → (inputs : List Cell) → (out : List ℕ) → (old new : NodeMemory) → Type 0
MakesCall plan inputs out old new = (core : Core) (g : Ground) (node : CoreNode) (calls : List (Bool × List ℕ)) (mark : Bool) → IsPlanOf g [] node plan → IsGroundIn core g →
    StandsAfter core g [] no_calls calls mark (state_of old) → IsReady core g [] no_calls (calls ++ (mark, map value_in inputs) ∷ []) →
    IsOneCallMore core g [] node no_calls calls (mark, map value_in inputs) out (state_of new)
