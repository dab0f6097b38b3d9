-- Which calls of a node its kept state stands for.
use Rattle.std.specs.Prelude.{◌≡◌, ℕ, ◌+◌, ◌<◌, ◌≤◌, Bool, false, List, [], ◌∷◌, ◌++◌, All, length}
use Rattle.hept_ast.specs.Texts.{names}
use Rattle.hept_ast.specs.Scopes.{Lowered}
use Rattle.hept_ast.specs.Settings.{Marks, Replies, of_core}
use Rattle.hept_ast.specs.Outputs.{HaveValues, output_questions}
use Rattle.hept_ast.specs.Sites.{Site}
use Rattle.hept_ast.specs.declared.tree.Core.{Core}
use Rattle.hept_ast.specs.declared.tree.CoreNode.{CoreNode}
use Rattle.step_plans.specs.Books.{Book, IsCellOf}
use Rattle.step_plans.specs.Plans.{Ground, top_of}
use Rattle.step_plans.specs.Instants.{Kept_state, VariablesHave}
use Rattle.step_plans.specs.Memories.{AllOwn, IsBefore, StandsFor, Suits, rows_of}
use Rattle.step_plans.specs.declared.action.Offering.{Offering}
use Rattle.step_plans.specs.declared.plan.NodePlan.{NodePlan}
use Rattle.step_engine.specs.Running.{IsSourceWithin, IsStoreWithin}
use Rattle.step_engine.specs.Actions.{IsActionWithin, IsFutureStoreWithin}

abbrev pub HasFewSources : (scratch : ℕ) → Offering → Type 0
HasFewSources scratch o = length o.sources.items ≤ scratch

-- what a call of the plan names is there
pub record IsCallWithin (values futures : ℕ) (o : Offering) : Type 0 where
  pub here : o.here < values
  pub again : o.again < values
  pub sources : All (IsSourceWithin values futures) o.sources.items
  pub room : o.first + o.outputs ≤ futures

-- what a plan names is there, where there is as much room as it says, and each cell has a first content
pub record IsSound (plan : NodePlan) : Type 0 where
  pub room : plan.inputs < plan.values
  pub futures_room : length plan.future_stores.items + plan.inputs ≤ plan.futures
  pub initial : length plan.initial.items ≡ length plan.stores.items
  pub future_initial : length plan.future_initial.items ≡ length plan.future_stores.items
  pub actions : All (IsActionWithin plan.values (length plan.stores.items) plan.futures (length plan.offerings.items)) plan.actions.items
  pub calls : All (IsCallWithin plan.values plan.futures) plan.offerings.items
  pub stores : All (IsStoreWithin plan.values) plan.stores.items
  pub future_stores : All (IsFutureStoreWithin plan.values (length plan.future_stores.items) plan.futures) plan.future_stores.items
  pub outputs : All (λ r. r < plan.values) plan.outputs.items

-- a book without calls
abbrev pub no_calls : Book
no_calls = record { calls = []; reply = λ h. 0; outputs = λ k. 0 }

-- what is kept stands for these calls beside the calls of the book; the mark says whether it was restarted since the last of them
pub record StandsAfter (core : Core) (g : Ground) (sites : List Site) (book : Book) (calls : List (Bool × List ℕ)) (mark : Bool) (state : Kept_state) : Type 0 where
  -- what was kept before the restart
  pub before : Kept_state
  pub stands : StandsFor core g sites book calls before
  pub begun : IsBefore g sites mark before state
  -- cells, and the inputs of calls, hold no handle but those of the book
  pub named_before : All (IsCellOf book) before.futures
  pub named : All (IsCellOf book) state.futures
  pub own : AllOwn book book.calls

-- the outputs of a call after these ones, by the stream meaning, under all marks and replies that agree with what happened so far
pub record GivesOutputs (core : Core) (g : Ground) (sites : List Site) (node : CoreNode) (book : Book) (calls : List (Bool × List ℕ)) (call : Bool × List ℕ) (out : List ℕ) : Type 0 where
  pub known : (marked : Marks) (replies : Replies) → Suits core g sites book (calls ++ call ∷ []) marked replies →
      VariablesHave (of_core core marked replies) (rows_of (calls ++ call ∷ [])) (top_of node) (length calls) (names node.outputs) out
  pub values : (marked : Marks) (replies : Replies) (vs : List ℕ) → Suits core g sites book (calls ++ call ∷ []) marked replies →
      HaveValues (of_core core marked replies) (rows_of (calls ++ call ∷ [])) (output_questions (Lowered node) (length calls)) vs → out ≡ vs

-- one call more
pub record IsOneCallMore (core : Core) (g : Ground) (sites : List Site) (node : CoreNode) (later : Book) (calls : List (Bool × List ℕ)) (call : Bool × List ℕ) (out : List ℕ) (new : Kept_state) : Type 0 where
  pub stands : StandsAfter core g sites later (calls ++ call ∷ []) false new
  pub outputs : GivesOutputs core g sites node later calls call out
