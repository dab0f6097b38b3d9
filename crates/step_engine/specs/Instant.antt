-- One instant by the plan of a node: what the plan names is there, and what becomes of marks and of the calls of a book.
use Rattle.std.specs.Prelude.{◌≡◌, ℕ, suc, ◌+◌, ◌<◌, ◌≤◌, List, [], All, Some, length, slice_get, slice_index}
use Rattle.step_plans.specs.Books.{Book, Grows}
use Rattle.step_plans.specs.Memories.{AllOwn}
use Rattle.step_plans.specs.Sending.{next_mark}
use Rattle.step_plans.specs.declared.action.Offering.{Offering}
use Rattle.step_plans.specs.declared.plan.NodePlan.{NodePlan}
use Rattle.step_engine.specs.Running.{IsStoreWithin}
use Rattle.step_engine.specs.Actions.{IsActionWithin, IsOfferingWithin, IsFutureStoreWithin}

abbrev pub AreMarked : List Offering → (values old new : List ℕ) → Type 0
AreMarked offerings values old new = (k : ℕ) (o : Offering) → slice_get offerings k ≡ Some o → slice_index new k ≡ next_mark (slice_index values o.here) (slice_index values o.again) (slice_index old k)

-- the calls of a later book: their inputs hold no handle but those of the book, and a node without async calls makes none
pub record CallsGoOn (offerings : List Offering) (book later : Book) : Type 0 where
  pub grows : Grows book later
  pub own : AllOwn book book.calls → AllOwn later later.calls
  pub none : offerings ≡ [] → later.calls ≡ book.calls

abbrev pub IsMarkWithin : ℕ → Offering → Type 0
IsMarkWithin n o = (o.here < n) × (o.again < n)

-- what the plan names is there, where there are so many values, cells, marks and so on
pub record IsRunnable (plan : NodePlan) (values cells futures marks scratch inputs outputs : ℕ) : Type 0 where
  pub inputs_fit : inputs ≡ plan.inputs
  pub room : suc inputs ≤ values
  pub futures_room : length plan.future_stores.items + inputs ≤ futures
  pub actions : All (IsActionWithin values cells futures (length plan.offerings.items)) plan.actions.items
  pub offerings : All (IsOfferingWithin values futures scratch) plan.offerings.items
  pub cells_fit : cells ≡ length plan.stores.items
  pub stores : All (IsStoreWithin values) plan.stores.items
  pub future_stores : All (IsFutureStoreWithin values (length plan.future_stores.items) futures) plan.future_stores.items
  pub marks_fit : marks ≡ length plan.offerings.items
  pub outputs_fit : outputs ≡ length plan.outputs.items
  pub outputs_within : All (λ r. r < values) plan.outputs.items
