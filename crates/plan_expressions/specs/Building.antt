-- What is built for an expression: actions at the end, and a value that is what it gives.
use Rattle.std.specs.Prelude.{◌≡◌, ℕ, suc, ◌<◌, ◌≤◌, List, [], ◌∷◌, ◌++◌, All, Some, slice_get, slice_index}
use Rattle.hept_ast.specs.Texts.{Name}
use Rattle.hept_ast.specs.Scopes.{Clock, Scope}
use Rattle.hept_ast.specs.declared.tree.TypeDec.{TypeDec}
use Rattle.hept_ast.specs.declared.tree.Expr.{Expr}
use Rattle.step_plans.specs.Things.{Thing, Here, Named, Part}
use Rattle.step_plans.specs.Operations.{Register, In_values}
use Rattle.step_plans.specs.Plans.{Ground, Entry, Has, Progress, MakesAll}
use Rattle.step_plans.specs.declared.instruction.Instruction.{Instruction}
use Rattle.step_plans.specs.declared.action.Action.TheVariants as act
use Rattle.step_engine.specs.Actions.{IsActionWithin}
use Rattle.plan_expressions.specs.declared.draft.Draft.{Draft}

-- an instruction at the end
pub record IsAdded (old new : Draft) (i : Instruction) (r : ℕ) : Type 0 where
  pub register : r ≡ old.at
  pub next : new.at ≡ suc old.at
  pub actions : new.actions.items ≡ old.actions.items ++ act.Compute old.at i ∷ []

-- the variables have these values, each below a place
abbrev pub HaveRegisters : List Entry → Scope → List Name → (registers : List ℕ) → (at : ℕ) → Type 0
HaveRegisters entries s variables registers at = (k : ℕ) (x : Name) → slice_get variables k ≡ Some x → Has entries (Named x s) (In_values (slice_index registers k)) × (slice_index registers k < at)

-- the actions of a draft lead here from there, in a node without async calls
pub record Leads (g : Ground) (start : Progress) (draft : Draft) (here : Progress) : Type 0 where
  pub makes : MakesAll g [] [] start draft.actions.items here
  pub at : here.at ≡ draft.at

-- what was known is still, and more
pub record KnowsMore (before after : Progress) : Type 0 where
  pub later : after.later ≡ before.later
  pub grows : (thing : Thing) (r : Register) → Has before.entries thing r → Has after.entries thing r

pub record Emitted (g : Ground) (start before : Progress) (old new : Draft) (thing : Thing) (r : ℕ) : Type 0 where
  pub after : Progress
  pub leads : Leads g start new after
  pub more : KnowsMore before after
  pub has : Has after.entries thing (In_values r)
  pub within : r < new.at
  pub longer : old.at ≤ new.at

-- in every ground with these types, on every clock and in every scope in which the variables have their values
abbrev pub Emits : List TypeDec → List Name → (registers : List ℕ) → (old new : Draft) → Expr → (r : ℕ) → Type 0
Emits types variables registers old new e r = (g : Ground) (c : Clock) (s : Scope) (h : Register) (start before : Progress) → g.types ≡ types → Leads g start old before → Has before.entries (Here c s) h →
    HaveRegisters before.entries s variables registers old.at → Emitted g start before old new (Part e c s) r

-- what the actions name is there
abbrev pub AreActionsWithin : (cells : ℕ) → Draft → Type 0
AreActionsWithin cells draft = All (IsActionWithin draft.at cells 0 0) draft.actions.items

abbrev pub KeepsWithin : (registers : List ℕ) → (old new : Draft) → (r : ℕ) → Type 0
KeepsWithin registers old new r = (cells : ℕ) → All (λ q. q < old.at) registers → AreActionsWithin cells old → AreActionsWithin cells new × (old.at ≤ new.at) × (r < new.at)
