-- What is built for the arguments of a call.
use Rattle.std.specs.Prelude.{◌≡◌, ℕ, ◌<◌, ◌≤◌, List, All, Some, slice_get, slice_index}
use Rattle.hept_ast.specs.Texts.{Name}
use Rattle.hept_ast.specs.Scopes.{Clock, Scope}
use Rattle.hept_ast.specs.declared.tree.TypeDec.{TypeDec}
use Rattle.hept_ast.specs.declared.tree.Expr.{Expr}
use Rattle.step_plans.specs.Things.{Here, Part}
use Rattle.step_plans.specs.Operations.{Register, In_values}
use Rattle.step_plans.specs.Plans.{Ground, Has, Progress}
use Rattle.plan_expressions.specs.Building.{AreActionsWithin, HaveRegisters, KnowsMore, Leads}
use Rattle.plan_expressions.specs.declared.draft.Draft.{Draft}

-- each argument has a value
pub record AreEmitted (g : Ground) (start before : Progress) (old new : Draft) (args : List Expr) (c : Clock) (s : Scope) (values : List ℕ) : Type 0 where
  pub after : Progress
  pub leads : Leads g start new after
  pub more : KnowsMore before after
  pub longer : old.at ≤ new.at
  pub has : (k : ℕ) (a : Expr) → slice_get args k ≡ Some a → Has after.entries (Part a c s) (In_values (slice_index values k)) × (slice_index values k < new.at)

-- in every ground with these types, on every clock and in every scope in which the variables have their values
abbrev pub EmitsArguments : List TypeDec → List Name → (registers : List ℕ) → (old new : Draft) → List Expr → (values : List ℕ) → Type 0
EmitsArguments types variables registers old new args values = (g : Ground) (c : Clock) (s : Scope) (h : Register) (start before : Progress) → g.types ≡ types → Leads g start old before → Has before.entries (Here c s) h →
    HaveRegisters before.entries s variables registers old.at → AreEmitted g start before old new args c s values

-- what the actions name is there, and so are the values
abbrev pub KeepsArguments : (registers : List ℕ) → (old new : Draft) → (values : List ℕ) → Type 0
KeepsArguments registers old new values = (cells : ℕ) → All (λ q. q < old.at) registers → AreActionsWithin cells old → AreActionsWithin cells new × (old.at ≤ new.at) × All (λ q. q < new.at) values
