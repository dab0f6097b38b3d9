-- What is built for an expression on a clock, which may hold `when` and merges.
use Rattle.std.specs.Prelude.{◌≡◌, ℕ, suc, ◌<◌, ◌≤◌, List, All, length, take, slice_index}
use Rattle.hept_ast.specs.Texts.{Name}
use Rattle.hept_ast.specs.Scopes.{Clock, Scope}
use Rattle.hept_ast.specs.declared.tree.TypeDec.{TypeDec}
use Rattle.hept_ast.specs.declared.tree.CoreNode.{CoreNode}
use Rattle.hept_ast.specs.declared.tree.Expr.{Expr}
use Rattle.hept_ast.specs.declared.tree.MergeBranch.{MergeBranch}
use Rattle.step_plans.specs.Things.{Here, Part, Branch_of}
use Rattle.step_plans.specs.Operations.{Register, In_values}
use Rattle.step_plans.specs.Plans.{Ground, Entry, Has, Progress}
use Rattle.plan_expressions.specs.Building.{AreActionsWithin, Emitted, HaveRegisters, Leads}
use Rattle.plan_expressions.specs.Grounded.{AreGrounded, Grounded, IsTested, branch_clock}
use Rattle.plan_expressions.specs.declared.draft.Draft.{Draft}

-- a presence in both scopes for each beginning of the clock, or no presence at all; each below a place
pub record HavePresences (entries : List Entry) (b s : Scope) (c : Clock) (presences : List ℕ) (at : ℕ) : Type 0 where
  pub long : 0 < length presences → length presences ≡ suc (length c)
  pub body : (k : ℕ) → k < length presences → Has entries (Here (take k c) b) (In_values (slice_index presences k))
  pub right : (k : ℕ) → k < length presences → Has entries (Here (take k c) s) (In_values (slice_index presences k))
  pub within : (k : ℕ) → k < length presences → slice_index presences k < at

-- what an expression in a right side s of a body b may use
pub record Supplied (entries : List Entry) (b s : Scope) (c : Clock) (variables : List Name) (registers presences : List ℕ) (at : ℕ) : Type 0 where
  pub body : HaveRegisters entries b variables registers at
  pub right : HaveRegisters entries s variables registers at
  pub present : HavePresences entries b s c presences at

module _ (types : List TypeDec) (variables : List Name) (registers presences : List ℕ) (old new : Draft) where
  -- in every ground with these types, on every clock and in every right side for which there is what the expression may use
  abbrev pub EmitsOn : Expr → (r : ℕ) → Type 0
  EmitsOn e r = (g : Ground) (node : CoreNode) (b s : Scope) (c : Clock) (h : Register) (start before : Progress) → g.types ≡ types → Leads g start old before → Has before.entries (Here c s) h →
      Supplied before.entries b s c variables registers presences old.at → Grounded g node b s c e → Emitted g start before old new (Part e c s) r

  -- the same of a branch of a merge on the clock, and of branches
  abbrev pub EmitsBranch : Name → MergeBranch → (r : ℕ) → Type 0
  EmitsBranch x d r = (g : Ground) (node : CoreNode) (b s : Scope) (c : Clock) (start before : Progress) → g.types ≡ types → Leads g start old before →
      Supplied before.entries b s c variables registers presences old.at → IsTested g node b s c x → Grounded g node b s (branch_clock c x d) d.value → Emitted g start before old new (Part d.value (branch_clock c x d) s) r

  abbrev pub EmitsBranches : Name → List MergeBranch → (r : ℕ) → Type 0
  EmitsBranches x branches r = (g : Ground) (node : CoreNode) (b s : Scope) (c : Clock) (start before : Progress) → g.types ≡ types → Leads g start old before →
      Supplied before.entries b s c variables registers presences old.at → IsTested g node b s c x → AreGrounded g node b s c x branches → Emitted g start before old new (Branch_of x branches c s) r

-- what the actions name is there
abbrev pub KeepsWithinOn : (registers presences : List ℕ) → (old new : Draft) → (r : ℕ) → Type 0
KeepsWithinOn registers presences old new r = (cells : ℕ) → All (λ q. q < old.at) registers → All (λ q. q < old.at) presences → AreActionsWithin cells old → AreActionsWithin cells new × (old.at ≤ new.at) × (r < new.at)
