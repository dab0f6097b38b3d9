-- What is built for the equations of a body on their clocks, without resets.
use Rattle.std.specs.Prelude.{◌≡◌, ℕ, suc, ◌+◌, ◌<◌, ◌≤◌, true, false, List, [], ◌∷◌, ◌++◌, All, Some, length, slice_get}
use Rattle.hept_ast.specs.Texts.{Name, is_in, names}
use Rattle.hept_ast.specs.Scopes.{Clock, Scope, Under, equation_of}
use Rattle.hept_ast.specs.Meaning.{clock_of_equation}
use Rattle.hept_ast.specs.declared.tree.TypeDec.{TypeDec}
use Rattle.hept_ast.specs.declared.tree.ClockStep.{ClockStep}
use Rattle.hept_ast.specs.declared.tree.CoreNode.{CoreNode}
use Rattle.hept_ast.specs.declared.tree.CoreEquation.{CoreEquation}
use Rattle.hept_ast.specs.declared.tree.Form.{out-Form}
use Rattle.step_plans.specs.Things.{Here}
use Rattle.step_plans.specs.Operations.{In_values}
use Rattle.step_plans.specs.Plans.{Ground, Has, IsBodyOf, IsQuiet, Progress, Tests}
use Rattle.plan_expressions.specs.Building.{AreActionsWithin, HaveRegisters, KnowsMore, Leads}
use Rattle.plan_expressions.specs.Clocked.{HavePresences}
use Rattle.plan_expressions.specs.declared.draft.Draft.{Draft}
use Rattle.plan_equations.specs.Grounds.{right_memories}
use Rattle.plan_equations.specs.Rights.{GroundedRight, HasCells}

-- where the right sides without resets of a body stand
abbrev pub inside_of : Scope → Scope
inside_of b = Under b []

-- an equation of one variable, which is found by it
pub record IsFound (node : CoreNode) (e : CoreEquation) (x : Name) : Type 0 where
  pub left : e.left ≡ x ∷ []
  pub found : equation_of node x ≡ Some e
  pub input : is_in x (names node.inputs) ≡ false
  pub resets : e.resets ≡ []

-- each step's variable is tested in the ground, and on the clock of the steps before
pub data IsProperClock (g : Ground) (node : CoreNode) (b : Scope) : Clock → Type 0 where
  no_step : IsProperClock g node b []
  one_more : {c : Clock} (p : ClockStep) (place : ℕ) → IsProperClock g node b c → slice_get g.tested place ≡ Some (Tests node p.name b) → clock_of_equation (equation_of node p.name) ≡ c → IsProperClock g node b (c ++ p ∷ [])

-- the steps' variables are known
abbrev pub AreKnown : (known : List Name) → Clock → Type 0
AreKnown known c = All (λ p. is_in p.name known ≡ true) c

-- the variables so far have their values, in the body and in its right sides; this is the presence of its base clock
pub record IsBuilt (g : Ground) (b : Scope) (base : ℕ) (start : Progress) (draft : Draft) (variables : List Name) (registers : List ℕ) : Type 0 where
  pub here : Progress
  pub leads : Leads g start draft here
  pub below : base < draft.at
  pub body : Has here.entries (Here [] b) (In_values base)
  pub right : Has here.entries (Here [] (inside_of b)) (In_values base)
  pub values : HaveRegisters here.entries b variables registers draft.at
  pub read : HaveRegisters here.entries (inside_of b) variables registers draft.at

-- the same where more is known, with a presence for each beginning of a clock
pub record ArePresent (g : Ground) (b : Scope) (base : ℕ) (start before : Progress) (draft : Draft) (variables : List Name) (registers : List ℕ) (c : Clock) (presences : List ℕ) : Type 0 where
  pub built : IsBuilt g b base start draft variables registers
  pub more : KnowsMore before built.here
  pub longer : before.at ≤ draft.at
  pub present : HavePresences built.here.entries b (inside_of b) c presences draft.at
  pub as_many : length presences ≡ suc (length c)

-- presences of a clock, in every ground with these types and in every body of a node
abbrev pub BuildsPresences : List TypeDec → List Name → Clock → (base : ℕ) (registers : List ℕ) → (old new : Draft) → (presences : List ℕ) → Type 0
BuildsPresences types variables c base registers old new presences = (g : Ground) (node : CoreNode) (b : Scope) (start : Progress) → g.types ≡ types → IsBodyOf b node → IsProperClock g node b c → (built : IsBuilt g b base start old variables registers) →
    ArePresent g b base start built.here new variables registers c presences

abbrev pub KeepsPresences : (base : ℕ) (registers : List ℕ) → (old new : Draft) → (presences : List ℕ) → Type 0
KeepsPresences base registers old new presences = (cells : ℕ) → base < old.at → All (λ q. q < old.at) registers → AreActionsWithin cells old → AreActionsWithin cells new × (old.at ≤ new.at) × All (λ q. q < new.at) presences

-- the same with the presence of one clock
pub record IsOneMore (g : Ground) (b : Scope) (base : ℕ) (start before : Progress) (draft : Draft) (variables : List Name) (registers : List ℕ) (c : Clock) (presence : ℕ) : Type 0 where
  pub built : IsBuilt g b base start draft variables registers
  pub more : KnowsMore before built.here
  pub longer : before.at ≤ draft.at
  pub present : Has built.here.entries (Here c (inside_of b)) (In_values presence)
  pub under : presence < draft.at

-- what the plan's ground is to have for an equation of a body
pub record IsGroundedEquation (g : Ground) (node : CoreNode) (b : Scope) (e : CoreEquation) : Type 0 where
  pub clock : IsProperClock g node b e.clock.steps
  pub right : GroundedRight g node b (inside_of b) e.clock.steps e.right

-- one equation more, in every ground with these types and its cells
abbrev pub BuildsEquation : List TypeDec → List Name → (cell base : ℕ) → CoreEquation → (old_registers : List ℕ) → Draft → (registers : List ℕ) → Draft → (presence : ℕ) → Type 0
BuildsEquation types variables cell base e old_registers old registers new presence = (g : Ground) (node : CoreNode) (b : Scope) (x : Name) (start : Progress) → IsFound node e x → g.types ≡ types → IsBodyOf b node → IsQuiet b →
    HasCells g cell (right_memories types (out-Form e.right.form) e.clock.steps (inside_of b)) → IsGroundedEquation g node b e → (built : IsBuilt g b base start old variables old_registers) →
    IsOneMore g b base start built.here new (variables ++ x ∷ []) registers e.clock.steps presence

-- what the actions name is there, where so many cells from this one on are, and so are the values of all variables and the presence
abbrev pub KeepsEquation : (count cell base : ℕ) → (old_registers : List ℕ) → Draft → (registers : List ℕ) → Draft → (presence : ℕ) → Type 0
KeepsEquation count cell base old_registers old registers new presence = (cells : ℕ) → cell + count ≤ cells → base < old.at → All (λ q. q < old.at) old_registers → AreActionsWithin cells old →
    AreActionsWithin cells new × (old.at ≤ new.at) × All (λ q. q < new.at) registers × (presence < new.at)
