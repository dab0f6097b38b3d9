-- What is built for the right side of an equation on its clock: memory operators read their cells.
use Rattle.std.specs.Prelude.{◌≡◌, ℕ, suc, ◌+◌, ◌<◌, ◌≤◌, true, List, [], ◌∷◌, All, Some, slice_get}
use Rattle.hept_ast.specs.Texts.{Name, is_in}
use Rattle.hept_ast.specs.Scopes.{Clock, Scope}
use Rattle.hept_ast.specs.declared.tree.TypeDec.{TypeDec}
use Rattle.hept_ast.specs.declared.tree.CoreNode.{CoreNode}
use Rattle.hept_ast.specs.declared.tree.Const.{Const}
use Rattle.hept_ast.specs.declared.tree.Expr.{Expr}
use Rattle.hept_ast.specs.declared.tree.MergeBranch.{MergeBranch}
use Rattle.hept_ast.specs.declared.tree.Form.{Form, out-Form}
use Rattle.hept_ast.specs.declared.tree.Form.TheOpen.{Form-F}
use Rattle.hept_ast.specs.declared.tree.Form.TheVariants as form
use Rattle.step_plans.specs.Things.{Here, Part, Memory}
use Rattle.step_plans.specs.Operations.{Register}
use Rattle.step_plans.specs.Plans.{Ground, Has, Progress, IsQuiet}
use Rattle.plan_expressions.specs.Computable.{Computable}
use Rattle.plan_expressions.specs.Grounded.{Grounded}
use Rattle.plan_expressions.specs.Clocked.{Supplied}
use Rattle.plan_expressions.specs.Building.{AreActionsWithin, Emitted, Leads}
use Rattle.plan_expressions.specs.declared.draft.Draft.{Draft}
use Rattle.plan_equations.specs.Grounds.{right_memories}

-- a right side whose operands at the instant are known, with a presence for each beginning of its clock: an expression, or a memory operator at the top
pub data IsRight (types : List TypeDec) (known : List Name) (presences : ℕ) : Expr → Type 0 where
  expression : {e : Expr} → Computable types known presences e → IsRight types known presences e
  from_constant : {e : Expr} (a b : Expr) (k : Const) → e.form ≡ form.Fby a b → a.form ≡ form.Const k → IsRight types known presences e
  from_variable : {e : Expr} (a b : Expr) (x : Name) → e.form ≡ form.Fby a b → a.form ≡ form.Var x → is_in x known ≡ true → IsRight types known presences e
  previous : {e : Expr} (a : Expr) → e.form ≡ form.Pre a → IsRight types known presences e
  arrow : {e : Expr} (a b : Expr) → e.form ≡ form.Arrow a b → Computable types known presences a → Computable types known presences b → IsRight types known presences e

-- what the merges of its operands need of the ground
abbrev pub GroundedForm : Ground → CoreNode → (b s : Scope) → Clock → Form-F Form Expr MergeBranch → Expr → Type 0
GroundedForm g node b s c (Form-F.Fby a d) e = Grounded g node b s c d
GroundedForm g node b s c (Form-F.Pre a) e = Grounded g node b s c a
GroundedForm g node b s c (Form-F.Arrow a d) e = Grounded g node b s c a × Grounded g node b s c d
GroundedForm g node b s c (Form-F.Call f args) e = Unit {0}
GroundedForm g node b s c _ e = Grounded g node b s c e

abbrev pub GroundedRight : Ground → CoreNode → (b s : Scope) → Clock → Expr → Type 0
GroundedRight g node b s c e = GroundedForm g node b s c (out-Form e.form) e

-- the cells from this one on stand for these memories
abbrev pub HasCells : Ground → (cell : ℕ) → List Memory → Type 0
HasCells g cell [] = Unit {0}
HasCells g cell (m ∷ ms) = (slice_get g.memories cell ≡ Some m) × HasCells g (suc cell) ms

-- in every ground with these types, on every clock and in every scope without resets in which there is what the operands use
abbrev pub EmitsRight : List TypeDec → List Name → (registers presences : List ℕ) → (cell : ℕ) → (old new : Draft) → Expr → (r : ℕ) → Type 0
EmitsRight types variables registers presences cell old new e r = (g : Ground) (node : CoreNode) (b s : Scope) (c : Clock) (h : Register) (start before : Progress) → g.types ≡ types → IsQuiet s →
    HasCells g cell (right_memories types (out-Form e.form) c s) → Leads g start old before → Has before.entries (Here c s) h → Supplied before.entries b s c variables registers presences old.at → GroundedRight g node b s c e →
    Emitted g start before old new (Part e c s) r

-- of each `fby` that starts with this variable, and each `->` of these operands; the types are those of the ground
abbrev pub EmitsStarted : List Name → (registers : List ℕ) → (cell : ℕ) → (old new : Draft) → Name → (r : ℕ) → Type 0
EmitsStarted variables registers cell old new x r = (types : List TypeDec) (presences : List ℕ) (e a b : Expr) → e.form ≡ form.Fby a b → a.form ≡ form.Var x → EmitsRight types variables registers presences cell old new e r

abbrev pub EmitsArrow : List TypeDec → List Name → (registers presences : List ℕ) → (cell : ℕ) → (old new : Draft) → (first later : Expr) → (r : ℕ) → Type 0
EmitsArrow types variables registers presences cell old new a b r = (e : Expr) → e.form ≡ form.Arrow a b → EmitsRight types variables registers presences cell old new e r

-- how many cells a right side has
abbrev pub start_cells : Form-F Form Expr MergeBranch → ℕ
start_cells (Form-F.Const k) = 1
start_cells _ = 2

abbrev pub right_cells : Form-F Form Expr MergeBranch → ℕ
right_cells (Form-F.Fby a b) = start_cells (out-Form a.form)
right_cells (Form-F.Pre a) = 1
right_cells (Form-F.Arrow a b) = 1
right_cells _ = 0

-- what the actions name is there, where so many cells from this one on are
abbrev pub KeepsCells : (count cell : ℕ) → (registers presences : List ℕ) → (old new : Draft) → (r : ℕ) → Type 0
KeepsCells count cell registers presences old new r = (cells : ℕ) → cell + count ≤ cells → All (λ q. q < old.at) registers → All (λ q. q < old.at) presences → AreActionsWithin cells old → AreActionsWithin cells new × (old.at ≤ new.at) × (r < new.at)
