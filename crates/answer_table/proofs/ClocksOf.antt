-- The clocks of the expressions that paths lead to.
use Rattle.std.proofs.Common.{Result, Vec, Global, IfOk, ◌≡◌, ℕ, List, [], ◌∷◌, ◌++◌, Option, Some, None, length, ◌+◌, sym, ap, subst, ◌∙◌}
use Rattle.std.proofs.lemmas.Result.{IfOk-weaker}
use Rattle.hept_ast.specs.Texts.{Name}
use Rattle.hept_ast.specs.Scopes.{Clock, Scope, In_state, block_of}
use Rattle.hept_ast.specs.Meaning.{Setting, clock_seen}
use Rattle.hept_ast.specs.declared.tree.Node.{Node}
use Rattle.hept_ast.specs.declared.tree.Expr.{Expr}
use Rattle.hept_ast.specs.declared.tree.Block.{Block}
use Rattle.hept_ast.specs.declared.tree.State.{State}
use Rattle.hept_ast.specs.declared.tree.Form.{out-Form}
use Rattle.answer_table.specs.declared.paths.Step.{Step}
use Rattle.answer_table.specs.declared.paths.Step.TheVariants as way
use Rattle.answer_table.specs.declared.paths.Held.{Held}
use Rattle.answer_table.specs.declared.questions.Stop.{Stop}
use Rattle.answer_table.specs.declared.answers.Answers.{Answers}
use Rattle.answer_table.specs.Parts.{states_at, left_at, right_at, on_at, every_at, root_of, operand_of}
use Rattle.answer_table.specs.Things.{Thing, In, At, Nowhere, part, expression_thing, right_thing, base_thing, weak_thing, operand_clock}
use Rattle.answer_table.specs.Tables.{IsExpressionAt, IsOnClock, IsScopeAt, IsSeenOn, held_clock, setting_in, thing_in}
use Rattle.answer_table.proofs.Shown.{thing_more}

nowhere_at : (e : Expr) (clock : Clock) (s : Scope) → Nowhere ≡ At e clock s → ⊥
nowhere_at e clock s h = cc

in_at : (z : Scope) (e : Expr) (clock : Clock) (s : Scope) → In z ≡ At e clock s → ⊥
in_at z e clock s h = cc

same_clock : (a e : Expr) (c k : Clock) (z s : Scope) → At a c z ≡ At e k s → k ≡ c
same_clock a e c k z s h = cc

module _ (e : Expr) (k : Clock) (s : Scope) where
  -- on the clock of the name on the left side
  right_clock : (w : Setting) (z : Scope) (x : Name) (o : Option Expr) → right_thing w z (Some x) o ≡ At e k s → k ≡ clock_seen w x z
  right_clock w z x None h = absurd (nowhere_at e k s h)
  right_clock w z x (Some a) h = same_clock _ _ _ _ _ _ h

  base_clock : (z : Scope) (o : Option Expr) → base_thing z o ≡ At e k s → k ≡ []
  base_clock z None h = absurd (nowhere_at e k s h)
  base_clock z (Some a) h = same_clock _ _ _ _ _ _ h

  weak_clock : (z : Scope) (states : Option (List State)) (i : ℕ) (o : Option Expr) → weak_thing z states i o ≡ At e k s → k ≡ []
  weak_clock z None i o h = absurd (nowhere_at e k s h)
  weak_clock z (Some states) i o h = base_clock (In_state z states i) o h

  inner_clock : (z : Scope) (c : Clock) (o : Option Expr) → expression_thing o c z ≡ At e k s → k ≡ c
  inner_clock z c None h = absurd (nowhere_at e k s h)
  inner_clock z c (Some a) h = same_clock _ _ _ _ _ _ h

  module _ (w : Setting) where
    on_base : (thing : Thing) (i : ℕ) → part w thing (way.On i) ≡ At e k s → k ≡ []
    on_base (In z) i h = base_clock z (on_at (block_of z) i) h
    on_base (At a c z) i h = absurd (nowhere_at e k s h)
    on_base Nowhere i h = absurd (nowhere_at e k s h)

    every_base : (thing : Thing) (i : ℕ) → part w thing (way.Every i) ≡ At e k s → k ≡ []
    every_base (In z) i h = base_clock z (every_at (block_of z) i) h
    every_base (At a c z) i h = absurd (nowhere_at e k s h)
    every_base Nowhere i h = absurd (nowhere_at e k s h)

    strong_base : (thing : Thing) (i j n : ℕ) → part w thing (way.Strong i j n) ≡ At e k s → k ≡ []
    strong_base (In z) i j n h = base_clock z (root_of (block_of z) (way.Strong i j n)) h
    strong_base (At a c z) i j n h = absurd (nowhere_at e k s h)
    strong_base Nowhere i j n h = absurd (nowhere_at e k s h)

    weak_base : (thing : Thing) (i j n : ℕ) → part w thing (way.Weak i j n) ≡ At e k s → k ≡ []
    weak_base (In z) i j n h = weak_clock z (states_at (block_of z) i) j (root_of (block_of z) (way.Weak i j n)) h
    weak_base (At a c z) i j n h = absurd (nowhere_at e k s h)
    weak_base Nowhere i j n h = absurd (nowhere_at e k s h)

-- ---- by the last step of a path

right_on : (s : Answers) (path before : List Step) (i n : ℕ) (number : ℕ) (node : Node) (block : Block) (x : Name) (clock : Clock) → IsScopeAt s before number node block →
    left_at block i n ≡ Some x → IsSeenOn s before x clock → path ≡ before ++ way.Right i n ∷ [] → IsOnClock s path clock
right_on s path before i n number node block x clock at left seen split e k scope is =
    let w : Setting = setting_in s in
    let leads : part w (In at.scope) (way.Right i n) ≡ At e k scope =
    ap (λ (thing : Thing). part w thing (way.Right i n)) (sym at.is) ∙ sym (thing_more s.accepted.now s.top path before (way.Right i n) split) ∙ is in
    let named : left_at (block_of at.scope) i n ≡ Some x = ap (λ (b : Block). left_at b i n) at.own ∙ left in
    right_clock e k scope w at.scope x (right_at (block_of at.scope) i) (ap (λ (o : Option Name). right_thing w at.scope o (right_at (block_of at.scope) i)) (sym named) ∙ leads) ∙
    seen at.scope at.is

operand_on : (s : Answers) (path before : List Step) (n : ℕ) (expr : Expr) (outer clock : Clock) → (path ≡ before ++ way.Operand n ∷ []) × (length before + 1 ≡ length path) →
    IsOnClock s before outer → IsExpressionAt s before expr → clock ≡ operand_clock (out-Form expr.form) n outer → IsOnClock s path clock
operand_on s path before n expr outer clock split on at same e k scope is =
    let (c, z, leads) = at in
    inner_clock e k scope z (operand_clock (out-Form expr.form) n c) (operand_of (out-Form expr.form) n)
    (ap (λ (thing : Thing). part (setting_in s) thing (way.Operand n)) (sym leads) ∙ sym (thing_more s.accepted.now s.top path before (way.Operand n) split.0) ∙ is) ∙
    ap (λ (d : Clock). operand_clock (out-Form expr.form) n d) (on expr c z leads) ∙ sym same

-- what the search for the clock of the name on the left gives
pub right_through : (s : Answers) (before : List Step) (i n : ℕ) (number : ℕ) (node : Node) (block : Block) (x : Name) (r : Result (Vec Held Global) Stop) →
    IsScopeAt s before number node block → left_at block i n ≡ Some x → IfOk r (λ clock. IsSeenOn s before x (held_clock clock.items)) →
    IfOk r (λ clock. (path : List Step) → path ≡ before ++ way.Right i n ∷ [] → IsOnClock s path (held_clock clock.items))
right_through s before i n number node block x r at left seen =
    IfOk-weaker r (λ clock. IsSeenOn s before x (held_clock clock.items)) (λ clock. (path : List Step) → path ≡ before ++ way.Right i n ∷ [] → IsOnClock s path (held_clock clock.items))
    (λ clock here path split. right_on s path before i n number node block x (held_clock clock.items) at left here split) seen

-- what follows from the clock of the whole expression
pub operand_through : (s : Answers) (path before : List Step) (step : Step) (n : ℕ) (expr : Expr) (outer : Clock) (r : Result (Vec Held Global) Stop) →
    (path ≡ before ++ step ∷ []) × (length before + 1 ≡ length path) → step ≡ way.Operand n → IsOnClock s before outer → IsExpressionAt s before expr →
    IfOk r (λ inner. held_clock inner.items ≡ operand_clock (out-Form expr.form) n outer) → IfOk r (λ inner. IsOnClock s path (held_clock inner.items))
operand_through s path before step n expr outer r split operand on at same =
    IfOk-weaker r (λ inner. held_clock inner.items ≡ operand_clock (out-Form expr.form) n outer) (λ inner. IsOnClock s path (held_clock inner.items))
    (λ inner is. operand_on s path before n expr outer (held_clock inner.items) (subst (λ (y : Step). (path ≡ before ++ y ∷ []) × (length before + 1 ≡ length path)) operand split) on at is) same

module _ (s : Answers) (path before : List Step) where
  at_part : (step : Step) (thing : Thing) → (path ≡ before ++ step ∷ []) × (length before + 1 ≡ length path) → thing_in s path ≡ thing → part (setting_in s) (thing_in s before) step ≡ thing
  at_part step thing split is = sym (thing_more s.accepted.now s.top path before step split.0) ∙ is

  pub on_clock : (i : ℕ) → (path ≡ before ++ way.On i ∷ []) × (length before + 1 ≡ length path) → IsOnClock s path []
  on_clock i split e k scope is = on_base e k scope (setting_in s) (thing_in s before) i (at_part (way.On i) (At e k scope) split is)

  pub every_clock : (i : ℕ) → (path ≡ before ++ way.Every i ∷ []) × (length before + 1 ≡ length path) → IsOnClock s path []
  every_clock i split e k scope is = every_base e k scope (setting_in s) (thing_in s before) i (at_part (way.Every i) (At e k scope) split is)

  pub strong_clock : (i j n : ℕ) → (path ≡ before ++ way.Strong i j n ∷ []) × (length before + 1 ≡ length path) → IsOnClock s path []
  strong_clock i j n split e k scope is = strong_base e k scope (setting_in s) (thing_in s before) i j n (at_part (way.Strong i j n) (At e k scope) split is)

  pub weak_clock_of : (i j n : ℕ) → (path ≡ before ++ way.Weak i j n ∷ []) × (length before + 1 ≡ length path) → IsOnClock s path []
  weak_clock_of i j n split e k scope is = weak_base e k scope (setting_in s) (thing_in s before) i j n (at_part (way.Weak i j n) (At e k scope) split is)
