-- The expression that a path leads to, and the path to its scope.
use Rattle.std.proofs.Common.{◌≡◌, ℕ, List, [], ◌∷◌, ◌++◌, Option, Some, None, length, ◌+◌, refl, sym, ap, subst, ◌∙◌}
use Rattle.std.specs.Borrow.{Bor}
use Rattle.hept_ast.specs.Scopes.{Clock, Scope, block_of}
use Rattle.hept_ast.specs.Meaning.{Setting}
use Rattle.hept_ast.specs.Texts.{Name}
use Rattle.hept_ast.specs.declared.tree.Expr.{Expr}
use Rattle.hept_ast.specs.declared.tree.Node.{Node}
use Rattle.hept_ast.specs.declared.tree.State.{State}
use Rattle.hept_ast.specs.declared.tree.Form.{out-Form}
use Rattle.answer_table.specs.declared.paths.Step.{Step}
use Rattle.answer_table.specs.declared.paths.Step.TheVariants as way
use Rattle.answer_table.specs.declared.paths.View.TheVariants as seen
use Rattle.answer_table.specs.declared.answers.Answers.{Answers}
use Rattle.answer_table.specs.Parts.{states_at, left_at, right_at, on_at, every_at, root_of, operand_of}
use Rattle.answer_table.specs.Things.{Thing, In, At, Nowhere, Shows, part, expression_thing, right_thing, base_thing, weak_thing, state_thing, operand_clock}
use Rattle.answer_table.specs.Tables.{IsExpressionAt, IsScopeOfPath, setting_in, thing_in}
use Rattle.answer_table.proofs.Shown.{thing_more}

-- what shows an expression is one
shown_at : (thing : Thing) (number : ℕ) (node : Bor Node) (expr : Bor Expr) → Shows thing (seen.Expression number node expr) → (clock : Clock) × (scope : Scope) × (thing ≡ At expr.now clock scope)
shown_at (In s) number node expr h = absurd h
shown_at (At e clock s) number node expr h = (clock, s, ap (λ (x : Expr). At x clock s) h.1)
shown_at Nowhere number node expr h = absurd h

pub shown_expression : (s : Answers) (path : List Step) (number : ℕ) (node : Bor Node) (expr : Bor Expr) → Shows (thing_in s path) (seen.Expression number node expr) → IsExpressionAt s path expr.now
shown_expression s path number node expr h = shown_at (thing_in s path) number node expr h

nowhere_at : (e : Expr) (clock : Clock) (s : Scope) → Nowhere ≡ At e clock s → ⊥
nowhere_at e clock s h = cc

in_at : (z : Scope) (e : Expr) (clock : Clock) (s : Scope) → In z ≡ At e clock s → ⊥
in_at z e clock s h = cc

same_scope : (a e : Expr) (c clock : Clock) (z s : Scope) → At a c z ≡ At e clock s → z ≡ s
same_scope a e c clock z s h = cc

module _ (w : Setting) (e : Expr) (clock : Clock) (s : Scope) where
  operand_found : (o : Option Expr) (a : Expr) (c d : Clock) (z : Scope) → expression_thing o d z ≡ At e clock s → (b : Expr) × (k : Clock) × (At a c z ≡ At b k s)
  operand_found None a c d z h = absurd (nowhere_at e clock s h)
  operand_found (Some x) a c d z h = (a, c, ap (λ (y : Scope). At a c y) (same_scope _ _ _ _ _ _ h))

  -- an operand stands in the scope of its expression
  operand_scope : (thing : Thing) (n : ℕ) → part w thing (way.Operand n) ≡ At e clock s → (b : Expr) × (k : Clock) × (thing ≡ At b k s)
  operand_scope (In z) n h = absurd (nowhere_at e clock s h)
  operand_scope (At a c z) n h = operand_found (operand_of (out-Form a.form) n) a c (operand_clock (out-Form a.form) n c) z h
  operand_scope Nowhere n h = absurd (nowhere_at e clock s h)

  base_found : (z : Scope) (o : Option Expr) → base_thing z o ≡ At e clock s → z ≡ s
  base_found z None h = absurd (nowhere_at e clock s h)
  base_found z (Some a) h = same_scope _ _ _ _ _ _ h

  right_found : (z : Scope) (x : Option Name) (o : Option Expr) → right_thing w z x o ≡ At e clock s → z ≡ s
  right_found z None o h = absurd (nowhere_at e clock s h)
  right_found z (Some x) None h = absurd (nowhere_at e clock s h)
  right_found z (Some x) (Some a) h = same_scope _ _ _ _ _ _ h

  -- the first step into an expression goes from its scope
  right_scope : (thing : Thing) (i n : ℕ) → part w thing (way.Right i n) ≡ At e clock s → thing ≡ In s
  right_scope (In z) i n h = ap In (right_found z (left_at (block_of z) i n) (right_at (block_of z) i) h)
  right_scope (At a c z) i n h = absurd (nowhere_at e clock s h)
  right_scope Nowhere i n h = absurd (nowhere_at e clock s h)

  on_scope : (thing : Thing) (i : ℕ) → part w thing (way.On i) ≡ At e clock s → thing ≡ In s
  on_scope (In z) i h = ap In (base_found z (on_at (block_of z) i) h)
  on_scope (At a c z) i h = absurd (nowhere_at e clock s h)
  on_scope Nowhere i h = absurd (nowhere_at e clock s h)

  every_scope : (thing : Thing) (i : ℕ) → part w thing (way.Every i) ≡ At e clock s → thing ≡ In s
  every_scope (In z) i h = ap In (base_found z (every_at (block_of z) i) h)
  every_scope (At a c z) i h = absurd (nowhere_at e clock s h)
  every_scope Nowhere i h = absurd (nowhere_at e clock s h)

  strong_scope : (thing : Thing) (i k n : ℕ) → part w thing (way.Strong i k n) ≡ At e clock s → thing ≡ In s
  strong_scope (In z) i k n h = ap In (base_found z (root_of (block_of z) (way.Strong i k n)) h)
  strong_scope (At a c z) i k n h = absurd (nowhere_at e clock s h)
  strong_scope Nowhere i k n h = absurd (nowhere_at e clock s h)

  weak_found : (z : Scope) (o : Option (List State)) (k : ℕ) (x : Option Expr) → weak_thing z o k x ≡ At e clock s → state_thing z o k ≡ In s
  weak_found z None k x h = absurd (nowhere_at e clock s h)
  weak_found z (Some states) k None h = absurd (nowhere_at e clock s h)
  weak_found z (Some states) k (Some a) h = ap In (same_scope _ _ _ _ _ _ h)

  weak_scope : (thing : Thing) (i k n : ℕ) → part w thing (way.Weak i k n) ≡ At e clock s → part w thing (way.State i k) ≡ In s
  weak_scope (In z) i k n h = weak_found z (states_at (block_of z) i) k (root_of (block_of z) (way.Weak i k n)) h
  weak_scope (At a c z) i k n h = absurd (nowhere_at e clock s h)
  weak_scope Nowhere i k n h = absurd (nowhere_at e clock s h)

module _ (s : Answers) (path before : List Step) where
  pub operand_path : (n : ℕ) (scope : List Step) → (path ≡ before ++ way.Operand n ∷ []) × (length before + 1 ≡ length path) → IsScopeOfPath s before scope → IsScopeOfPath s path scope
  operand_path n scope split h e clock sc is =
      let found : (b : Expr) × (k : Clock) × (thing_in s before ≡ At b k sc) = operand_scope (setting_in s) e clock sc (thing_in s before) n (sym (thing_more s.accepted.now s.top path before (way.Operand n) split.0) ∙ is) in
      h found.0 found.1 sc found.2

  -- where the path found is this one
  here : (scope : List Step) (wanted : List Step) → scope ≡ wanted → IsScopeOfPath s path wanted → IsScopeOfPath s path scope
  here scope wanted e h = subst (λ (p : List Step). IsScopeOfPath s path p) (sym e) h

  pub right_path : (i n : ℕ) (scope : List Step) → (path ≡ before ++ way.Right i n ∷ []) × (length before + 1 ≡ length path) → scope ≡ before → IsScopeOfPath s path scope
  right_path i n scope split same = here scope before same
      (λ e clock sc is. right_scope (setting_in s) e clock sc (thing_in s before) i n (sym (thing_more s.accepted.now s.top path before (way.Right i n) split.0) ∙ is))

  pub on_path : (i : ℕ) (scope : List Step) → (path ≡ before ++ way.On i ∷ []) × (length before + 1 ≡ length path) → scope ≡ before → IsScopeOfPath s path scope
  on_path i scope split same = here scope before same
      (λ e clock sc is. on_scope (setting_in s) e clock sc (thing_in s before) i (sym (thing_more s.accepted.now s.top path before (way.On i) split.0) ∙ is))

  pub every_path : (i : ℕ) (scope : List Step) → (path ≡ before ++ way.Every i ∷ []) × (length before + 1 ≡ length path) → scope ≡ before → IsScopeOfPath s path scope
  every_path i scope split same = here scope before same
      (λ e clock sc is. every_scope (setting_in s) e clock sc (thing_in s before) i (sym (thing_more s.accepted.now s.top path before (way.Every i) split.0) ∙ is))

  pub strong_path : (i k n : ℕ) (scope : List Step) → (path ≡ before ++ way.Strong i k n ∷ []) × (length before + 1 ≡ length path) → scope ≡ before → IsScopeOfPath s path scope
  strong_path i k n scope split same = here scope before same
      (λ e clock sc is. strong_scope (setting_in s) e clock sc (thing_in s before) i k n (sym (thing_more s.accepted.now s.top path before (way.Strong i k n) split.0) ∙ is))

  pub weak_path : (i k n : ℕ) (scope : List Step) → (path ≡ before ++ way.Weak i k n ∷ []) × (length before + 1 ≡ length path) → scope ≡ before ++ way.State i k ∷ [] → IsScopeOfPath s path scope
  weak_path i k n scope split same = here scope (before ++ way.State i k ∷ []) same
      (λ e clock sc is. thing_more s.accepted.now s.top _ before (way.State i k) refl ∙
      weak_scope (setting_in s) e clock sc (thing_in s before) i k n (sym (thing_more s.accepted.now s.top path before (way.Weak i k n) split.0) ∙ is))
