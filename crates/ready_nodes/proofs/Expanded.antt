-- What holds of each body of the core's expanded text holds of each body of a node's.
use Rattle.std.proofs.Common.{◌≡◌, ℕ, zero, suc, List, [], ◌∷◌, Option, refl, sym, subst, ap, ◌∙◌}
use Rattle.std.specs.Prelude.{All, Contains, option_map}
use Rattle.std.proofs.lemmas.List.Elements.{All-cons, All-nil}
use Rattle.hept_ast.specs.Texts.{Name}
use Rattle.hept_ast.specs.Scopes.{Clock, Scope, Text, Lowered}
use Rattle.hept_ast.specs.declared.tree.Core.{Core}
use Rattle.hept_ast.specs.declared.tree.CoreNode.{CoreNode}
use Rattle.hept_ast.specs.declared.tree.CoreEquation.{CoreEquation}
use Rattle.hept_ast.specs.declared.tree.Expr.{Expr}
use Rattle.hept_ast.specs.declared.tree.MergeBranch.{MergeBranch}
use Rattle.hept_ast.specs.declared.tree.Ty.{Ty}
use Rattle.hept_ast.specs.declared.tree.Form.{Form, out-Form}
use Rattle.hept_ast.specs.declared.tree.Form.TheOpen.{Form-F}
use Rattle.core_fitting.specs.Sound.{Sound, SoundCall, SoundNode, SoundRight, Within, async, is_arrow, is_async_constant, is_binary, is_call, is_constant, is_fby, is_get, is_if, is_merge, is_pre, is_result, is_unary, is_variable, is_when, one_name, results_of, sync, within}
use Rattle.core_fitting.specs.Holding.{IsBody, Run, called_body}
use Rattle.core_fitting.specs.Laws.{IsFitRun}
use Rattle.core_fitting.proofs.StaticSound.{all_by, as_contains}
use Rattle.step_plans.specs.Memories.{nodes_of}
use Rattle.plan_equations.specs.Grounds.{Body, bodies, call_scope, called_bodies, form_bodies, text_bodies}
use Rattle.ready_nodes.proofs.Elements.{all_flat}

-- ---- a right side that is a call

module _ (core : Core) (k : Within) (rs : List Name) (x : Expr) (f : Name) (args : List Expr) (is : out-Form x.form ≡ Form-F.Call f args) where
  other : {P : Type 0} (v : Form-F Form Expr MergeBranch) → out-Form x.form ≡ v → (Form-F.Call f args ≡ v → ⊥) → P
  other v eq differ = absurd (differ (sym is ∙ eq))

  pub as_call : (c : Clock) (y : Ty) (n : List (List Name)) → Sound core k rs x c y n → SoundCall core k rs x c (y ∷ [])
  as_call c _ _ (is_constant {v = v} eq known fits) = other _ eq (λ e. cc)
  as_call c _ _ (is_async_constant {v = v} eq known fits) = other _ eq (λ e. cc)
  as_call c _ _ (is_variable {x = z} eq sees) = other _ eq (λ e. cc)
  as_call c y n (is_unary {a = a} eq sound fit) = other _ eq (λ e. cc)
  as_call c y _ (is_binary {a = a} {b = b} eq left right fit) = other _ eq (λ e. cc)
  as_call c y _ (is_if {i = i} {a = a} {b = b} eq test left right) = other _ eq (λ e. cc)
  as_call c y n (is_fby {a = a} {b = b} eq left right) = other _ eq (λ e. cc)
  as_call c y _ (is_pre {a = a} eq sound) = other _ eq (λ e. cc)
  as_call c y n (is_arrow {a = a} {b = b} eq left right inside) = other _ eq (λ e. cc)
  as_call _ y n (is_when {a = a} eq sees defined sound) = other _ eq (λ e. cc)
  as_call c y _ (is_merge {bs = bs} eq sees defined tagged every sound) = other _ eq (λ e. cc)
  as_call c y _ (is_result call) = call
  as_call c _ n (is_get {a = a} eq sound) = other _ eq (λ e. cc)

pub call_of : (core : Core) (k : Within) (e : CoreEquation) (f : Name) (args : List Expr) → out-Form e.right.form ≡ Form-F.Call f args → SoundRight core k e → (ts : List Ty) × SoundCall core k e.resets e.right e.clock.steps ts
call_of core k e f args is (one_name {d = d} {n = n} left sees sound allows) = (d.ty ∷ [], as_call core k e.resets e.right f args is e.clock.steps d.ty n sound)
call_of core k e f args is (results_of {ts = ts} many call left) = (ts, call)

-- only a call leads to bodies
pub by_form : (P : Body → Type 0) (go : CoreNode → Scope → List Body) (nodes : Name → Option Text) (b : Scope) (e : CoreEquation) (v : Form-F Form Expr MergeBranch) →
    ((f : Name) (args : List Expr) → v ≡ Form-F.Call f args → All P (form_bodies go nodes b e v)) → All P (form_bodies go nodes b e v)
by_form P go nodes b e (Form-F.Const k) h = All-nil P
by_form P go nodes b e (Form-F.Var x) h = All-nil P
by_form P go nodes b e (Form-F.Last x) h = All-nil P
by_form P go nodes b e (Form-F.Unary op a) h = All-nil P
by_form P go nodes b e (Form-F.Binary op a d) h = All-nil P
by_form P go nodes b e (Form-F.If i a d) h = All-nil P
by_form P go nodes b e (Form-F.Fby a d) h = All-nil P
by_form P go nodes b e (Form-F.Pre a) h = All-nil P
by_form P go nodes b e (Form-F.Arrow a d) h = All-nil P
by_form P go nodes b e (Form-F.When a tag x) h = All-nil P
by_form P go nodes b e (Form-F.Merge x bs) h = All-nil P
by_form P go nodes b e (Form-F.Call f args) h = h f args refl
by_form P go nodes b e (Form-F.AsyncCall q f args) h = All-nil P
by_form P go nodes b e (Form-F.AsyncConst k) h = All-nil P
by_form P go nodes b e (Form-F.Get a) h = All-nil P

-- ---- all bodies

module _ (r : Run) (chosen : Within) (fit : IsFitRun r chosen) (P : Body → Type 0) (each : (k : Within) (b : Scope) → IsBody r chosen k b → SoundNode r.core k → P (record { node = k.node; scope = b })) where
  abbrev pub Deeper : ℕ → Type 0
  Deeper d = (k : Within) (b : Scope) → IsBody r chosen k b → SoundNode r.core k → All P (bodies r.core d k.node b)

  module _ (d : ℕ) (deeper : Deeper d) (k : Within) (b : Scope) (body : IsBody r chosen k b) (sound : SoundNode r.core k) (e : CoreEquation) (there : Contains k.node.equations e) where
    of_call : (f : Name) (args : List Expr) (ts : List Ty) → out-Form e.right.form ≡ Form-F.Call f args → SoundCall r.core k e.resets e.right e.clock.steps ts → All P (called_bodies (bodies r.core d) (nodes_of r.core) b e)
    of_call f args _ is (is_call {f = g} {args = passed} {g = callee} (sync eq) named leads stands fits same) =
        subst (λ (v : Form-F Form Expr MergeBranch). All P (form_bodies (bodies r.core d) (nodes_of r.core) b e v)) (sym eq)
        (subst (λ (o : Option Text). All P (text_bodies (bodies r.core d) b e passed o)) (sym (ap (option_map Lowered) named))
        (deeper (within g callee (fit.sound.nodes g callee named).0) (call_scope b e passed callee)
        (called_body body there (sound.equations e there).clock (sync eq) named leads stands fits (fit.sound.nodes g callee named).1) (fit.sound.nodes g callee named).1))
    of_call f args _ is (is_call {f = g} {args = passed} (async {q = q} eq) named leads stands fits same) = absurd (let clash : Form-F.Call f args ≡ Form-F.AsyncCall q g passed = sym is ∙ eq in cc)

    pub below_equation : All P (called_bodies (bodies r.core d) (nodes_of r.core) b e)
    below_equation = by_form P (bodies r.core d) (nodes_of r.core) b e (out-Form e.right.form)
        (λ f args is. let call = call_of r.core k e f args is (sound.equations e there).right in of_call f args call.0 is call.1)

  pub all_bodies : (d : ℕ) (k : Within) (b : Scope) → IsBody r chosen k b → SoundNode r.core k → All P (bodies r.core d k.node b)
  unfolding bodies
  all_bodies zero k b body sound = All-nil P
  all_bodies (suc d) k b body sound =
      All-cons P (record { node = k.node; scope = b }) _ (each k b body sound)
      (all_flat P (called_bodies (bodies r.core d) (nodes_of r.core) b) k.node.equations
      (all_by (λ e. All P (called_bodies (bodies r.core d) (nodes_of r.core) b e)) k.node.equations (λ e i. below_equation d (all_bodies d) k b body sound e (as_contains e k.node.equations i))))
