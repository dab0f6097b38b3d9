-- One lemma for each memory operator.
use Rattle.std.proofs.Common.{◌≡◌, ℕ, true, suc, ◌+◌, List, [], ◌∷◌, length, Some, sym, subst, ap, arith}
use Rattle.std.specs.Prelude.{slice_get, slice_index}
use Rattle.hept_ast.specs.Texts.{Name, const_value, is_in, place_in}
use Rattle.hept_ast.specs.Scopes.{Clock, Scope}
use Rattle.hept_ast.specs.declared.tree.TypeDec.{TypeDec}
use Rattle.hept_ast.specs.declared.tree.Const.{Const}
use Rattle.hept_ast.specs.declared.tree.Expr.{Expr}
use Rattle.hept_ast.specs.declared.tree.Form.{out-Form}
use Rattle.hept_ast.specs.declared.tree.Form.TheOpen.{Form-F}
use Rattle.hept_ast.specs.declared.tree.Form.TheVariants as form
use Rattle.step_plans.specs.Things.{Seen, Left, Value_of, Presence_of}
use Rattle.step_plans.specs.Plans.{Ground, left, seen, fby_constant, pre, fby_variable, reads_left, reads_seen, arrow}
use Rattle.step_plans.specs.declared.instruction.Instruction.TheVariants as does
use Rattle.step_plans.proofs.FormsOut.{const_form, fby_form, var_form}
use Rattle.plan_expressions.specs.Building.{IsAdded, KnowsMore}
use Rattle.plan_expressions.specs.Clocked.{EmitsOn}
use Rattle.plan_expressions.specs.Computable.{Computable}
use Rattle.plan_expressions.specs.Grounded.{variable}
use Rattle.plan_expressions.specs.declared.draft.Draft.{Draft}
use Rattle.plan_expressions.proofs.Adding.{adds, adds_thing, knows_same, knows_on}
use Rattle.plan_expressions.proofs.Emitting.{emit_variable}
use Rattle.plan_expressions.proofs.Presences.{supplied_later}
use Rattle.plan_equations.specs.Grounds.{fby_memories, right_memories}
use Rattle.plan_equations.specs.Rights.{EmitsRight, HasCells}
use Rattle.plan_equations.proofs.FormsMore.{pre_form, arrow_form}
use Rattle.plan_equations.proofs.RightOperands.{grounded_arrow, grounded_expression}

-- the cells of a form
has_cells : (types : List TypeDec) (g : Ground) (cell : ℕ) (e : Expr) (f : _) (c : Clock) (s : Scope) → out-Form e.form ≡ f → HasCells g cell (right_memories types (out-Form e.form) c s) → HasCells g cell (right_memories types f c s)
has_cells types g cell e f c s is h = subst (λ (x : _). HasCells g cell (right_memories types x c s)) is h

module _ (types : List TypeDec) (variables : List Name) (registers presences : List ℕ) (cell : ℕ) where
  pub right_constant : (old new : Draft) (e a d : Expr) (k : Const) (r : ℕ) → e.form ≡ form.Fby a d → a.form ≡ form.Const k → IsAdded old new (does.Read cell) r → EmitsRight types variables registers presences cell old new e r
  right_constant old new e a d k r is start_is added g node b s c h start before same quiet cells leads here given ground =
      let own = has_cells types g cell e (Form-F.Fby a d) c s (fby_form e a d is) cells in
      let kept : HasCells g cell (Value_of d c s (const_value types k) ∷ []) = subst (λ (x : _). HasCells g cell (fby_memories types x d c s)) (const_form a k start_is) own in
      adds g start before before old old new e c s h (does.Read cell) r added leads (knows_same before) (omega arith) here
      (fby_constant a d k (fby_form e a d is) (const_form a k start_is) (ap (λ (ts : List TypeDec). const_value ts k) (sym same)) (left quiet kept.0))

  pub right_previous : (old new : Draft) (e a : Expr) (r : ℕ) → e.form ≡ form.Pre a → IsAdded old new (does.Read cell) r → EmitsRight types variables registers presences cell old new e r
  right_previous old new e a r is added g node b s c h start before same quiet cells leads here given ground =
      let kept = has_cells types g cell e (Form-F.Pre a) c s (pre_form e a is) cells in
      adds g start before before old old new e c s h (does.Read cell) r added leads (knows_same before) (omega arith) here (pre a (pre_form e a is) (left quiet kept.0))

  pub right_started : (old one two new : Draft) (e a d : Expr) (x : Name) (rs rl ra r : ℕ) → e.form ≡ form.Fby a d → a.form ≡ form.Var x → is_in x variables ≡ true → ra ≡ slice_index registers (place_in x variables) →
      IsAdded old one (does.Read (cell + 1)) rs → IsAdded one two (does.Read cell) rl → IsAdded two new (does.Select rs 1 rl ra) r → EmitsRight types variables registers presences cell old new e r
  right_started old one two new e a d x rs rl ra r is start_is among at added_seen added_left added g node b s c h start before same quiet cells leads here given ground =
      let own = has_cells types g cell e (Form-F.Fby a d) c s (fby_form e a d is) cells in
      let kept : HasCells g cell (Value_of d c s 0 ∷ Presence_of c s ∷ []) = subst (λ (f : _). HasCells g cell (fby_memories types f d c s)) (var_form a x start_is) own in
      let next : suc cell ≡ cell + 1 = omega arith in
      let presence : slice_get g.memories (cell + 1) ≡ Some (Presence_of c s) = subst (λ (k : ℕ). slice_get g.memories k ≡ Some (Presence_of c s)) next kept.1.0 in
      let u = adds_thing g start before before old old one (Seen c s) (does.Read (cell + 1)) rs added_seen leads (knows_same before) (omega arith) (reads_seen c s (seen quiet presence)) in
      let v = adds_thing g start u.after u.after one one two (Left d c s 0) (does.Read cell) rl added_left u.leads (knows_same u.after) (omega arith) (reads_left d c s 0 (left quiet kept.0)) in
      let both : KnowsMore before v.after = knows_on before u.after v.after u.more v.more in
      let y = emit_variable types variables registers presences two a x ra start_is among at g node b s c h start v.after same v.leads (both.grows _ h here)
      (supplied_later before v.after b s c variables registers presences old.at two.at (omega (arith, u.longer, v.longer)) both given) (variable x start_is) in
      adds g start before y.after old two new e c s h (does.Select rs 1 rl ra) r added y.leads (knows_on before v.after y.after both y.more) (omega (arith, u.longer, v.longer)) here
      (fby_variable a d (fby_form e a d is) (y.more.grows _ _ (v.more.grows _ _ u.has)) (y.more.grows _ _ v.has) y.has)

  pub right_arrow : (old one two mid new : Draft) (e a d : Expr) (rs ra rd r : ℕ) → e.form ≡ form.Arrow a d → IsAdded old one (does.Read cell) rs → EmitsOn types variables registers presences one two a ra →
      EmitsOn types variables registers presences two mid d rd → IsAdded mid new (does.Select rs 1 rd ra) r → EmitsRight types variables registers presences cell old new e r
  right_arrow old one two mid new e a d rs ra rd r is added_seen of_a of_d added g node b s c h start before same quiet cells leads here given ground =
      let kept = has_cells types g cell e (Form-F.Arrow a d) c s (arrow_form e a d is) cells in
      let grounds = grounded_arrow types variables (length presences) g node b s c e a d is ground in
      let u = adds_thing g start before before old old one (Seen c s) (does.Read cell) rs added_seen leads (knows_same before) (omega arith) (reads_seen c s (seen quiet kept.0)) in
      let x = of_a g node b s c h start u.after same u.leads (u.more.grows _ h here) (supplied_later before u.after b s c variables registers presences old.at one.at u.longer u.more given) grounds.0 in
      let both : KnowsMore before x.after = knows_on before u.after x.after u.more x.more in
      let y = of_d g node b s c h start x.after same x.leads (both.grows _ h here) (supplied_later before x.after b s c variables registers presences old.at two.at (omega (arith, u.longer, x.longer)) both given) grounds.1 in
      adds g start before y.after old mid new e c s h (does.Select rs 1 rd ra) r added y.leads (knows_on before x.after y.after both y.more) (omega (arith, u.longer, x.longer, y.longer)) here
      (arrow a d (arrow_form e a d is) (y.more.grows _ _ (x.more.grows _ _ u.has)) y.has (y.more.grows _ _ x.has))

  pub right_expression : (old new : Draft) (e : Expr) (r : ℕ) → Computable types variables (length presences) e → EmitsOn types variables registers presences old new e r → EmitsRight types variables registers presences cell old new e r
  right_expression old new e r computable emits g node b s c h start before same quiet cells leads here given ground =
      emits g node b s c h start before same leads here given (grounded_expression types variables (length presences) g node b s c e computable ground)
