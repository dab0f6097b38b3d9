-- What the merges of a right side in normal form need of a ground that has its body.
use Rattle.std.proofs.Common.{◌≡◌, List, [], false, refl, sym, subst}
use Rattle.std.specs.Prelude.{All}
use Rattle.hept_ast.specs.Scopes.{Clock, Scope}
use Rattle.hept_ast.specs.Parts.{inside}
use Rattle.hept_ast.specs.declared.tree.Core.{Core}
use Rattle.hept_ast.specs.declared.tree.CoreNode.{CoreNode}
use Rattle.hept_ast.specs.declared.tree.Expr.{Expr}
use Rattle.hept_ast.specs.declared.tree.MergeBranch.{MergeBranch}
use Rattle.hept_ast.specs.declared.tree.Ty.{Ty}
use Rattle.hept_ast.specs.declared.tree.Form.{Form, out-Form}
use Rattle.hept_ast.specs.declared.tree.Form.TheOpen.{Form-F}
use Rattle.hept_ast.specs.declared.tree.Form.TheVariants as form
use Rattle.hept_ast.proofs.FormsOf.{below-Pre}
use Rattle.core_facts.specs.Undefined.{Grades, may}
use Rattle.core_naming.specs.Normal.{IsNormalRight, is_step}
use Rattle.served_programs.specs.Served.{is_served_form}
use Rattle.sound_expressions.specs.Sound.{Sound, Within, is_arrow, is_async_call, is_async_constant, is_binary, is_call, is_constant, is_fby, is_get, is_if, is_last, is_merge, is_pre, is_unary, is_variable, is_when}
use Rattle.core_fitting.proofs.StandIn.{program_within}
use Rattle.flat_cores.proofs.ServedForms.{HasServedForm, Served}
use Rattle.step_plans.specs.Plans.{Ground, IsBodyOf}
use Rattle.plan_expressions.specs.Grounded.{Grounded, constant, variable}
use Rattle.plan_equations.specs.Equations.{inside_of}
use Rattle.plan_equations.specs.Rights.{GroundedForm, GroundedRight}
use Rattle.buildable_cores.proofs.Computing.{all_below, not_served}
use Rattle.buildable_cores.proofs.RightSides.{HasBranches, Simple, a_constant, a_variable, arrow_parts, fby_parts, first_of, one_of, plain_operations, second_of, served_first, simple}
use Rattle.buildable_cores.proofs.Grounding.{HasMerge, grounded, grounded_parts}

module _ (core : Core) (node : CoreNode) (g : Grades) (q : Ground) (b : Scope) (body : IsBodyOf b node) where
  abbrev k : Within
  k = program_within core node (may g)

  abbrev Right_at : Clock → Expr → Type 0
  Right_at c e = GroundedRight q node b (inside_of b) c e

  simple_grounded : (a : Expr) (c : Clock) → Simple node a → Grounded q node b (inside_of b) c a
  simple_grounded a c (a_constant v is) = constant v is
  simple_grounded a c (a_variable x is read declared) = variable x is

  by_view : (e : Expr) (c : Clock) (v : Form-F Form Expr MergeBranch) → out-Form e.form ≡ v → GroundedForm q node b (inside_of b) c v e → Right_at c e
  by_view e c v eq h = subst (λ (w : Form-F Form Expr MergeBranch). GroundedForm q node b (inside_of b) c w e) (sym eq) h

  plain_grounded : (e : Expr) (c : Clock) (ts : List Ty) (v : Form-F Form Expr MergeBranch) → Sound k [] e c ts → out-Form e.form ≡ v → is_step v ≡ false → Served e → HasBranches e → IsNormalRight e → All (HasMerge q node b) (inside e) →
      Grounded q node b (inside_of b) c e
  plain_grounded e c ts v s eq step h m n all = grounded core node g q b body e c ts s (grounded_parts q node b (inside e) (plain_operations e v eq step h m n) all)

  refused : (e : Expr) (v : Form-F Form Expr MergeBranch) {P : Type 0} → out-Form e.form ≡ v → is_served_form v ≡ false → Served e → P
  refused e v eq n h = not_served e v eq n (served_first core node g e h)

  pub grounded_right : (e : Expr) (c : Clock) (ts : List Ty) → Sound k [] e c ts → Served e → HasBranches e → IsNormalRight e → All (HasMerge q node b) (inside e) → Right_at c e
  grounded_right e c ts (is_fby {a = a} {b = b} {vs = vs} eq s u fit never) h m n all =
      by_view e c (Form-F.Fby a b) eq (simple_grounded b c (simple core node g b c vs u (second_of core node g e a b (Form-F.Fby a b) eq refl refl n) (served_first core node g b (fby_parts core node g e a b eq h).1)))
  grounded_right e c ts (is_pre {a = a} {us = us} eq s fit never) h m n all =
      by_view e c (Form-F.Pre a) eq (simple_grounded a c (simple core node g a c us s (one_of core node g e a eq n) (served_first core node g a (all_below HasServedForm e (Form-F.Pre a) _ (inside a) eq (form.rolls-Pre a) (below-Pre a) h))))
  grounded_right e c ts (is_arrow {a = a} {b = b} {us = us} {vs = vs} eq s u fit) h m n all =
      let parts = arrow_parts core node g e a b eq h in
      by_view e c (Form-F.Arrow a b) eq (
        simple_grounded a c (simple core node g a c us s (first_of core node g e a b (Form-F.Arrow a b) eq refl refl n) (served_first core node g a parts.0)),
        simple_grounded b c (simple core node g b c vs u (second_of core node g e a b (Form-F.Arrow a b) eq refl refl n) (served_first core node g b parts.1)),
      )
  grounded_right e c _ (is_constant {v = v} eq type fits) h m n all = by_view e c (Form-F.Const v) eq (plain_grounded e c _ (Form-F.Const v) (is_constant eq type fits) eq refl h m n all)
  grounded_right e c _ (is_variable {x = x} eq sees) h m n all = by_view e c (Form-F.Var x) eq (plain_grounded e c _ (Form-F.Var x) (is_variable eq sees) eq refl h m n all)
  grounded_right e c ts (is_unary {a = a} {op = op} eq s fit) h m n all = by_view e c (Form-F.Unary op a) eq (plain_grounded e c ts (Form-F.Unary op a) (is_unary eq s fit) eq refl h m n all)
  grounded_right e c ts (is_binary {a = a} {b = b} {op = op} eq s u fit nonzero) h m n all = by_view e c (Form-F.Binary op a b) eq (plain_grounded e c ts (Form-F.Binary op a b) (is_binary eq s u fit nonzero) eq refl h m n all)
  grounded_right e c ts (is_if {i = i} {a = a} {b = b} eq t s u fit) h m n all = by_view e c (Form-F.If i a b) eq (plain_grounded e c ts (Form-F.If i a b) (is_if eq t s u fit) eq refl h m n all)
  grounded_right e _ ts (is_when {a = a} {tag = tag} {x = x} eq sees s tag_of tags fit never) h m n all = by_view e _ (Form-F.When a tag x) eq (plain_grounded e _ ts (Form-F.When a tag x) (is_when eq sees s tag_of tags fit never) eq refl h m n all)
  grounded_right e c ts (is_merge {x = x} {bs = bs} eq sees tags never values every fit) h m n all = by_view e c (Form-F.Merge x bs) eq (plain_grounded e c ts (Form-F.Merge x bs) (is_merge eq sees tags never values every fit) eq refl h m n all)
  grounded_right e c _ (is_async_constant {v = v} eq type fits) h m n all = refused e (Form-F.AsyncConst v) eq refl h
  grounded_right e c _ (is_last {x = x} eq sees init) h m n all = refused e (Form-F.Last x) eq refl h
  grounded_right e c ts (is_call {f = f} {args = args} eq named given fit leads made) h m n all = by_view e c (Form-F.Call f args) eq tt
  grounded_right e c ts (is_async_call {q = p} {f = f} {args = args} eq named given fit leads made) h m n all = refused e (Form-F.AsyncCall p f args) eq refl h
  grounded_right e c ts (is_get {a = a} eq s fit) h m n all = refused e (Form-F.Get a) eq refl h
