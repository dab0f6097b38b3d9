-- The resets by which an expression may be undefined, form by form.
use Rattle.std.proofs.Common.{◌≡◌, true, false, ◌||◌, List, [], ◌∷◌, ◌++◌, refl, sym, ap, ◌∙◌, append-nil}
use Rattle.std.proofs.lemmas.Bool.{false≢true}
use Rattle.hept_ast.specs.Texts.{Name}
use Rattle.hept_ast.specs.Initial.{grade}
use Rattle.hept_ast.specs.declared.tree.Expr.{Expr}
use Rattle.hept_ast.specs.declared.tree.MergeBranch.{MergeBranch}
use Rattle.hept_ast.specs.declared.tree.Tag.{Tag}
use Rattle.hept_ast.specs.declared.tree.UnaryOp.{UnaryOp}
use Rattle.hept_ast.specs.declared.tree.BinaryOp.{BinaryOp}
use Rattle.hept_ast.specs.declared.tree.Form.{Form, out-Form, roll-Form}
use Rattle.hept_ast.specs.declared.tree.Form.TheOpen.{Form-F}
use Rattle.hept_ast.specs.declared.tree.Form.TheViews.{roll-out-Form}
use Rattle.hept_ast.specs.declared.tree.Form.TheVariants as form
use Rattle.hept_ast.proofs.Unfolded.{static}
use Rattle.hept_ast.proofs.FormsOf.{grade-Var, grade-Unary, grade-Binary, grade-If, grade-Fby, grade-Pre, grade-Arrow, grade-When, grade-Get}
use Rattle.sound_expressions.proofs.Forms.{EachOperand, by_operands}
use Rattle.sound_expressions.proofs.Lists.{or_left, or_right}
use Rattle.core_facts.specs.Undefined.{Grades, is_some_list, lists_of, lists_row, may}

module _ (g : Grades) (rs : List Name) where
  abbrev pub lists_view : Form-F Form Expr MergeBranch → List (List Name)
  lists_view (Form-F.Var x) = g x
  lists_view (Form-F.Unary op a) = lists_of g rs a.form
  lists_view (Form-F.Binary op a b) = lists_of g rs a.form ++ lists_of g rs b.form
  lists_view (Form-F.If c a b) = lists_of g rs c.form ++ lists_of g rs a.form ++ lists_of g rs b.form
  lists_view (Form-F.Fby a b) = lists_of g rs a.form
  lists_view (Form-F.Pre a) = rs ∷ []
  lists_view (Form-F.Arrow a b) = lists_of g rs a.form
  lists_view (Form-F.When a tag x) = lists_of g rs a.form
  lists_view (Form-F.Get a) = lists_of g rs a.form
  lists_view _ = []

  lists-Unary : (op : UnaryOp) (a : Expr) → lists_of g rs (form.Unary op a) ≡ lists_of g rs a.form
  unfolding static lists_of lists_row
  lists-Unary op a = append-nil (lists_of g rs a.form)

  lists-Binary : (op : BinaryOp) (a b : Expr) → lists_of g rs (form.Binary op a b) ≡ lists_of g rs a.form ++ lists_of g rs b.form
  unfolding static lists_of lists_row
  lists-Binary op a b = ap (λ (l : List (List Name)). l ++ (lists_of g rs b.form ++ [])) (append-nil (lists_of g rs a.form)) ∙ ap (λ (l : List (List Name)). lists_of g rs a.form ++ l) (append-nil (lists_of g rs b.form))

  lists-If : (c a b : Expr) → lists_of g rs (form.If c a b) ≡ lists_of g rs c.form ++ lists_of g rs a.form ++ lists_of g rs b.form
  unfolding static lists_of lists_row
  lists-If c a b = simp append-nil refl

  lists-Fby : (a b : Expr) → lists_of g rs (form.Fby a b) ≡ lists_of g rs a.form
  unfolding static lists_of lists_row
  lists-Fby a b = append-nil (lists_of g rs a.form)

  lists-Arrow : (a b : Expr) → lists_of g rs (form.Arrow a b) ≡ lists_of g rs a.form
  unfolding static lists_of lists_row
  lists-Arrow a b = append-nil (lists_of g rs a.form)

  lists-When : (a : Expr) (tag : Tag) (x : Name) → lists_of g rs (form.When a tag x) ≡ lists_of g rs a.form
  unfolding static lists_of lists_row
  lists-When a tag x = append-nil (lists_of g rs a.form)

  lists-Get : (a : Expr) → lists_of g rs (form.Get a) ≡ lists_of g rs a.form
  unfolding static lists_of lists_row
  lists-Get a = append-nil (lists_of g rs a.form)

  pub rolled : (v : Form-F Form Expr MergeBranch) → lists_of g rs (roll-Form v) ≡ lists_view v
  unfolding static lists_of lists_row
  rolled (Form-F.Const k) = ap (lists_of g rs) (form.rolls-Const k)
  rolled (Form-F.Var x) = ap (lists_of g rs) (form.rolls-Var x)
  rolled (Form-F.Last x) = ap (lists_of g rs) (form.rolls-Last x)
  rolled (Form-F.Unary op a) = ap (lists_of g rs) (form.rolls-Unary op a) ∙ lists-Unary op a
  rolled (Form-F.Binary op a b) = ap (lists_of g rs) (form.rolls-Binary op a b) ∙ lists-Binary op a b
  rolled (Form-F.If c a b) = ap (lists_of g rs) (form.rolls-If c a b) ∙ lists-If c a b
  rolled (Form-F.Fby a b) = ap (lists_of g rs) (form.rolls-Fby a b) ∙ lists-Fby a b
  rolled (Form-F.Pre a) = ap (lists_of g rs) (form.rolls-Pre a)
  rolled (Form-F.Arrow a b) = ap (lists_of g rs) (form.rolls-Arrow a b) ∙ lists-Arrow a b
  rolled (Form-F.When a tag x) = ap (lists_of g rs) (form.rolls-When a tag x) ∙ lists-When a tag x
  rolled (Form-F.Merge x bs) = ap (lists_of g rs) (form.rolls-Merge x bs)
  rolled (Form-F.Call f args) = ap (lists_of g rs) (form.rolls-Call f args)
  rolled (Form-F.AsyncCall q f args) = ap (lists_of g rs) (form.rolls-AsyncCall q f args)
  rolled (Form-F.AsyncConst k) = ap (lists_of g rs) (form.rolls-AsyncConst k)
  rolled (Form-F.Get a) = ap (lists_of g rs) (form.rolls-Get a) ∙ lists-Get a

  pub lists_is : (f : Form) (v : Form-F Form Expr MergeBranch) → out-Form f ≡ v → lists_of g rs f ≡ lists_view v
  lists_is f v e = ap (lists_of g rs) (sym (roll-out-Form f)) ∙ rolled (out-Form f) ∙ ap lists_view e

no_list : (n : List (List Name)) → is_some_list n ≡ false → n ≡ []
no_list [] h = refl
no_list (l ∷ ls) h = absurd (false≢true (sym h))

-- what is never undefined is so by no resets
module _ (g : Grades) (rs : List Name) where
  abbrev NoneHere : Expr → Type 0
  NoneHere e = grade (may g) e.form ≡ false → lists_of g rs e.form ≡ []

  pub none_var : (x : Name) → may g x ≡ false → g x ≡ []
  none_var x h = no_list (g x) h

  both_none : (xs ys : List (List Name)) → xs ≡ [] → ys ≡ [] → xs ++ ys ≡ []
  both_none xs ys e f = ap (λ (l : List (List Name)). l ++ ys) e ∙ f

  no_pre : {P : Type 0} → true ≡ false → P
  no_pre h = absurd (false≢true (sym h))

  none_view : (v : Form-F Form Expr MergeBranch) → EachOperand NoneHere v → grade (may g) (roll-Form v) ≡ false → lists_view g rs v ≡ []
  none_view (Form-F.Const k) h e = refl
  none_view (Form-F.Var x) h e = none_var x (sym (ap (grade (may g)) (form.rolls-Var x) ∙ grade-Var (may g) x) ∙ e)
  none_view (Form-F.Last x) h e = refl
  none_view (Form-F.Unary op a) h e = h (sym (ap (grade (may g)) (form.rolls-Unary op a) ∙ grade-Unary (may g) op a) ∙ e)
  none_view (Form-F.Binary op a b) h e =
      let f = sym (ap (grade (may g)) (form.rolls-Binary op a b) ∙ grade-Binary (may g) op a b) ∙ e in
      both_none _ _ (h.0 (or_left (grade (may g) a.form) _ f)) (h.1 (or_right (grade (may g) a.form) _ f))
  none_view (Form-F.If c a b) h e =
      let f = sym (ap (grade (may g)) (form.rolls-If c a b) ∙ grade-If (may g) c a b) ∙ e in
      let k = or_left (grade (may g) c.form || grade (may g) a.form) _ f in
      both_none _ _ (both_none _ _ (h.0 (or_left (grade (may g) c.form) _ k)) (h.1 (or_right (grade (may g) c.form) _ k))) (h.2 (or_right (grade (may g) c.form || grade (may g) a.form) _ f))
  none_view (Form-F.Fby a b) h e = h.0 (sym (ap (grade (may g)) (form.rolls-Fby a b) ∙ grade-Fby (may g) a b) ∙ e)
  none_view (Form-F.Pre a) h e = no_pre (sym (ap (grade (may g)) (form.rolls-Pre a) ∙ grade-Pre (may g) a) ∙ e)
  none_view (Form-F.Arrow a b) h e = h.0 (sym (ap (grade (may g)) (form.rolls-Arrow a b) ∙ grade-Arrow (may g) a b) ∙ e)
  none_view (Form-F.When a tag x) h e = h (sym (ap (grade (may g)) (form.rolls-When a tag x) ∙ grade-When (may g) a tag x) ∙ e)
  none_view (Form-F.Merge x bs) h e = refl
  none_view (Form-F.Call f args) h e = refl
  none_view (Form-F.AsyncCall q f args) h e = refl
  none_view (Form-F.AsyncConst k) h e = refl
  none_view (Form-F.Get a) h e = h (sym (ap (grade (may g)) (form.rolls-Get a) ∙ grade-Get (may g) a) ∙ e)

  pub none_of : (e : Expr) → NoneHere e
  none_of e = by_operands NoneHere (λ v p h f. rolled g rs v ∙ none_view v h f) e
