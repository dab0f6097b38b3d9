-- Erasure keeps the grade of an expression.
use Rattle.std.proofs.Common.{◌≡◌, Bool, true, false, ◌||◌, List, [], ◌∷◌, map, refl, sym, ap, subst, ◌∙◌}
use Rattle.std.specs.List.{list_any}
use Rattle.hept_ast.specs.Initial.{Grades, grade}
use Rattle.hept_ast.specs.Erasure.{erased_expr, erased_branch}
use Rattle.hept_ast.specs.declared.name.Place.{Place}
use Rattle.hept_ast.specs.declared.tree.Expr.{Expr, ind-Expr}
use Rattle.hept_ast.specs.declared.tree.MergeBranch.{MergeBranch}
use Rattle.hept_ast.specs.declared.tree.Form.{Form, roll-Form, map-Form}
use Rattle.hept_ast.specs.declared.tree.Form.TheOpen.{Form-F, Expr-F, MergeBranch-F}
use Rattle.hept_ast.specs.declared.tree.Form.TheViews.{out-roll-Form, roll-Expr, roll-MergeBranch}
use Rattle.hept_ast.specs.declared.tree.Form.TheVariants as form
use Rattle.hept_ast.proofs.ErasedViews.{erased_view, erased_is}
use Rattle.hept_ast.proofs.FormsOf.{grade-Const, grade-Var, grade-Last, grade-Unary, grade-Binary, grade-If, grade-Fby, grade-Pre, grade-Arrow, grade-When, grade-Merge, grade-Call, grade-AsyncCall, grade-AsyncConst, grade-Get}

abbrev grade_view : Grades → Form-F Form Expr MergeBranch → Bool
grade_view g (Form-F.Const k) = false
grade_view g (Form-F.Var x) = g x
grade_view g (Form-F.Last x) = false
grade_view g (Form-F.Unary op a) = grade g a.form
grade_view g (Form-F.Binary op a b) = grade g a.form || grade g b.form
grade_view g (Form-F.If c a b) = grade g c.form || grade g a.form || grade g b.form
grade_view g (Form-F.Fby a b) = grade g a.form
grade_view g (Form-F.Pre a) = true
grade_view g (Form-F.Arrow a b) = grade g a.form
grade_view g (Form-F.When a tag x) = grade g a.form
grade_view g (Form-F.Merge x bs) = list_any (λ b. grade g b.value.form) bs
grade_view g (Form-F.Call f args) = false
grade_view g (Form-F.AsyncCall q f args) = false
grade_view g (Form-F.AsyncConst k) = false
grade_view g (Form-F.Get a) = grade g a.form

rolled : (g : Grades) (v : Form-F Form Expr MergeBranch) → grade g (roll-Form v) ≡ grade_view g v
rolled g (Form-F.Const k) = ap (grade g) (form.rolls-Const k) ∙ grade-Const g k
rolled g (Form-F.Var x) = ap (grade g) (form.rolls-Var x) ∙ grade-Var g x
rolled g (Form-F.Last x) = ap (grade g) (form.rolls-Last x) ∙ grade-Last g x
rolled g (Form-F.Unary op a) = ap (grade g) (form.rolls-Unary op a) ∙ grade-Unary g op a
rolled g (Form-F.Binary op a b) = ap (grade g) (form.rolls-Binary op a b) ∙ grade-Binary g op a b
rolled g (Form-F.If c a b) = ap (grade g) (form.rolls-If c a b) ∙ grade-If g c a b
rolled g (Form-F.Fby a b) = ap (grade g) (form.rolls-Fby a b) ∙ grade-Fby g a b
rolled g (Form-F.Pre a) = ap (grade g) (form.rolls-Pre a) ∙ grade-Pre g a
rolled g (Form-F.Arrow a b) = ap (grade g) (form.rolls-Arrow a b) ∙ grade-Arrow g a b
rolled g (Form-F.When a tag x) = ap (grade g) (form.rolls-When a tag x) ∙ grade-When g a tag x
rolled g (Form-F.Merge x bs) = ap (grade g) (form.rolls-Merge x bs) ∙ grade-Merge g x bs
rolled g (Form-F.Call f args) = ap (grade g) (form.rolls-Call f args) ∙ grade-Call g f args
rolled g (Form-F.AsyncCall q f args) = ap (grade g) (form.rolls-AsyncCall q f args) ∙ grade-AsyncCall g q f args
rolled g (Form-F.AsyncConst k) = ap (grade g) (form.rolls-AsyncConst k) ∙ grade-AsyncConst g k
rolled g (Form-F.Get a) = ap (grade g) (form.rolls-Get a) ∙ grade-Get g a

abbrev Kept : Grades → Expr → Type 0
Kept g e = grade g (erased_expr e).form ≡ grade g e.form

branches_kept : {S : Type 0} (g : Grades) (b0 : S → MergeBranch) → ((x : S) → Kept g (b0 x).value) → (xs : List S) →
    list_any (λ b. grade g b.value.form) (map erased_branch (map b0 xs)) ≡ list_any (λ b. grade g b.value.form) (map b0 xs)
branches_kept g b0 h [] = refl
branches_kept g b0 h (x ∷ xs) = let e = h x in let t = branches_kept g b0 h xs in cc

module _ (g : Grades) {SF SE SB : Type 0} (f0 : SF → Form) (e0 : SE → Expr) (b0 : SB → MergeBranch) (eh : (x : SE) → Kept g (e0 x)) (bh : (x : SB) → Kept g (b0 x).value) where
  view_kept : (y : Form-F SF SE SB) (p : Place) → grade g (erased_view (map-Form SF SE SB Form Expr MergeBranch f0 e0 b0 y) p).form ≡ grade_view g (map-Form SF SE SB Form Expr MergeBranch f0 e0 b0 y)
  view_kept (Form-F.Const k) p = grade-Const g k
  view_kept (Form-F.Var x) p = grade-Var g x
  view_kept (Form-F.Last x) p = grade-Last g x
  view_kept (Form-F.Unary op a) p = grade-Unary g op (erased_expr (e0 a)) ∙ eh a
  view_kept (Form-F.Binary op a b) p = let h = eh a in let k = eh b in let r = grade-Binary g op (erased_expr (e0 a)) (erased_expr (e0 b)) in cc
  view_kept (Form-F.If c a b) p = let i = eh c in let h = eh a in let k = eh b in let r = grade-If g (erased_expr (e0 c)) (erased_expr (e0 a)) (erased_expr (e0 b)) in cc
  view_kept (Form-F.Fby a b) p = grade-Fby g (erased_expr (e0 a)) (erased_expr (e0 b)) ∙ eh a
  view_kept (Form-F.Pre a) p = grade-Pre g (erased_expr (e0 a))
  view_kept (Form-F.Arrow a b) p = grade-Arrow g (erased_expr (e0 a)) (erased_expr (e0 b)) ∙ eh a
  view_kept (Form-F.When a tag x) p = grade-When g (erased_expr (e0 a)) tag x ∙ eh a
  view_kept (Form-F.Merge x bs) p = grade-Merge g x (map erased_branch (map b0 bs)) ∙ branches_kept g b0 bh bs
  view_kept (Form-F.Call f args) p = grade-Call g f (map erased_expr (map e0 args))
  view_kept (Form-F.AsyncCall q f args) p = grade-Call g f (map erased_expr (map e0 args))
  view_kept (Form-F.AsyncConst k) p = grade-Const g k
  view_kept (Form-F.Get a) p = eh a

  form_kept : (y : Form-F SF SE SB) (p : Place) → Kept g (record { place = p; form = roll-Form (map-Form SF SE SB Form Expr MergeBranch f0 e0 b0 y) })
  form_kept y p =
      let v : Form-F Form Expr MergeBranch = map-Form SF SE SB Form Expr MergeBranch f0 e0 b0 y in
      ap (λ (x : Expr). grade g x.form) (erased_is (record { place = p; form = roll-Form v }))
      ∙ ap (λ (f : Form-F Form Expr MergeBranch). grade g (erased_view f p).form) (out-roll-Form v)
      ∙ view_kept y p ∙ sym (rolled g v)

pub grade_kept : (g : Grades) (e : Expr) → Kept g e
grade_kept g e = ind-Expr (λ f. (p : Place) → Kept g (record { place = p; form = f })) (Kept g) (λ b. Kept g b.value)
    (λ x y is. subst (λ (z : Form-F Form Expr MergeBranch). (p : Place) → Kept g (record { place = p; form = roll-Form z })) is (form_kept g (λ s. s.0) (λ s. s.0) (λ s. s.0) (λ s. s.1) (λ s. s.1) y))
    (λ x y is. subst (λ (z : Expr-F Form Expr MergeBranch). Kept g (roll-Expr z)) is (y.form.1 y.place))
    (λ x y is. subst (λ (z : MergeBranch-F Form Expr MergeBranch). Kept g (roll-MergeBranch z).value) is y.value.1) e
