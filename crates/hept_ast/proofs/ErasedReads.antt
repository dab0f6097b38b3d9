-- Erasure keeps what an expression reads at its own instant.
use Rattle.std.proofs.Common.{◌≡◌, List, [], ◌∷◌, ◌++◌, map, refl, sym, ap, subst, ◌∙◌}
use Rattle.std.specs.List.{flat_map}
use Rattle.hept_ast.specs.Texts.{Name}
use Rattle.hept_ast.specs.Causal.{reads}
use Rattle.hept_ast.specs.Erasure.{erased_expr, erased_branch}
use Rattle.hept_ast.specs.declared.name.Place.{Place}
use Rattle.hept_ast.specs.declared.tree.Expr.{Expr, ind-Expr}
use Rattle.hept_ast.specs.declared.tree.MergeBranch.{MergeBranch}
use Rattle.hept_ast.specs.declared.tree.Form.{Form, roll-Form, map-Form}
use Rattle.hept_ast.specs.declared.tree.Form.TheOpen.{Form-F, Expr-F, MergeBranch-F}
use Rattle.hept_ast.specs.declared.tree.Form.TheViews.{out-roll-Form, roll-Expr, roll-MergeBranch}
use Rattle.hept_ast.specs.declared.tree.Form.TheVariants as form
use Rattle.hept_ast.proofs.ErasedViews.{erased_view, erased_is}
use Rattle.hept_ast.proofs.ReadsOf.{reads-Const, reads-Var, reads-Last, reads-Unary, reads-Binary, reads-If, reads-Fby, reads-Pre, reads-Arrow, reads-When, reads-Merge, reads-Call, reads-AsyncCall, reads-AsyncConst, reads-Get}

abbrev reads_view : Form-F Form Expr MergeBranch → List Name
reads_view (Form-F.Const k) = []
reads_view (Form-F.Var x) = x ∷ []
reads_view (Form-F.Last x) = []
reads_view (Form-F.Unary op a) = reads a.form
reads_view (Form-F.Binary op a b) = reads a.form ++ reads b.form
reads_view (Form-F.If c a b) = reads c.form ++ reads a.form ++ reads b.form
reads_view (Form-F.Fby a b) = reads a.form
reads_view (Form-F.Pre a) = []
reads_view (Form-F.Arrow a b) = reads a.form ++ reads b.form
reads_view (Form-F.When a tag x) = reads a.form ++ x ∷ []
reads_view (Form-F.Merge x bs) = x ∷ flat_map (λ b. reads b.value.form) bs
reads_view (Form-F.Call f args) = flat_map (λ e. reads e.form) args
reads_view (Form-F.AsyncCall q f args) = flat_map (λ e. reads e.form) args
reads_view (Form-F.AsyncConst k) = []
reads_view (Form-F.Get a) = reads a.form

rolled : (v : Form-F Form Expr MergeBranch) → reads (roll-Form v) ≡ reads_view v
rolled (Form-F.Const k) = ap reads (form.rolls-Const k) ∙ reads-Const k
rolled (Form-F.Var x) = ap reads (form.rolls-Var x) ∙ reads-Var x
rolled (Form-F.Last x) = ap reads (form.rolls-Last x) ∙ reads-Last x
rolled (Form-F.Unary op a) = ap reads (form.rolls-Unary op a) ∙ reads-Unary op a
rolled (Form-F.Binary op a b) = ap reads (form.rolls-Binary op a b) ∙ reads-Binary op a b
rolled (Form-F.If c a b) = ap reads (form.rolls-If c a b) ∙ reads-If c a b
rolled (Form-F.Fby a b) = ap reads (form.rolls-Fby a b) ∙ reads-Fby a b
rolled (Form-F.Pre a) = ap reads (form.rolls-Pre a) ∙ reads-Pre a
rolled (Form-F.Arrow a b) = ap reads (form.rolls-Arrow a b) ∙ reads-Arrow a b
rolled (Form-F.When a tag x) = ap reads (form.rolls-When a tag x) ∙ reads-When a tag x
rolled (Form-F.Merge x bs) = ap reads (form.rolls-Merge x bs) ∙ reads-Merge x bs
rolled (Form-F.Call f args) = ap reads (form.rolls-Call f args) ∙ reads-Call f args
rolled (Form-F.AsyncCall q f args) = ap reads (form.rolls-AsyncCall q f args) ∙ reads-AsyncCall q f args
rolled (Form-F.AsyncConst k) = ap reads (form.rolls-AsyncConst k) ∙ reads-AsyncConst k
rolled (Form-F.Get a) = ap reads (form.rolls-Get a) ∙ reads-Get a

abbrev Kept : Expr → Type 0
Kept e = reads (erased_expr e).form ≡ reads e.form

all_kept : {S : Type 0} (e0 : S → Expr) → ((x : S) → Kept (e0 x)) → (xs : List S) →
    flat_map (λ e. reads e.form) (map erased_expr (map e0 xs)) ≡ flat_map (λ e. reads e.form) (map e0 xs)
all_kept e0 h [] = refl
all_kept e0 h (x ∷ xs) = let e = h x in let t = all_kept e0 h xs in cc

branches_kept : {S : Type 0} (b0 : S → MergeBranch) → ((x : S) → Kept (b0 x).value) → (xs : List S) →
    flat_map (λ b. reads b.value.form) (map erased_branch (map b0 xs)) ≡ flat_map (λ b. reads b.value.form) (map b0 xs)
branches_kept b0 h [] = refl
branches_kept b0 h (x ∷ xs) = let e = h x in let t = branches_kept b0 h xs in cc

module _ {SF SE SB : Type 0} (f0 : SF → Form) (e0 : SE → Expr) (b0 : SB → MergeBranch) (eh : (x : SE) → Kept (e0 x)) (bh : (x : SB) → Kept (b0 x).value) where
  view_kept : (y : Form-F SF SE SB) (p : Place) → reads (erased_view (map-Form SF SE SB Form Expr MergeBranch f0 e0 b0 y) p).form ≡ reads_view (map-Form SF SE SB Form Expr MergeBranch f0 e0 b0 y)
  view_kept (Form-F.Const k) p = reads-Const k
  view_kept (Form-F.Var x) p = reads-Var x
  view_kept (Form-F.Last x) p = reads-Last x
  view_kept (Form-F.Unary op a) p = reads-Unary op (erased_expr (e0 a)) ∙ eh a
  view_kept (Form-F.Binary op a b) p = let h = eh a in let k = eh b in let r = reads-Binary op (erased_expr (e0 a)) (erased_expr (e0 b)) in cc
  view_kept (Form-F.If c a b) p = let g = eh c in let h = eh a in let k = eh b in let r = reads-If (erased_expr (e0 c)) (erased_expr (e0 a)) (erased_expr (e0 b)) in cc
  view_kept (Form-F.Fby a b) p = reads-Fby (erased_expr (e0 a)) (erased_expr (e0 b)) ∙ eh a
  view_kept (Form-F.Pre a) p = reads-Pre (erased_expr (e0 a))
  view_kept (Form-F.Arrow a b) p = let h = eh a in let k = eh b in let r = reads-Arrow (erased_expr (e0 a)) (erased_expr (e0 b)) in cc
  view_kept (Form-F.When a tag x) p = reads-When (erased_expr (e0 a)) tag x ∙ ap (λ (l : List Name). l ++ x ∷ []) (eh a)
  view_kept (Form-F.Merge x bs) p = reads-Merge x (map erased_branch (map b0 bs)) ∙ ap (λ (l : List Name). x ∷ l) (branches_kept b0 bh bs)
  view_kept (Form-F.Call f args) p = reads-Call f (map erased_expr (map e0 args)) ∙ all_kept e0 eh args
  view_kept (Form-F.AsyncCall q f args) p = reads-Call f (map erased_expr (map e0 args)) ∙ all_kept e0 eh args
  view_kept (Form-F.AsyncConst k) p = reads-Const k
  view_kept (Form-F.Get a) p = eh a

  form_kept : (y : Form-F SF SE SB) (p : Place) → Kept (record { place = p; form = roll-Form (map-Form SF SE SB Form Expr MergeBranch f0 e0 b0 y) })
  form_kept y p =
      let v : Form-F Form Expr MergeBranch = map-Form SF SE SB Form Expr MergeBranch f0 e0 b0 y in
      ap (λ (x : Expr). reads x.form) (erased_is (record { place = p; form = roll-Form v }))
      ∙ ap (λ (f : Form-F Form Expr MergeBranch). reads (erased_view f p).form) (out-roll-Form v)
      ∙ view_kept y p ∙ sym (rolled v)

pub reads_kept : (e : Expr) → Kept e
reads_kept e = ind-Expr (λ f. (p : Place) → Kept (record { place = p; form = f })) Kept (λ b. Kept b.value)
    (λ x y is. subst (λ (z : Form-F Form Expr MergeBranch). (p : Place) → Kept (record { place = p; form = roll-Form z })) is (form_kept (λ s. s.0) (λ s. s.0) (λ s. s.0) (λ s. s.1) (λ s. s.1) y))
    (λ x y is. subst (λ (z : Expr-F Form Expr MergeBranch). Kept (roll-Expr z)) is (y.form.1 y.place))
    (λ x y is. subst (λ (z : MergeBranch-F Form Expr MergeBranch). Kept (roll-MergeBranch z).value) is y.value.1) e
