-- Induction on expressions by their forms, and the view of each form.
use Rattle.std.proofs.Common.{◌≡◌, ℕ, List, [], ◌∷◌, map, sym, ap, subst, ◌∙◌}
use Rattle.std.specs.Prelude.{⊤}
use Rattle.hept_ast.specs.Texts.{Name}
use Rattle.hept_ast.specs.declared.name.Place.{Place}
use Rattle.hept_ast.specs.declared.tree.Const.{Const}
use Rattle.hept_ast.specs.declared.tree.Tag.{Tag}
use Rattle.hept_ast.specs.declared.tree.UnaryOp.{UnaryOp}
use Rattle.hept_ast.specs.declared.tree.BinaryOp.{BinaryOp}
use Rattle.hept_ast.specs.declared.tree.Expr.{Expr, ind-Expr}
use Rattle.hept_ast.specs.declared.tree.MergeBranch.{MergeBranch}
use Rattle.hept_ast.specs.declared.tree.Form.{Form, out-Form, roll-Form, map-Form}
use Rattle.hept_ast.specs.declared.tree.Form.TheOpen.{Form-F, Expr-F, MergeBranch-F}
use Rattle.hept_ast.specs.declared.tree.Form.TheViews.{out-roll-Form, roll-out-Form, roll-Expr, roll-MergeBranch}
use Rattle.hept_ast.specs.declared.tree.Form.TheVariants as form

-- ---- induction

-- all of a list
abbrev pub Each : {X : Type 0} → (X → Type 0) → List X → Type 0
Each P [] = ⊤
Each P (x ∷ xs) = P x × Each P xs

-- an expression of a form, at a place
abbrev pub at : Place → Form → Expr
at p f = record { place = p; form = f }

-- what holds of each form whose parts it holds of
pub record Cases (P : Expr → Type 0) : Type 0 where
  pub of_const : (p : Place) (k : Const) → P (at p (form.Const k))
  pub of_var : (p : Place) (x : Name) → P (at p (form.Var x))
  pub of_last : (p : Place) (x : Name) → P (at p (form.Last x))
  pub of_unary : (p : Place) (op : UnaryOp) (a : Expr) → P a → P (at p (form.Unary op a))
  pub of_binary : (p : Place) (op : BinaryOp) (a b : Expr) → P a → P b → P (at p (form.Binary op a b))
  pub of_if : (p : Place) (c a b : Expr) → P c → P a → P b → P (at p (form.If c a b))
  pub of_fby : (p : Place) (a b : Expr) → P a → P b → P (at p (form.Fby a b))
  pub of_pre : (p : Place) (a : Expr) → P a → P (at p (form.Pre a))
  pub of_arrow : (p : Place) (a b : Expr) → P a → P b → P (at p (form.Arrow a b))
  pub of_when : (p : Place) (a : Expr) (tag : Tag) (x : Name) → P a → P (at p (form.When a tag x))
  pub of_merge : (p : Place) (x : Name) (bs : List MergeBranch) → Each (λ b. P b.value) bs → P (at p (form.Merge x bs))
  pub of_call : (p : Place) (f : Name) (args : List Expr) → Each P args → P (at p (form.Call f args))
  pub of_async : (p : Place) (q : ℕ) (f : Name) (args : List Expr) → Each P args → P (at p (form.AsyncCall q f args))
  pub of_ready : (p : Place) (k : Const) → P (at p (form.AsyncConst k))
  pub of_get : (p : Place) (a : Expr) → P a → P (at p (form.Get a))

each_mapped : {S X : Type 0} (P : X → Type 0) (f : S → X) → ((s : S) → P (f s)) → (ss : List S) → Each P (map f ss)
each_mapped P f h [] = tt
each_mapped P f h (s ∷ ss) = (h s, each_mapped P f h ss)

module _ (P : Expr → Type 0) (c : Cases P) {SF SE SB : Type 0} (f0 : SF → Form) (e0 : SE → Expr) (b0 : SB → MergeBranch) (eh : (x : SE) → P (e0 x)) (bh : (x : SB) → P (b0 x).value) where
  rolled : (y : Form-F SF SE SB) (p : Place) → P (at p (roll-Form (map-Form SF SE SB Form Expr MergeBranch f0 e0 b0 y)))
  rolled (Form-F.Const k) p = subst (λ (f : Form). P (at p f)) (sym (form.rolls-Const k)) (c.of_const p k)
  rolled (Form-F.Var x) p = subst (λ (f : Form). P (at p f)) (sym (form.rolls-Var x)) (c.of_var p x)
  rolled (Form-F.Last x) p = subst (λ (f : Form). P (at p f)) (sym (form.rolls-Last x)) (c.of_last p x)
  rolled (Form-F.Unary op a) p = subst (λ (f : Form). P (at p f)) (sym (form.rolls-Unary op (e0 a))) (c.of_unary p op (e0 a) (eh a))
  rolled (Form-F.Binary op a b) p = subst (λ (f : Form). P (at p f)) (sym (form.rolls-Binary op (e0 a) (e0 b))) (c.of_binary p op (e0 a) (e0 b) (eh a) (eh b))
  rolled (Form-F.If d a b) p = subst (λ (f : Form). P (at p f)) (sym (form.rolls-If (e0 d) (e0 a) (e0 b))) (c.of_if p (e0 d) (e0 a) (e0 b) (eh d) (eh a) (eh b))
  rolled (Form-F.Fby a b) p = subst (λ (f : Form). P (at p f)) (sym (form.rolls-Fby (e0 a) (e0 b))) (c.of_fby p (e0 a) (e0 b) (eh a) (eh b))
  rolled (Form-F.Pre a) p = subst (λ (f : Form). P (at p f)) (sym (form.rolls-Pre (e0 a))) (c.of_pre p (e0 a) (eh a))
  rolled (Form-F.Arrow a b) p = subst (λ (f : Form). P (at p f)) (sym (form.rolls-Arrow (e0 a) (e0 b))) (c.of_arrow p (e0 a) (e0 b) (eh a) (eh b))
  rolled (Form-F.When a tag x) p = subst (λ (f : Form). P (at p f)) (sym (form.rolls-When (e0 a) tag x)) (c.of_when p (e0 a) tag x (eh a))
  rolled (Form-F.Merge x bs) p = subst (λ (f : Form). P (at p f)) (sym (form.rolls-Merge x (map b0 bs))) (c.of_merge p x (map b0 bs) (each_mapped (λ b. P b.value) b0 bh bs))
  rolled (Form-F.Call g args) p = subst (λ (f : Form). P (at p f)) (sym (form.rolls-Call g (map e0 args))) (c.of_call p g (map e0 args) (each_mapped P e0 eh args))
  rolled (Form-F.AsyncCall q g args) p = subst (λ (f : Form). P (at p f)) (sym (form.rolls-AsyncCall q g (map e0 args))) (c.of_async p q g (map e0 args) (each_mapped P e0 eh args))
  rolled (Form-F.AsyncConst k) p = subst (λ (f : Form). P (at p f)) (sym (form.rolls-AsyncConst k)) (c.of_ready p k)
  rolled (Form-F.Get a) p = subst (λ (f : Form). P (at p f)) (sym (form.rolls-Get (e0 a))) (c.of_get p (e0 a) (eh a))

pub by_forms : (P : Expr → Type 0) → Cases P → (e : Expr) → P e
by_forms P c e = ind-Expr (λ f. (p : Place) → P (at p f)) P (λ b. P b.value)
    (λ x y is. subst (λ (z : Form-F Form Expr MergeBranch). (p : Place) → P (at p (roll-Form z))) is (rolled P c (λ s. s.0) (λ s. s.0) (λ s. s.0) (λ s. s.1) (λ s. s.1) y))
    (λ x y is. subst (λ (z : Expr-F Form Expr MergeBranch). P (roll-Expr z)) is (y.form.1 y.place))
    (λ x y is. subst (λ (z : MergeBranch-F Form Expr MergeBranch). P (roll-MergeBranch z).value) is y.value.1) e

-- ---- the view of each form

pub by_view : (f : Form) (v : Form-F Form Expr MergeBranch) (g : Form) → out-Form f ≡ v → roll-Form v ≡ g → f ≡ g
by_view f v g o r = sym (roll-out-Form f) ∙ ap roll-Form o ∙ r

pub out_Const : (k : Const) → out-Form (form.Const k) ≡ Form-F.Const k
out_Const k = ap out-Form (sym (form.rolls-Const k)) ∙ out-roll-Form _

pub out_Var : (x : Name) → out-Form (form.Var x) ≡ Form-F.Var x
out_Var x = ap out-Form (sym (form.rolls-Var x)) ∙ out-roll-Form _

pub out_Last : (x : Name) → out-Form (form.Last x) ≡ Form-F.Last x
out_Last x = ap out-Form (sym (form.rolls-Last x)) ∙ out-roll-Form _

pub out_Unary : (op : UnaryOp) (a : Expr) → out-Form (form.Unary op a) ≡ Form-F.Unary op a
out_Unary op a = ap out-Form (sym (form.rolls-Unary op a)) ∙ out-roll-Form _

pub out_Binary : (op : BinaryOp) (a b : Expr) → out-Form (form.Binary op a b) ≡ Form-F.Binary op a b
out_Binary op a b = ap out-Form (sym (form.rolls-Binary op a b)) ∙ out-roll-Form _

pub out_If : (i a b : Expr) → out-Form (form.If i a b) ≡ Form-F.If i a b
out_If i a b = ap out-Form (sym (form.rolls-If i a b)) ∙ out-roll-Form _

pub out_Fby : (a b : Expr) → out-Form (form.Fby a b) ≡ Form-F.Fby a b
out_Fby a b = ap out-Form (sym (form.rolls-Fby a b)) ∙ out-roll-Form _

pub out_Pre : (a : Expr) → out-Form (form.Pre a) ≡ Form-F.Pre a
out_Pre a = ap out-Form (sym (form.rolls-Pre a)) ∙ out-roll-Form _

pub out_Arrow : (a b : Expr) → out-Form (form.Arrow a b) ≡ Form-F.Arrow a b
out_Arrow a b = ap out-Form (sym (form.rolls-Arrow a b)) ∙ out-roll-Form _

pub out_When : (a : Expr) (tag : Tag) (x : Name) → out-Form (form.When a tag x) ≡ Form-F.When a tag x
out_When a tag x = ap out-Form (sym (form.rolls-When a tag x)) ∙ out-roll-Form _

pub out_Merge : (x : Name) (bs : List MergeBranch) → out-Form (form.Merge x bs) ≡ Form-F.Merge x bs
out_Merge x bs = ap out-Form (sym (form.rolls-Merge x bs)) ∙ out-roll-Form _

pub out_Call : (f : Name) (args : List Expr) → out-Form (form.Call f args) ≡ Form-F.Call f args
out_Call f args = ap out-Form (sym (form.rolls-Call f args)) ∙ out-roll-Form _

pub out_AsyncCall : (q : ℕ) (f : Name) (args : List Expr) → out-Form (form.AsyncCall q f args) ≡ Form-F.AsyncCall q f args
out_AsyncCall q f args = ap out-Form (sym (form.rolls-AsyncCall q f args)) ∙ out-roll-Form _

pub out_AsyncConst : (k : Const) → out-Form (form.AsyncConst k) ≡ Form-F.AsyncConst k
out_AsyncConst k = ap out-Form (sym (form.rolls-AsyncConst k)) ∙ out-roll-Form _

pub out_Get : (a : Expr) → out-Form (form.Get a) ≡ Form-F.Get a
out_Get a = ap out-Form (sym (form.rolls-Get a)) ∙ out-roll-Form _
