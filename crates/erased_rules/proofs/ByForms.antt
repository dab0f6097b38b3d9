-- Induction on expressions by their forms, and what is erased of each form.
use Rattle.std.proofs.Common.{◌≡◌, ℕ, List, [], ◌∷◌, map, sym, ap, subst, ◌∙◌}
use Rattle.std.specs.Prelude.{⊤}
use Rattle.hept_ast.specs.Texts.{Name}
use Rattle.hept_ast.specs.Erasure.{erased_expr, erased_branch}
use Rattle.hept_ast.specs.declared.name.Place.{Place}
use Rattle.hept_ast.specs.declared.tree.Const.{Const}
use Rattle.hept_ast.specs.declared.tree.Tag.{Tag}
use Rattle.hept_ast.specs.declared.tree.UnaryOp.{UnaryOp}
use Rattle.hept_ast.specs.declared.tree.BinaryOp.{BinaryOp}
use Rattle.hept_ast.specs.declared.tree.Expr.{Expr, ind-Expr}
use Rattle.hept_ast.specs.declared.tree.MergeBranch.{MergeBranch}
use Rattle.hept_ast.specs.declared.tree.Form.{Form, out-Form, roll-Form, map-Form}
use Rattle.hept_ast.specs.declared.tree.Form.TheOpen.{Form-F, Expr-F, MergeBranch-F}
use Rattle.hept_ast.specs.declared.tree.Form.TheViews.{out-roll-Form, roll-Expr, roll-MergeBranch}
use Rattle.hept_ast.specs.declared.tree.Form.TheVariants as form
use Rattle.hept_ast.proofs.ErasedViews.{erased_view, erased_is}

-- all of a list
abbrev pub Each : {X : Type 0} → (X → Type 0) → List X → Type 0
Each P [] = ⊤
Each P (x ∷ xs) = P x × Each P xs

-- an expression of a form, at a place
abbrev pub at : Place → Form → Expr
at p f = record { place = p; form = f }

-- what holds of each form whose parts it holds of
pub record Cases (P : Expr → Type 0) : Type 0 where
  pub of_const : (p : Place) (k : Const) → P (at p (form.Const k))
  pub of_var : (p : Place) (x : Name) → P (at p (form.Var x))
  pub of_last : (p : Place) (x : Name) → P (at p (form.Last x))
  pub of_unary : (p : Place) (op : UnaryOp) (a : Expr) → P a → P (at p (form.Unary op a))
  pub of_binary : (p : Place) (op : BinaryOp) (a b : Expr) → P a → P b → P (at p (form.Binary op a b))
  pub of_if : (p : Place) (c a b : Expr) → P c → P a → P b → P (at p (form.If c a b))
  pub of_fby : (p : Place) (a b : Expr) → P a → P b → P (at p (form.Fby a b))
  pub of_pre : (p : Place) (a : Expr) → P a → P (at p (form.Pre a))
  pub of_arrow : (p : Place) (a b : Expr) → P a → P b → P (at p (form.Arrow a b))
  pub of_when : (p : Place) (a : Expr) (tag : Tag) (x : Name) → P a → P (at p (form.When a tag x))
  pub of_merge : (p : Place) (x : Name) (bs : List MergeBranch) → Each (λ b. P b.value) bs → P (at p (form.Merge x bs))
  pub of_call : (p : Place) (f : Name) (args : List Expr) → Each P args → P (at p (form.Call f args))
  pub of_async : (p : Place) (q : ℕ) (f : Name) (args : List Expr) → Each P args → P (at p (form.AsyncCall q f args))
  pub of_ready : (p : Place) (k : Const) → P (at p (form.AsyncConst k))
  pub of_get : (p : Place) (a : Expr) → P a → P (at p (form.Get a))

each_mapped : {S X : Type 0} (P : X → Type 0) (f : S → X) → ((s : S) → P (f s)) → (ss : List S) → Each P (map f ss)
each_mapped P f h [] = tt
each_mapped P f h (s ∷ ss) = (h s, each_mapped P f h ss)

module _ (P : Expr → Type 0) (c : Cases P) {SF SE SB : Type 0} (f0 : SF → Form) (e0 : SE → Expr) (b0 : SB → MergeBranch) (eh : (x : SE) → P (e0 x)) (bh : (x : SB) → P (b0 x).value) where
  rolled : (y : Form-F SF SE SB) (p : Place) → P (at p (roll-Form (map-Form SF SE SB Form Expr MergeBranch f0 e0 b0 y)))
  rolled (Form-F.Const k) p = subst (λ (f : Form). P (at p f)) (sym (form.rolls-Const k)) (c.of_const p k)
  rolled (Form-F.Var x) p = subst (λ (f : Form). P (at p f)) (sym (form.rolls-Var x)) (c.of_var p x)
  rolled (Form-F.Last x) p = subst (λ (f : Form). P (at p f)) (sym (form.rolls-Last x)) (c.of_last p x)
  rolled (Form-F.Unary op a) p = subst (λ (f : Form). P (at p f)) (sym (form.rolls-Unary op (e0 a))) (c.of_unary p op (e0 a) (eh a))
  rolled (Form-F.Binary op a b) p = subst (λ (f : Form). P (at p f)) (sym (form.rolls-Binary op (e0 a) (e0 b))) (c.of_binary p op (e0 a) (e0 b) (eh a) (eh b))
  rolled (Form-F.If d a b) p = subst (λ (f : Form). P (at p f)) (sym (form.rolls-If (e0 d) (e0 a) (e0 b))) (c.of_if p (e0 d) (e0 a) (e0 b) (eh d) (eh a) (eh b))
  rolled (Form-F.Fby a b) p = subst (λ (f : Form). P (at p f)) (sym (form.rolls-Fby (e0 a) (e0 b))) (c.of_fby p (e0 a) (e0 b) (eh a) (eh b))
  rolled (Form-F.Pre a) p = subst (λ (f : Form). P (at p f)) (sym (form.rolls-Pre (e0 a))) (c.of_pre p (e0 a) (eh a))
  rolled (Form-F.Arrow a b) p = subst (λ (f : Form). P (at p f)) (sym (form.rolls-Arrow (e0 a) (e0 b))) (c.of_arrow p (e0 a) (e0 b) (eh a) (eh b))
  rolled (Form-F.When a tag x) p = subst (λ (f : Form). P (at p f)) (sym (form.rolls-When (e0 a) tag x)) (c.of_when p (e0 a) tag x (eh a))
  rolled (Form-F.Merge x bs) p = subst (λ (f : Form). P (at p f)) (sym (form.rolls-Merge x (map b0 bs))) (c.of_merge p x (map b0 bs) (each_mapped (λ b. P b.value) b0 bh bs))
  rolled (Form-F.Call g args) p = subst (λ (f : Form). P (at p f)) (sym (form.rolls-Call g (map e0 args))) (c.of_call p g (map e0 args) (each_mapped P e0 eh args))
  rolled (Form-F.AsyncCall q g args) p = subst (λ (f : Form). P (at p f)) (sym (form.rolls-AsyncCall q g (map e0 args))) (c.of_async p q g (map e0 args) (each_mapped P e0 eh args))
  rolled (Form-F.AsyncConst k) p = subst (λ (f : Form). P (at p f)) (sym (form.rolls-AsyncConst k)) (c.of_ready p k)
  rolled (Form-F.Get a) p = subst (λ (f : Form). P (at p f)) (sym (form.rolls-Get (e0 a))) (c.of_get p (e0 a) (eh a))

pub by_forms : (P : Expr → Type 0) → Cases P → (e : Expr) → P e
by_forms P c e = ind-Expr (λ f. (p : Place) → P (at p f)) P (λ b. P b.value)
    (λ x y is. subst (λ (z : Form-F Form Expr MergeBranch). (p : Place) → P (at p (roll-Form z))) is (rolled P c (λ s. s.0) (λ s. s.0) (λ s. s.0) (λ s. s.1) (λ s. s.1) y))
    (λ x y is. subst (λ (z : Expr-F Form Expr MergeBranch). P (roll-Expr z)) is (y.form.1 y.place))
    (λ x y is. subst (λ (z : MergeBranch-F Form Expr MergeBranch). P (roll-MergeBranch z).value) is y.value.1) e

-- ---- what is erased of each form

viewed : (p : Place) (f : Form) (v : Form-F Form Expr MergeBranch) → roll-Form v ≡ f → erased_expr (at p f) ≡ erased_view v p
viewed p f v is = erased_is (at p f) ∙ ap (λ (w : Form-F Form Expr MergeBranch). erased_view w p) (ap out-Form (sym is) ∙ out-roll-Form v)

pub erased-Const : (p : Place) (k : Const) → erased_expr (at p (form.Const k)) ≡ at p (form.Const k)
erased-Const p k = viewed p _ (Form-F.Const k) (form.rolls-Const k)

pub erased-Var : (p : Place) (x : Name) → erased_expr (at p (form.Var x)) ≡ at p (form.Var x)
erased-Var p x = viewed p _ (Form-F.Var x) (form.rolls-Var x)

pub erased-Last : (p : Place) (x : Name) → erased_expr (at p (form.Last x)) ≡ at p (form.Last x)
erased-Last p x = viewed p _ (Form-F.Last x) (form.rolls-Last x)

pub erased-Unary : (p : Place) (op : UnaryOp) (a : Expr) → erased_expr (at p (form.Unary op a)) ≡ at p (form.Unary op (erased_expr a))
erased-Unary p op a = viewed p _ (Form-F.Unary op a) (form.rolls-Unary op a)

pub erased-Binary : (p : Place) (op : BinaryOp) (a b : Expr) → erased_expr (at p (form.Binary op a b)) ≡ at p (form.Binary op (erased_expr a) (erased_expr b))
erased-Binary p op a b = viewed p _ (Form-F.Binary op a b) (form.rolls-Binary op a b)

pub erased-If : (p : Place) (c a b : Expr) → erased_expr (at p (form.If c a b)) ≡ at p (form.If (erased_expr c) (erased_expr a) (erased_expr b))
erased-If p c a b = viewed p _ (Form-F.If c a b) (form.rolls-If c a b)

pub erased-Fby : (p : Place) (a b : Expr) → erased_expr (at p (form.Fby a b)) ≡ at p (form.Fby (erased_expr a) (erased_expr b))
erased-Fby p a b = viewed p _ (Form-F.Fby a b) (form.rolls-Fby a b)

pub erased-Pre : (p : Place) (a : Expr) → erased_expr (at p (form.Pre a)) ≡ at p (form.Pre (erased_expr a))
erased-Pre p a = viewed p _ (Form-F.Pre a) (form.rolls-Pre a)

pub erased-Arrow : (p : Place) (a b : Expr) → erased_expr (at p (form.Arrow a b)) ≡ at p (form.Arrow (erased_expr a) (erased_expr b))
erased-Arrow p a b = viewed p _ (Form-F.Arrow a b) (form.rolls-Arrow a b)

pub erased-When : (p : Place) (a : Expr) (tag : Tag) (x : Name) → erased_expr (at p (form.When a tag x)) ≡ at p (form.When (erased_expr a) tag x)
erased-When p a tag x = viewed p _ (Form-F.When a tag x) (form.rolls-When a tag x)

pub erased-Merge : (p : Place) (x : Name) (bs : List MergeBranch) → erased_expr (at p (form.Merge x bs)) ≡ at p (form.Merge x (map erased_branch bs))
erased-Merge p x bs = viewed p _ (Form-F.Merge x bs) (form.rolls-Merge x bs)

pub erased-Call : (p : Place) (f : Name) (args : List Expr) → erased_expr (at p (form.Call f args)) ≡ at p (form.Call f (map erased_expr args))
erased-Call p f args = viewed p _ (Form-F.Call f args) (form.rolls-Call f args)

pub erased-AsyncCall : (p : Place) (q : ℕ) (f : Name) (args : List Expr) → erased_expr (at p (form.AsyncCall q f args)) ≡ at p (form.Call f (map erased_expr args))
erased-AsyncCall p q f args = viewed p _ (Form-F.AsyncCall q f args) (form.rolls-AsyncCall q f args)

pub erased-AsyncConst : (p : Place) (k : Const) → erased_expr (at p (form.AsyncConst k)) ≡ at p (form.Const k)
erased-AsyncConst p k = viewed p _ (Form-F.AsyncConst k) (form.rolls-AsyncConst k)

pub erased-Get : (p : Place) (a : Expr) → erased_expr (at p (form.Get a)) ≡ erased_expr a
erased-Get p a = viewed p _ (Form-F.Get a) (form.rolls-Get a)
