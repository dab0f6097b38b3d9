-- Induction over expressions, and what the clock terms and demands of each form are.
use Rattle.std.proofs.Common.{◌≡◌, ℕ, if◌then◌else◌, List, [], ◌∷◌, ◌++◌, map, refl, sym, ap, subst, ◌∙◌, append-nil}
use Rattle.std.specs.Prelude.{⊤}
use Rattle.hept_ast.specs.Texts.{Name, is_in}
use Rattle.hept_ast.specs.Clocks.{Of, Inner, term_of}
use Rattle.hept_ast.specs.Initial.{Grades, grade, unmet, unmet_by}
use Rattle.hept_ast.specs.declared.name.Place.{Place}
use Rattle.hept_ast.specs.declared.tree.Const.{Const}
use Rattle.hept_ast.specs.declared.tree.UnaryOp.{UnaryOp}
use Rattle.hept_ast.specs.declared.tree.BinaryOp.{BinaryOp}
use Rattle.hept_ast.specs.declared.tree.Tag.{Tag}
use Rattle.hept_ast.specs.declared.tree.Expr.{Expr, ind-Expr}
use Rattle.hept_ast.specs.declared.tree.MergeBranch.{MergeBranch}
use Rattle.hept_ast.specs.declared.tree.Form.{Form, roll-Form, map-Form, out-Form}
use Rattle.hept_ast.specs.declared.tree.Form.TheOpen.{Form-F, Expr-F, MergeBranch-F}
use Rattle.hept_ast.specs.declared.tree.Form.TheViews.{out-roll-Form, roll-Expr, roll-MergeBranch}
use Rattle.hept_ast.specs.declared.tree.Form.TheVariants as form
use Rattle.hept_ast.specs.declared.tree.Form.TheBlock.{hidden-the_row-Expr-2, hidden-the_row-MergeBranch-1}
use Rattle.hept_ast.proofs.Unfolded.{static}
use Rattle.hept_ast.specs.Initial.{unmet_row, unmet_branches}

-- ---- induction

abbrev pub EachOf : (Expr → Type 0) → List Expr → Type 0
EachOf P [] = ⊤
EachOf P (e ∷ es) = P e × EachOf P es

abbrev pub EachValue : (Expr → Type 0) → List MergeBranch → Type 0
EachValue P [] = ⊤
EachValue P (b ∷ bs) = P b.value × EachValue P bs

-- P holds of each operand of a form
abbrev pub EachOperand : (Expr → Type 0) → Form-F Form Expr MergeBranch → Type 0
EachOperand P (Form-F.Const k) = ⊤
EachOperand P (Form-F.Var x) = ⊤
EachOperand P (Form-F.Last x) = ⊤
EachOperand P (Form-F.Unary op a) = P a
EachOperand P (Form-F.Binary op a b) = P a × P b
EachOperand P (Form-F.If i a b) = P i × P a × P b
EachOperand P (Form-F.Fby a b) = P a × P b
EachOperand P (Form-F.Pre a) = P a
EachOperand P (Form-F.Arrow a b) = P a × P b
EachOperand P (Form-F.When a tag x) = P a
EachOperand P (Form-F.Merge x bs) = EachValue P bs
EachOperand P (Form-F.Call f args) = EachOf P args
EachOperand P (Form-F.AsyncCall q f args) = EachOf P args
EachOperand P (Form-F.AsyncConst k) = ⊤
EachOperand P (Form-F.Get a) = P a

each_mapped : {S : Type 0} (P : Expr → Type 0) (e0 : S → Expr) → ((x : S) → P (e0 x)) → (xs : List S) → EachOf P (map e0 xs)
each_mapped P e0 h [] = tt
each_mapped P e0 h (x ∷ xs) = (h x, each_mapped P e0 h xs)

values_mapped : {S : Type 0} (P : Expr → Type 0) (b0 : S → MergeBranch) → ((x : S) → P (b0 x).value) → (xs : List S) → EachValue P (map b0 xs)
values_mapped P b0 h [] = tt
values_mapped P b0 h (x ∷ xs) = (h x, values_mapped P b0 h xs)

module _ (P : Expr → Type 0) {SF SE SB : Type 0} (f0 : SF → Form) (e0 : SE → Expr) (b0 : SB → MergeBranch) (eh : (x : SE) → P (e0 x)) (bh : (x : SB) → P (b0 x).value) where
  operands_mapped : (y : Form-F SF SE SB) → EachOperand P (map-Form SF SE SB Form Expr MergeBranch f0 e0 b0 y)
  operands_mapped (Form-F.Const k) = tt
  operands_mapped (Form-F.Var x) = tt
  operands_mapped (Form-F.Last x) = tt
  operands_mapped (Form-F.Unary op a) = eh a
  operands_mapped (Form-F.Binary op a b) = (eh a, eh b)
  operands_mapped (Form-F.If i a b) = (eh i, eh a, eh b)
  operands_mapped (Form-F.Fby a b) = (eh a, eh b)
  operands_mapped (Form-F.Pre a) = eh a
  operands_mapped (Form-F.Arrow a b) = (eh a, eh b)
  operands_mapped (Form-F.When a tag x) = eh a
  operands_mapped (Form-F.Merge x bs) = values_mapped P b0 bh bs
  operands_mapped (Form-F.Call f args) = each_mapped P e0 eh args
  operands_mapped (Form-F.AsyncCall q f args) = each_mapped P e0 eh args
  operands_mapped (Form-F.AsyncConst k) = tt
  operands_mapped (Form-F.Get a) = eh a

-- what holds of a form at any place where it holds of the operands holds of each expression
pub by_operands : (P : Expr → Type 0) → ((v : Form-F Form Expr MergeBranch) (p : Place) → EachOperand P v → P (record { place = p; form = roll-Form v })) → (e : Expr) → P e
by_operands P step e = ind-Expr (λ f. (p : Place) → P (record { place = p; form = f })) P (λ b. P b.value)
    (λ x y is. subst (λ (z : Form-F Form Expr MergeBranch). (p : Place) → P (record { place = p; form = roll-Form z })) is
    (λ p. step _ p (operands_mapped P (λ s. s.0) (λ s. s.0) (λ s. s.0) (λ s. s.1) (λ s. s.1) y)))
    (λ x y is. subst (λ (z : Expr-F Form Expr MergeBranch). P (roll-Expr z)) is (y.form.1 y.place))
    (λ x y is. subst (λ (z : MergeBranch-F Form Expr MergeBranch). P (roll-MergeBranch z).value) is y.value.1) e

-- ---- the view of each form

pub out_Const : (k : Const) → out-Form (form.Const k) ≡ Form-F.Const k
out_Const k = ap out-Form (sym (form.rolls-Const k)) ∙ out-roll-Form _

pub out_Var : (x : Name) → out-Form (form.Var x) ≡ Form-F.Var x
out_Var x = ap out-Form (sym (form.rolls-Var x)) ∙ out-roll-Form _

pub out_Last : (x : Name) → out-Form (form.Last x) ≡ Form-F.Last x
out_Last x = ap out-Form (sym (form.rolls-Last x)) ∙ out-roll-Form _

pub out_Unary : (op : UnaryOp) (a : Expr) → out-Form (form.Unary op a) ≡ Form-F.Unary op a
out_Unary op a = ap out-Form (sym (form.rolls-Unary op a)) ∙ out-roll-Form _

pub out_Binary : (op : BinaryOp) (a b : Expr) → out-Form (form.Binary op a b) ≡ Form-F.Binary op a b
out_Binary op a b = ap out-Form (sym (form.rolls-Binary op a b)) ∙ out-roll-Form _

pub out_If : (i a b : Expr) → out-Form (form.If i a b) ≡ Form-F.If i a b
out_If i a b = ap out-Form (sym (form.rolls-If i a b)) ∙ out-roll-Form _

pub out_Fby : (a b : Expr) → out-Form (form.Fby a b) ≡ Form-F.Fby a b
out_Fby a b = ap out-Form (sym (form.rolls-Fby a b)) ∙ out-roll-Form _

pub out_Pre : (a : Expr) → out-Form (form.Pre a) ≡ Form-F.Pre a
out_Pre a = ap out-Form (sym (form.rolls-Pre a)) ∙ out-roll-Form _

pub out_Arrow : (a b : Expr) → out-Form (form.Arrow a b) ≡ Form-F.Arrow a b
out_Arrow a b = ap out-Form (sym (form.rolls-Arrow a b)) ∙ out-roll-Form _

pub out_When : (a : Expr) (tag : Tag) (x : Name) → out-Form (form.When a tag x) ≡ Form-F.When a tag x
out_When a tag x = ap out-Form (sym (form.rolls-When a tag x)) ∙ out-roll-Form _

pub out_Merge : (x : Name) (bs : List MergeBranch) → out-Form (form.Merge x bs) ≡ Form-F.Merge x bs
out_Merge x bs = ap out-Form (sym (form.rolls-Merge x bs)) ∙ out-roll-Form _

pub out_Call : (f : Name) (args : List Expr) → out-Form (form.Call f args) ≡ Form-F.Call f args
out_Call f args = ap out-Form (sym (form.rolls-Call f args)) ∙ out-roll-Form _

pub out_AsyncCall : (q : ℕ) (f : Name) (args : List Expr) → out-Form (form.AsyncCall q f args) ≡ Form-F.AsyncCall q f args
out_AsyncCall q f args = ap out-Form (sym (form.rolls-AsyncCall q f args)) ∙ out-roll-Form _

pub out_AsyncConst : (k : Const) → out-Form (form.AsyncConst k) ≡ Form-F.AsyncConst k
out_AsyncConst k = ap out-Form (sym (form.rolls-AsyncConst k)) ∙ out-roll-Form _

pub out_Get : (a : Expr) → out-Form (form.Get a) ≡ Form-F.Get a
out_Get a = ap out-Form (sym (form.rolls-Get a)) ∙ out-roll-Form _

-- ---- what a form demands to be defined

abbrev pub unmet_list : Grades → List Expr → List ℕ
unmet_list g [] = []
unmet_list g (e ∷ es) = unmet e.place.0 (grade g e.form) ++ unmet_list g es

abbrev pub unmet_values : Grades → List MergeBranch → List ℕ
unmet_values g [] = []
unmet_values g (b ∷ bs) = unmet b.value.place.0 (grade g b.value.form) ++ unmet_values g bs

unmet_row_is : (g : Grades) (es : List Expr) → unmet_row g (hidden-the_row-Expr-2 es) ≡ unmet_list g es
unfolding static
unmet_row_is g [] = refl
unmet_row_is g (e ∷ es) = ap (λ t. unmet e.place.0 (grade g e.form) ++ t) (unmet_row_is g es)

unmet_branches_is : (g : Grades) (bs : List MergeBranch) → unmet_branches g (hidden-the_row-MergeBranch-1 bs) ≡ unmet_values g bs
unfolding static
unmet_branches_is g [] = refl
unmet_branches_is g (b ∷ bs) = ap (λ t. unmet b.value.place.0 (grade g b.value.form) ++ t) (unmet_branches_is g bs)

pub unmet_Fby : (g : Grades) (p : ℕ) (a b : Expr) → unmet_by g p (form.Fby a b) ≡ unmet b.place.0 (grade g b.form)
unfolding static
unmet_Fby g p a b = append-nil _

pub unmet_Pre : (g : Grades) (p : ℕ) (a : Expr) → unmet_by g p (form.Pre a) ≡ unmet a.place.0 (grade g a.form)
unfolding static
unmet_Pre g p a = append-nil _

pub unmet_When : (g : Grades) (p : ℕ) (a : Expr) (tag : Tag) (x : Name) → unmet_by g p (form.When a tag x) ≡ unmet p (g x)
unfolding static
unmet_When g p a tag x = refl

pub unmet_Merge : (g : Grades) (p : ℕ) (x : Name) (bs : List MergeBranch) → unmet_by g p (form.Merge x bs) ≡ unmet p (g x) ++ unmet_values g bs
unfolding static
unmet_Merge g p x bs = ap (λ t. unmet p (g x) ++ t) (unmet_branches_is g bs)

pub unmet_Call : (g : Grades) (p : ℕ) (f : Name) (args : List Expr) → unmet_by g p (form.Call f args) ≡ unmet_list g args
unfolding static
unmet_Call g p f args = unmet_row_is g args

pub unmet_AsyncCall : (g : Grades) (p : ℕ) (q : ℕ) (f : Name) (args : List Expr) → unmet_by g p (form.AsyncCall q f args) ≡ unmet_list g args
unfolding static
unmet_AsyncCall g p q f args = unmet_row_is g args

-- ---- the term of the clock of each form

module _ (own : List Name) (n : ℕ) where
  pub term_Var : (x : Name) → term_of own n (form.Var x) ≡ (if is_in x own then Of x else Inner n)
  unfolding static
  term_Var x = refl

  pub term_Last : (x : Name) → term_of own n (form.Last x) ≡ (if is_in x own then Of x else Inner n)
  unfolding static
  term_Last x = refl

  pub term_Unary : (op : UnaryOp) (a : Expr) → term_of own n (form.Unary op a) ≡ Inner n
  unfolding static
  term_Unary op a = refl

  pub term_Binary : (op : BinaryOp) (a b : Expr) → term_of own n (form.Binary op a b) ≡ Inner n
  unfolding static
  term_Binary op a b = refl

  pub term_If : (i a b : Expr) → term_of own n (form.If i a b) ≡ Inner n
  unfolding static
  term_If i a b = refl

  pub term_Fby : (a b : Expr) → term_of own n (form.Fby a b) ≡ Inner n
  unfolding static
  term_Fby a b = refl

  pub term_Pre : (a : Expr) → term_of own n (form.Pre a) ≡ Inner n
  unfolding static
  term_Pre a = refl

  pub term_Arrow : (a b : Expr) → term_of own n (form.Arrow a b) ≡ Inner n
  unfolding static
  term_Arrow a b = refl

  pub term_When : (a : Expr) (tag : Tag) (x : Name) → term_of own n (form.When a tag x) ≡ Inner n
  unfolding static
  term_When a tag x = refl

  pub term_Merge : (x : Name) (bs : List MergeBranch) → term_of own n (form.Merge x bs) ≡ Inner n
  unfolding static
  term_Merge x bs = refl

  pub term_Call : (f : Name) (args : List Expr) → term_of own n (form.Call f args) ≡ Inner n
  unfolding static
  term_Call f args = refl

  pub term_AsyncCall : (q : ℕ) (f : Name) (args : List Expr) → term_of own n (form.AsyncCall q f args) ≡ Inner n
  unfolding static
  term_AsyncCall q f args = refl

  pub term_Get : (a : Expr) → term_of own n (form.Get a) ≡ Inner n
  unfolding static
  term_Get a = refl
