-- What each form is seen as.
use Rattle.std.proofs.Common.{◌≡◌, ℕ, List, sym, ap, ◌∙◌}
use Rattle.hept_ast.specs.Texts.{Name}
use Rattle.hept_ast.specs.declared.name.Place.{Place}
use Rattle.hept_ast.specs.declared.tree.Const.{Const}
use Rattle.hept_ast.specs.declared.tree.Tag.{Tag}
use Rattle.hept_ast.specs.declared.tree.UnaryOp.{UnaryOp}
use Rattle.hept_ast.specs.declared.tree.BinaryOp.{BinaryOp}
use Rattle.hept_ast.specs.declared.tree.Expr.{Expr}
use Rattle.hept_ast.specs.declared.tree.MergeBranch.{MergeBranch}
use Rattle.hept_ast.specs.declared.tree.Form.{Form, out-Form, roll-Form}
use Rattle.hept_ast.specs.declared.tree.Form.TheOpen.{Form-F}
use Rattle.hept_ast.specs.declared.tree.Form.TheViews.{out-roll-Form, roll-out-Form}
use Rattle.hept_ast.specs.declared.tree.Form.TheVariants as form

-- an expression of a form, at a place
abbrev pub at : Place → Form → Expr
at p f = record { place = p; form = f }

pub at_form : (e : Expr) (f : Form) → e.form ≡ f → at e.place f ≡ e
at_form e f h = ap (at e.place) (sym h)

pub by_view : (f : Form) (v : Form-F Form Expr MergeBranch) (g : Form) → out-Form f ≡ v → roll-Form v ≡ g → f ≡ g
by_view f v g o r = sym (roll-out-Form f) ∙ ap roll-Form o ∙ r

pub out_Const : (k : Const) → out-Form (form.Const k) ≡ Form-F.Const k
out_Const k = ap out-Form (sym (form.rolls-Const k)) ∙ out-roll-Form _

pub out_Var : (x : Name) → out-Form (form.Var x) ≡ Form-F.Var x
out_Var x = ap out-Form (sym (form.rolls-Var x)) ∙ out-roll-Form _

pub out_Last : (x : Name) → out-Form (form.Last x) ≡ Form-F.Last x
out_Last x = ap out-Form (sym (form.rolls-Last x)) ∙ out-roll-Form _

pub out_Unary : (op : UnaryOp) (a : Expr) → out-Form (form.Unary op a) ≡ Form-F.Unary op a
out_Unary op a = ap out-Form (sym (form.rolls-Unary op a)) ∙ out-roll-Form _

pub out_Binary : (op : BinaryOp) (a b : Expr) → out-Form (form.Binary op a b) ≡ Form-F.Binary op a b
out_Binary op a b = ap out-Form (sym (form.rolls-Binary op a b)) ∙ out-roll-Form _

pub out_If : (i a b : Expr) → out-Form (form.If i a b) ≡ Form-F.If i a b
out_If i a b = ap out-Form (sym (form.rolls-If i a b)) ∙ out-roll-Form _

pub out_Fby : (a b : Expr) → out-Form (form.Fby a b) ≡ Form-F.Fby a b
out_Fby a b = ap out-Form (sym (form.rolls-Fby a b)) ∙ out-roll-Form _

pub out_Pre : (a : Expr) → out-Form (form.Pre a) ≡ Form-F.Pre a
out_Pre a = ap out-Form (sym (form.rolls-Pre a)) ∙ out-roll-Form _

pub out_Arrow : (a b : Expr) → out-Form (form.Arrow a b) ≡ Form-F.Arrow a b
out_Arrow a b = ap out-Form (sym (form.rolls-Arrow a b)) ∙ out-roll-Form _

pub out_When : (a : Expr) (tag : Tag) (x : Name) → out-Form (form.When a tag x) ≡ Form-F.When a tag x
out_When a tag x = ap out-Form (sym (form.rolls-When a tag x)) ∙ out-roll-Form _

pub out_Merge : (x : Name) (bs : List MergeBranch) → out-Form (form.Merge x bs) ≡ Form-F.Merge x bs
out_Merge x bs = ap out-Form (sym (form.rolls-Merge x bs)) ∙ out-roll-Form _

pub out_Call : (f : Name) (args : List Expr) → out-Form (form.Call f args) ≡ Form-F.Call f args
out_Call f args = ap out-Form (sym (form.rolls-Call f args)) ∙ out-roll-Form _

pub out_AsyncCall : (q : ℕ) (f : Name) (args : List Expr) → out-Form (form.AsyncCall q f args) ≡ Form-F.AsyncCall q f args
out_AsyncCall q f args = ap out-Form (sym (form.rolls-AsyncCall q f args)) ∙ out-roll-Form _

pub out_AsyncConst : (k : Const) → out-Form (form.AsyncConst k) ≡ Form-F.AsyncConst k
out_AsyncConst k = ap out-Form (sym (form.rolls-AsyncConst k)) ∙ out-roll-Form _

pub out_Get : (a : Expr) → out-Form (form.Get a) ≡ Form-F.Get a
out_Get a = ap out-Form (sym (form.rolls-Get a)) ∙ out-roll-Form _
