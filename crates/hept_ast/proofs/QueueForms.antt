-- What `queue_limit` gives of each form.
use Rattle.std.proofs.Common.{◌≡◌, ℕ, List, [], refl}
use Rattle.hept_ast.specs.declared.tree.Const.{Const}
use Rattle.hept_ast.specs.declared.tree.Expr.{Expr}
use Rattle.hept_ast.specs.declared.tree.MergeBranch.{MergeBranch}
use Rattle.hept_ast.specs.declared.tree.Tag.{Tag}
use Rattle.hept_ast.specs.declared.tree.UnaryOp.{UnaryOp}
use Rattle.hept_ast.specs.declared.tree.BinaryOp.{BinaryOp}
use Rattle.hept_ast.specs.declared.tree.Form.TheVariants as form
use Rattle.hept_ast.proofs.Unfolded.{static}
use Rattle.hept_ast.specs.Limits.{queue_fault, queue_limit}

pub queue-Const : (p : ℕ) (k : Const) → queue_limit p (form.Const k) ≡ []
unfolding static
queue-Const p k = refl

pub queue-Var : (p : ℕ) (x : List ℕ) → queue_limit p (form.Var x) ≡ []
unfolding static
queue-Var p x = refl

pub queue-Last : (p : ℕ) (x : List ℕ) → queue_limit p (form.Last x) ≡ []
unfolding static
queue-Last p x = refl

pub queue-Unary : (p : ℕ) (op : UnaryOp) (a : Expr) → queue_limit p (form.Unary op a) ≡ []
unfolding static
queue-Unary p op a = refl

pub queue-Binary : (p : ℕ) (op : BinaryOp) (a b : Expr) → queue_limit p (form.Binary op a b) ≡ []
unfolding static
queue-Binary p op a b = refl

pub queue-If : (p : ℕ) (c a b : Expr) → queue_limit p (form.If c a b) ≡ []
unfolding static
queue-If p c a b = refl

pub queue-Fby : (p : ℕ) (a b : Expr) → queue_limit p (form.Fby a b) ≡ []
unfolding static
queue-Fby p a b = refl

pub queue-Pre : (p : ℕ) (a : Expr) → queue_limit p (form.Pre a) ≡ []
unfolding static
queue-Pre p a = refl

pub queue-Arrow : (p : ℕ) (a b : Expr) → queue_limit p (form.Arrow a b) ≡ []
unfolding static
queue-Arrow p a b = refl

pub queue-When : (p : ℕ) (a : Expr) (tag : Tag) (x : List ℕ) → queue_limit p (form.When a tag x) ≡ []
unfolding static
queue-When p a tag x = refl

pub queue-Merge : (p : ℕ) (x : List ℕ) (bs : List MergeBranch) → queue_limit p (form.Merge x bs) ≡ []
unfolding static
queue-Merge p x bs = refl

pub queue-Call : (p : ℕ) (f : List ℕ) (args : List Expr) → queue_limit p (form.Call f args) ≡ []
unfolding static
queue-Call p f args = refl

pub queue-AsyncCall : (p : ℕ) (q : ℕ) (f : List ℕ) (args : List Expr) → queue_limit p (form.AsyncCall q f args) ≡ queue_fault p q
unfolding static
queue-AsyncCall p q f args = refl

pub queue-AsyncConst : (p : ℕ) (k : Const) → queue_limit p (form.AsyncConst k) ≡ []
unfolding static
queue-AsyncConst p k = refl

pub queue-Get : (p : ℕ) (a : Expr) → queue_limit p (form.Get a) ≡ []
unfolding static
queue-Get p a = refl

pub ruleset queue_limits_of = (queue-Const, queue-Var, queue-Last, queue-Unary, queue-Binary, queue-If, queue-Fby, queue-Pre, queue-Arrow, queue-When, queue-Merge, queue-Call, queue-AsyncCall, queue-AsyncConst, queue-Get)
