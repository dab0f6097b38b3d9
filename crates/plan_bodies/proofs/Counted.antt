-- A right side has as many memories as cells.
use Rattle.std.proofs.Common.{◌≡◌, List, length, refl}
use Rattle.hept_ast.specs.Scopes.{Clock, Scope}
use Rattle.hept_ast.specs.declared.tree.TypeDec.{TypeDec}
use Rattle.hept_ast.specs.declared.tree.Expr.{Expr}
use Rattle.hept_ast.specs.declared.tree.MergeBranch.{MergeBranch}
use Rattle.hept_ast.specs.declared.tree.Form.{Form, out-Form}
use Rattle.hept_ast.specs.declared.tree.Form.TheOpen.{Form-F}
use Rattle.plan_equations.specs.Grounds.{fby_memories, right_memories}
use Rattle.plan_equations.specs.Rights.{right_cells, start_cells}

-- a memory for each of its cells
start_memories : (types : List TypeDec) (v : Form-F Form Expr MergeBranch) (b : Expr) (c : Clock) (s : Scope) → length (fby_memories types v b c s) ≡ start_cells v
start_memories types (Form-F.Const k) b c s = refl
start_memories types (Form-F.Var x) b c s = refl
start_memories types (Form-F.Last x) b c s = refl
start_memories types (Form-F.Unary op a) b c s = refl
start_memories types (Form-F.Binary op a d) b c s = refl
start_memories types (Form-F.If i a d) b c s = refl
start_memories types (Form-F.Fby a d) b c s = refl
start_memories types (Form-F.Pre a) b c s = refl
start_memories types (Form-F.Arrow a d) b c s = refl
start_memories types (Form-F.When a tag x) b c s = refl
start_memories types (Form-F.Merge x bs) b c s = refl
start_memories types (Form-F.Call g args) b c s = refl
start_memories types (Form-F.AsyncCall q g args) b c s = refl
start_memories types (Form-F.AsyncConst k) b c s = refl
start_memories types (Form-F.Get a) b c s = refl

pub as_many_memories : (types : List TypeDec) (v : Form-F Form Expr MergeBranch) (c : Clock) (s : Scope) → length (right_memories types v c s) ≡ right_cells v
as_many_memories types (Form-F.Const k) c s = refl
as_many_memories types (Form-F.Var x) c s = refl
as_many_memories types (Form-F.Last x) c s = refl
as_many_memories types (Form-F.Unary op a) c s = refl
as_many_memories types (Form-F.Binary op a b) c s = refl
as_many_memories types (Form-F.If i a b) c s = refl
as_many_memories types (Form-F.Fby a b) c s = start_memories types (out-Form a.form) b c s
as_many_memories types (Form-F.Pre a) c s = refl
as_many_memories types (Form-F.Arrow a b) c s = refl
as_many_memories types (Form-F.When a tag x) c s = refl
as_many_memories types (Form-F.Merge x bs) c s = refl
as_many_memories types (Form-F.Call g args) c s = refl
as_many_memories types (Form-F.AsyncCall q g args) c s = refl
as_many_memories types (Form-F.AsyncConst k) c s = refl
as_many_memories types (Form-F.Get a) c s = refl
