-- What each form calls, and which forms are constants other than 0.
use Rattle.std.proofs.Common.{◌≡◌, ℕ, false, List, [], ◌∷◌, refl}
use Rattle.hept_ast.specs.Faults.{called, called_async, const_is_nonzero, is_nonzero}
use Rattle.hept_ast.specs.declared.tree.Const.{Const}
use Rattle.hept_ast.specs.declared.tree.Expr.{Expr}
use Rattle.hept_ast.specs.declared.tree.MergeBranch.{MergeBranch}
use Rattle.hept_ast.specs.declared.tree.Tag.{Tag}
use Rattle.hept_ast.specs.declared.tree.UnaryOp.{UnaryOp}
use Rattle.hept_ast.specs.declared.tree.BinaryOp.{BinaryOp}
use Rattle.hept_ast.specs.declared.tree.Form.TheVariants as form
use Rattle.hept_ast.proofs.Unfolded.{static}

pub called-Const : (k : Const) → called (form.Const k) ≡ []
unfolding static
called-Const k = refl

pub called-Var : (x : List ℕ) → called (form.Var x) ≡ []
unfolding static
called-Var x = refl

pub called-Last : (x : List ℕ) → called (form.Last x) ≡ []
unfolding static
called-Last x = refl

pub called-Unary : (op : UnaryOp) (a : Expr) → called (form.Unary op a) ≡ []
unfolding static
called-Unary op a = refl

pub called-Binary : (op : BinaryOp) (a b : Expr) → called (form.Binary op a b) ≡ []
unfolding static
called-Binary op a b = refl

pub called-If : (c a b : Expr) → called (form.If c a b) ≡ []
unfolding static
called-If c a b = refl

pub called-Fby : (a b : Expr) → called (form.Fby a b) ≡ []
unfolding static
called-Fby a b = refl

pub called-Pre : (a : Expr) → called (form.Pre a) ≡ []
unfolding static
called-Pre a = refl

pub called-Arrow : (a b : Expr) → called (form.Arrow a b) ≡ []
unfolding static
called-Arrow a b = refl

pub called-When : (a : Expr) (tag : Tag) (x : List ℕ) → called (form.When a tag x) ≡ []
unfolding static
called-When a tag x = refl

pub called-Merge : (x : List ℕ) (bs : List MergeBranch) → called (form.Merge x bs) ≡ []
unfolding static
called-Merge x bs = refl

pub called-Call : (f : List ℕ) (args : List Expr) → called (form.Call f args) ≡ f ∷ []
unfolding static
called-Call f args = refl

pub called-AsyncCall : (q : ℕ) (f : List ℕ) (args : List Expr) → called (form.AsyncCall q f args) ≡ f ∷ []
unfolding static
called-AsyncCall q f args = refl

pub called-AsyncConst : (k : Const) → called (form.AsyncConst k) ≡ []
unfolding static
called-AsyncConst k = refl

pub called-Get : (a : Expr) → called (form.Get a) ≡ []
unfolding static
called-Get a = refl

pub ruleset calls_of_forms = (called-Const, called-Var, called-Last, called-Unary, called-Binary, called-If, called-Fby, called-Pre, called-Arrow, called-When, called-Merge, called-Call, called-AsyncCall, called-AsyncConst, called-Get)

pub called_async-Const : (k : Const) → called_async (form.Const k) ≡ []
unfolding static
called_async-Const k = refl

pub called_async-Var : (x : List ℕ) → called_async (form.Var x) ≡ []
unfolding static
called_async-Var x = refl

pub called_async-Last : (x : List ℕ) → called_async (form.Last x) ≡ []
unfolding static
called_async-Last x = refl

pub called_async-Unary : (op : UnaryOp) (a : Expr) → called_async (form.Unary op a) ≡ []
unfolding static
called_async-Unary op a = refl

pub called_async-Binary : (op : BinaryOp) (a b : Expr) → called_async (form.Binary op a b) ≡ []
unfolding static
called_async-Binary op a b = refl

pub called_async-If : (c a b : Expr) → called_async (form.If c a b) ≡ []
unfolding static
called_async-If c a b = refl

pub called_async-Fby : (a b : Expr) → called_async (form.Fby a b) ≡ []
unfolding static
called_async-Fby a b = refl

pub called_async-Pre : (a : Expr) → called_async (form.Pre a) ≡ []
unfolding static
called_async-Pre a = refl

pub called_async-Arrow : (a b : Expr) → called_async (form.Arrow a b) ≡ []
unfolding static
called_async-Arrow a b = refl

pub called_async-When : (a : Expr) (tag : Tag) (x : List ℕ) → called_async (form.When a tag x) ≡ []
unfolding static
called_async-When a tag x = refl

pub called_async-Merge : (x : List ℕ) (bs : List MergeBranch) → called_async (form.Merge x bs) ≡ []
unfolding static
called_async-Merge x bs = refl

pub called_async-Call : (f : List ℕ) (args : List Expr) → called_async (form.Call f args) ≡ []
unfolding static
called_async-Call f args = refl

pub called_async-AsyncCall : (q : ℕ) (f : List ℕ) (args : List Expr) → called_async (form.AsyncCall q f args) ≡ f ∷ []
unfolding static
called_async-AsyncCall q f args = refl

pub called_async-AsyncConst : (k : Const) → called_async (form.AsyncConst k) ≡ []
unfolding static
called_async-AsyncConst k = refl

pub called_async-Get : (a : Expr) → called_async (form.Get a) ≡ []
unfolding static
called_async-Get a = refl

pub ruleset async_calls_of_forms = (called_async-Const, called_async-Var, called_async-Last, called_async-Unary, called_async-Binary, called_async-If, called_async-Fby, called_async-Pre, called_async-Arrow, called_async-When, called_async-Merge, called_async-Call, called_async-AsyncCall, called_async-AsyncConst, called_async-Get)

pub nonzero-Const : (k : Const) → is_nonzero (form.Const k) ≡ const_is_nonzero k
unfolding static
nonzero-Const k = refl

pub nonzero-Var : (x : List ℕ) → is_nonzero (form.Var x) ≡ false
unfolding static
nonzero-Var x = refl

pub nonzero-Last : (x : List ℕ) → is_nonzero (form.Last x) ≡ false
unfolding static
nonzero-Last x = refl

pub nonzero-Unary : (op : UnaryOp) (a : Expr) → is_nonzero (form.Unary op a) ≡ false
unfolding static
nonzero-Unary op a = refl

pub nonzero-Binary : (op : BinaryOp) (a b : Expr) → is_nonzero (form.Binary op a b) ≡ false
unfolding static
nonzero-Binary op a b = refl

pub nonzero-If : (c a b : Expr) → is_nonzero (form.If c a b) ≡ false
unfolding static
nonzero-If c a b = refl

pub nonzero-Fby : (a b : Expr) → is_nonzero (form.Fby a b) ≡ false
unfolding static
nonzero-Fby a b = refl

pub nonzero-Pre : (a : Expr) → is_nonzero (form.Pre a) ≡ false
unfolding static
nonzero-Pre a = refl

pub nonzero-Arrow : (a b : Expr) → is_nonzero (form.Arrow a b) ≡ false
unfolding static
nonzero-Arrow a b = refl

pub nonzero-When : (a : Expr) (tag : Tag) (x : List ℕ) → is_nonzero (form.When a tag x) ≡ false
unfolding static
nonzero-When a tag x = refl

pub nonzero-Merge : (x : List ℕ) (bs : List MergeBranch) → is_nonzero (form.Merge x bs) ≡ false
unfolding static
nonzero-Merge x bs = refl

pub nonzero-Call : (f : List ℕ) (args : List Expr) → is_nonzero (form.Call f args) ≡ false
unfolding static
nonzero-Call f args = refl

pub nonzero-AsyncCall : (q : ℕ) (f : List ℕ) (args : List Expr) → is_nonzero (form.AsyncCall q f args) ≡ false
unfolding static
nonzero-AsyncCall q f args = refl

pub nonzero-AsyncConst : (k : Const) → is_nonzero (form.AsyncConst k) ≡ false
unfolding static
nonzero-AsyncConst k = refl

pub nonzero-Get : (a : Expr) → is_nonzero (form.Get a) ≡ false
unfolding static
nonzero-Get a = refl

pub ruleset nonzero_forms = (nonzero-Const, nonzero-Var, nonzero-Last, nonzero-Unary, nonzero-Binary, nonzero-If, nonzero-Fby, nonzero-Pre, nonzero-Arrow, nonzero-When, nonzero-Merge, nonzero-Call, nonzero-AsyncCall, nonzero-AsyncConst, nonzero-Get)
