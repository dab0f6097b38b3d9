-- Cores in normal form.
use Rattle.std.specs.Prelude.{◌≡◌, Bool, true, false, IsTrue, List, [], ◌∷◌, All}
use Rattle.hept_ast.specs.Parts.{inside}
use Rattle.hept_ast.specs.declared.tree.Core.{Core}
use Rattle.hept_ast.specs.declared.tree.CoreEquation.{CoreEquation}
use Rattle.hept_ast.specs.declared.tree.Expr.{Expr}
use Rattle.hept_ast.specs.declared.tree.MergeBranch.{MergeBranch}
use Rattle.hept_ast.specs.declared.tree.Form.{Form, out-Form}
use Rattle.hept_ast.specs.declared.tree.Form.TheOpen.{Form-F}

-- a memory operator, a call, an async call or a get
abbrev pub is_step : Form-F Form Expr MergeBranch → Bool
is_step (Form-F.Fby a b) = true
is_step (Form-F.Pre a) = true
is_step (Form-F.Arrow a b) = true
is_step (Form-F.Call f args) = true
is_step (Form-F.AsyncCall q f args) = true
is_step (Form-F.Get a) = true
is_step _ = false

-- what one is over
abbrev pub operands : Form-F Form Expr MergeBranch → List Expr
operands (Form-F.Fby a b) = a ∷ b ∷ []
operands (Form-F.Pre a) = a ∷ []
operands (Form-F.Arrow a b) = a ∷ b ∷ []
operands (Form-F.Call f args) = args
operands (Form-F.AsyncCall q f args) = args
operands (Form-F.Get a) = a ∷ []
operands _ = []

-- a variable or a constant, also one of future type
abbrev pub is_simple : Form-F Form Expr MergeBranch → Bool
is_simple (Form-F.Const k) = true
is_simple (Form-F.Var x) = true
is_simple (Form-F.AsyncConst k) = true
is_simple _ = false

-- a right side: one of these at the top, over variables and constants, or none anywhere
pub data IsNormalRight (e : Expr) : Type 0 where
  step : IsTrue (is_step (out-Form e.form)) → All (λ a. IsTrue (is_simple (out-Form a.form))) (operands (out-Form e.form)) → IsNormalRight e
  plain : All (λ a. is_step (out-Form a.form) ≡ false) (inside e) → IsNormalRight e

abbrev pub AreNormal : List CoreEquation → Type 0
AreNormal es = All (λ e. IsNormalRight e.right) es

abbrev pub IsNormal : Core → Type 0
IsNormal core = All (λ node. AreNormal node.equations) core.nodes
