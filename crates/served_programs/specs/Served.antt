-- The programs that are run so far: nodes of plain equations over constants, variables, operators, `if`, memory operators, `when`, merges and synchronous calls, and of plain types.
use Rattle.std.specs.Prelude.{◌≡◌, Bool, true, false, IsTrue, None, All}
use Rattle.hept_ast.specs.Parts.{expressions, variables}
use Rattle.hept_ast.specs.Types as types
use Rattle.hept_ast.specs.declared.tree.Program.{Program}
use Rattle.hept_ast.specs.declared.tree.Node.{Node}
use Rattle.hept_ast.specs.declared.tree.Block.{Block}
use Rattle.hept_ast.specs.declared.tree.Branch.{Branch}
use Rattle.hept_ast.specs.declared.tree.State.{State}
use Rattle.hept_ast.specs.declared.tree.Decl.{Decl}
use Rattle.hept_ast.specs.declared.tree.Equation.{Equation, out-Equation}
use Rattle.hept_ast.specs.declared.tree.Equation.TheOpen.{Equation-F}
use Rattle.hept_ast.specs.declared.tree.Expr.{Expr}
use Rattle.hept_ast.specs.declared.tree.MergeBranch.{MergeBranch}
use Rattle.hept_ast.specs.declared.tree.Form.{Form, out-Form}
use Rattle.hept_ast.specs.declared.tree.Form.TheOpen.{Form-F}

-- a constant, a variable, an operator, `if`, `fby`, `pre`, `->`, `when`, a merge or a synchronous call
abbrev pub is_served_form : Form-F Form Expr MergeBranch → Bool
is_served_form (Form-F.Const k) = true
is_served_form (Form-F.Var x) = true
is_served_form (Form-F.Unary op a) = true
is_served_form (Form-F.Binary op a b) = true
is_served_form (Form-F.If c a b) = true
is_served_form (Form-F.Fby a b) = true
is_served_form (Form-F.Pre a) = true
is_served_form (Form-F.Arrow a b) = true
is_served_form (Form-F.When a tag x) = true
is_served_form (Form-F.Merge x branches) = true
is_served_form (Form-F.Call f args) = true
is_served_form _ = false

-- a plain equation, also one of several names
abbrev pub IsServedEquation : Equation-F Equation Block Branch State → Type 0
IsServedEquation (Equation-F.Define p left right) = Unit {0}
IsServedEquation _ = ⊥

-- a declaration of a plain type, without an initial constant
abbrev pub IsPlainDecl : Decl → Type 0
IsPlainDecl d = (types.is_plain d.ty ≡ true) × (d.init ≡ None)

pub record IsServedNode (node : Node) : Type 0 where
  pub equations : All (λ e. IsServedEquation (out-Equation e)) node.block.body
  pub forms : All (λ e. IsTrue (is_served_form (out-Form e.form))) (expressions node)
  pub plain : All IsPlainDecl (variables node)

abbrev pub IsServed : Program → Type 0
IsServed p = All IsServedNode p.nodes
