-- Programs without automata, switches, resets and `last`.
use Rattle.std.specs.Prelude.{◌≡◌, All, None}
use Rattle.hept_ast.specs.Parts.{expressions, variables}
use Rattle.hept_ast.specs.declared.tree.Program.{Program}
use Rattle.hept_ast.specs.declared.tree.Node.{Node}
use Rattle.hept_ast.specs.declared.tree.Block.{Block}
use Rattle.hept_ast.specs.declared.tree.Branch.{Branch}
use Rattle.hept_ast.specs.declared.tree.State.{State}
use Rattle.hept_ast.specs.declared.tree.Equation.{Equation, out-Equation}
use Rattle.hept_ast.specs.declared.tree.Equation.TheOpen.{Equation-F}
use Rattle.hept_ast.specs.declared.tree.Form.{out-Form}
use Rattle.core_rules.specs.WellFormed.{IsNoLast}

abbrev pub IsPlainEquation : Equation-F Equation Block Branch State → Type 0
IsPlainEquation (Equation-F.Define p left right) = Unit {0}
IsPlainEquation _ = ⊥

pub record IsPlainNode (node : Node) : Type 0 where
  pub equations : All (λ e. IsPlainEquation (out-Equation e)) node.block.body
  pub lasts : All (λ e. IsNoLast (out-Form e.form)) (expressions node)
  pub initials : All (λ d. d.init ≡ None) (variables node)

abbrev pub IsPlainProgram : Program → Type 0
IsPlainProgram program = All IsPlainNode program.nodes
