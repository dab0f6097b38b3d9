-- Cores of the forms of served programs: equations on any clock, without resets.
use Rattle.std.specs.Prelude.{◌≡◌, IsTrue, [], All}
use Rattle.hept_ast.specs.Parts.{inside}
use Rattle.hept_ast.specs.declared.tree.Core.{Core}
use Rattle.hept_ast.specs.declared.tree.CoreEquation.{CoreEquation}
use Rattle.hept_ast.specs.declared.tree.Form.{out-Form}
use Rattle.served_programs.specs.Served.{is_served_form}

-- an equation without resets, of the forms of served programs
pub record IsFlatEquation (e : CoreEquation) : Type 0 where
  pub resets : e.resets ≡ []
  pub forms : All (λ a. IsTrue (is_served_form (out-Form a.form))) (inside e.right)

abbrev pub IsFlatCore : Core → Type 0
IsFlatCore core = All (λ node. All IsFlatEquation node.equations) core.nodes
