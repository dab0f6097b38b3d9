-- What holds of every program that a text spells: each declared type has a constructor, each number has 32 bits, and each plain
-- equation has a name on its left side.
use Rattle.std.specs.Prelude.{[], All, Option, Some, None}
use Rattle.hept_ast.specs.Parts.{Part, Plain, expressions, parts, variables}
use Rattle.hept_ast.specs.declared.tree.Program.{Program}
use Rattle.hept_ast.specs.declared.tree.Init.{Init}
use Rattle.hept_ast.specs.declared.tree.Form.{out-Form}
use Rattle.hept_ast.specs.TypedValues.{FitsConst, HaveConstructors}
use Rattle.sound_expressions.specs.Demands.{FitsForm}

abbrev pub FitsInit : Option Init → Type 0
FitsInit None = Unit {0}
FitsInit (Some i) = FitsConst i.value

abbrev pub HasLeft : Part → Type 0
HasLeft (Plain p [] right) = ⊥
HasLeft _ = Unit {0}

pub record IsInRange (program : Program) : Type 0 where
  pub constructors : HaveConstructors program.types
  pub constants : All (λ node. All (λ e. FitsForm (out-Form e.form)) (expressions node)) program.nodes
  pub initials : All (λ node. All (λ d. FitsInit d.init) (variables node)) program.nodes
  pub lefts : All (λ node. All (λ q. HasLeft q.part) (parts node)) program.nodes
