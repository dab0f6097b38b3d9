-- Expressions without `when` and merges: no presence is needed for them, whatever their clock.
use Rattle.std.specs.Prelude.{ℕ, List, []}
use Rattle.hept_ast.specs.Texts.{Name}
use Rattle.hept_ast.specs.declared.tree.TypeDec.{TypeDec}
use Rattle.hept_ast.specs.declared.tree.Expr.{Expr}
use Rattle.plan_expressions.specs.Building.{Emits, KeepsWithin}
use Rattle.plan_expressions.specs.Computable.{Computable}
use Rattle.plan_expressions.specs.Clocked.{EmitsOn, KeepsWithinOn}
use Rattle.plan_expressions.specs.declared.draft.Draft.{Draft}

-- one that is computable without presences has its instructions in every scope
abbrev pub PlainEmits : Type 0
PlainEmits = (types : List TypeDec) (variables : List Name) (registers : List ℕ) (old new : Draft) (e : Expr) (r : ℕ) → Computable types variables 0 e → EmitsOn types variables registers [] old new e r → Emits types variables registers old new e r

abbrev pub PlainKeeps : Type 0
PlainKeeps = (registers : List ℕ) (old new : Draft) (r : ℕ) → KeepsWithinOn registers [] old new r → KeepsWithin registers old new r
