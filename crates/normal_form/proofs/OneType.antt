-- The type of an expression that has exactly one.
use Rattle.std.proofs.Common.{◌≡◌, false, [], ◌∷◌, sym, ap, ◌∙◌}
use Rattle.std.specs.Prelude.{Some}
use Rattle.hept_ast.specs.Faults.{Judging, judge_expr}
use Rattle.hept_ast.specs.declared.tree.Expr.{Expr}
use Rattle.hept_ast.specs.declared.tree.Ty.{Ty}
use Rattle.normal_form.specs.OneType.{IsTypeOf}
use Rattle.normal_form.proofs.TypedOperands.{HasOneType}

pub one_type_is : (w : Judging) (e : Expr) (t : Ty) → IsTypeOf w e t → HasOneType w false e → (judge_expr w e).types ≡ Some (t ∷ [])
one_type_is w e t is h = h.types ∙ ap (λ (u : Ty). Some (u ∷ [])) (sym (is false h.type h.types))
