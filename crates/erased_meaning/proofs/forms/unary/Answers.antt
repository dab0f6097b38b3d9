use Rattle.std.proofs.Common.{ℕ, sym, subst}
use Rattle.hept_ast.specs.declared.tree.Expr.{Expr}
use Rattle.hept_ast.specs.declared.tree.Form.TheOpen.{Form-F}
use Rattle.answer_table.specs.declared.questions.Answer.TheVariants as answer
use Rattle.erased_meaning.specs.Rules.{FormGives}
use Rattle.erased_meaning.proofs.Following.{gets_as}
use Rattle.erased_meaning.proofs.FormsOf.{unary_gives, unary_nil, unary_absent}
use Rattle.erased_meaning.proofs.forms.unary.Goals as goal

pub returns-in-Nil : goal.returns-in-Nil
returns-in-Nil c = unary_nil c.args.answers.now c.args.path.now c.args.t c.args.op (gets_as c.args.answers.now c.args.path.now 0 c.args.t _ _ c.in-Nil.is c.in_ok-value.ensures)

pub returns-in-Absent : goal.returns-in-Absent
returns-in-Absent c = unary_absent c.args.answers.now c.args.path.now c.args.t c.args.op (gets_as c.args.answers.now c.args.path.now 0 c.args.t _ _ c.in-Absent.is c.in_ok-value.ensures)

pub returns-in-Value : goal.returns-in-Value
returns-in-Value c =
    subst (λ (v : ℕ). (a : Expr) → FormGives c.args.answers.now c.args.path.now (Form-F.Unary c.args.op a) c.args.t (answer.Value v)) (sym c.unary_of.ensures)
    (unary_gives c.args.answers.now c.args.path.now c.args.t c.args.op c.in-Value.value (gets_as c.args.answers.now c.args.path.now 0 c.args.t _ _ c.in-Value.is c.in_ok-value.ensures))
