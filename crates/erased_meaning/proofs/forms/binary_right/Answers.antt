use Rattle.std.proofs.Common.{ℕ, sym, subst}
use Rattle.hept_ast.specs.declared.tree.Expr.{Expr}
use Rattle.hept_ast.specs.declared.tree.Form.TheOpen.{Form-F}
use Rattle.answer_table.specs.declared.questions.Answer.TheVariants as answer
use Rattle.erased_meaning.specs.Rules.{FormGives, OperandGets}
use Rattle.erased_meaning.proofs.Following.{gets_as}
use Rattle.erased_meaning.proofs.FormsOf.{binary_gives, binary_right_nil, binary_right_absent}
use Rattle.erased_meaning.proofs.forms.binary_right.Goals as goal

pub returns-in-Nil : goal.returns-in-Nil
returns-in-Nil c = binary_right_nil c.args.answers.now c.args.path.now c.args.t c.args.op c.args.left (gets_as c.args.answers.now c.args.path.now 1 c.args.t _ _ c.in-Nil.is c.in_ok-right.ensures)

pub returns-in-Absent : goal.returns-in-Absent
returns-in-Absent c = binary_right_absent c.args.answers.now c.args.path.now c.args.t c.args.op c.args.left (gets_as c.args.answers.now c.args.path.now 1 c.args.t _ _ c.in-Absent.is c.in_ok-right.ensures)

pub returns-in-Some : goal.returns-in-Some
returns-in-Some c =
    subst (λ (v : ℕ). (a b : Expr) → OperandGets c.args.answers.now c.args.path.now 0 c.args.t (answer.Value c.args.left) → FormGives c.args.answers.now c.args.path.now (Form-F.Binary c.args.op a b) c.args.t (answer.Value v))
    (sym c.in-Some.ensures)
    (binary_gives c.args.answers.now c.args.path.now c.args.t c.args.op c.args.left c.in-Value.right (gets_as c.args.answers.now c.args.path.now 1 c.args.t _ _ c.in-Value.is c.in_ok-right.ensures))
