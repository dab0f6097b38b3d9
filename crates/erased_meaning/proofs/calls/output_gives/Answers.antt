use Rattle.std.proofs.Common.{Bool, ap, subst, ◌∙◌}
use Rattle.std.proofs.lemmas.Result.{IfOk-weaker}
use Rattle.hept_ast.specs.declared.tree.Form.{out-Form}
use Rattle.hept_ast.specs.declared.tree.Form.TheVariants as variant_of
use Rattle.answer_table.specs.declared.questions.Asked.TheVariants as asked_of
use Rattle.erased_meaning.specs.Rules.{Tests}
use Rattle.erased_meaning.proofs.CallsOf.{output_absent, output_present, output_below, output_called}
use Rattle.erased_meaning.proofs.calls.output_gives.Goals as goal

pub returns-then-not-branch : goal.returns-then-not-branch
returns-then-not-branch c =
    output_absent c.args.answers.now c.args.path.now c.args.output c.args.t c.in_ok-expr.expr.now c.in_ok-expr.ensures
    (subst (λ (b : Bool). Tests c.args.answers.now c.args.path.now asked_of.Present c.args.t b) c.if-not-branch.true c.in_ok-test.ensures)

pub returns-in-Get : goal.returns-in-Get
returns-in-Get c =
    let s = c.args.answers.now in
    let e = c.in_ok-expr.expr.now in
    IfOk-weaker c.ask_part.result _ _
    (λ r h. output_present s c.args.path.now c.args.output c.args.t e r c.in_ok-expr.ensures
    (subst (λ (b : Bool). Tests s c.args.path.now asked_of.Present c.args.t b) c.if-not-branch.false c.in_ok-test.ensures)
    (output_below s c.args.path.now c.args.output c.args.t e c.in-Get.field-0 r (ap out-Form c.in-Get.is ∙ variant_of.outs-Get c.in-Get.field-0) h)) c.ask_part.ensures

pub returns-in_default : goal.returns-in_default
returns-in_default c =
    let s = c.args.answers.now in
    let e = c.in_ok-expr.expr.now in
    IfOk-weaker c.output_of_call.result _ _
    (λ r h. output_present s c.args.path.now c.args.output c.args.t e r c.in_ok-expr.ensures
    (subst (λ (b : Bool). Tests s c.args.path.now asked_of.Present c.args.t b) c.if-not-branch.false c.in_ok-test.ensures)
    (output_called s c.args.path.now c.args.output c.args.t e r c.in_default.not-Get h)) c.output_of_call.ensures
