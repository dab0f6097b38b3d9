use Rattle.std.proofs.Common.{Bool, List, sym, subst}
use Rattle.std.proofs.lemmas.Result.{IfOk-weaker}
use Rattle.answer_table.specs.declared.paths.Step.{Step}
use Rattle.answer_table.specs.declared.questions.Asked.TheVariants as asked_of
use Rattle.answer_table.specs.Tables.{IsScopeOfPath}
use Rattle.erased_meaning.specs.Rules.{Tests}
use Rattle.erased_meaning.proofs.ExpressionsOf.{gives_absent, gives_form}
use Rattle.erased_meaning.proofs.expressions.gives.Goals as goal

pub returns-then-not-branch : goal.returns-then-not-branch
returns-then-not-branch c =
    gives_absent c.args.answers.now c.args.path.now c.args.t c.in_ok-expr.expr.now c.in_ok-expr.ensures
    (subst (λ (b : Bool). Tests c.args.answers.now c.args.path.now asked_of.Present c.args.t b) c.if-not-branch.true c.in_ok-test.ensures)

pub returns : goal.returns
returns c =
    let s = c.args.answers.now in
    let scoped = subst (λ (p : List Step). IsScopeOfPath s c.args.path.now p) (sym c.as_slice.ensures.value) c.in_ok-scope.ensures in
    IfOk-weaker c.form.result _ _
    (λ r h. gives_form s c.args.path.now c.args.t c.in_ok-expr.expr.now r c.in_ok-expr.ensures
    (subst (λ (b : Bool). Tests s c.args.path.now asked_of.Present c.args.t b) c.if-not-branch.false c.in_ok-test.ensures) (h scoped)) c.form.ensures
