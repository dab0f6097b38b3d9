use Rattle.std.proofs.Common.{ℕ, Option, subst}
use Rattle.std.proofs.lemmas.Result.{IfOk-weaker}
use Rattle.answer_table.specs.declared.questions.Asked.TheVariants as asked_of
use Rattle.erased_meaning.specs.Rules.{Went}
use Rattle.erased_meaning.proofs.Backwards.{pre_before, pre_first}
use Rattle.erased_meaning.proofs.delays.pre.Goals as goal

pub returns-in-Some : goal.returns-in-Some
returns-in-Some c =
    let s = c.args.answers.now in
    let went = subst (λ (o : Option ℕ). Went s c.args.path.now asked_of.Present c.args.scope.now c.args.t o) c.in-Some.is c.in_ok-before.ensures in
    IfOk-weaker c.operand.result _ _ (λ r h. pre_before s c.args.path.now c.args.scope.now c.args.t c.in-Some.before r went h) c.operand.ensures

pub returns-in-None : goal.returns-in-None
returns-in-None c =
    let s = c.args.answers.now in
    pre_first s c.args.path.now c.args.scope.now c.args.t
    (subst (λ (o : Option ℕ). Went s c.args.path.now asked_of.Present c.args.scope.now c.args.t o) c.in-None.is c.in_ok-before.ensures)
