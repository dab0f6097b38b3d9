use Rattle.std.proofs.Common.{ℕ, Bool, Option, Some, subst}
use Rattle.std.proofs.lemmas.Result.{IfOk-weaker}
use Rattle.answer_table.specs.declared.questions.Asked.TheVariants as asked_of
use Rattle.answer_table.specs.Tables.{AnswerAt}
use Rattle.erased_meaning.specs.Rules.{Tests}
use Rattle.erased_meaning.specs.Pending.{IsPending, StrongGives}
use Rattle.erased_meaning.proofs.TakenOf.{got_as}
use Rattle.erased_meaning.proofs.AutomataOf.{state_pending}
use Rattle.erased_meaning.proofs.automata.active_state.Goals as goal

pub returns-in-Some-2 : goal.returns-in-Some-2
returns-in-Some-2 c =
    IfOk-weaker c.strong_taken.result (StrongGives c.args.answers.now c.args.scope.now c.args.equation c.in-Some.states.now c.in-Some-2.pending c.args.t)
    (AnswerAt c.args.answers.now c.args.scope.now (asked_of.ActiveState c.args.equation) c.args.t)
    (λ r strong.
    state_pending c.args.answers.now c.args.scope.now c.args.equation c.args.t c.in_ok-block.field-0-0 c.in_ok-block.field-0-1 c.in_ok-block.block c.in-Some.states
    c.in_ok-block.ensures (got_as c.states_at.result _ (Some c.in-Some.states) c.states_at.ensures c.in-Some.is) r c.in-Some-2.pending
    (subst (λ (b : Bool). Tests c.args.answers.now c.args.scope.now asked_of.Active c.args.t b) c.if-not-branch.false c.in_ok-test.ensures)
    (subst (λ (o : Option (ℕ × Bool)). IsPending c.args.answers.now c.args.scope.now c.args.equation c.args.t o) c.in-Some-2.is c.in_ok-pending.ensures)
    strong)
    c.strong_taken.ensures
