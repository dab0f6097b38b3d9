use Rattle.std.proofs.Common.{Some, None, sym, ◌∙◌}
use Rattle.answer_table.specs.declared.paths.Step.TheVariants as way
use Rattle.answer_table.specs.declared.questions.Answer.TheVariants as answer
use Rattle.answer_table.specs.Tables.{setting_in}
use Rattle.erased_meaning.proofs.TakenOf.{first_taken, next_taken, none_taken, got_as, strong_in, strong_without}
use Rattle.erased_meaning.proofs.automata.strong_taken.Goals as goal

pub returns-in_default : goal.returns-in_default
returns-in_default c = strong_without c.args.answers.now c.args.scope.now c.args.equation c.args.t c.args.states.now c.args.pending (got_as c.at.result _ None c.at.ensures c.in_default.is)

pub returns-then-is_true : goal.returns-then-is_true
returns-then-is_true c =
    c.loop-escape.invariant (answer.StateAt c.target-to.result c.transition-item.result.restart)
    (first_taken c.args.answers.now c.args.scope.now c.args.equation c.args.t c.args.states.now (answer.StateAt c.args.pending.0 c.args.pending.1)
    c.as_slice-transition-items.result.now (λ n. way.Strong c.args.equation c.args.pending.0 n) (λ z. z)
    (strong_in (setting_in c.args.answers.now) c.args.equation c.args.pending.0 c.args.states.now c.in-Some.from.now c.as_slice-transition-items.result.now
    (got_as c.at.result _ (Some c.in-Some.from) c.at.ensures c.in-Some.is) c.as_slice-transition-items.ensures)
    c.loop-escape.escape c.transition-item.result c.in_ok-ask_part.field-0 c.target-to.result c.loop-escape-test.true c.transition-item.is
    c.in_ok-ask_part.ensures (sym c.is_true.ensures ∙ c.if-is_true.true) c.target-to.ensures)

pub loop-escape-preserved : goal.loop-escape-preserved
loop-escape-preserved c a rest =
    c.loop-escape.invariant a
    (next_taken c.args.answers.now c.args.scope.now c.args.equation c.args.t c.args.states.now (answer.StateAt c.args.pending.0 c.args.pending.1)
    c.as_slice-transition-items.result.now (λ n. way.Strong c.args.equation c.args.pending.0 n) (λ z. z)
    (strong_in (setting_in c.args.answers.now) c.args.equation c.args.pending.0 c.args.states.now c.in-Some.from.now c.as_slice-transition-items.result.now
    (got_as c.at.result _ (Some c.in-Some.from) c.at.ensures c.in-Some.is) c.as_slice-transition-items.ensures)
    c.loop-escape.escape c.transition-item.result c.in_ok-ask_part.field-0 a c.loop-escape-test.true c.transition-item.is
    c.in_ok-ask_part.ensures (sym c.is_true.ensures ∙ c.if-is_true.false) rest)

pub returns : goal.returns
returns c =
    c.loop-escape.invariant (answer.StateAt c.args.pending.0 c.args.pending.1)
    (none_taken c.args.answers.now c.args.scope.now c.args.equation c.args.t c.args.states.now (answer.StateAt c.args.pending.0 c.args.pending.1)
    c.as_slice-transition-items.result.now (λ n. way.Strong c.args.equation c.args.pending.0 n) (λ z. z)
    (strong_in (setting_in c.args.answers.now) c.args.equation c.args.pending.0 c.args.states.now c.in-Some.from.now c.as_slice-transition-items.result.now
    (got_as c.at.result _ (Some c.in-Some.from) c.at.ensures c.in-Some.is) c.as_slice-transition-items.ensures)
    c.loop-escape.escape c.loop-escape-test.false)
