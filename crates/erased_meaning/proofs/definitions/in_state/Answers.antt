use Rattle.std.proofs.lemmas.Result.{IfOk-weaker}
use Rattle.erased_meaning.proofs.SaysOf.{automaton_absent, automaton_gives}
use Rattle.erased_meaning.proofs.definitions.in_state.Goals as goal

pub returns-in-Absent : goal.returns-in-Absent
returns-in-Absent c place = automaton_absent c.args.answers.now c.args.scope.now c.args.equation c.args.name c.args.t place c.args.states.now _ c.in-Absent.is c.in_ok-state.ensures

pub returns : goal.returns
returns c = IfOk-weaker c.defined_or_last.result _ _
    (λ a h place. automaton_gives c.args.answers.now c.args.scope.now c.args.equation c.args.name c.args.t place c.args.states.now _ c.in-StateAt.state c.in-StateAt.field-1 a c.in-StateAt.is
    c.in_ok-state.ensures h) c.defined_or_last.ensures
