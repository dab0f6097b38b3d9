use Rattle.std.proofs.Common.{map, subst}
use Rattle.std.specs.Prelude.{All}
use Rattle.std.proofs.lemmas.List.{take_all}
use Rattle.clock_calculus.specs.Numbering.{KnowsStep, step_of}
use Rattle.clock_calculus.specs.Written.{clock_term}
use Rattle.clock_calculus.proofs.Numbered.{known_more}
use Rattle.clock_calculus.proofs.numbers.collect_steps.Goals as goal

pub loop-condition-preserved : goal.loop-condition-preserved
loop-condition-preserved c =
    known_more (map step_of c.loop-condition.steps.items) (map step_of c.note_clock.new.steps.items) c.args.conditions.now c.loop-condition.condition-index c.condition-item.result c.loop-condition-test.true c.condition-item.is c.in_ok-note_clock.ensures.kept c.in_ok-note_clock.ensures.known c.loop-condition.invariant

pub returns : goal.returns
returns c = subst (λ t. All (λ x. KnowsStep (map step_of c.loop-condition.steps.items) (clock_term x.right)) t) (take_all c.loop-condition.condition-index c.args.conditions.now c.loop-condition-test.false) c.loop-condition.invariant
