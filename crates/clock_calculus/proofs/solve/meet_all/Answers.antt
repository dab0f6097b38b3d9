use Rattle.std.proofs.Common.{rules}
use Rattle.clock_calculus.proofs.Solved.{condition_clashes, condition_more}
use Rattle.clock_calculus.proofs.solve.meet_all.Goals as goal

pub returns-then-not-done : goal.returns-then-not-done
returns-then-not-done c = condition_clashes c.args.numbers.now c.args.conditions.now c.loop-condition.condition-index c.condition-item.result c.loop-condition-test.true c.condition-item.is c.loop-condition.bindings c.loop-condition.invariant (search rules)

pub loop-condition-preserved : goal.loop-condition-preserved
loop-condition-preserved c = condition_more c.args.numbers.now c.args.conditions.now c.loop-condition.condition-index c.condition-item.result c.loop-condition-test.true c.condition-item.is c.loop-condition.bindings c.meet.new.bindings c.loop-condition.invariant (search rules)
