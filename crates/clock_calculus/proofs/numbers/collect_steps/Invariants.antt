use Rattle.std.proofs.Common.{map, take}
use Rattle.std.specs.Prelude.{All}
use Rattle.clock_calculus.specs.Numbering.{KnowsStep, step_of}
use Rattle.clock_calculus.specs.Written.{clock_term}
use Rattle.clock_calculus.proofs.numbers.collect_steps.Given as goal

abbrev pub invariant-loop-condition : goal.invariant-loop-condition
invariant-loop-condition l = All (λ c. KnowsStep (map step_of l.steps.items) (clock_term c.right)) (take l.condition-index l.conditions)
