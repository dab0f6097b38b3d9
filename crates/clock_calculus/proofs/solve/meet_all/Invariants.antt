use Rattle.std.proofs.Common.{take}
use Rattle.clock_calculus.specs.Numbering.{equations_of}
use Rattle.clock_calculus.specs.Solving.{Solves}
use Rattle.clock_calculus.proofs.solve.meet_all.Given as goal

abbrev pub invariant-loop-condition : goal.invariant-loop-condition
invariant-loop-condition l = Solves l.numbers.unknowns l.bindings (take l.condition-index (equations_of l.numbers l.conditions))
