use Rattle.std.proofs.Common.{take}
use Rattle.clock_calculus.specs.Filled.{IsFilled}
use Rattle.clock_calculus.specs.Numbering.{names_of, solved_clock, steps_of}
use Rattle.clock_calculus.proofs.filling.set_clocks.Given as goal

abbrev pub invariant-loop-name : goal.invariant-loop-name
invariant-loop-name l = IsFilled l.initial.clocks l.clocks l.node.0 (take l.name-index (names_of l.numbers)) (solved_clock (names_of l.numbers) (steps_of l.numbers) l.bindings)
