use Rattle.plan_bodies.proofs.Emitted.{AreEmittedSoFar}
use Rattle.plan_bodies.proofs.arguments.argument_registers.Given as goal

abbrev pub invariant-loop-arg : goal.invariant-loop-arg
invariant-loop-arg l = AreEmittedSoFar l.types l.variables l.registers l.initial.draft l.args l.arg-index l.values.items l.draft
