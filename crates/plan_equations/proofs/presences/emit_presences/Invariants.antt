use Rattle.plan_equations.proofs.Beginnings.{AreMade}
use Rattle.plan_equations.proofs.presences.emit_presences.Given as goal

abbrev pub invariant-loop-step : goal.invariant-loop-step
invariant-loop-step l = AreMade l.types l.variables l.clock l.base l.registers l.fn.draft l.draft l.step-index l.presences.items l.last
