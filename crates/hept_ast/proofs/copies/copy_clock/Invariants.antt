use Rattle.std.proofs.Common.{◌≡◌, take}
use Rattle.hept_ast.proofs.copies.copy_clock.Given as goal

abbrev pub invariant-loop-step : goal.invariant-loop-step
invariant-loop-step l = l.steps ≡ take l.step-index l.clock.steps
