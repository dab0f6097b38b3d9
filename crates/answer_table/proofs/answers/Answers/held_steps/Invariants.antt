use Rattle.std.proofs.Common.{◌≡◌, take}
use Rattle.answer_table.specs.Tables.{held_clock}
use Rattle.answer_table.proofs.answers.Answers.held_steps.Given as goal

abbrev pub invariant-loop-step : goal.invariant-loop-step
invariant-loop-step l = held_clock l.clock.items ≡ take l.step-index l.steps
