use Rattle.std.proofs.Common.{◌≡◌, Some}
use Rattle.step_engine.specs.Actions.{with_futures}
use Rattle.step_engine.proofs.acting.hold.Given as goal

abbrev pub invariant-loop-j : goal.invariant-loop-j
invariant-loop-j l = l.futures ≡ with_futures l.initial.futures l.first l.j (Some l.handle)
