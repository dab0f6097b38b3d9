use Rattle.std.proofs.Common.{◌≡◌, None}
use Rattle.step_engine.specs.Actions.{with_futures}
use Rattle.step_engine.proofs.acting.clear.Given as goal

abbrev pub invariant-loop-j : goal.invariant-loop-j
invariant-loop-j l = l.futures ≡ with_futures l.initial.futures l.first l.j None
