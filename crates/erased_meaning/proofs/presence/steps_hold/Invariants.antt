use Rattle.erased_meaning.proofs.HoldingSteps.{HoldsFrom}
use Rattle.erased_meaning.proofs.presence.steps_hold.Given as goal

-- what the steps that are left come to, all of them come to
abbrev pub invariant-loop-step : goal.invariant-loop-step
invariant-loop-step l = HoldsFrom l.answers l.scope l.clock l.t l.step-index
