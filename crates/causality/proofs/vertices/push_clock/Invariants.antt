use Rattle.std.proofs.Common.{◌≡◌, ◌++◌, map, take}
use Rattle.causality.proofs.vertices.push_clock.Given as goal

abbrev pub invariant-loop-step : goal.invariant-loop-step
invariant-loop-step l = map (λ r. r.now) l.names.items ≡ map (λ r. r.now) l.initial.names.items ++ map (λ s. s.name) (take l.step-index l.step-items)
