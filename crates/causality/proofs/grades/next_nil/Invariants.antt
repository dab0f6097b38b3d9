use Rattle.std.proofs.Common.{◌≡◌, map, take}
use Rattle.causality.specs.Flows.{flow_of}
use Rattle.causality.specs.Rounds.{next_nil}
use Rattle.causality.proofs.grades.next_nil.Given as goal

abbrev pub invariant-loop-flow : goal.invariant-loop-flow
invariant-loop-flow l = map (λ r. r.now) l.next.items ≡ next_nil (map flow_of (take l.flow-index l.flows)) (map (λ r. r.now) l.nil)
