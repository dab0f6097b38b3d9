use Rattle.std.proofs.Common.{◌-◌, length, map, true}
use Rattle.causality.specs.Flows.{flow_of}
use Rattle.causality.specs.Rounds.{IsRound, lefts_where}
use Rattle.causality.proofs.grades.nil_variables.Given as goal

abbrev pub invariant-loop-nil : goal.invariant-loop-nil
invariant-loop-nil l = IsRound (map flow_of l.flows) (map (λ r. r.now) l.nil.items)

abbrev pub decreases-loop-nil : goal.decreases-loop-nil
decreases-loop-nil l = length (lefts_where (λ f. true) (map flow_of l.flows)) - length l.nil.items
