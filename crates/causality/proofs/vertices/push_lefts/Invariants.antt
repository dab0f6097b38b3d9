use Rattle.std.proofs.Common.{◌≡◌, ◌++◌, map, take}
use Rattle.causality.specs.Flows.{flow_of}
use Rattle.causality.specs.Vertices.{lefts}
use Rattle.causality.proofs.vertices.push_lefts.Given as goal

abbrev pub invariant-loop-flow : goal.invariant-loop-flow
invariant-loop-flow l = map (λ r. r.now) l.names.items ≡ map (λ r. r.now) l.initial.names.items ++ lefts (map flow_of (take l.flow-index l.flows))
