use Rattle.std.proofs.Common.{◌≡◌, ◌++◌, map, take}
use Rattle.causality.specs.Vertices.{numbers}
use Rattle.causality.proofs.vertices.push_numbers.Given as goal

abbrev pub invariant-loop-x : goal.invariant-loop-x
invariant-loop-x l = l.row ≡ l.initial.row ++ numbers (map (λ r. r.now) l.vertices) (map (λ r. r.now) (take l.x-index l.names))
