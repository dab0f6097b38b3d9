use Rattle.std.proofs.Common.{◌≡◌, map, take}
use Rattle.causality.specs.Vertices.{name_of}
use Rattle.causality.proofs.vertices.names_of.Given as goal

abbrev pub invariant-loop-number : goal.invariant-loop-number
invariant-loop-number l = l.names ≡ map (name_of (map (λ r. r.now) l.vertices)) (take l.number-index l.numbers)
