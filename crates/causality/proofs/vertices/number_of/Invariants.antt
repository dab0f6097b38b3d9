use Rattle.std.proofs.Common.{◌≡◌, ◌+◌, map, drop}
use Rattle.hept_ast.specs.Texts.{place_in}
use Rattle.causality.proofs.vertices.number_of.Given as goal

abbrev pub invariant-loop-index : goal.invariant-loop-index
invariant-loop-index l = place_in l.x (map (λ r. r.now) l.vertices) ≡ l.index + place_in l.x (map (λ r. r.now) (drop l.index l.vertices))
