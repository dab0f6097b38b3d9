use Rattle.std.proofs.Common.{◌≡◌, ◌++◌, map, take}
use Rattle.call_graph.specs.Graph.{places_of}
use Rattle.call_graph.proofs.graph.push_places.Given as goal

abbrev pub invariant-loop-name : goal.invariant-loop-name
invariant-loop-name l = l.places.items ≡ l.initial.places.items ++ places_of l.nodes (map (λ r. r.now) (take l.name-index l.names))
