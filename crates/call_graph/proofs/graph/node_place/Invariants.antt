use Rattle.std.proofs.Common.{◌≡◌, ◌+◌, drop}
use Rattle.std.specs.Option.{option_map}
use Rattle.call_graph.specs.Graph.{node_place}
use Rattle.call_graph.proofs.graph.node_place.Given as goal

abbrev pub invariant-loop-index : goal.invariant-loop-index
invariant-loop-index l = node_place l.name l.nodes ≡ option_map (λ k. l.index + k) (node_place l.name (drop l.index l.nodes))
