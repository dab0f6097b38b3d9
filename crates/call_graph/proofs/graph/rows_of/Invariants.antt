use Rattle.std.proofs.Common.{◌≡◌, map, take}
use Rattle.call_graph.specs.Graph.{edge_of, row_in}
use Rattle.call_graph.proofs.graph.rows_of.Given as goal

abbrev pub invariant-loop-node : goal.invariant-loop-node
invariant-loop-node l = map row_in l.rows.items ≡ map (edge_of l.nodes) (take l.node-index l.nodes)
