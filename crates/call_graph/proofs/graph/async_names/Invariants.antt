use Rattle.std.proofs.Common.{◌≡◌, map, take}
use Rattle.hept_ast.specs.Faults.{async_nodes}
use Rattle.call_graph.proofs.graph.async_names.Given as goal

abbrev pub invariant-loop-node : goal.invariant-loop-node
invariant-loop-node l = map (λ r. r.now) l.names.items ≡ async_nodes (take l.node-index l.nodes)
