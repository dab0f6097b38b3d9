use Rattle.std.proofs.Common.{◌≡◌, ◌++◌, map, take}
use Rattle.std.specs.List.{flat_map}
use Rattle.hept_ast.specs.Faults.{called}
use Rattle.call_graph.specs.Graph.{places_of}
use Rattle.call_graph.proofs.graph.push_callees.Given as goal

abbrev pub invariant-loop-e : goal.invariant-loop-e
invariant-loop-e l = l.places.items ≡ l.initial.places.items ++ places_of l.nodes (flat_map (λ e. called e.form) (map (λ r. r.now) (take l.e-index l.exprs)))
