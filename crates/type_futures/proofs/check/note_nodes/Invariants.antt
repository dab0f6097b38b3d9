use Rattle.std.proofs.Common.{◌≡◌, take}
use Rattle.std.specs.List.{flat_map}
use Rattle.hept_ast.specs.Faults.{node_faults}
use Rattle.hept_ast.specs.Limits.{earlier_of, earliest}
use Rattle.type_futures.proofs.check.note_nodes.Given as goal

abbrev pub invariant-loop-node : goal.invariant-loop-node
invariant-loop-node l = l.found ≡ earlier_of l.initial.found (earliest (flat_map (node_faults (record { types = l.types; nodes = l.nodes })) (take l.node-index l.nodes)))
