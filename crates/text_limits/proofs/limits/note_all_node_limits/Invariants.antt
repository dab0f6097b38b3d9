use Rattle.std.proofs.Common.{◌≡◌, take}
use Rattle.std.specs.List.{flat_map}
use Rattle.hept_ast.specs.Limits.{earlier_of, earliest, node_limits}
use Rattle.text_limits.proofs.limits.note_all_node_limits.Given as goal

abbrev pub invariant-loop-node : goal.invariant-loop-node
invariant-loop-node l = l.found ≡ earlier_of l.initial.found (earliest (flat_map node_limits (take l.node-index l.nodes)))
