use Rattle.std.proofs.Common.{◌≡◌, ◌++◌, map, take}
use Rattle.earliest_fault.specs.Labels.{label_of}
use Rattle.type_futures.specs.Labels.{node_label}
use Rattle.type_futures.proofs.seconds.push_nodes.Given as goal

abbrev pub invariant-loop-node : goal.invariant-loop-node
invariant-loop-node l = map label_of l.labels.items ≡ map label_of l.initial.labels.items ++ map node_label (take l.node-index l.nodes)
