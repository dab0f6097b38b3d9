use Rattle.std.proofs.Common.{◌≤◌, take}
use Rattle.std.specs.List.{All}
use Rattle.core_naming.specs.Names.{node_names}
use Rattle.normal_form.specs.NewNames.{AreWithin}
use Rattle.normal_form.proofs.new_names.longest_in_nodes.Given as goal

abbrev pub invariant-loop-node : goal.invariant-loop-node
invariant-loop-node l = record {
  kept : l.fn.longest ≤ l.longest;
  within : All (λ node. AreWithin l.longest (node_names node)) (take l.node-index l.nodes);
}
