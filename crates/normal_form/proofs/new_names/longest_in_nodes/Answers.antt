use Rattle.std.proofs.Common.{◌≤◌, ℕ, length, arith}
use Rattle.core_naming.specs.Names.{node_names}
use Rattle.hept_ast.specs.declared.tree.CoreNode.{CoreNode}
use Rattle.normal_form.specs.NewNames.{AreWithin}
use Rattle.normal_form.proofs.NewNames.{all_seen, grown, within_more}
use Rattle.normal_form.proofs.new_names.longest_in_nodes.Goals as goal

pub loop-node-preserved : goal.loop-node-preserved
loop-node-preserved c = record {
  kept = omega arith;
  within = grown (λ (n : ℕ) (node : CoreNode). AreWithin n (node_names node)) (λ m n node le h. within_more m n (node_names node) le h) c.args.nodes.now c.loop-node.node-index c.node-item.result
      c.loop-node.longest c.longest_in_node-longest.result c.loop-node-test.true c.longest_in_node-longest.ensures.kept c.loop-node.invariant.within c.node-item.is c.longest_in_node-longest.ensures.within;
}

pub returns-clause-within : goal.returns-clause-within
returns-clause-within c =
    let le : length c.args.nodes.now ≤ c.loop-node.node-index = omega arith in
    all_seen (λ (node : CoreNode). AreWithin c.loop-node.longest (node_names node)) c.args.nodes.now c.loop-node.node-index le c.loop-node.invariant.within
