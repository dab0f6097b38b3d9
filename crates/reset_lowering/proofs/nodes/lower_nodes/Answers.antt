use Rattle.std.proofs.Common.{refl, arith}
use Rattle.reset_lowering.proofs.MoreNodes.{no_nodes_yet, next_node, all_nodes}
use Rattle.reset_lowering.proofs.nodes.lower_nodes.Goals as goal

pub loop-node-init : goal.loop-node-init
loop-node-init c = (refl, no_nodes_yet _ _ c.new-all.ensures)

pub loop-node-preserved : goal.loop-node-preserved
loop-node-preserved c =
    (omega (arith, c.in_ok-position.ensures, c.loop-node.invariant.0), next_node _ _ _ _ _ _ _ _ c.loop-node.invariant.0 c.loop-node.invariant.1 c.node-item.is c.loop-node-test.true c.in_ok-lowered.ensures c.in_ok-push.ensures.ok)

pub returns : goal.returns
returns c = all_nodes _ _ _ _ c.loop-node-test.false c.loop-node.invariant.1
