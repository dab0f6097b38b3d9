use Rattle.hept_ast.specs.Limits.{node_limits}
use Rattle.earliest_fault.proofs.Noting.{noted_step}
use Rattle.text_limits.proofs.limits.note_all_node_limits.Goals as goal

pub loop-node-preserved : goal.loop-node-preserved
loop-node-preserved c = noted_step node_limits _ _ c.node-item.result c.node-item.result _ _ _ c.loop-node-test.true c.loop-node.invariant c.node-item.is c.in_ok-note_node_limits.ensures
