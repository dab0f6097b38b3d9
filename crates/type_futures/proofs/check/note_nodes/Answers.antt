use Rattle.hept_ast.specs.Faults.{node_faults}
use Rattle.call_graph.proofs.Graphs.{among}
use Rattle.earliest_fault.proofs.Noting.{noted_step}
use Rattle.type_futures.proofs.check.note_nodes.Goals as goal

pub loop-node-preserved : goal.loop-node-preserved
loop-node-preserved c =
    noted_step (node_faults (record { types = c.args.types.now; nodes = c.args.nodes.now })) _ _ c.node-item.result c.node-item.result _ _ _ c.loop-node-test.true c.loop-node.invariant c.node-item.is c.in_ok-note_node_of.ensures

pub note_node_of-requires-clause-among : goal.note_node_of-requires-clause-among
note_node_of-requires-clause-among c = among c.args.nodes.now c.loop-node.node-index c.node-item.result c.loop-node-test.true c.node-item.is
