use Rattle.std.proofs.Common.{refl}
use Rattle.std.proofs.lemmas.Option.{slice_get_read}
use Rattle.causality.proofs.Initialised.{next_noted}
use Rattle.causality.proofs.initial.note_nodes.Goals as goal

pub loop-node-preserved : goal.loop-node-preserved
loop-node-preserved c =
    next_noted c.args.nodes.now c.loop-node.node-index c.loop-node.found c.note_node.new.found c.node-item.result c.loop-node.invariant c.in_ok-note_node.ensures
    (slice_get_read _ _ _ _ refl c.loop-node-test.true c.node-item.is)
