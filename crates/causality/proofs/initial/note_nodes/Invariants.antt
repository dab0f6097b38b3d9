use Rattle.causality.specs.Initialised.{AreNoted}
use Rattle.causality.proofs.initial.note_nodes.Given as goal

abbrev pub invariant-loop-node : goal.invariant-loop-node
invariant-loop-node l = AreNoted l.nodes l.node-index l.found
