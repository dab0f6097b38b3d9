use Rattle.ready_nodes.proofs.Ready.{nodes_are_ready}
use Rattle.ready_nodes.proofs.laws.ready_law.Goals as goal

pub returns : goal.returns
returns c = nodes_are_ready
