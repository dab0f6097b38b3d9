use Rattle.std.proofs.Common.{length}
use Rattle.normal_form.proofs.Settling.{Normalising}
use Rattle.normal_form.proofs.nodes.normalise.Given as goal

abbrev pub invariant-nodes : goal.invariant-nodes
invariant-nodes l = Normalising l.names l.fn.core l.fn.core.types l.done l.left

abbrev pub decreases-nodes : goal.decreases-nodes
decreases-nodes l = length l.left
