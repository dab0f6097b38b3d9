use Rattle.std.proofs.Common.{length}
use Rattle.schedule.specs.Order.{Doing}
use Rattle.schedule.proofs.nodes.order_nodes.Given as goal

abbrev pub invariant-nodes : goal.invariant-nodes
invariant-nodes l = Doing l.fn.nodes l.done l.left

abbrev pub decreases-nodes : goal.decreases-nodes
decreases-nodes l = length l.left
