use Rattle.std.proofs.Common.{length}
use Rattle.schedule.specs.Order.{Taking}
use Rattle.schedule.proofs.equations.in_order.Given as goal

abbrev pub invariant-loop-left : goal.invariant-loop-left
invariant-loop-left l = Taking l.fn.equations l.taken l.left

abbrev pub decreases-loop-left : goal.decreases-loop-left
decreases-loop-left l = length l.left
