use Rattle.std.proofs.Common.{◌≡◌, take, true, All}
use Rattle.schedule.specs.Order.{waits}
use Rattle.schedule.proofs.equations.first_ready.Given as goal

abbrev pub invariant-loop-k : goal.invariant-loop-k
invariant-loop-k l = All (λ e. waits e l.left ≡ true) (take l.k l.left)
