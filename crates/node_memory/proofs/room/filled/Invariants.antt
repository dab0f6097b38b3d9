use Rattle.std.proofs.Common.{◌≡◌, replicate}
use Rattle.node_memory.proofs.room.filled.Given as goal

abbrev pub invariant-loop : goal.invariant-loop
invariant-loop g l = l.all.items ≡ replicate l.counter l.item
