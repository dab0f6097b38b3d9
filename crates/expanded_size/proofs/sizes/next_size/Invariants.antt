use Rattle.std.proofs.Common.{ℕ, ◌<◌}
use Rattle.expanded_size.specs.Tables.{HasNoSize, callee_lists}
use Rattle.expanded_size.proofs.sizes.next_size.Given as goal

abbrev pub invariant-loop-place : goal.invariant-loop-place
invariant-loop-place l = (place : ℕ) → place < l.place → HasNoSize l.counts (callee_lists l.graph) l.sizes place
