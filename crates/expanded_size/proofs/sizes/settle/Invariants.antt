use Rattle.std.proofs.Common.{◌≡◌, length}
use Rattle.expanded_size.specs.Tables.{callee_lists}
use Rattle.expanded_size.proofs.Tables.{IsRight, open_places}
use Rattle.expanded_size.proofs.sizes.settle.Given as goal

abbrev pub invariant-loop-place : goal.invariant-loop-place
invariant-loop-place l = IsRight l.counts (callee_lists l.graph) l.sizes.items × (length l.sizes.items ≡ length l.graph.rows.items)

abbrev pub decreases-loop-place : goal.decreases-loop-place
decreases-loop-place l = open_places l.sizes.items
