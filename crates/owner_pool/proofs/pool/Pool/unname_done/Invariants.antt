use Rattle.std.proofs.Common.{◌≡◌, ℕ, ◌+◌, take, drop}
use Rattle.std.specs.Prelude.{filter}
use Rattle.owner_pool.specs.Counted.{AreCounts, times}
use Rattle.owner_pool.specs.Noting.{slots_of, waits_still}
use Rattle.owner_pool.specs.Holding.{called_in}
use Rattle.owner_pool.proofs.pool.Pool.unname_done.Given as goal

abbrev pub invariant-loop-at : goal.invariant-loop-at
invariant-loop-at l = record {
  counts : AreCounts l.self.counts.told.items l.self.counts.called.items l.self.counts.order.items l.self.counts.place.items l.self.counts.unnamed;
  called : (z : ℕ) → called_in l.self z ≡ times z (slots_of (filter (waits_still l.instance l.done) (take l.at l.self.waiting.items))) + times z (slots_of (drop l.at l.self.waiting.items));
  rest : (l.self.counts.told.items ≡ l.fn.self.counts.told.items) × (l.self.last ≡ l.fn.self.last) × (l.self.seen ≡ l.fn.self.seen) × (l.self.waiting ≡ l.fn.self.waiting) × (l.self.room ≡ l.fn.self.room);
}
