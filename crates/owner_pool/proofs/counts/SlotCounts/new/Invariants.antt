use Rattle.std.proofs.Common.{◌≡◌, ℕ, ◌<◌, length, slice_index}
use Rattle.owner_pool.proofs.counts.SlotCounts.new.Given as goal

abbrev pub invariant-loop-slot : goal.invariant-loop-slot
invariant-loop-slot l = record {
  order_long : length l.order.items ≡ l.slot;
  place_long : length l.place.items ≡ l.slot;
  order_is : (k : ℕ) → k < l.slot → slice_index l.order.items k ≡ k;
  place_is : (k : ℕ) → k < l.slot → slice_index l.place.items k ≡ k;
}
