use Rattle.std.proofs.Common.{◌≡◌, ℕ, ◌+◌, ◌≤◌, ◌∷◌, ◌++◌, length, take, drop}
use Rattle.owner_pool.specs.Counted.{AreCounts, times}
use Rattle.owner_pool.specs.Noting.{cell_slots, named_by, slots_of}
use Rattle.owner_pool.specs.Holding.{called_in}
use Rattle.owner_pool.proofs.pool.Pool.push_names.Given as goal

abbrev pub invariant-loop-cell : goal.invariant-loop-cell
invariant-loop-cell l = record {
  counts : AreCounts l.self.counts.told.items l.self.counts.called.items l.self.counts.order.items l.self.counts.place.items l.self.counts.unnamed;
  called : (z : ℕ) → called_in l.self z ≡ times z (slots_of l.self.waiting.items);
  waiting : l.self.waiting.items ≡ l.fn.self.waiting.items ++ named_by l.instance l.number (l.slot ∷ cell_slots (take l.cell-index l.input));
  room : length l.self.waiting.items + length (cell_slots (drop l.cell-index l.input)) ≤ l.self.room;
  rest : (l.self.counts.told.items ≡ l.fn.self.counts.told.items) × (l.self.last ≡ l.fn.self.last) × (l.self.seen ≡ l.fn.self.seen) × (l.self.room ≡ l.fn.self.room);
}
