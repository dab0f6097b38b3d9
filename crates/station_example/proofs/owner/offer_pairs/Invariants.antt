use Rattle.std.proofs.Common.{◌≡◌, ◌≤◌, ◌*◌, ℕ, length}
use Rattle.owner_pool.specs.Holding.{told_in}
use Rattle.station_rule.specs.Seats.{IsSameSeat, book}
use Rattle.station_example.specs.Open.{IsOpen}
use Rattle.station_example.proofs.owner.offer_pairs.Given as goal

abbrev pub invariant-loop-number : goal.invariant-loop-number
invariant-loop-number l = record {
  same : IsSameSeat l.initial.owner.seat l.owner.seat;
  opened : IsOpen l.station l.owner.seat l.pool;
  told : (z : ℕ) → told_in l.pool z ≡ 0;
  few : length (book l.owner.seat) ≤ 2 * l.number;
}
