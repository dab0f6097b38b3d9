use Rattle.std.proofs.Common.{◌≡◌, ◌<◌, ℕ}
use Rattle.owner_pool.specs.Holding.{told_in, last_in}
use Rattle.station_rule.specs.Seats.{IsSameSeat, book}
use Rattle.station_example.specs.Open.{IsOpen}
use Rattle.station_example.proofs.owner.offer.Given as goal

abbrev pub invariant-loop : goal.invariant-loop
invariant-loop l = record {
  same : IsSameSeat l.initial.owner.seat l.owner.seat;
  opened : IsOpen l.station l.owner.seat l.pool;
  told : (z : ℕ) → told_in l.pool z ≡ told_in l.initial.pool z;
  kept : (z : ℕ) → 0 < told_in l.initial.pool z → last_in l.pool z ≡ last_in l.initial.pool z;
  book : book l.owner.seat ≡ book l.initial.owner.seat;
}
