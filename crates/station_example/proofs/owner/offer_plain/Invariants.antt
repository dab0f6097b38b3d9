use Rattle.std.proofs.Common.{◌≤◌, length}
use Rattle.station_rule.specs.Seats.{IsSameSeat, book}
use Rattle.station_example.specs.Open.{IsOpen}
use Rattle.station_example.proofs.owner.offer_plain.Given as goal

abbrev pub invariant-loop-number : goal.invariant-loop-number
invariant-loop-number l = record {
  same : IsSameSeat l.initial.owner.seat l.owner.seat;
  opened : IsOpen l.station l.owner.seat l.pool;
  few : length (book l.owner.seat) ≤ l.number;
}
