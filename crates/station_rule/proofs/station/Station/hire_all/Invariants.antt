use Rattle.std.proofs.Common.{◌≡◌, [], length}
use Rattle.std.specs.Prelude.{All}
use Rattle.station_rule.specs.Seats.{IsSeatOf}
use Rattle.station_rule.specs.Steps.{owner_view, server_view}
use Rattle.station_rule.proofs.station.Station.hire_all.Given as goal

abbrev pub invariant-loop : goal.invariant-loop
invariant-loop g l = record {
  seat : IsSeatOf l.self l.owner.seat;
  me : l.owner.seat.me ≡ l.fn.owner.seat.me;
  long : length l.hired.items ≡ l.counter;
  each : All (λ s. IsSeatOf l.self s.seat × (s.seat.me ≡ (server_view (owner_view l.self.layout), []))) l.hired.items;
}
