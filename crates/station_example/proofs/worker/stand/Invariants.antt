use Rattle.std.proofs.Common.{◌≡◌}
use Rattle.station_rule.specs.Seats.{IsSeatOf, IsServer, IsIdle}
use Rattle.station_example.proofs.worker.stand.Given as goal

abbrev pub invariant-loop : goal.invariant-loop
invariant-loop g l = IsSeatOf l.station l.server.seat × (l.server.seat.table_id ≡ l.initial.server.seat.table_id) × (l.server.seat.me.0.layout ≡ l.initial.server.seat.me.0.layout) × IsServer l.server.seat × IsIdle l.server.seat
