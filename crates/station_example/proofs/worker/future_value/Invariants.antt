use Rattle.std.proofs.Common.{◌≡◌}
use Rattle.station_example.proofs.worker.future_value.Given as goal

abbrev pub invariant-loop : goal.invariant-loop
invariant-loop g l =
    (l.server.seat.table_id ≡ l.initial.server.seat.table_id) × (l.server.seat.id ≡ l.initial.server.seat.id) × (l.server.seat.me.0.jobs ≡ l.initial.server.seat.me.0.jobs) × (l.server.seat.me.0.role ≡ l.initial.server.seat.me.0.role)
    × (l.server.seat.me.0.layout ≡ l.initial.server.seat.me.0.layout) × (l.server.seat.me.0.closed ≡ l.initial.server.seat.me.0.closed) × (l.server.seat.me.1 ≡ l.initial.server.seat.me.1)
