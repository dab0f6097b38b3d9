use Rattle.std.proofs.Common.{◌≤◌}
use Rattle.station_rule.specs.Seats.{IsSeatOf, IsSameSeat, IsServer, IsIdle}
use Rattle.station_example.proofs.worker.work.Given as goal

abbrev pub invariant-loop : goal.invariant-loop
invariant-loop g l = IsSameSeat l.initial.server.seat l.server.seat × IsSeatOf l.station l.server.seat × IsServer l.server.seat × IsIdle l.server.seat × (l.done ≤ l.counter)
