use Rattle.std.proofs.Common.{◌≤◌, take}
use Rattle.std.specs.List.{flat_map}
use Rattle.std.specs.Io.KnownBytes.{Appends}
use Rattle.run_messages.specs.Lines.{behind_space}
use Rattle.run_messages.proofs.line.write_others.Given as goal

abbrev pub invariant-loop-name : goal.invariant-loop-name
invariant-loop-name g l = Appends (g.E.Sink.held l.fn.sink) (g.E.Sink.held l.sink) (flat_map behind_space (take l.name-index l.names)) × (g.E.Sink.faults l.fn.sink ≤ g.E.Sink.faults l.sink)
