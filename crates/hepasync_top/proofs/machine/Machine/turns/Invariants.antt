use Rattle.std.proofs.Common.{◌≤◌, []}
use Rattle.hept_ast.specs.Stages.{ClockedProgram}
use Rattle.hept_io.specs.Lines.{to_come}
use Rattle.hepasync_top.specs.Machine.{CanTurn, HasDone}
use Rattle.hepasync_top.proofs.Ends.{SoFar}
use Rattle.hepasync_top.proofs.machine.Machine.turns.Given as goal

abbrev pub invariant-loop-counted : goal.invariant-loop-counted
invariant-loop-counted g l = CanTurn l.self
    × ((c : ClockedProgram) → HasDone c l.fn.self [] [] → SoFar c l.counted (to_come l.fn.self.reader (g.S.Source.left l.fn.trace)) (g.K.Sink.held l.fn.out) l.self (to_come l.self.reader (g.S.Source.left l.trace)) (g.K.Sink.held l.out))
    × (g.S.Source.faults l.fn.trace ≤ g.S.Source.faults l.trace)
    × (g.K.Sink.faults l.fn.out ≤ g.K.Sink.faults l.out)
