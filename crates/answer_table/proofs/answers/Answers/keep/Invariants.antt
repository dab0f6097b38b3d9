use Rattle.std.proofs.Common.{◌+◌, ◌-◌, length}
use Rattle.answer_table.specs.Tables.{IsSameRun, IsSound}
use Rattle.answer_table.proofs.answers.Answers.keep.Given as goal

abbrev pub invariant-loop-self : goal.invariant-loop-self
invariant-loop-self l = record { sound : IsSound l.self; same : IsSameRun l.fn.self l.self }

abbrev pub decreases-loop-self : goal.decreases-loop-self
decreases-loop-self l = l.question.instant + 1 - length l.self.known.items
