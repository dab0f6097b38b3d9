use Rattle.answer_table.specs.Tables.{IsSameRun, IsSound}
use Rattle.erased_meaning.proofs.solve.solve.Given as goal

abbrev pub invariant-loop : goal.invariant-loop
invariant-loop l = record { sound : IsSound l.answers; same : IsSameRun l.fn.answers l.answers }
