use Rattle.std.proofs.Common.{take}
use Rattle.hept_ast.specs.Scopes.{Written}
use Rattle.hept_ast.specs.Outputs.{OutputsFrom}
use Rattle.answer_table.specs.Things.{setting_of}
use Rattle.answer_table.specs.Tables.{IsSameRun, IsSound}
use Rattle.erased_meaning.proofs.solve.value_rows.Given as goal

abbrev pub invariant-loop-t : goal.invariant-loop-t
invariant-loop-t l = record {
  sound : IsSound l.answers;
  same : IsSameRun l.initial.answers l.answers;
  outs : OutputsFrom (setting_of l.accepted) l.rows (Written l.top l.node) 0 (take l.t l.rows) l.outs;
}
