use Rattle.std.proofs.Common.{take}
use Rattle.hept_ast.specs.Scopes.{Written}
use Rattle.hept_ast.specs.Outputs.{HaveValues, output_questions}
use Rattle.answer_table.specs.Tables.{IsSameRun, IsSound, setting_in}
use Rattle.erased_meaning.proofs.solve.row.Given as goal

abbrev pub invariant-loop-output : goal.invariant-loop-output
invariant-loop-output l = record {
  sound : IsSound l.answers;
  same : IsSameRun l.fn.answers l.answers;
  values : HaveValues (setting_in l.fn.answers) l.fn.answers.rows.now (take l.output-index (output_questions (Written l.fn.answers.top l.fn.node) l.t)) l.row.items;
}
