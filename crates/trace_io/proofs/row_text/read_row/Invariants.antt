use Rattle.trace_io.proofs.Rows.{Progress}
use Rattle.trace_io.proofs.row_text.read_row.Given as goal

abbrev pub invariant-loop-kept : goal.invariant-loop-kept
invariant-loop-kept l = Progress l.shape l.line l.out l.kept l.at
