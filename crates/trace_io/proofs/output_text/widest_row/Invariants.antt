use Rattle.std.proofs.Common.{◌≡◌, ◌+◌, drop}
use Rattle.trace_io.specs.OutputText.{widest_row}
use Rattle.trace_io.proofs.output_text.widest_row.Given as goal

abbrev pub invariant-loop-values : goal.invariant-loop-values
invariant-loop-values l = l.room + widest_row (drop l.values-index l.shape) ≡ widest_row l.shape + 1
