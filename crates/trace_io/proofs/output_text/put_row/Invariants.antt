use Rattle.std.proofs.Common.{◌≡◌, ◌+◌, ◌≤◌, drop, cond, eqb, vec_len, vec_capacity}
use Rattle.trace_io.specs.OutputText.{widest_row}
use Rattle.trace_io.proofs.RowLine.{front_text}
use Rattle.trace_io.proofs.output_text.put_row.Given as goal

abbrev pub invariant-loop-k : goal.invariant-loop-k
invariant-loop-k l = (l.text.items ≡ front_text l.shape l.cells l.k) × (vec_len l.text + cond (eqb l.k 0) 0 1 + widest_row (drop l.k l.shape) ≤ widest_row l.shape) × (vec_capacity l.fn.text ≤ vec_capacity l.text)
