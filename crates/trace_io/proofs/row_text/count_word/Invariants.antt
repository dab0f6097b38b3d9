use Rattle.std.proofs.Common.{◌≡◌, ℕ, ◌<◌, get_or, false}
use Rattle.trace_io.specs.RowText.{is_blank}
use Rattle.trace_io.proofs.row_text.count_word.Given as goal

abbrev pub invariant-loop-i : goal.invariant-loop-i
invariant-loop-i l = (k : ℕ) → k < l.i → is_blank (get_or l.bytes k 0) ≡ false
