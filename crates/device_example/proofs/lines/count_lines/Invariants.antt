use Rattle.std.proofs.Common.{◌≡◌, ◌≤◌, false, length, ℕ, List}
use Rattle.hept_io.specs.Lines.{GivesLines, to_come}
use Rattle.device_example.proofs.lines.count_lines.Given as goal

abbrev pub invariant-loop : goal.invariant-loop
invariant-loop g l = record {
  goes_on : l.reader.is_spent ≡ false;
  fits : l.n ≤ l.counter;
  given : (lines : List (List ℕ)) × (length lines ≡ l.n) × GivesLines (to_come l.initial.reader (g.S.Source.left l.initial.source)) lines (to_come l.reader (g.S.Source.left l.source));
}
