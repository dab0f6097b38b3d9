use Rattle.std.proofs.Common.{◌≡◌, map, take}
use Rattle.call_graph.specs.Graph.{next_marks, row_in}
use Rattle.call_graph.proofs.graph.next_marks.Given as goal

abbrev pub invariant-loop-row : goal.invariant-loop-row
invariant-loop-row l = l.next.items ≡ next_marks (map row_in (take l.row-index l.rows)) l.to l.marks
