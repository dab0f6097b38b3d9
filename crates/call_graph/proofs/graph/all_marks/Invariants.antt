use Rattle.std.proofs.Common.{◌≡◌, map}
use Rattle.call_graph.specs.Graph.{marks_after, row_in}
use Rattle.call_graph.proofs.graph.all_marks.Given as goal

abbrev pub invariant-loop-round : goal.invariant-loop-round
invariant-loop-round l = l.marks.items ≡ marks_after (map row_in l.rows) l.to l._round
