use Rattle.std.proofs.Common.{◌≡◌, map, take}
use Rattle.hept_ast.specs.Texts.{same}
use Rattle.call_graph.specs.Graph.{row_in}
use Rattle.call_graph.proofs.graph.first_marks.Given as goal

abbrev pub invariant-loop-row : goal.invariant-loop-row
invariant-loop-row l = l.marks.items ≡ map (λ r. same r.0 l.to) (map row_in (take l.row-index l.rows))
