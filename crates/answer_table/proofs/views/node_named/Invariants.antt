use Rattle.std.proofs.Common.{◌≡◌, drop}
use Rattle.hept_ast.specs.Settings.{written_node}
use Rattle.answer_table.proofs.views.node_named.Given as goal

abbrev pub invariant-loop-number : goal.invariant-loop-number
invariant-loop-number l = written_node l.nodes 0 l.name ≡ written_node (drop l.number l.nodes) l.number l.name
