use Rattle.std.proofs.Common.{take}
use Rattle.lowering_rules.specs.Lowering.{LowersAll, LowersBranches, node_frame}
use Rattle.reset_lowering.proofs.expressions.+lowering.Given as goal

abbrev pub invariant-lower_branches-loop-b : goal.invariant-lower_branches-loop-b
invariant-lower_branches-loop-b l = LowersBranches node_frame l.first (take l.b-index l.bs) l.all l.next

abbrev pub invariant-lower_exprs-loop-e : goal.invariant-lower_exprs-loop-e
invariant-lower_exprs-loop-e l = LowersAll node_frame l.first (take l.e-index l.es) l.all l.next
