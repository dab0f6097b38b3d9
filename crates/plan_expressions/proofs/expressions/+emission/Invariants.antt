use Rattle.std.proofs.Common.{◌+◌, ◌*◌}
use Rattle.plan_expressions.proofs.Branches.{AreDone}
use Rattle.plan_expressions.proofs.Weights.{weight, branches_weight}
use Rattle.plan_expressions.proofs.expressions.+emission.Given as goal

abbrev pub decreases-emit : goal.decreases-emit
decreases-emit l = 4 * weight l.e.now

abbrev pub decreases-emit_branch : goal.decreases-emit_branch
decreases-emit_branch l = 4 * weight l.branch.now.value + 1

abbrev pub decreases-emit_branches : goal.decreases-emit_branches
decreases-emit_branches l = 4 * branches_weight l.branches.now + 2

abbrev pub invariant-emit_branches-loop-k : goal.invariant-emit_branches-loop-k
invariant-emit_branches-loop-k l = AreDone l.types l.variables l.registers l.presences l.x l.branches l.fn.draft l.draft l.k l.chosen
