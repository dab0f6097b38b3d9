use Rattle.std.proofs.Common.{◌+◌, ◌*◌, length}
use Rattle.normal_form.proofs.CutSteps.{Passed}
use Rattle.normal_form.proofs.Weights.{branches_weight, weight}
use Rattle.normal_form.proofs.cut.+cutting.Given as goal

abbrev pub decreases-cut_boxed : goal.decreases-cut_boxed
decreases-cut_boxed l = 4 * weight l.a + 1

abbrev pub decreases-cut_two : goal.decreases-cut_two
decreases-cut_two l = 4 * (weight l.a + weight l.b) + 2

abbrev pub decreases-cut_unary : goal.decreases-cut_unary
decreases-cut_unary l = 4 * weight l.a + 2

abbrev pub decreases-cut_binary : goal.decreases-cut_binary
decreases-cut_binary l = 4 * (weight l.a + weight l.b) + 3

abbrev pub decreases-cut_if : goal.decreases-cut_if
decreases-cut_if l = 4 * (weight l.c + weight l.a + weight l.b) + 3

abbrev pub decreases-cut_when : goal.decreases-cut_when
decreases-cut_when l = 4 * weight l.a + 2

abbrev pub decreases-cut_merge : goal.decreases-cut_merge
decreases-cut_merge l = 4 * branches_weight l.branches + 3

abbrev pub decreases-cut_step : goal.decreases-cut_step
decreases-cut_step l = 4 * weight l.e

abbrev pub decreases-cut_branch : goal.decreases-cut_branch
decreases-cut_branch l = 4 * weight l.branch.value + 1

abbrev pub decreases-cut_branches : goal.decreases-cut_branches
decreases-cut_branches l = 4 * branches_weight l.branches + 2

abbrev pub invariant-cut_branches-branches : goal.invariant-cut_branches-branches
invariant-cut_branches-branches l = Passed l.fn.branches l.done l.left

abbrev pub decreases-cut_branches-branches : goal.decreases-cut_branches-branches
decreases-cut_branches-branches l = length l.left
