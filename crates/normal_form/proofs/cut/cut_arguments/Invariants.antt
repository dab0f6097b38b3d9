use Rattle.std.proofs.Common.{length}
use Rattle.normal_form.proofs.CutRights.{PassedSimple}
use Rattle.normal_form.proofs.cut.cut_arguments.Given as goal

abbrev pub invariant-arguments : goal.invariant-arguments
invariant-arguments l = PassedSimple l.fn.args l.done l.left

abbrev pub decreases-arguments : goal.decreases-arguments
decreases-arguments l = length l.left
