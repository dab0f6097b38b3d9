use Rattle.normal_form.specs.Settling.{Moves}
use Rattle.normal_form.specs.Sizes.{large_inside}
use Rattle.normal_form.proofs.nodes.settle.Given as goal

abbrev pub invariant-namings : goal.invariant-namings
invariant-namings l = Moves l.types l.before l.after l.names l.fn.e l.fn.rest l.e l.rest

abbrev pub decreases-namings : goal.decreases-namings
decreases-namings l = large_inside l.e.right
