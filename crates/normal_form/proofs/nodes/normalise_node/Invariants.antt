use Rattle.normal_form.specs.Settling.{equations_size}
use Rattle.normal_form.proofs.Settling.{Settling}
use Rattle.normal_form.proofs.nodes.normalise_node.Given as goal

abbrev pub invariant-equations : goal.invariant-equations
invariant-equations l = Settling l.types l.before l.after l.names l.fn.node l.rest

abbrev pub decreases-equations : goal.decreases-equations
decreases-equations l = equations_size l.rest.left
