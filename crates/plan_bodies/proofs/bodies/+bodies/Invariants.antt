use Rattle.std.proofs.Common.{◌+◌, ◌*◌, drop}
use Rattle.plan_bodies.proofs.Valuing.{IsValued}
use Rattle.plan_bodies.proofs.bodies.+bodies.Given as goal

abbrev pub decreases-add_body : goal.decreases-add_body
decreases-add_body l = 4 * l.depth

abbrev pub decreases-add_call : goal.decreases-add_call
decreases-add_call l = 4 * l.depth + 1

abbrev pub decreases-add_equation : goal.decreases-add_equation
decreases-add_equation l = 4 * l.depth + 2

abbrev pub decreases-add_equations : goal.decreases-add_equations
decreases-add_equations l = 4 * l.depth + 3

abbrev pub invariant-add_equations-loop-e : goal.invariant-add_equations-loop-e
invariant-add_equations-loop-e l = IsValued l.core l.depth l.node l.base l.cell l.first l.fn.inputs.items l.initial.draft (drop l.e-index l.node.equations) l.own l.next l.registers.items l.draft l.presences.items l.inner
