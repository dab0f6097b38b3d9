use Rattle.std.proofs.Common.{take}
use Rattle.plan_equations.specs.Grounds.{Body, memories_of}
use Rattle.plan_nodes.specs.Built.{AddsCells}
use Rattle.plan_nodes.proofs.stores.add_body_stores.Given as goal

abbrev pub invariant-loop-k : goal.invariant-loop-k
invariant-loop-k l = (body : Body) → AddsCells l.core.types body l.placed (memories_of l.core.types body.scope (take l.k l.equations)) l.initial.draft l.initial.cells l.draft l.cells
