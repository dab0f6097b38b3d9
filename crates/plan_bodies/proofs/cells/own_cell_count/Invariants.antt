use Rattle.std.proofs.Common.{◌≡◌, take}
use Rattle.plan_bodies.specs.Valued.{cells_of}
use Rattle.plan_bodies.proofs.cells.own_cell_count.Given as goal

abbrev pub invariant-loop-e : goal.invariant-loop-e
invariant-loop-e l = l.count ≡ cells_of (take l.e-index l.node.equations)
