use Rattle.std.proofs.Common.{take}
use Rattle.plan_nodes.specs.Built.{AddsAllCells}
use Rattle.plan_nodes.proofs.stores.add_stores.Given as goal

abbrev pub invariant-loop-placed : goal.invariant-loop-placed
invariant-loop-placed l = AddsAllCells l.core.types (take l.placed-index l.bodies) l.initial.draft l.draft l.cells
