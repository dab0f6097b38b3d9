use Rattle.std.proofs.Common.{◌+◌, ◌-◌, length}
use Rattle.hept_ast.specs.ClockMaps.{IsSameMap}
use Rattle.hept_ast.proofs.clocks.grow.Given as goal

abbrev pub invariant-loop-alloc : goal.invariant-loop-alloc
invariant-loop-alloc l = IsSameMap l.initial.nodes.items l.nodes.items

abbrev pub decreases-loop-alloc : goal.decreases-loop-alloc
decreases-loop-alloc l = l.node + 1 - length l.nodes.items
