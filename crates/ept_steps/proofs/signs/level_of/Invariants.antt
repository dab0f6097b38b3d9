use Rattle.std.proofs.Common.{◌≡◌, length}
use Rattle.ept_steps.specs.Signs.{level_of}
use Rattle.ept_steps.proofs.signs.level_of.Given as goal

abbrev pub invariant-loop-levels : goal.invariant-loop-levels
invariant-loop-levels l = level_of l.kind l.levels ≡ level_of l.kind l.initial.levels

abbrev pub decreases-loop-levels : goal.decreases-loop-levels
decreases-loop-levels l = length l.levels
