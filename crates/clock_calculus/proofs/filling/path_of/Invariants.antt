use Rattle.std.proofs.Common.{◌≡◌, map, take}
use Rattle.clock_calculus.specs.Numbering.{clock_path, step_of}
use Rattle.clock_calculus.proofs.filling.path_of.Given as goal

abbrev pub invariant-loop-number : goal.invariant-loop-number
invariant-loop-number l = l.path ≡ clock_path (map step_of l.steps) (take l.number-index l.numbers)
