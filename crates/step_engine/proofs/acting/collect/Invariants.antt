use Rattle.std.proofs.Common.{◌≡◌, map, take}
use Rattle.step_plans.specs.Operations.{cell_of}
use Rattle.step_engine.proofs.acting.collect.Given as goal

abbrev pub invariant-loop-i : goal.invariant-loop-i
invariant-loop-i l = take l.i l.input ≡ map (cell_of l.values l.futures) (take l.i l.sources)
