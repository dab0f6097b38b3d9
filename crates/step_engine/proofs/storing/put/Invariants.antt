use Rattle.std.proofs.Common.{◌≡◌, ℕ, ◌<◌, ◌+◌}
use Rattle.std.specs.Prelude.{slice_index, slice_index_or}
use Rattle.step_cells.specs.Cells.{value_in}
use Rattle.step_plans.specs.Operations.{no_future}
use Rattle.step_engine.proofs.storing.put.Given as goal

abbrev pub invariant-loop-i : goal.invariant-loop-i
invariant-loop-i l = record {
  base : slice_index l.values 0 ≡ 1;
  inputs : (k : ℕ) → k < l.i → slice_index l.values (k + 1) ≡ value_in (slice_index_or l.inputs k no_future);
}
