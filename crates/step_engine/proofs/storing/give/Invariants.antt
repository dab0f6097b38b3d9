use Rattle.std.proofs.Common.{◌≡◌, ℕ, ◌<◌, Some}
use Rattle.std.specs.Prelude.{slice_get, slice_index, slice_index_or}
use Rattle.step_cells.specs.declared.cell.Cell.TheVariants as cell
use Rattle.step_plans.specs.Operations.{no_future}
use Rattle.step_engine.proofs.storing.give.Given as goal

abbrev pub invariant-loop-i : goal.invariant-loop-i
invariant-loop-i l = (k r : ℕ) → k < l.i → slice_get l.registers k ≡ Some r → slice_index_or l.outputs k no_future ≡ cell.Value (slice_index l.values r)
