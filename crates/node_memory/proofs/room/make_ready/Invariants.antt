use Rattle.std.proofs.Common.{◌≡◌, ℕ, ◌<◌, All}
use Rattle.std.specs.Prelude.{slice_index, slice_index_or}
use Rattle.step_cells.specs.declared.cell.Cell.TheVariants as cell
use Rattle.step_plans.specs.Books.{Book, IsCellOf}
use Rattle.step_plans.specs.Operations.{no_future}
use Rattle.node_memory.proofs.room.make_ready.Given as goal

abbrev pub invariant-loop-i : goal.invariant-loop-i
invariant-loop-i l = record {
  ready : (k : ℕ) → k < l.i → slice_index_or l.futures k no_future ≡ cell.Ready (slice_index l.values k);
  named : (book : Book) → All (IsCellOf book) l.initial.futures → All (IsCellOf book) l.futures;
}
