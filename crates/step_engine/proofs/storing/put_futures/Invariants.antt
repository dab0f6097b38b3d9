use Rattle.std.proofs.Common.{◌≡◌, ℕ, ◌<◌, ◌+◌, All}
use Rattle.std.specs.Prelude.{slice_index_or}
use Rattle.step_plans.specs.Books.{Book, IsCellOf, IsNoHandle}
use Rattle.step_plans.specs.Operations.{no_future}
use Rattle.step_engine.proofs.storing.put_futures.Given as goal

abbrev pub invariant-loop-i : goal.invariant-loop-i
invariant-loop-i l = record {
  inputs : (k : ℕ) → k < l.i → slice_index_or l.futures (l.first + k) no_future ≡ slice_index_or l.inputs k no_future;
  before : (k : ℕ) → k < l.first → slice_index_or l.futures k no_future ≡ slice_index_or l.initial.futures k no_future;
  named : (book : Book) → All (IsCellOf book) l.initial.futures → All IsNoHandle l.inputs → All (IsCellOf book) l.futures;
}
