use Rattle.std.proofs.Common.{◌≡◌, ℕ, ◌<◌, ◌≤◌, All, Some}
use Rattle.std.specs.Prelude.{slice_get}
use Rattle.step_plans.specs.Books.{Book, IsCellOf}
use Rattle.step_plans.specs.declared.instruction.Store.{Store}
use Rattle.step_engine.specs.Running.{future_at}
use Rattle.step_engine.specs.Actions.{stored_future}
use Rattle.step_engine.proofs.storing.store_futures.Given as goal

abbrev pub invariant-loop-i : goal.invariant-loop-i
invariant-loop-i l = record {
  done : (k : ℕ) (s : Store) → k < l.i → slice_get l.stores k ≡ Some s → future_at l.futures k ≡ stored_future l.values l.initial.futures s (future_at l.initial.futures k);
  left : (k : ℕ) → l.i ≤ k → future_at l.futures k ≡ future_at l.initial.futures k;
  named : (book : Book) → All (IsCellOf book) l.initial.futures → All (IsCellOf book) l.futures;
}
