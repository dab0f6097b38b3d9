use Rattle.std.proofs.Common.{◌≡◌, ℕ, ◌<◌, ◌≤◌, Some}
use Rattle.std.specs.Prelude.{slice_get, slice_index}
use Rattle.step_plans.specs.Operations.{among, stored, storing_of}
use Rattle.step_plans.specs.declared.instruction.Store.{Store}
use Rattle.step_engine.proofs.storing.store.Given as goal

abbrev pub invariant-loop-i : goal.invariant-loop-i
invariant-loop-i l = record {
  done : (k : ℕ) (s : Store) → k < l.i → slice_get l.stores k ≡ Some s → slice_index l.cells k ≡ stored (among l.values) (storing_of s) (slice_index l.initial.cells k);
  left : (k : ℕ) → l.i ≤ k → slice_index l.cells k ≡ slice_index l.initial.cells k;
}
