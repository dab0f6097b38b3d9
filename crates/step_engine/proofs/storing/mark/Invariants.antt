use Rattle.std.proofs.Common.{◌≡◌, ℕ, ◌<◌, ◌≤◌, Some}
use Rattle.std.specs.Prelude.{slice_get, slice_index}
use Rattle.step_plans.specs.Sending.{next_mark}
use Rattle.step_plans.specs.declared.action.Offering.{Offering}
use Rattle.step_engine.proofs.storing.mark.Given as goal

abbrev pub invariant-loop-i : goal.invariant-loop-i
invariant-loop-i l = record {
  done : (k : ℕ) (o : Offering) → k < l.i → slice_get l.offerings k ≡ Some o → slice_index l.marks k ≡ next_mark (slice_index l.values o.here) (slice_index l.values o.again) (slice_index l.initial.marks k);
  left : (k : ℕ) → l.i ≤ k → slice_index l.marks k ≡ slice_index l.initial.marks k;
}
