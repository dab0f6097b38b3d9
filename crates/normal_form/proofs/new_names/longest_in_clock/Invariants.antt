use Rattle.std.proofs.Common.{◌≤◌, length, take}
use Rattle.std.specs.List.{All}
use Rattle.normal_form.proofs.new_names.longest_in_clock.Given as goal

abbrev pub invariant-loop-step : goal.invariant-loop-step
invariant-loop-step l = record {
  kept : l.fn.longest ≤ l.longest;
  within : All (λ s. length s.name ≤ l.longest) (take l.step-index l.steps);
}
