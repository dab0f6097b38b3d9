use Rattle.std.proofs.Common.{◌≤◌, length, take}
use Rattle.std.specs.List.{All}
use Rattle.normal_form.proofs.new_names.longest_of.Given as goal

abbrev pub invariant-loop-name : goal.invariant-loop-name
invariant-loop-name l = record {
  kept : l.fn.longest ≤ l.longest;
  within : All (λ x. length x ≤ l.longest) (take l.name-index l.names);
}
