use Rattle.std.proofs.Common.{◌≤◌, take}
use Rattle.std.specs.List.{All}
use Rattle.normal_form.specs.NewNames.{AreWithin, type_names}
use Rattle.normal_form.proofs.new_names.longest_in_types.Given as goal

abbrev pub invariant-loop-declared : goal.invariant-loop-declared
invariant-loop-declared l = record {
  kept : l.fn.longest ≤ l.longest;
  within : All (λ d. AreWithin l.longest (type_names d)) (take l.declared-index l.types);
}
