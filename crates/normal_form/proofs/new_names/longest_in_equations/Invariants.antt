use Rattle.std.proofs.Common.{◌≤◌, take}
use Rattle.std.specs.List.{All}
use Rattle.core_naming.specs.Names.{equation_names}
use Rattle.normal_form.specs.NewNames.{AreWithin}
use Rattle.normal_form.proofs.new_names.longest_in_equations.Given as goal

abbrev pub invariant-loop-e : goal.invariant-loop-e
invariant-loop-e l = record {
  kept : l.fn.longest ≤ l.longest;
  within : All (λ e. AreWithin l.longest (equation_names e)) (take l.e-index l.equations);
}
