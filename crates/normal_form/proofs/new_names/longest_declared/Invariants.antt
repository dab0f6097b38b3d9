use Rattle.std.proofs.Common.{◌≤◌, length, take}
use Rattle.std.specs.List.{All}
use Rattle.normal_form.proofs.new_names.longest_declared.Given as goal

abbrev pub invariant-loop-decl : goal.invariant-loop-decl
invariant-loop-decl l = record {
  kept : l.fn.longest ≤ l.longest;
  within : All (λ d. length d.name ≤ l.longest) (take l.decl-index l.decls);
}
