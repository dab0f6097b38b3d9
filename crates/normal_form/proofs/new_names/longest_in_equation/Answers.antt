use Rattle.std.proofs.Common.{◌≤◌, length, subst}
use Rattle.std.specs.List.{All}
use Rattle.hept_ast.specs.declared.tree.ClockStep.{ClockStep}
use Rattle.normal_form.specs.NewNames.{AreWithin}
use Rattle.normal_form.proofs.NewNames.{within_equation}
use Rattle.normal_form.proofs.new_names.longest_in_equation.Goals as goal

pub returns-clause-within : goal.returns-clause-within
returns-clause-within c =
    let l = c.longest_of-left.result in
    let k = c.longest_in_clock-clock.result in
    let n = c.longest_of.result in
    within_equation c.args.e.now l k n c.longest_in_clock-clock.ensures.kept c.longest_of.ensures.kept (subst (AreWithin l) c.as_slice.ensures c.longest_of-left.ensures.within)
    (subst (All (λ (s : ClockStep). length s.name ≤ k)) c.as_slice-2.ensures c.longest_in_clock-clock.ensures.within) (subst (AreWithin n) c.as_slice-3.ensures c.longest_of.ensures.within)
