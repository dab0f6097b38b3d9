use Rattle.std.proofs.Common.{inr, refl, subst}
use Rattle.std.specs.Prelude.{IsTrue, ◌↔◌}
use Rattle.hept_ast.specs.declared.tree.Program.{Program}
use Rattle.served_programs.specs.Served.{IsServed}
use Rattle.run_checks.proofs.Refusing.{is_so, not_so}
use Rattle.run_checks.proofs.checks.check_served.Goals as goal

pub returns-in-Ok-true-clause-served : goal.returns-in-Ok-true-clause-served
returns-in-Ok-true-clause-served c =
    is_so c.in-Ok-true.field-0 (IsServed c.args.accepted.now.program) c.in-Ok-true.field-0-test
    (subst (λ (x : Program). IsTrue c.in-Ok-true.field-0 ↔ IsServed x) c.program.ensures.same c.in-Ok-true.ensures)

pub returns-in-Ok-false-clause-ends : goal.returns-in-Ok-false-clause-ends
returns-in-Ok-false-clause-ends c = inr (
  refl,
  not_so c.in-Ok-false.field-0 (IsServed c.args.accepted.now.program) c.in-Ok-false.field-0-test
      (subst (λ (x : Program). IsTrue c.in-Ok-false.field-0 ↔ IsServed x) c.program.ensures.same c.in-Ok-false.ensures),
)
