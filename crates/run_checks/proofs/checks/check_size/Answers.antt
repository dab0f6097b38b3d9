use Rattle.std.proofs.Common.{◌<◌, length, subst, sym}
use Rattle.hept_ast.specs.declared.tree.Program.{Program}
use Rattle.run_checks.proofs.Refusing.{within_chosen}
use Rattle.run_checks.proofs.checks.check_size.Goals as goal

pub expanded_size-requires-clause-within : goal.expanded_size-requires-clause-within
expanded_size-requires-clause-within c =
    subst (λ (x : Program). c.args.main.0 < length x.nodes) (sym c.program.ensures.same) (within_chosen c.args.accepted.now.program.nodes c.args.main.0 c.requires)
