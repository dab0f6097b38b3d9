use Rattle.std.proofs.Common.{subst}
use Rattle.hept_ast.specs.Initial.{IsInitialised}
use Rattle.hept_ast.proofs.stages.Accepted.program.Goals as goal

pub returns-clause-initialised : goal.returns-clause-initialised
returns-clause-initialised c = subst (λ v. IsInitialised v.program) c.self.view_is c.self.invariant.initialised
