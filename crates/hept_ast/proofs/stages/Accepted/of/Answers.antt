use Rattle.std.proofs.Common.{subst, sym}
use Rattle.hept_ast.specs.Causal.{IsCausal}
use Rattle.hept_ast.specs.ClockMaps.{clock_in}
use Rattle.hept_ast.specs.Initial.{IsInitialised}
use Rattle.hept_ast.proofs.stages.Accepted.of.Goals as goal

pub invariant_of-result : goal.invariant_of-result
invariant_of-result c = record {
  typed = c.clocked.invariant.typed;
  clocked = c.clocked.invariant.clocked;
  initialised = subst (λ v. IsInitialised v.program) (sym c.clocked.view_is) c.requires.initialised;
  causal = subst (λ v. IsCausal v.program (clock_in v.clocks)) (sym c.clocked.view_is) c.requires.causal;
}
