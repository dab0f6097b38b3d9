use Rattle.std.proofs.Common.{subst, sym}
use Rattle.causality.specs.Acceptance.{IsAcceptable}
use Rattle.causality.proofs.acceptance.accept.Goals as goal

pub returns-clause-acceptable : goal.returns-clause-acceptable
returns-clause-acceptable c = subst IsAcceptable (sym c.of.ensures) (record { initialised = c.in_default.ensures.answer; causal = c.in_default-check_causal.ensures.answer })
