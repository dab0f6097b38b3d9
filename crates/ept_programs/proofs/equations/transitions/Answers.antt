use Rattle.std.proofs.Common.{refl}
use Rattle.ept_grammar.proofs.Steps.{at_exit, begun_sole, fails_part, past_part}
use Rattle.ept_programs.proofs.equations.transitions.Goals as goal

pub returns-in_err-weak-clause-reads : goal.returns-in_err-weak-clause-reads
returns-in_err-weak-clause-reads c =
    at_exit _ _ _ c.in_err-weak.field-0.0 c.from_residual.ensures.1 (fails_part (begun_sole _ refl) _ c.in_err-weak.ensures.reads)

pub returns-in_err-strong-clause-reads : goal.returns-in_err-strong-clause-reads
returns-in_err-strong-clause-reads c =
    at_exit _ _ _ c.in_err-strong.field-0.0 c.from_residual-in_err-strong.ensures.1 (fails_part (past_part (begun_sole _ refl) c.in_ok-weak.ensures.reads) _ c.in_err-strong.ensures.reads)

pub returns-clause-reads : goal.returns-clause-reads
returns-clause-reads c =
    past_part (past_part (begun_sole _ refl) c.in_ok-weak.ensures.reads) c.in_ok-strong.ensures.reads
