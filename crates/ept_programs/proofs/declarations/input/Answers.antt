use Rattle.std.proofs.Common.{refl}
use Rattle.ept_grammar.proofs.Steps.{at_exit, begun_sole, fails_part, past_part}
use Rattle.ept_programs.proofs.declarations.input.Goals as goal

pub returns-in_err-names-clause-reads : goal.returns-in_err-names-clause-reads
returns-in_err-names-clause-reads c =
    at_exit _ _ _ c.in_err-names.field-0.0 c.from_residual.ensures.1 (fails_part (begun_sole _ refl) _ c.in_err-names.ensures.reads)

pub returns-clause-reads : goal.returns-clause-reads
returns-clause-reads c =
    rw (c.in_ok-all.ensures, c.as_slice.ensures) (past_part (begun_sole _ refl) c.in_ok-names.ensures.reads)
