use Rattle.std.proofs.Common.{refl}
use Rattle.ept_grammar.proofs.Steps.{at_exit, begun_sole, fails_part, fails_word, past, past_part, past_word}
use Rattle.ept_programs.proofs.equations.several.Goals as goal

pub returns-in_err-names-clause-reads : goal.returns-in_err-names-clause-reads
returns-in_err-names-clause-reads c =
    at_exit _ _ _ c.in_err-names.field-0.0 c.from_residual.ensures.1 (fails_part (begun_sole _ refl) _ c.in_err-names.ensures.reads)

pub returns-in_err-closed-clause-reads : goal.returns-in_err-closed-clause-reads
returns-in_err-closed-clause-reads c =
    at_exit _ _ _ c.in_err-closed.field-0.0 c.from_residual-in_err-closed.ensures.1 (fails_word (past_part (begun_sole _ refl) c.in_ok-names.ensures.reads) c.in_err-closed.ensures)

pub returns-in_err-after-clause-reads : goal.returns-in_err-after-clause-reads
returns-in_err-after-clause-reads c =
    at_exit _ _ _ c.in_err-after.field-0.0 c.from_residual-in_err-after.ensures.1 (fails_word (past_word (past_part (begun_sole _ refl) c.in_ok-names.ensures.reads) c.in_ok-closed.ensures) c.in_err-after.ensures)

pub returns-in_err-right-clause-reads : goal.returns-in_err-right-clause-reads
returns-in_err-right-clause-reads c =
    at_exit _ _ _ c.in_err-right.field-0.0 c.from_residual-in_err-right.ensures.1 (fails_part (past (past_word (past_part (begun_sole _ refl) c.in_ok-names.ensures.reads) c.in_ok-closed.ensures) c.in_ok-after.ensures (refl, c.fresh.ensures)) _ c.in_err-right.ensures.reads)

pub returns-clause-reads : goal.returns-clause-reads
returns-clause-reads c =
    rw (c.in_ok-token_names.ensures, c.as_slice.ensures) (past_part (past (past_word (past_part (begun_sole _ refl) c.in_ok-names.ensures.reads) c.in_ok-closed.ensures) c.in_ok-after.ensures (refl, c.fresh.ensures)) c.in_ok-right.ensures.reads)
