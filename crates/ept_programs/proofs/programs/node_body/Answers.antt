use Rattle.std.proofs.Common.{refl}
use Rattle.ept_grammar.proofs.Steps.{at_exit, begun_sole, fails_part, fails_word, past_part, past_word}
use Rattle.ept_programs.proofs.programs.node_body.Goals as goal

pub returns-in_err-locals-clause-reads : goal.returns-in_err-locals-clause-reads
returns-in_err-locals-clause-reads c =
    at_exit _ _ _ c.in_err-locals.field-0.0 c.from_residual.ensures.1 (fails_part (begun_sole _ refl) _ c.in_err-locals.ensures.reads)

pub returns-in_err-after-clause-reads : goal.returns-in_err-after-clause-reads
returns-in_err-after-clause-reads c =
    at_exit _ _ _ c.in_err-after.field-0.0 c.from_residual-in_err-after.ensures.1 (fails_word (past_part (begun_sole _ refl) c.in_ok-locals.ensures.reads) c.in_err-after.ensures)

pub returns-in_err-body-clause-reads : goal.returns-in_err-body-clause-reads
returns-in_err-body-clause-reads c =
    at_exit _ _ _ c.in_err-body.field-0.0 c.from_residual-in_err-body.ensures.1 (fails_part (past_word (past_part (begun_sole _ refl) c.in_ok-locals.ensures.reads) c.in_ok-after.ensures) _ c.in_err-body.ensures.reads)

pub returns-in_err-end-clause-reads : goal.returns-in_err-end-clause-reads
returns-in_err-end-clause-reads c =
    at_exit _ _ _ c.in_err-end.field-0.0 c.from_residual-in_err-end.ensures.1 (fails_word (past_part (past_word (past_part (begun_sole _ refl) c.in_ok-locals.ensures.reads) c.in_ok-after.ensures) c.in_ok-body.ensures.reads) c.in_err-end.ensures)

pub returns-clause-reads : goal.returns-clause-reads
returns-clause-reads c =
    past_word (past_part (past_word (past_part (begun_sole _ refl) c.in_ok-locals.ensures.reads) c.in_ok-after.ensures) c.in_ok-body.ensures.reads) c.in_ok-end.ensures
