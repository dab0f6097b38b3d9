use Rattle.std.proofs.Common.{refl}
use Rattle.ept_grammar.proofs.Steps.{at_exit, begun_sole, fails_part, fails_word, past_part, past_word}
use Rattle.ept_programs.proofs.programs.input_list.Goals as goal

pub returns-in_err-inside-clause-reads : goal.returns-in_err-inside-clause-reads
returns-in_err-inside-clause-reads c =
    at_exit _ _ _ c.in_err-inside.field-0.0 c.from_residual.ensures.1 (fails_word (begun_sole _ refl) c.in_err-inside.ensures)

pub returns-in_err-all-clause-reads : goal.returns-in_err-all-clause-reads
returns-in_err-all-clause-reads c =
    at_exit _ _ _ c.in_err-all.field-0.0 c.from_residual-in_err-all.ensures.1 (fails_part (past_word (begun_sole _ refl) c.in_ok-inside.ensures) _ c.in_err-all.ensures.reads)

pub returns-in_err-end-clause-reads : goal.returns-in_err-end-clause-reads
returns-in_err-end-clause-reads c =
    at_exit _ _ _ c.in_err-end.field-0.0 c.from_residual-in_err-end.ensures.1 (fails_word (past_part (past_word (begun_sole _ refl) c.in_ok-inside.ensures) c.in_ok-all.ensures.reads) c.in_err-end.ensures)

pub returns-clause-reads : goal.returns-clause-reads
returns-clause-reads c =
    past_word (past_part (past_word (begun_sole _ refl) c.in_ok-inside.ensures) c.in_ok-all.ensures.reads) c.in_ok-end.ensures
