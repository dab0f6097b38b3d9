use Rattle.std.proofs.Common.{refl}
use Rattle.ept_grammar.proofs.Steps.{at_exit, begun_sole, fails_part, fails_word, past_part, past_word}
use Rattle.ept_programs.proofs.programs.interface.Goals as goal

pub returns-in_err-inputs-clause-reads : goal.returns-in_err-inputs-clause-reads
returns-in_err-inputs-clause-reads c =
    at_exit _ _ _ c.in_err-inputs.field-0.0 c.from_residual.ensures.1 (fails_part (begun_sole _ refl) _ c.in_err-inputs.ensures.reads)

pub returns-in_err-returned-clause-reads : goal.returns-in_err-returned-clause-reads
returns-in_err-returned-clause-reads c =
    at_exit _ _ _ c.in_err-returned.field-0.0 c.from_residual-in_err-returned.ensures.1 (fails_word (past_part (begun_sole _ refl) c.in_ok-inputs.ensures.reads) c.in_err-returned.ensures)

pub returns-in_err-outputs-clause-reads : goal.returns-in_err-outputs-clause-reads
returns-in_err-outputs-clause-reads c =
    at_exit _ _ _ c.in_err-outputs.field-0.0 c.from_residual-in_err-outputs.ensures.1 (fails_part (past_word (past_part (begun_sole _ refl) c.in_ok-inputs.ensures.reads) c.in_ok-returned.ensures) _ c.in_err-outputs.ensures.reads)

pub returns-clause-reads : goal.returns-clause-reads
returns-clause-reads c =
    past_part (past_word (past_part (begun_sole _ refl) c.in_ok-inputs.ensures.reads) c.in_ok-returned.ensures) c.in_ok-outputs.ensures.reads
