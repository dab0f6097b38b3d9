use Rattle.std.proofs.Common.{refl}
use Rattle.ept_grammar.proofs.Steps.{at_exit, begun_sole, fails_part, fails_word, past_part, past_word}
use Rattle.ept_programs.proofs.declarations.typed_names.Goals as goal

pub returns-in_err-names-clause-reads : goal.returns-in_err-names-clause-reads
returns-in_err-names-clause-reads c =
    at_exit _ _ _ c.in_err-names.field-0.0 c.from_residual.ensures.1 (fails_part (begun_sole _ refl) _ c.in_err-names.ensures.reads)

pub returns-in_err-after-clause-reads : goal.returns-in_err-after-clause-reads
returns-in_err-after-clause-reads c =
    at_exit _ _ _ c.in_err-after.field-0.0 c.from_residual-in_err-after.ensures.1 (fails_word (past_part (begun_sole _ refl) c.in_ok-names.ensures.reads) c.in_err-after.ensures)

pub returns-in_err-ty-clause-reads : goal.returns-in_err-ty-clause-reads
returns-in_err-ty-clause-reads c =
    at_exit _ _ _ c.in_err-ty.field-0.0 c.from_residual-in_err-ty.ensures.1 (fails_part (past_word (past_part (begun_sole _ refl) c.in_ok-names.ensures.reads) c.in_ok-after.ensures) _ c.in_err-ty.ensures.reads)

pub returns-clause-reads : goal.returns-clause-reads
returns-clause-reads c =
    past_part (past_word (past_part (begun_sole _ refl) c.in_ok-names.ensures.reads) c.in_ok-after.ensures) c.in_ok-ty.ensures.reads
