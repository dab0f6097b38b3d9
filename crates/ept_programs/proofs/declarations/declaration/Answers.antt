use Rattle.std.proofs.Common.{refl}
use Rattle.ept_grammar.specs.Grammar.{here, there}
use Rattle.ept_grammar.proofs.Steps.{at_exit, begun_word, begun_first, fails_part, fails_word, past, past_part, past_word}
use Rattle.ept_grammar.proofs.Words.{declaration_front}
use Rattle.ept_programs.proofs.declarations.declaration.Goals as goal

pub returns-in_err-names-clause-reads : goal.returns-in_err-names-clause-reads
returns-in_err-names-clause-reads c =
    at_exit _ _ _ c.in_err-names.field-0.0 c.from_residual.ensures.1 (fails_part (past_word (begun_word (there here) refl c.in-Some.ensures) c.in-Some.ensures) _ c.in_err-names.ensures.reads)

pub returns-in_err-after-clause-reads : goal.returns-in_err-after-clause-reads
returns-in_err-after-clause-reads c =
    at_exit _ _ _ c.in_err-after.field-0.0 c.from_residual-in_err-after.ensures.1 (fails_word (past_part (past_word (begun_word (there here) refl c.in-Some.ensures) c.in-Some.ensures) c.in_ok-names.ensures.reads) c.in_err-after.ensures)

pub returns-in_err-init-clause-reads : goal.returns-in_err-init-clause-reads
returns-in_err-init-clause-reads c =
    at_exit _ _ _ c.in_err-init.field-0.0 c.from_residual-in_err-init.ensures.1 (fails_part (past (past_part (past_word (begun_word (there here) refl c.in-Some.ensures) c.in-Some.ensures) c.in_ok-names.ensures.reads) c.in_ok-after.ensures (refl, c.fresh-counts.ensures)) _ c.in_err-init.ensures.reads)

pub returns-in-Some-clause-reads : goal.returns-in-Some-clause-reads
returns-in-Some-clause-reads c =
    rw (c.in_ok-all.ensures, c.as_slice.ensures) (past_part (past (past_part (past_word (begun_word (there here) refl c.in-Some.ensures) c.in-Some.ensures) c.in_ok-names.ensures.reads) c.in_ok-after.ensures (refl, c.fresh-counts.ensures)) c.in_ok-init.ensures.reads)

pub returns-in_err-names-2-clause-reads : goal.returns-in_err-names-2-clause-reads
returns-in_err-names-2-clause-reads c =
    at_exit _ _ _ c.in_err-names-2.field-0.0 c.from_residual-in_err-names-2.ensures.1 (fails_part (begun_first refl refl (declaration_front _ c.in_default.ensures)) _ c.in_err-names-2.ensures.reads)

pub returns-clause-reads : goal.returns-clause-reads
returns-clause-reads c =
    rw (c.in_ok-all-2.ensures, c.as_slice-2.ensures) (past_part (begun_first refl refl (declaration_front _ c.in_default.ensures)) c.in_ok-names-2.ensures.reads)
