use Rattle.std.proofs.Common.{refl}
use Rattle.ept_grammar.specs.Grammar.{here, there}
use Rattle.ept_grammar.proofs.Steps.{at_exit, begun_word, begun_first, fails_over, fails_part, fails_word, past, past_part, past_word}
use Rattle.ept_grammar.proofs.Words.{sampling_front}
use Rattle.ept_expressions.proofs.expressions.sampling.Goals as goal

pub returns-in-Some-clause-reads : goal.returns-in-Some-clause-reads
returns-in-Some-clause-reads c =
    rw c.in_ok-copy_name.ensures (past_word (begun_word (there here) refl c.in-Some.ensures) c.in-Some.ensures)

pub returns-in_err-tag-clause-reads : goal.returns-in_err-tag-clause-reads
returns-in_err-tag-clause-reads c =
    at_exit _ _ _ c.in_err-tag.field-0.0 c.from_residual-in_err-tag.ensures.1 (fails_part (begun_first refl refl (sampling_front _ c.in_default.ensures)) _ c.in_err-tag.ensures.reads)

pub returns-in_err-inside-clause-reads : goal.returns-in_err-inside-clause-reads
returns-in_err-inside-clause-reads c =
    at_exit _ _ _ c.in_err-inside.field-0.0 c.from_residual-in_err-inside.ensures.1 (fails_word (past_part (begun_first refl refl (sampling_front _ c.in_default.ensures)) c.in_ok-tag.ensures.reads) c.in_err-inside.ensures)

pub returns-in_err-counts-clause-reads : goal.returns-in_err-counts-clause-reads
returns-in_err-counts-clause-reads c =
    at_exit _ _ _ c.in_err-counts.field-0.0 c.from_residual-in_err-counts.ensures.1 (fails_over (past_part (begun_first refl refl (sampling_front _ c.in_default.ensures)) c.in_ok-tag.ensures.reads) c.in_ok-inside.ensures c.in_err-counts.ensures)

pub returns-in_err-token-clause-reads : goal.returns-in_err-token-clause-reads
returns-in_err-token-clause-reads c =
    at_exit _ _ _ c.in_err-token.field-0.0 c.from_residual-in_err-token.ensures.1 (fails_word (past (past_part (begun_first refl refl (sampling_front _ c.in_default.ensures)) c.in_ok-tag.ensures.reads) c.in_ok-inside.ensures c.in_ok-counts.ensures) c.in_err-token.ensures)

pub returns-in_err-end-clause-reads : goal.returns-in_err-end-clause-reads
returns-in_err-end-clause-reads c =
    at_exit _ _ _ c.in_err-end.field-0.0 c.from_residual-in_err-end.ensures.1 (fails_word (past_word (past (past_part (begun_first refl refl (sampling_front _ c.in_default.ensures)) c.in_ok-tag.ensures.reads) c.in_ok-inside.ensures c.in_ok-counts.ensures) c.in_ok-token.ensures) c.in_err-end.ensures)

pub returns-clause-reads : goal.returns-clause-reads
returns-clause-reads c =
    rw c.in_ok-copy_name-2.ensures (past_word (past_word (past (past_part (begun_first refl refl (sampling_front _ c.in_default.ensures)) c.in_ok-tag.ensures.reads) c.in_ok-inside.ensures c.in_ok-counts.ensures) c.in_ok-token.ensures) c.in_ok-end.ensures)
