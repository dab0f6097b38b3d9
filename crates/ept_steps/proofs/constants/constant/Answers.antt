use Rattle.std.proofs.Common.{refl}
use Rattle.ept_grammar.specs.Grammar.{here, there}
use Rattle.ept_grammar.proofs.Steps.{at_exit, begun_word, begun_first, fails_over, fails_word, past, past_word}
use Rattle.ept_grammar.proofs.Words.{constant_front}
use Rattle.ept_steps.proofs.constants.constant.Goals as goal

pub returns-in_err-counts-clause-reads : goal.returns-in_err-counts-clause-reads
returns-in_err-counts-clause-reads c =
    at_exit _ _ _ c.in_err-counts.field-0.0 c.from_residual.ensures.1 (fails_over (begun_word (there here) refl c.in-Some.ensures) c.in-Some.ensures c.in_err-counts.ensures)

pub returns-in_err-token-clause-reads : goal.returns-in_err-token-clause-reads
returns-in_err-token-clause-reads c =
    at_exit _ _ _ c.in_err-token.field-0.0 c.from_residual-in_err-token.ensures.1 (fails_word (past (begun_word (there here) refl c.in-Some.ensures) c.in-Some.ensures c.in_ok-counts.ensures) c.in_err-token.ensures)

pub returns-in-Some-clause-reads : goal.returns-in-Some-clause-reads
returns-in-Some-clause-reads c =
    rw c.negative_number.ensures (past_word (past (begun_word (there here) refl c.in-Some.ensures) c.in-Some.ensures c.in_ok-counts.ensures) c.in_ok-token.ensures)

pub returns-in-Some-take-clause-reads : goal.returns-in-Some-take-clause-reads
returns-in-Some-take-clause-reads c =
    past_word (begun_word (there (there here)) refl c.in-Some-take.ensures) c.in-Some-take.ensures

pub returns-in-Some-take-2-clause-reads : goal.returns-in-Some-take-2-clause-reads
returns-in-Some-take-2-clause-reads c =
    past_word (begun_word (there (there (there here))) refl c.in-Some-take-2.ensures) c.in-Some-take-2.ensures

pub returns-in-Some-take-3-clause-reads : goal.returns-in-Some-take-3-clause-reads
returns-in-Some-take-3-clause-reads c =
    rw c.in_ok-copy_name.ensures (past_word (begun_word (there (there (there (there here)))) refl c.in-Some-take-3.ensures) c.in-Some-take-3.ensures)

pub returns-in_err-token-2-clause-reads : goal.returns-in_err-token-2-clause-reads
returns-in_err-token-2-clause-reads c =
    at_exit _ _ _ c.in_err-token-2.field-0.0 c.from_residual-in_err-token-2.ensures.1 (fails_word (begun_first refl refl (constant_front _ c.in_default.ensures c.in_default-take.ensures c.in_default-take-2.ensures c.in_default-take-3.ensures)) c.in_err-token-2.ensures)

pub returns-clause-reads : goal.returns-clause-reads
returns-clause-reads c =
    rw c.number.ensures (past_word (begun_first refl refl (constant_front _ c.in_default.ensures c.in_default-take.ensures c.in_default-take-2.ensures c.in_default-take-3.ensures)) c.in_ok-token-2.ensures)
