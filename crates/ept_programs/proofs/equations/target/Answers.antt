use Rattle.std.proofs.Common.{refl}
use Rattle.ept_grammar.specs.Grammar.{here, there}
use Rattle.ept_grammar.proofs.Steps.{at_exit, begun_word, begun_first, fails_word, past_word}
use Rattle.ept_grammar.proofs.Words.{target_front}
use Rattle.ept_programs.proofs.equations.target.Goals as goal

pub returns-in_err-token-clause-reads : goal.returns-in_err-token-clause-reads
returns-in_err-token-clause-reads c =
    at_exit _ _ _ c.in_err-token.field-0.0 c.from_residual.ensures.1 (fails_word (past_word (begun_word (there here) refl c.in-Some.ensures) c.in-Some.ensures) c.in_err-token.ensures)

pub returns-in-Some-clause-reads : goal.returns-in-Some-clause-reads
returns-in-Some-clause-reads c =
    rw c.in_ok-copy_name.ensures (past_word (past_word (begun_word (there here) refl c.in-Some.ensures) c.in-Some.ensures) c.in_ok-token.ensures)

pub returns-in_err-rest-clause-reads : goal.returns-in_err-rest-clause-reads
returns-in_err-rest-clause-reads c =
    at_exit _ _ _ c.in_err-rest.field-0.0 c.from_residual-in_err-rest.ensures.1 (fails_word (begun_first refl refl (target_front _ c.in_default.ensures)) c.in_err-rest.ensures)

pub returns-in_err-token-2-clause-reads : goal.returns-in_err-token-2-clause-reads
returns-in_err-token-2-clause-reads c =
    at_exit _ _ _ c.in_err-token-2.field-0.0 c.from_residual-in_err-token-2.ensures.1 (fails_word (past_word (begun_first refl refl (target_front _ c.in_default.ensures)) c.in_ok-rest.ensures) c.in_err-token-2.ensures)

pub returns-clause-reads : goal.returns-clause-reads
returns-clause-reads c =
    rw c.in_ok-copy_name-2.ensures (past_word (past_word (begun_first refl refl (target_front _ c.in_default.ensures)) c.in_ok-rest.ensures) c.in_ok-token-2.ensures)
