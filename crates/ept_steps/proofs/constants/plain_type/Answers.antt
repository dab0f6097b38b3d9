use Rattle.std.proofs.Common.{refl}
use Rattle.ept_grammar.specs.Grammar.{here, there}
use Rattle.ept_grammar.proofs.Steps.{at_exit, begun_word, begun_first, fails_word, past_word}
use Rattle.ept_grammar.proofs.Words.{plain_type_front}
use Rattle.ept_steps.proofs.constants.plain_type.Goals as goal

pub returns-in-Some-clause-reads : goal.returns-in-Some-clause-reads
returns-in-Some-clause-reads c =
    past_word (begun_word (there here) refl c.in-Some.ensures) c.in-Some.ensures

pub returns-in-Some-take-clause-reads : goal.returns-in-Some-take-clause-reads
returns-in-Some-take-clause-reads c =
    rw c.in_ok-copy_name.ensures (past_word (begun_word (there (there here)) refl c.in-Some-take.ensures) c.in-Some-take.ensures)

pub returns-in_err-rest-clause-reads : goal.returns-in_err-rest-clause-reads
returns-in_err-rest-clause-reads c =
    at_exit _ _ _ c.in_err-rest.field-0.0 c.from_residual-in_err-rest.ensures.1 (fails_word (begun_first refl refl (plain_type_front _ c.in_default.ensures c.in_default-take.ensures)) c.in_err-rest.ensures)

pub returns-clause-reads : goal.returns-clause-reads
returns-clause-reads c =
    past_word (begun_first refl refl (plain_type_front _ c.in_default.ensures c.in_default-take.ensures)) c.in_ok-rest.ensures
