use Rattle.std.proofs.Common.{refl}
use Rattle.ept_grammar.specs.Grammar.{here, there}
use Rattle.ept_grammar.proofs.Steps.{at_exit, begun_word, begun_first, fails_part, past_part, past_word}
use Rattle.ept_grammar.proofs.Words.{type_of_front}
use Rattle.ept_steps.proofs.constants.type_of.Goals as goal

pub returns-in_err-plain-clause-reads : goal.returns-in_err-plain-clause-reads
returns-in_err-plain-clause-reads c =
    at_exit _ _ _ c.in_err-plain.field-0.0 c.from_residual.ensures.1 (fails_part (past_word (begun_word (there here) refl c.in-Some.ensures) c.in-Some.ensures) _ c.in_err-plain.ensures.reads)

pub returns-in-Some-clause-reads : goal.returns-in-Some-clause-reads
returns-in-Some-clause-reads c =
    past_part (past_word (begun_word (there here) refl c.in-Some.ensures) c.in-Some.ensures) c.in_ok-plain.ensures.reads

pub returns-in_err-plain-2-clause-reads : goal.returns-in_err-plain-2-clause-reads
returns-in_err-plain-2-clause-reads c =
    at_exit _ _ _ c.in_err-plain-2.field-0.0 c.from_residual-in_err-plain-2.ensures.1 (fails_part (begun_first refl refl (type_of_front _ c.in_default.ensures)) _ c.in_err-plain-2.ensures.reads)

pub returns-clause-reads : goal.returns-clause-reads
returns-clause-reads c =
    past_part (begun_first refl refl (type_of_front _ c.in_default.ensures)) c.in_ok-plain-2.ensures.reads
