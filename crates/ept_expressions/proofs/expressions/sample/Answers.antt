use Rattle.std.proofs.Common.{refl, false}
use Rattle.hept_ast.specs.declared.tree.Tag.TheVariants as tag
use Rattle.ept_grammar.specs.Grammar.{here, there}
use Rattle.ept_grammar.proofs.Steps.{placed, at_exit, begun_word, begun_first, fails_over, fails_part, fails_word, past, past_part, past_word}
use Rattle.ept_grammar.proofs.Words.{sample_of_front}
use Rattle.ept_expressions.proofs.expressions.sample.Goals as goal

pub returns-in_err-counts-clause-reads : goal.returns-in_err-counts-clause-reads
returns-in_err-counts-clause-reads c =
    at_exit _ _ _ c.in_err-counts.field-0.0 c.from_residual.ensures.1 (fails_over (begun_word (there here) refl c.in-Some.ensures) c.in-Some.ensures c.in_err-counts.ensures)

pub returns-in_err-token-clause-reads : goal.returns-in_err-token-clause-reads
returns-in_err-token-clause-reads c =
    at_exit _ _ _ c.in_err-token.field-0.0 c.from_residual-in_err-token.ensures.1 (fails_word (past (begun_word (there here) refl c.in-Some.ensures) c.in-Some.ensures c.in_ok-counts.ensures) c.in_err-token.ensures)

pub returns-in-Some-clause-reads : goal.returns-in-Some-clause-reads
returns-in-Some-clause-reads c =
    placed (λ p. record { place = p; tag = tag.Truth false; name = c.in_ok-name.name }) _ c.in-Some.ensures refl (rw c.in_ok-name.ensures (past_word (past (begun_word (there here) refl c.in-Some.ensures) c.in-Some.ensures c.in_ok-counts.ensures) c.in_ok-token.ensures))

pub returns-in_err-sign-clause-reads : goal.returns-in_err-sign-clause-reads
returns-in_err-sign-clause-reads c =
    at_exit _ _ _ c.in_err-sign.field-0.0 c.from_residual-in_err-sign.ensures.1 (fails_word (begun_first refl refl (sample_of_front _ c.in_default.ensures)) c.in_err-sign.ensures)

pub returns-in_err-counts-2-clause-reads : goal.returns-in_err-counts-2-clause-reads
returns-in_err-counts-2-clause-reads c =
    at_exit _ _ _ c.in_err-counts-2.field-0.0 c.from_residual-in_err-counts-2.ensures.1 (fails_over (begun_first refl refl (sample_of_front _ c.in_default.ensures)) c.in_ok-sign.ensures c.in_err-counts-2.ensures)

pub returns-in_err-tag-clause-reads : goal.returns-in_err-tag-clause-reads
returns-in_err-tag-clause-reads c =
    at_exit _ _ _ c.in_err-tag.field-0.0 c.from_residual-in_err-tag.ensures.1 (fails_part (past (begun_first refl refl (sample_of_front _ c.in_default.ensures)) c.in_ok-sign.ensures c.in_ok-counts-2.ensures) _ c.in_err-tag.ensures.reads)

pub returns-clause-reads : goal.returns-clause-reads
returns-clause-reads c =
    placed (λ p. record { place = p; tag = c.in_ok-tag.tag; name = c.in_ok-tag.name }) _ c.in_ok-sign.ensures refl (past_part (past (begun_first refl refl (sample_of_front _ c.in_default.ensures)) c.in_ok-sign.ensures c.in_ok-counts-2.ensures) c.in_ok-tag.ensures.reads)
