use Rattle.std.proofs.Common.{refl, true, false}
use Rattle.hept_ast.specs.declared.tree.Form.TheVariants as form
use Rattle.hept_ast.specs.declared.tree.Const.TheVariants as const
use Rattle.ept_grammar.specs.Grammar.{here, there, at}
use Rattle.ept_grammar.proofs.Steps.{placed, at_exit, begun_word, begun_first, fails_word, past_word}
use Rattle.ept_grammar.proofs.Words.{literal_front}
use Rattle.ept_steps.proofs.constants.literal.Goals as goal

pub returns-in-Some-clause-reads : goal.returns-in-Some-clause-reads
returns-in-Some-clause-reads c =
    placed (λ p. at p (form.Const (const.Truth true))) _ c.in-Some.ensures c.truth.ensures (past_word (begun_word (there here) refl c.in-Some.ensures) c.in-Some.ensures)

pub returns-in-Some-take-clause-reads : goal.returns-in-Some-take-clause-reads
returns-in-Some-take-clause-reads c =
    placed (λ p. at p (form.Const (const.Truth false))) _ c.in-Some-take.ensures c.truth-in-Some-take.ensures (past_word (begun_word (there (there here)) refl c.in-Some-take.ensures) c.in-Some-take.ensures)

pub returns-in_err-name-clause-reads : goal.returns-in_err-name-clause-reads
returns-in_err-name-clause-reads c =
    at_exit _ _ _ c.in_err-name.field-0.0 c.from_residual.ensures.1 (fails_word (past_word (begun_word (there (there (there here))) refl c.in-Some-take-2.ensures) c.in-Some-take-2.ensures) c.in_err-name.ensures)

pub returns-in-Some-take-2-clause-reads : goal.returns-in-Some-take-2-clause-reads
returns-in-Some-take-2-clause-reads c =
    placed (λ p. at p (form.Last c.in_ok-name.name.now.name)) _ c.in-Some-take-2.ensures c.in_ok-last.ensures (past_word (past_word (begun_word (there (there (there here))) refl c.in-Some-take-2.ensures) c.in-Some-take-2.ensures) c.in_ok-name.ensures)

pub returns-in_err-name-2-clause-reads : goal.returns-in_err-name-2-clause-reads
returns-in_err-name-2-clause-reads c =
    at_exit _ _ _ c.in_err-name-2.field-0.0 c.from_residual-in_err-name-2.ensures.1 (fails_word (begun_first refl refl (literal_front _ c.in_default.ensures c.in_default-take.ensures c.in_default-take-2.ensures)) c.in_err-name-2.ensures)

pub returns-clause-reads : goal.returns-clause-reads
returns-clause-reads c =
    placed (λ p. at p (form.Const (const.Constructor c.in_ok-name-2.name.now.name))) _ c.in_ok-name-2.ensures c.in_ok-constructor.ensures (past_word (begun_first refl refl (literal_front _ c.in_default.ensures c.in_default-take.ensures c.in_default-take-2.ensures)) c.in_ok-name-2.ensures)
