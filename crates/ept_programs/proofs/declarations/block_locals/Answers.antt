use Rattle.std.proofs.Common.{refl}
use Rattle.ept_grammar.specs.Grammar.{here, there}
use Rattle.ept_grammar.proofs.Steps.{at_exit, begun_word, begun_empty, fails_part, fails_word, past_part, past_word}
use Rattle.ept_grammar.proofs.Words.{block_locals_first}
use Rattle.ept_programs.proofs.declarations.block_locals.Goals as goal

pub returns-in-None-clause-reads : goal.returns-in-None-clause-reads
returns-in-None-clause-reads c =
    rw c.new.ensures (begun_empty here refl (block_locals_first _ c.in-None.ensures))

pub returns-in_err-all-in-Some-clause-reads : goal.returns-in_err-all-in-Some-clause-reads
returns-in_err-all-in-Some-clause-reads c =
    at_exit _ _ _ c.in_err-all-in-Some.field-0.0 c.from_residual.ensures.1 (fails_part (past_word (begun_word (there here) refl c.in-Some.ensures) c.in-Some.ensures) _ c.in_err-all-in-Some.ensures.reads)

pub returns-in_err-end-in-Some-clause-reads : goal.returns-in_err-end-in-Some-clause-reads
returns-in_err-end-in-Some-clause-reads c =
    at_exit _ _ _ c.in_err-end-in-Some.field-0.0 c.from_residual-in_err-end-in-Some.ensures.1 (fails_word (past_part (past_word (begun_word (there here) refl c.in-Some.ensures) c.in-Some.ensures) c.in_ok-all-in-Some.ensures.reads) c.in_err-end-in-Some.ensures)

pub returns-in_ok-end-in-Some-clause-reads : goal.returns-in_ok-end-in-Some-clause-reads
returns-in_ok-end-in-Some-clause-reads c =
    past_word (past_part (past_word (begun_word (there here) refl c.in-Some.ensures) c.in-Some.ensures) c.in_ok-all-in-Some.ensures.reads) c.in_ok-end-in-Some.ensures
