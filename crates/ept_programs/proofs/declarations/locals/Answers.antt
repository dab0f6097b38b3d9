use Rattle.std.proofs.Common.{refl}
use Rattle.ept_grammar.specs.Grammar.{here, there}
use Rattle.ept_grammar.proofs.Steps.{passed_on, begun_word, begun_empty, fails_part, past_part, past_word}
use Rattle.ept_grammar.proofs.Words.{locals_first}
use Rattle.ept_programs.proofs.declarations.locals.Goals as goal

pub returns-in-None-clause-reads : goal.returns-in-None-clause-reads
returns-in-None-clause-reads c =
    rw c.new.ensures (begun_empty here refl (locals_first _ c.in-None.ensures))

pub returns-in-Some-clause-reads : goal.returns-in-Some-clause-reads
returns-in-Some-clause-reads c =
    passed_on c.decls.result c.decls.ensures.reads (λ x d. past_part (past_word (begun_word (there here) refl c.in-Some.ensures) c.in-Some.ensures) d) (λ e d. fails_part (past_word (begun_word (there here) refl c.in-Some.ensures) c.in-Some.ensures) e d)
