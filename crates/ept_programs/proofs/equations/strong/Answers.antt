use Rattle.std.proofs.Common.{refl}
use Rattle.ept_grammar.specs.Grammar.{here, there}
use Rattle.ept_grammar.proofs.Steps.{passed_on, begun_word, begun_empty, fails_part, past, past_part}
use Rattle.ept_grammar.proofs.Words.{strong_first}
use Rattle.ept_programs.proofs.equations.strong.Goals as goal

pub returns-in-None-clause-reads : goal.returns-in-None-clause-reads
returns-in-None-clause-reads c =
    rw c.new.ensures (begun_empty here refl (strong_first _ c.in-None.ensures))

pub returns-in-Some-clause-reads : goal.returns-in-Some-clause-reads
returns-in-Some-clause-reads c =
    passed_on c.escapes.result c.escapes.ensures.reads (λ x d. past_part (past (begun_word (there here) refl c.in-Some.ensures) c.in-Some.ensures (refl, c.fresh.ensures)) d) (λ e d. fails_part (past (begun_word (there here) refl c.in-Some.ensures) c.in-Some.ensures (refl, c.fresh.ensures)) e d)
