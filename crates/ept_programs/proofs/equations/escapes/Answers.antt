use Rattle.std.proofs.Common.{refl}
use Rattle.ept_grammar.specs.Grammar.{here, there}
use Rattle.ept_grammar.proofs.Steps.{passed_on, begun_word, begun_first, fails_part, past, past_part}
use Rattle.ept_grammar.proofs.Words.{escapes_front}
use Rattle.ept_programs.proofs.equations.escapes.Goals as goal

pub returns-in-None-clause-reads : goal.returns-in-None-clause-reads
returns-in-None-clause-reads c =
    passed_on c.escape_list.result c.escape_list.ensures.reads (λ x d. past_part (begun_first refl refl (escapes_front _ c.in-None.ensures)) d) (λ e d. fails_part (begun_first refl refl (escapes_front _ c.in-None.ensures)) e d)

pub returns-in-Some-clause-reads : goal.returns-in-Some-clause-reads
returns-in-Some-clause-reads c =
    passed_on c.escape_list-in-Some.result c.escape_list-in-Some.ensures.reads (λ x d. past_part (past (begun_word (there here) refl c.in-Some.ensures) c.in-Some.ensures (refl, c.fresh.ensures)) d) (λ e d. fails_part (past (begun_word (there here) refl c.in-Some.ensures) c.in-Some.ensures (refl, c.fresh.ensures)) e d)
