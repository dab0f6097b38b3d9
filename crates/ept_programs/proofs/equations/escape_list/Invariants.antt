use Rattle.std.proofs.Common.{◌<◌, length, [], ◌∷◌, ◌++◌}
use Rattle.ept_grammar.specs.Grammar.{Escape_list, More_escapes, part}
use Rattle.ept_grammar.specs.Reading.{To}
use Rattle.ept_programs.proofs.equations.escape_list.Given as goal

abbrev pub invariant-more : goal.invariant-more
invariant-more l = record { so_far : To Escape_list l.tokens l.fn.counts (part More_escapes ∷ []) (λ us. l.all ++ us.0) l.rest l.now; shorter : length l.rest < length l.tokens }

abbrev pub decreases-more : goal.decreases-more
decreases-more l = length l.rest
