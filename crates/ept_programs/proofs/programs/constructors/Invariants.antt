use Rattle.std.proofs.Common.{◌<◌, length, [], ◌∷◌, ◌++◌}
use Rattle.ept_grammar.specs.Grammar.{Constructor_list, Constructors, part}
use Rattle.ept_grammar.specs.Reading.{To}
use Rattle.ept_programs.proofs.programs.constructors.Given as goal

abbrev pub invariant-more : goal.invariant-more
invariant-more l = record { so_far : To Constructor_list l.tokens l.fn.counts (part Constructors ∷ []) (λ us. l.all ++ us.0) l.rest l.fn.counts; shorter : length l.rest < length l.tokens }

abbrev pub decreases-more : goal.decreases-more
decreases-more l = length l.rest
