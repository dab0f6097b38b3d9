use Rattle.std.proofs.Common.{◌<◌, length, [], ◌∷◌, ◌++◌}
use Rattle.ept_grammar.specs.Grammar.{Names, More_names, part}
use Rattle.ept_grammar.specs.Reading.{To}
use Rattle.ept_programs.proofs.declarations.names.Given as goal

abbrev pub invariant-names : goal.invariant-names
invariant-names l = record { so_far : To Names l.tokens l.fn.counts (part More_names ∷ []) (λ us. l.all ++ us.0) l.rest l.fn.counts; shorter : length l.rest < length l.tokens }

abbrev pub decreases-names : goal.decreases-names
decreases-names l = length l.rest
