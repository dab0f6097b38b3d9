use Rattle.std.proofs.Common.{length, [], ◌∷◌, ◌++◌}
use Rattle.ept_grammar.specs.Grammar.{Whole, part}
use Rattle.ept_grammar.specs.Reading.{To}
use Rattle.ept_programs.proofs.programs.program.Given as goal

abbrev pub invariant-items : goal.invariant-items
invariant-items l = To Whole l.tokens l.fn.counts (part Whole ∷ []) (λ us. record { types = l.types ++ us.0.types; nodes = l.nodes ++ us.0.nodes }) l.rest l.now

abbrev pub decreases-items : goal.decreases-items
decreases-items l = length l.rest
