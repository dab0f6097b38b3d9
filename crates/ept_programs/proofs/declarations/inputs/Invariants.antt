use Rattle.std.proofs.Common.{◌≤◌, length, [], ◌∷◌, ◌++◌}
use Rattle.ept_grammar.specs.Grammar.{Inputs, part}
use Rattle.ept_grammar.specs.Reading.{To}
use Rattle.ept_programs.proofs.declarations.inputs.Given as goal

abbrev pub invariant-inputs : goal.invariant-inputs
invariant-inputs l = record { so_far : To Inputs l.tokens l.fn.counts (part Inputs ∷ []) (λ us. l.all ++ us.0) l.rest l.now; shorter : length l.rest ≤ length l.tokens }

abbrev pub decreases-inputs : goal.decreases-inputs
decreases-inputs l = length l.rest
