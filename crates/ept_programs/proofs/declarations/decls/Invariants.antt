use Rattle.std.proofs.Common.{◌<◌, length, [], ◌∷◌, ◌++◌}
use Rattle.ept_grammar.specs.Grammar.{Decls, More_decls, part}
use Rattle.ept_grammar.specs.Reading.{To}
use Rattle.ept_programs.proofs.declarations.decls.Given as goal

abbrev pub invariant-decls : goal.invariant-decls
invariant-decls l = record { so_far : To Decls l.tokens l.fn.counts (part More_decls ∷ []) (λ us. l.all ++ us.0) l.rest l.now; shorter : length l.rest < length l.tokens }

abbrev pub decreases-decls : goal.decreases-decls
decreases-decls l = length l.rest
