use Rattle.std.proofs.Common.{◌≡◌, take}
use Rattle.ept_grammar.specs.Grammar.{declared}
use Rattle.ept_programs.proofs.declarations.declare.Given as goal

abbrev pub invariant-names : goal.invariant-names
invariant-names l = l.all ≡ declared (take l.name-index l.names) l.ty l.init
