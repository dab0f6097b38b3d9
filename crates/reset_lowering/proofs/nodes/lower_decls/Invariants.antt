use Rattle.std.proofs.Common.{◌≡◌, map, take}
use Rattle.lowering_rules.specs.Lowering.{without_initial}
use Rattle.reset_lowering.proofs.nodes.lower_decls.Given as goal

abbrev pub invariant-loop-decl : goal.invariant-loop-decl
invariant-loop-decl l = l.all ≡ map without_initial (take l.decl-index l.decls)
