use Rattle.std.proofs.Common.{◌≡◌, ◌+◌, drop}
use Rattle.hept_ast.specs.Texts.{is_in, place_in}
use Rattle.erased_meaning.proofs.values.position_of.Given as goal

abbrev pub invariant-loop-position : goal.invariant-loop-position
invariant-loop-position l = (is_in l.name l.names ≡ is_in l.name (drop l.position l.names)) × (place_in l.name l.names ≡ place_in l.name (drop l.position l.names) + l.position)
