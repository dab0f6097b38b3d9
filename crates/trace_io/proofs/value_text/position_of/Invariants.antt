use Rattle.std.proofs.Common.{◌≡◌, ◌+◌, drop}
use Rattle.hept_ast.specs.Texts.{is_in, place_in}
use Rattle.trace_io.proofs.value_text.position_of.Given as goal

abbrev pub invariant-loop-position : goal.invariant-loop-position
invariant-loop-position l = (is_in l.word l.names ≡ is_in l.word (drop l.position l.names)) × (l.position + place_in l.word (drop l.position l.names) ≡ place_in l.word l.names)
