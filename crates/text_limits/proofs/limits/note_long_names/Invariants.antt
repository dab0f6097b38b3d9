use Rattle.std.proofs.Common.{◌≡◌, take}
use Rattle.std.specs.List.{flat_map}
use Rattle.hept_ast.specs.Limits.{earlier_of, earliest, name_limit}
use Rattle.text_limits.proofs.limits.note_long_names.Given as goal

abbrev pub invariant-loop-name : goal.invariant-loop-name
invariant-loop-name l = l.found ≡ earlier_of l.initial.found (earliest (flat_map (name_limit l.place.0) (take l.name-index l.names)))
