use Rattle.std.proofs.Common.{◌≡◌, take}
use Rattle.std.specs.List.{flat_map}
use Rattle.hept_ast.specs.Limits.{earlier_of, earliest, type_limits}
use Rattle.text_limits.proofs.limits.note_all_type_limits.Given as goal

abbrev pub invariant-loop-declared : goal.invariant-loop-declared
invariant-loop-declared l = l.found ≡ earlier_of l.initial.found (earliest (flat_map type_limits (take l.declared-index l.types)))
