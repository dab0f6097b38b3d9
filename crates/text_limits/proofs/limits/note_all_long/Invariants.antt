use Rattle.std.proofs.Common.{◌≡◌, map, take}
use Rattle.std.specs.List.{flat_map}
use Rattle.hept_ast.specs.Limits.{earlier_of, earliest, name_limit}
use Rattle.text_limits.proofs.limits.note_all_long.Given as goal

abbrev pub invariant-loop-decl : goal.invariant-loop-decl
invariant-loop-decl l = l.found ≡ earlier_of l.initial.found (earliest (flat_map (λ d. name_limit d.place.0 d.name) (map (λ r. r.now) (take l.decl-index l.listed))))
