use Rattle.std.proofs.Common.{◌≡◌, take, map}
use Rattle.std.specs.List.{flat_map}
use Rattle.hept_ast.specs.Limits.{earlier_of, earliest}
use Rattle.block_definitions.specs.Defined.{undefined_fault}
use Rattle.block_definitions.proofs.definitions.note_undefined.Given as goal

abbrev pub invariant-loop-decl : goal.invariant-loop-decl
invariant-loop-decl l = l.found ≡ earlier_of l.initial.found (earliest (flat_map (undefined_fault (map (λ r. r.now) l.sets.keys)) (take l.decl-index l.decls)))
