use Rattle.std.proofs.Common.{◌≡◌, take, map}
use Rattle.std.specs.List.{flat_map}
use Rattle.hept_ast.specs.Limits.{earlier_of, earliest}
use Rattle.block_definitions.specs.Defined.{left_faults_by}
use Rattle.block_definitions.proofs.definitions.note_left_side.Given as goal

abbrev pub invariant-loop-name : goal.invariant-loop-name
invariant-loop-name l = l.found ≡ earlier_of l.initial.found (earliest (flat_map (left_faults_by l.inputs (map (λ r. r.now) l.seen) l.place.0) (take l.name-index l.left)))
