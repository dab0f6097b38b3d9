use Rattle.std.proofs.Common.{◌≡◌, map, take}
use Rattle.std.specs.List.{flat_map}
use Rattle.hept_ast.specs.Parts.{sets_of}
use Rattle.block_definitions.proofs.definitions.all_sets.Given as goal

abbrev pub invariant-loop-equation : goal.invariant-loop-equation
invariant-loop-equation l = map (λ r. r.now) l.sets.items ≡ flat_map sets_of (take l.equation-index l.body)
