use Rattle.std.proofs.Common.{◌≡◌, take, map}
use Rattle.std.specs.List.{flat_map}
use Rattle.hept_ast.specs.Limits.{earlier_of, earliest}
use Rattle.hept_ast.specs.Parts.{block_sets}
use Rattle.block_definitions.specs.Defined.{block_gap}
use Rattle.block_definitions.proofs.cases.note_each_state.Given as goal

abbrev pub invariant-loop-state : goal.invariant-loop-state
invariant-loop-state l = l.found ≡ earlier_of l.initial.found (earliest (flat_map (λ q. block_gap (map (λ r. r.now) l.seen) (map (λ r. r.now) l.all) q.place.0 (block_sets q.block)) (take l.state-index l.states)))
