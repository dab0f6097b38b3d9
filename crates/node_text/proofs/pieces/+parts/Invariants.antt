use Rattle.std.proofs.Common.{◌≡◌, ◌++◌, map, take}
use Rattle.std.specs.List.{flat_map}
use Rattle.hept_ast.specs.InnerParts.{inner_parts, parts_of_block, parts_of_state}
use Rattle.node_text.specs.Pieces.{piece_of}
use Rattle.node_text.proofs.pieces.+parts.Given as goal

abbrev pub invariant-push_block-loop-equation : goal.invariant-push_block-loop-equation
invariant-push_block-loop-equation l = map piece_of l.pieces.items ≡ map piece_of l.initial.pieces.items ++ flat_map inner_parts (take l.equation-index l.equation-items)

abbrev pub invariant-push_branches-loop-branch : goal.invariant-push_branches-loop-branch
invariant-push_branches-loop-branch l = map piece_of l.pieces.items ≡ map piece_of l.initial.pieces.items ++ flat_map (λ b. parts_of_block b.block) (take l.branch-index l.branches)

abbrev pub invariant-push_states-loop-state : goal.invariant-push_states-loop-state
invariant-push_states-loop-state l = map piece_of l.pieces.items ≡ map piece_of l.initial.pieces.items ++ flat_map (parts_of_state l.states) (take l.state-index l.states)
