use Rattle.std.proofs.Common.{◌≡◌, ◌∷◌, fold, take}
use Rattle.std.specs.List.{flat_map}
use Rattle.hept_ast.specs.InnerParts.{state_names}
use Rattle.hept_ast.specs.Parts.{Branch_of, block_parts, parts_of, state_parts, strong_of_all}
use Rattle.clock_calculus.specs.Collecting.{after_part, collection}
use Rattle.clock_calculus.specs.Sites.{site_of}
use Rattle.clock_calculus.proofs.walk.+walking.Given as goal

abbrev pub invariant-push_block-loop-equation : goal.invariant-push_block-loop-equation
invariant-push_block-loop-equation l = collection l.out ≡ fold (after_part l.scope.node.now) (collection l.initial.out) (flat_map (parts_of (site_of l.scope)) (take l.equation-index l.equation-items))

abbrev pub invariant-push_branches-loop-branch : goal.invariant-push_branches-loop-branch
invariant-push_branches-loop-branch l = collection l.out ≡ fold (after_part l.scope.node.now) (collection l.initial.out) (flat_map (λ b. block_parts (Branch_of l.on b.block.locals ∷ site_of l.scope) b.block) (take l.branch-index l.branches))

abbrev pub invariant-push_states-loop-state : goal.invariant-push_states-loop-state
invariant-push_states-loop-state l =
    collection l.out ≡ fold (after_part l.scope.node.now) (collection l.initial.out) (flat_map (state_parts (site_of l.scope) (strong_of_all l.states) (state_names l.states)) (take l.state-index l.states))
