use Rattle.std.proofs.Common.{◌≡◌, ◌++◌, map, take}
use Rattle.std.specs.List.{flat_map}
use Rattle.hept_ast.specs.Parts.{block_sets, sets_of}
use Rattle.node_text.proofs.sets.+sets.Given as goal

abbrev pub invariant-push_block_sets-loop-equation : goal.invariant-push_block_sets-loop-equation
invariant-push_block_sets-loop-equation l = map (λ r. r.now) l.inner.items ≡ flat_map sets_of (take l.equation-index l.equation-items)

abbrev pub invariant-push_branch_sets-loop-branch : goal.invariant-push_branch_sets-loop-branch
invariant-push_branch_sets-loop-branch l = map (λ r. r.now) l.names.items ≡ map (λ r. r.now) l.initial.names.items ++ flat_map (λ b. block_sets b.block) (take l.branch-index l.branches)

abbrev pub invariant-push_state_sets-loop-state : goal.invariant-push_state_sets-loop-state
invariant-push_state_sets-loop-state l = map (λ r. r.now) l.names.items ≡ map (λ r. r.now) l.initial.names.items ++ flat_map (λ q. block_sets q.block) (take l.state-index l.states)
