use Rattle.std.proofs.Common.{◌≡◌, map, take}
use Rattle.std.specs.List.{flat_map}
use Rattle.hept_ast.specs.Limits.{earlier_of, earliest}
use Rattle.type_futures.specs.Walk.{around_judging, branch_faults, equation_faults, state_faults}
use Rattle.type_futures.proofs.walk.+walk.Given as goal

abbrev pub invariant-note_inner-loop-equation : goal.invariant-note_inner-loop-equation
invariant-note_inner-loop-equation l =
    l.found ≡ earlier_of l.initial.found (earliest (flat_map (equation_faults (around_judging l.around) (map (λ r. r.now) l.inside.items)) (take l.equation-index l.equation-items)))

abbrev pub invariant-note_branches-loop-branch : goal.invariant-note_branches-loop-branch
invariant-note_branches-loop-branch l =
    l.found ≡ earlier_of l.initial.found (earliest (flat_map (branch_faults (around_judging l.around) (map (λ r. r.now) l.seen)) (take l.branch-index l.branches)))

abbrev pub invariant-note_states-loop-state : goal.invariant-note_states-loop-state
invariant-note_states-loop-state l =
    l.found ≡ earlier_of l.initial.found (earliest (flat_map (state_faults (around_judging l.around) (map (λ r. r.now) l.seen) l.states) (take l.state-index l.states)))
