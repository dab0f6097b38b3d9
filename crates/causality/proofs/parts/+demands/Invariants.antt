use Rattle.std.proofs.Common.{◌≡◌, map, take}
use Rattle.std.specs.List.{flat_map}
use Rattle.causality.specs.Lowest.{lower, lowest}
use Rattle.causality.specs.Demands.{grades_from, unmet_in_equation, unmet_in_block, unmet_in_state}
use Rattle.causality.proofs.parts.+demands.Given as goal

abbrev pub invariant-note_body-loop-equation : goal.invariant-note_body-loop-equation
invariant-note_body-loop-equation l = l.found ≡ lower l.initial.found (lowest (flat_map (unmet_in_equation (grades_from (map (λ r. r.now) l.nil)) (map (λ r. r.now) l.own) (map (λ r. r.now) l.inner)) (take l.equation-index l.body)))

abbrev pub invariant-note_branches-loop-branch : goal.invariant-note_branches-loop-branch
invariant-note_branches-loop-branch l = l.found ≡ lower l.initial.found (lowest (flat_map (λ b. unmet_in_block (grades_from (map (λ r. r.now) l.nil)) (map (λ r. r.now) l.own) (map (λ r. r.now) l.inner) b.block) (take l.branch-index l.branches)))

abbrev pub invariant-note_states-loop-state : goal.invariant-note_states-loop-state
invariant-note_states-loop-state l = l.found ≡ lower l.initial.found (lowest (flat_map (unmet_in_state (grades_from (map (λ r. r.now) l.nil)) (map (λ r. r.now) l.own) (map (λ r. r.now) l.inner) l.states) (take l.state-index l.states)))
