use Rattle.std.proofs.Common.{◌≡◌, ◌++◌, map, take}
use Rattle.std.specs.List.{flat_map}
use Rattle.causality.specs.Flows.{flow_of, flows_of, flows_of_all}
use Rattle.causality.proofs.flows.+flows.Given as goal

abbrev pub invariant-push_body-loop-equation : goal.invariant-push_body-loop-equation
invariant-push_body-loop-equation l = map flow_of l.flows.items ≡ map flow_of l.initial.flows.items ++ flat_map (flows_of (map (λ r. r.now) l.around)) (take l.equation-index l.body)

abbrev pub invariant-push_branches-loop-branch : goal.invariant-push_branches-loop-branch
invariant-push_branches-loop-branch l = map flow_of l.flows.items ≡ map flow_of l.initial.flows.items ++ flat_map (λ b. flows_of_all (map (λ r. r.now) l.around) b.block.body) (take l.branch-index l.branches)

abbrev pub invariant-push_states-loop-state : goal.invariant-push_states-loop-state
invariant-push_states-loop-state l = map flow_of l.flows.items ≡ map flow_of l.initial.flows.items ++ flat_map (λ q. flows_of_all (map (λ r. r.now) l.around) q.block.body) (take l.state-index l.states)
