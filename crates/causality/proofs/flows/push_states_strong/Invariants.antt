use Rattle.std.proofs.Common.{◌≡◌, ◌++◌, map, take}
use Rattle.std.specs.List.{flat_map}
use Rattle.hept_ast.specs.Causal.{reads}
use Rattle.causality.proofs.flows.push_states_strong.Given as goal

abbrev pub invariant-loop-state : goal.invariant-loop-state
invariant-loop-state l = map (λ r. r.now) l.names.items ≡ map (λ r. r.now) l.initial.names.items ++ flat_map (λ q. flat_map (λ e. reads e.condition.form) q.strong) (take l.state-index l.states)
