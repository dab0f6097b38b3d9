use Rattle.std.proofs.Common.{◌≡◌, ◌++◌, map, take}
use Rattle.earliest_fault.specs.Labels.{label_of}
use Rattle.block_definitions.specs.Defined.{state_label}
use Rattle.block_definitions.proofs.cases.push_state_labels.Given as goal

abbrev pub invariant-loop-state : goal.invariant-loop-state
invariant-loop-state l = map label_of l.labels.items ≡ map label_of l.initial.labels.items ++ map state_label (take l.state-index l.states)
