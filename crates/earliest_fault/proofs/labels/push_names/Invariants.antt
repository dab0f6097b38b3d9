use Rattle.std.proofs.Common.{◌≡◌, ◌++◌, map, take}
use Rattle.earliest_fault.specs.Labels.{label_of, names_at}
use Rattle.earliest_fault.proofs.labels.push_names.Given as goal

abbrev pub invariant-loop-name : goal.invariant-loop-name
invariant-loop-name l = map label_of l.labels.items ≡ map label_of l.initial.labels.items ++ names_at l.place.0 (take l.name-index l.names)
