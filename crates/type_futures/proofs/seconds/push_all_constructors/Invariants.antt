use Rattle.std.proofs.Common.{◌≡◌, ◌++◌, map, take}
use Rattle.std.specs.List.{flat_map}
use Rattle.earliest_fault.specs.Labels.{label_of}
use Rattle.type_futures.specs.Labels.{constructor_labels}
use Rattle.type_futures.proofs.seconds.push_all_constructors.Given as goal

abbrev pub invariant-loop-declared : goal.invariant-loop-declared
invariant-loop-declared l = map label_of l.labels.items ≡ map label_of l.initial.labels.items ++ flat_map constructor_labels (take l.declared-index l.types)
