use Rattle.std.proofs.Common.{◌≡◌, ◌++◌, map, take}
use Rattle.earliest_fault.specs.Labels.{label_of}
use Rattle.type_futures.specs.Labels.{type_label}
use Rattle.type_futures.proofs.seconds.push_types.Given as goal

abbrev pub invariant-loop-declared : goal.invariant-loop-declared
invariant-loop-declared l = map label_of l.labels.items ≡ map label_of l.initial.labels.items ++ map type_label (take l.declared-index l.types)
