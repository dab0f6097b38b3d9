use Rattle.std.proofs.Common.{◌≡◌, [], map, take}
use Rattle.std.specs.List.{list_any}
use Rattle.hept_ast.specs.Faults.{seconds}
use Rattle.hept_ast.specs.Limits.{earlier_of, earliest}
use Rattle.hept_ast.specs.Texts.{Name, is_in, same}
use Rattle.earliest_fault.specs.Labels.{label_of}
use Rattle.earliest_fault.proofs.labels.note_seconds.Given as goal

abbrev pub invariant-loop-label : goal.invariant-loop-label
invariant-loop-label l = record {
  noted : l.found ≡ earlier_of l.initial.found (earliest (seconds same [] (map label_of (take l.label-index l.labels))));
  met : (x : Name) → is_in x (map (λ r. r.now) l.names.keys) ≡ list_any (λ y. same x (label_of y).1) (take l.label-index l.labels);
}
