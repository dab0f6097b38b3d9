use Rattle.std.proofs.Common.{◌≡◌, ◌++◌, map, take}
use Rattle.hept_ast.specs.InnerParts.{decl_label}
use Rattle.earliest_fault.specs.Labels.{label_of}
use Rattle.type_futures.proofs.seconds.push_declared.Given as goal

abbrev pub invariant-loop-decl : goal.invariant-loop-decl
invariant-loop-decl l = map label_of l.labels.items ≡ map label_of l.initial.labels.items ++ map decl_label (map (λ r. r.now) (take l.decl-index l.decls))
