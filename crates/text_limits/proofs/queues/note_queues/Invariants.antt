use Rattle.std.proofs.Common.{◌≡◌, map, take}
use Rattle.std.specs.List.{flat_map}
use Rattle.hept_ast.specs.Limits.{earlier_of, earliest, queue_limit}
use Rattle.text_limits.proofs.queues.note_queues.Given as goal

abbrev pub invariant-loop-e : goal.invariant-loop-e
invariant-loop-e l = l.found ≡ earlier_of l.initial.found (earliest (flat_map (λ e. queue_limit e.place.0 e.form) (map (λ r. r.now) (take l.e-index l.exprs))))
