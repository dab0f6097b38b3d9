use Rattle.std.proofs.Common.{◌≡◌, map, take}
use Rattle.std.specs.List.{flat_map}
use Rattle.hept_ast.specs.Initial.{unmet_by}
use Rattle.causality.specs.Lowest.{lower, lowest}
use Rattle.causality.specs.Demands.{grades_from}
use Rattle.causality.proofs.demands.note_operands.Given as goal

abbrev pub invariant-loop-e : goal.invariant-loop-e
invariant-loop-e l = l.found ≡ lower l.initial.found (lowest (flat_map (λ e. unmet_by (grades_from (map (λ r. r.now) l.nil)) e.place.0 e.form) (map (λ r. r.now) (take l.e-index l.exprs))))
