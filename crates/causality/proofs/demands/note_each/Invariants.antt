use Rattle.std.proofs.Common.{◌≡◌, map, take}
use Rattle.std.specs.List.{flat_map}
use Rattle.hept_ast.specs.Initial.{unmet_expr}
use Rattle.causality.specs.Lowest.{lower, lowest}
use Rattle.causality.specs.Demands.{grades_from}
use Rattle.causality.proofs.demands.note_each.Given as goal

abbrev pub invariant-loop-e : goal.invariant-loop-e
invariant-loop-e l = l.found ≡ lower l.initial.found (lowest (flat_map (unmet_expr (grades_from (map (λ r. r.now) l.nil))) (take l.e-index l.row)))
