use Rattle.std.proofs.Common.{◌≡◌, map, take}
use Rattle.std.specs.List.{flat_map}
use Rattle.hept_ast.specs.Initial.{unmet_expr}
use Rattle.causality.specs.Lowest.{lower, lowest}
use Rattle.causality.specs.Demands.{grades_from}
use Rattle.causality.proofs.parts.note_escapes.Given as goal

abbrev pub invariant-loop-escape : goal.invariant-loop-escape
invariant-loop-escape l = l.found ≡ lower l.initial.found (lowest (flat_map (λ e. unmet_expr (grades_from (map (λ r. r.now) l.nil)) e.condition) (take l.escape-index l.escapes)))
