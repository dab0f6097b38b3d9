use Rattle.std.proofs.Common.{◌≡◌, map, take}
use Rattle.std.specs.List.{flat_map}
use Rattle.hept_ast.specs.Initial.{unmet_expr}
use Rattle.causality.specs.Lowest.{lower, lowest}
use Rattle.causality.specs.Demands.{grades_from}
use Rattle.causality.proofs.demands.note_merged.Given as goal

abbrev pub invariant-loop-branch : goal.invariant-loop-branch
invariant-loop-branch l = l.found ≡ lower l.initial.found (lowest (flat_map (λ b. unmet_expr (grades_from (map (λ r. r.now) l.nil)) b.value) (take l.branch-index l.branches)))
