use Rattle.std.proofs.Common.{◌≡◌, map, take}
use Rattle.std.specs.List.{flat_map}
use Rattle.hept_ast.specs.Initial.{unmet_decl}
use Rattle.causality.specs.Lowest.{lower, lowest}
use Rattle.causality.specs.Demands.{grades_from}
use Rattle.causality.proofs.demands.note_decls.Given as goal

abbrev pub invariant-loop-decl : goal.invariant-loop-decl
invariant-loop-decl l = l.found ≡ lower l.initial.found (lowest (flat_map (unmet_decl (grades_from (map (λ r. r.now) l.nil))) (take l.decl-index l.decls)))
