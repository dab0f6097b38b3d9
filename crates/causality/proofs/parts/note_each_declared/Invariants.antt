use Rattle.std.proofs.Common.{◌≡◌, ◌++◌, map, take}
use Rattle.std.specs.List.{flat_map}
use Rattle.hept_ast.specs.Parts.{declaration}
use Rattle.causality.specs.Lowest.{lower, lowest}
use Rattle.causality.specs.Demands.{grades_from, unmet_declared}
use Rattle.causality.proofs.parts.note_each_declared.Given as goal

abbrev pub invariant-loop-name : goal.invariant-loop-name
invariant-loop-name l = l.found ≡ lower l.initial.found (lowest (flat_map (λ x. unmet_declared (grades_from (map (λ r. r.now) l.nil)) (declaration (map (λ r. r.now) l.inner ++ map (λ r. r.now) l.own) x)) (map (λ r. r.now) (take l.name-index l.sets))))
