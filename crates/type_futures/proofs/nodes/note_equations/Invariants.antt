use Rattle.std.proofs.Common.{◌≡◌, map, take}
use Rattle.std.specs.List.{flat_map}
use Rattle.hept_ast.specs.Limits.{earlier_of, earliest}
use Rattle.type_futures.specs.Walk.{around_judging, equation_faults}
use Rattle.type_futures.proofs.nodes.note_equations.Given as goal

abbrev pub invariant-loop-equation : goal.invariant-loop-equation
invariant-loop-equation l = l.found ≡ earlier_of l.initial.found (earliest (flat_map (equation_faults (around_judging l.around) (map (λ r. r.now) l.seen)) (take l.equation-index l.body)))
