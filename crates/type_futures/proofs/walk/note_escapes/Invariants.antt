use Rattle.std.proofs.Common.{◌≡◌, map, take}
use Rattle.std.specs.List.{flat_map}
use Rattle.hept_ast.specs.InnerParts.{state_names}
use Rattle.hept_ast.specs.Limits.{earlier_of, earliest}
use Rattle.hept_ast.specs.Parts.{Transition}
use Rattle.type_futures.specs.Walk.{around_judging, faults_at}
use Rattle.type_futures.proofs.walk.note_escapes.Given as goal

abbrev pub invariant-loop-escape : goal.invariant-loop-escape
invariant-loop-escape l =
    l.found ≡ earlier_of l.initial.found (earliest (flat_map (λ e. faults_at (around_judging l.around) (map (λ r. r.now) l.seen) (Transition l.strong (state_names l.states) e)) (take l.escape-index l.escapes)))
