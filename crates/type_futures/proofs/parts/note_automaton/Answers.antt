use Rattle.std.proofs.Common.{[], map, false}
use Rattle.hept_ast.specs.Faults.{gap_faults, labels, seconds}
use Rattle.hept_ast.specs.Parts.{state_case}
use Rattle.hept_ast.specs.Texts.{same}
use Rattle.type_futures.specs.Walk.{around_judging, faults_at, judging_at}
use Rattle.earliest_fault.proofs.Noting.{also_noted}
use Rattle.type_futures.proofs.parts.note_automaton.Goals as goal

pub returns : goal.returns
unfolding faults_at
returns c =
    let cases = map state_case c.args.states.now in
    also_noted (seconds same [] (labels cases)) (gap_faults (judging_at (around_judging c.args.around.now) (map (λ r. r.now) c.args.seen.now) false) cases) _ _ _ c.note_state_gaps.result c.in_ok-note_second_states.ensures c.note_state_gaps.ensures
