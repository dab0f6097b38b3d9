use Rattle.std.proofs.Common.{map, ◌∙◌, ap, sym}
use Rattle.hept_ast.specs.InnerParts.{state_names}
use Rattle.hept_ast.specs.Limits.{earlier_of, earliest}
use Rattle.hept_ast.specs.Parts.{Transition}
use Rattle.type_futures.specs.Walk.{around_judging, faults_at}
use Rattle.earliest_fault.proofs.Noting.{noted_step, noted_whole}
use Rattle.type_futures.proofs.Walks.{escape_faults-is}
use Rattle.type_futures.proofs.walk.note_escapes.Goals as goal

pub loop-escape-preserved : goal.loop-escape-preserved
loop-escape-preserved c =
    noted_step (λ e. faults_at (around_judging c.args.around.now) (map (λ r. r.now) c.args.seen.now) (Transition c.args.strong (state_names c.args.states.now) e)) _ _ c.escape-item.result c.escape-item.result _ _ _ c.loop-escape-test.true c.loop-escape.invariant c.escape-item.is c.note_transition.ensures

pub returns : goal.returns
returns c =
    noted_whole (λ e. faults_at (around_judging c.args.around.now) (map (λ r. r.now) c.args.seen.now) (Transition c.args.strong (state_names c.args.states.now) e)) _ _ _ _ c.loop-escape-test.false c.loop-escape.invariant
    ∙ ap (λ t. earlier_of c.args.found.now (earliest t)) (sym (escape_faults-is (around_judging c.args.around.now) (map (λ r. r.now) c.args.seen.now) c.args.strong c.args.states.now c.args.escapes.now))
