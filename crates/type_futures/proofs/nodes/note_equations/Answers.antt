use Rattle.std.proofs.Common.{map}
use Rattle.type_futures.specs.Walk.{around_judging, equation_faults}
use Rattle.earliest_fault.proofs.Noting.{noted_step}
use Rattle.type_futures.proofs.nodes.note_equations.Goals as goal

pub loop-equation-preserved : goal.loop-equation-preserved
loop-equation-preserved c =
    noted_step (equation_faults (around_judging c.args.around.now) (map (λ r. r.now) c.args.seen.now)) _ _ c.equation-item.result c.equation-item.result _ _ _ c.loop-equation-test.true c.loop-equation.invariant c.equation-item.is c.in_ok-note_equation.ensures
