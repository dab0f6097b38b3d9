use Rattle.reset_lowering.proofs.MoreNodes.{no_equations_yet, next_equation, all_equations}
use Rattle.reset_lowering.proofs.nodes.lower_equations.Goals as goal

pub loop-equation-init : goal.loop-equation-init
loop-equation-init c = no_equations_yet _ _ c.new-all.ensures

pub loop-equation-preserved : goal.loop-equation-preserved
loop-equation-preserved c =
    next_equation _ _ _ _ _ _ _ _ _ _ c.loop-equation.invariant c.equation-item.is c.loop-equation-test.true c.in_ok-lowered.ensures c.in_ok-push.ensures.ok

pub returns : goal.returns
returns c = (_, all_equations _ _ _ _ _ _ c.loop-equation-test.false c.loop-equation.invariant)
