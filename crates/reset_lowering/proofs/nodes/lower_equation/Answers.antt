use Rattle.reset_lowering.proofs.MoreNodes.{lowers_define}
use Rattle.reset_lowering.proofs.nodes.lower_equation.Goals as goal

pub returns-in_ok-right-in-Define : goal.returns-in_ok-right-in-Define
returns-in_ok-right-in-Define c =
    lowers_define _ _ _ _ _ _ _ _ _ _ _ _ c.in-Define.is c.plain.ensures c.in_ok-left-in-Define.ensures c.in_ok-clock-in-Define.ensures c.in_ok-right-in-Define.ensures c.as_slice-names.ensures
