use Rattle.std.proofs.Common.{List, subst}
use Rattle.hept_ast.specs.declared.tree.CoreEquation.{CoreEquation}
use Rattle.schedule.specs.Order.{IsReady}
use Rattle.schedule.proofs.Taken.{taking_step}
use Rattle.schedule.proofs.equations.in_order.Goals as goal

pub loop-left-preserved : goal.loop-left-preserved
loop-left-preserved c =
    taking_step _ _ _ _ _ _ _ c.loop-left.invariant (subst (λ (l : List CoreEquation). IsReady l c.next_ready-k.result) c.as_slice.ensures c.next_ready-k.ensures)
    c.remove-e.ensures.item c.in_ok-push.ensures.ok c.remove-e.ensures.rest
