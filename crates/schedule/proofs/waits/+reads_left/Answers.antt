use Rattle.std.proofs.Common.{sym, ◌∙◌}
use Rattle.schedule.specs.Order.{is_left}
use Rattle.schedule.proofs.ReadsOf.{one_branch, one_arg, one_async_arg}
use Rattle.schedule.proofs.waits.+reads_left.Goals as goal

pub returns-then-reads_left-6 : goal.returns-then-reads_left-6
returns-then-reads_left-6 t c =
    rw (c.in-Merge.is, ← c.as_slice-branch-items.ensures)
    (sym (one_branch (is_left c.args.left.now) _ c.as_slice-branch-items.result.now c.loop-branch.branch-index c.branch-item.result c.loop-branch-test.true
    (rw (← c.branch-item.is) (sym c.reads_left-in-loop-branch.ensures ∙ c.if-reads_left-6.true))))

pub returns-then-reads_left-7 : goal.returns-then-reads_left-7
returns-then-reads_left-7 t c =
    rw (c.in-Call.is, ← c.as_slice-arg-items.ensures)
    (sym (one_arg (is_left c.args.left.now) _ c.as_slice-arg-items.result.now c.loop-arg.arg-index c.arg-item.result c.loop-arg-test.true
    (rw (← c.arg-item.is) (sym c.reads_left-in-loop-arg.ensures ∙ c.if-reads_left-7.true))))

pub returns-then-reads_left-8 : goal.returns-then-reads_left-8
returns-then-reads_left-8 t c =
    rw (c.in-AsyncCall.is, ← c.as_slice-arg-items-in-AsyncCall.ensures)
    (sym (one_async_arg (is_left c.args.left.now) _ _ c.as_slice-arg-items-in-AsyncCall.result.now c.loop-arg-2.arg-index c.arg-item-in-loop-arg-2.result c.loop-arg-2-test.true
    (rw (← c.arg-item-in-loop-arg-2.is) (sym c.reads_left-in-loop-arg-2.ensures ∙ c.if-reads_left-8.true))))
