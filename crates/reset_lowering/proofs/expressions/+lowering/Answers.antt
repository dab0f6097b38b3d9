use Rattle.reset_lowering.proofs.Forms.{lowers_const, lowers_var, lowers_unary, lowers_binary, lowers_if, lowers_fby, lowers_pre, lowers_arrow, lowers_when, lowers_merge, lowers_call, lowers_async_call, lowers_ready, lowers_get, no_exprs_yet, next_expr, all_exprs, no_branches_yet, next_branch, all_branches}
use Rattle.reset_lowering.proofs.expressions.+lowering.Goals as goal

pub lower_expr-returns-in_ok-copy_const-in-Const : goal.lower_expr-returns-in_ok-copy_const-in-Const
lower_expr-returns-in_ok-copy_const-in-Const c x =
    lowers_const _ _ _ _ _ x.in-Const.is x.at.ensures x.in_ok-copy_const-in-Const.ensures

pub lower_expr-returns-in_ok-copy_name-in-Var : goal.lower_expr-returns-in_ok-copy_name-in-Var
lower_expr-returns-in_ok-copy_name-in-Var c x =
    lowers_var _ _ _ _ _ x.in-Var.is x.at-in-Var.ensures x.in_ok-copy_name-in-Var.ensures

pub lower_expr-returns-in_ok-lower_boxed-in-Unary : goal.lower_expr-returns-in_ok-lower_boxed-in-Unary
lower_expr-returns-in_ok-lower_boxed-in-Unary c x =
    lowers_unary _ _ _ _ _ _ _ x.in-Unary.is x.at-in-Unary.ensures x.in_ok-lower_boxed-in-Unary.ensures

pub lower_expr-returns-in_ok-lower_boxed-in-Binary : goal.lower_expr-returns-in_ok-lower_boxed-in-Binary
lower_expr-returns-in_ok-lower_boxed-in-Binary c x =
    lowers_binary _ _ _ _ _ _ _ _ _ _ x.in-Binary.is x.at-in-Binary.ensures x.in_ok-a-in-Binary.ensures x.in_ok-lower_boxed-in-Binary.ensures

pub lower_expr-returns-in_ok-b-in-If : goal.lower_expr-returns-in_ok-b-in-If
lower_expr-returns-in_ok-b-in-If c x =
    lowers_if _ _ _ _ _ _ _ _ _ _ _ _ _ _ x.in-If.is x.ended.ensures x.begun-choice.ensures x.in_ok-c-in-If.ensures x.in_ok-a-in-If.ensures x.in_ok-b-in-If.ensures

pub lower_expr-returns-in_ok-lower_boxed-in-Fby : goal.lower_expr-returns-in_ok-lower_boxed-in-Fby
lower_expr-returns-in_ok-lower_boxed-in-Fby c x =
    lowers_fby _ _ _ _ _ _ _ _ _ x.in-Fby.is x.at-in-Fby.ensures x.in_ok-a-in-Fby.ensures x.in_ok-lower_boxed-in-Fby.ensures

pub lower_expr-returns-in_ok-lower_boxed-in-Pre : goal.lower_expr-returns-in_ok-lower_boxed-in-Pre
lower_expr-returns-in_ok-lower_boxed-in-Pre c x =
    lowers_pre _ _ _ _ _ _ x.in-Pre.is x.at-in-Pre.ensures x.in_ok-lower_boxed-in-Pre.ensures

pub lower_expr-returns-in_ok-lower_boxed-in-Arrow : goal.lower_expr-returns-in_ok-lower_boxed-in-Arrow
lower_expr-returns-in_ok-lower_boxed-in-Arrow c x =
    lowers_arrow _ _ _ _ _ _ _ _ _ x.in-Arrow.is x.at-in-Arrow.ensures x.in_ok-a-in-Arrow.ensures x.in_ok-lower_boxed-in-Arrow.ensures

pub lower_expr-returns-in_ok-a-in-When : goal.lower_expr-returns-in_ok-a-in-When
lower_expr-returns-in_ok-a-in-When c x =
    lowers_when _ _ _ _ _ _ _ _ x.in-When.is x.sampled.ensures x.in_ok-a-in-When.ensures

pub lower_expr-returns-in_ok-branches-in-Merge : goal.lower_expr-returns-in_ok-branches-in-Merge
lower_expr-returns-in_ok-branches-in-Merge c x =
    lowers_merge _ _ _ _ _ _ _ _ _ x.in-Merge.is x.at-in-Merge.ensures x.in_ok-x-in-Merge.ensures x.as_slice.ensures x.in_ok-branches-in-Merge.ensures

pub lower_expr-returns-in_ok-args-in-Call : goal.lower_expr-returns-in_ok-args-in-Call
lower_expr-returns-in_ok-args-in-Call c x =
    lowers_call _ _ _ _ _ _ _ _ _ _ _ x.in-Call.is x.at-in-Call.ensures x.in_ok-number-in-Call.ensures x.in_ok-f-in-Call.ensures x.as_slice-in-Call.ensures x.in_ok-args-in-Call.ensures

pub lower_expr-returns-in_ok-args-in-AsyncCall : goal.lower_expr-returns-in_ok-args-in-AsyncCall
lower_expr-returns-in_ok-args-in-AsyncCall c x =
    lowers_async_call _ _ _ _ _ _ _ _ _ _ _ _ x.in-AsyncCall.is x.at-in-AsyncCall.ensures x.in_ok-number-in-AsyncCall.ensures x.in_ok-f-in-AsyncCall.ensures x.as_slice-in-AsyncCall.ensures x.in_ok-args-in-AsyncCall.ensures

pub lower_expr-returns-in_ok-copy_const-in-AsyncConst : goal.lower_expr-returns-in_ok-copy_const-in-AsyncConst
lower_expr-returns-in_ok-copy_const-in-AsyncConst c x =
    lowers_ready _ _ _ _ _ x.in-AsyncConst.is x.at-in-AsyncConst.ensures x.in_ok-copy_const-in-AsyncConst.ensures

pub lower_expr-returns-in_ok-lower_boxed-in-Get : goal.lower_expr-returns-in_ok-lower_boxed-in-Get
lower_expr-returns-in_ok-lower_boxed-in-Get c x =
    lowers_get _ _ _ _ _ _ x.in-Get.is x.at-in-Get.ensures x.in_ok-lower_boxed-in-Get.ensures

pub lower_exprs-loop-e-init : goal.lower_exprs-loop-e-init
lower_exprs-loop-e-init c x =
    no_exprs_yet _ _ x.new-all.ensures

pub lower_exprs-loop-e-preserved : goal.lower_exprs-loop-e-preserved
lower_exprs-loop-e-preserved c x =
    next_expr _ _ _ _ _ _ _ _ _ x.loop-e.invariant x.e-item.is x.loop-e-test.true x.in_ok-e.ensures x.in_ok-push_expr.ensures

pub lower_exprs-returns : goal.lower_exprs-returns
lower_exprs-returns c x =
    all_exprs _ _ _ _ _ x.loop-e-test.false x.loop-e.invariant

pub lower_branches-loop-b-init : goal.lower_branches-loop-b-init
lower_branches-loop-b-init c x =
    no_branches_yet _ _ x.new-all.ensures

pub lower_branches-loop-b-preserved : goal.lower_branches-loop-b-preserved
lower_branches-loop-b-preserved c x =
    next_branch _ _ _ _ _ _ _ _ _ _ x.loop-b.invariant x.b-item.is x.loop-b-test.true x.in_ok-tag.ensures x.in_ok-value.ensures x.in_ok-push_branch.ensures

pub lower_branches-returns : goal.lower_branches-returns
lower_branches-returns c x =
    all_branches _ _ _ _ _ x.loop-b-test.false x.loop-b.invariant
