use Rattle.std.proofs.Common.{◌≡◌, [], ◌∷◌, refl, sym, ◌∙◌, ap, true, false, not, ◌&&◌}
use Rattle.std.specs.Option.{option_map}
use Rattle.hept_ast.specs.Faults.{ZeroDivisor, barred, fault, is_nonzero, judge, judge_expr, type_of_variable, when_fit}
use Rattle.hept_ast.specs.Limits.{earlier_of, earliest}
use Rattle.hept_ast.specs.Types.{alike, binary_fit, divides, get_fit, if_fit, unary_fit}
use Rattle.hept_ast.specs.declared.tree.Expr.{Expr}
use Rattle.hept_ast.specs.declared.tree.Form.TheVariants as form
use Rattle.hept_ast.proofs.JudgeOf.{judge-AsyncConst, judge-Const, judge-Last, judge-Var}
use Rattle.expression_types.specs.Judgings.{args_judged, faults_found, takes, when_faults}
use Rattle.expression_types.specs.Fits.{given}
use Rattle.expression_types.specs.Scene.{judging_of}
use Rattle.declared_types.specs.Types.{type_in, types_in}
use Rattle.expression_types.proofs.Arms.{barred_fit, stands-fault, branch_gives, call_gives, gives_too, merge_gives, nothing_noted, of_one, of_three, of_two, ready_gives}
use Rattle.earliest_fault.proofs.Noting.{noted_mapped}
use Rattle.expression_types.proofs.Operands.{form-Arrow, form-Binary, form-Fby, form-Get, form-If, form-Pre, form-Unary, form-When}
use Rattle.expression_types.proofs.Rows.{branch_alike, branch_found, form-AsyncCall, form-Call, form-Merge, taken_step, taken_whole}
use Rattle.expression_types.proofs.judge.+judging.Goals as goal

pub judge-returns-in-Const : goal.judge-returns-in-Const
judge-returns-in-Const t c =
    let w = judging_of c.args.scene.now in
    let p = c.args.e.now.place.0 in
    let g = gives_too _ _ _ _ _ (ap (judge w c.args.under_get p) c.in-Const.is ∙ judge-Const w c.args.under_get p c.in-Const.value) (c.judge_const.ensures.noted, c.judge_const.ensures.types) in
    record { noted = g.0; types = g.1 }

pub judge-returns-in-Var : goal.judge-returns-in-Var
judge-returns-in-Var t c =
    let w = judging_of c.args.scene.now in
    let p = c.args.e.now.place.0 in
    let g = gives_too _ _ _ _ _ (ap (judge w c.args.under_get p) c.in-Var.is ∙ judge-Var w c.args.under_get p c.in-Var.name) (c.judge_var.ensures.noted, c.judge_var.ensures.types) in
    record { noted = g.0; types = g.1 }

pub judge-returns-in-Last : goal.judge-returns-in-Last
judge-returns-in-Last t c =
    let w = judging_of c.args.scene.now in
    let p = c.args.e.now.place.0 in
    let g = gives_too _ _ _ _ _ (ap (judge w c.args.under_get p) c.in-Last.is ∙ judge-Last w c.args.under_get p c.in-Last.name) (c.judge_last.ensures.noted, c.judge_last.ensures.types) in
    record { noted = g.0; types = g.1 }

pub judge-returns-in-Unary : goal.judge-returns-in-Unary
judge-returns-in-Unary t c =
    let w = judging_of c.args.scene.now in
    let p = c.args.e.now.place.0 in
    let a = c.get.result.now in
    let op = c.in-Unary.op in
    let is : c.args.e.now.form ≡ form.Unary op a = cc in
    let g = gives_too _ _ _ _ _ (ap (judge w c.args.under_get p) is ∙ form-Unary w c.args.under_get p op a)
    (of_one w false a p [] (unary_fit op) _ _ _ _ _ _ _ _ (nothing_noted c.args.found.now) refl c.judge-operand.ensures.noted c.judge-operand.ensures.types c.unary_fit.ensures c.settle.ensures.noted c.settle.ensures.types) in
    record { noted = g.0; types = g.1 }

pub judge-returns-in-Binary : goal.judge-returns-in-Binary
judge-returns-in-Binary t c =
    let w = judging_of c.args.scene.now in
    let p = c.args.e.now.place.0 in
    let a = c.get-in-Binary-2.result.now in
    let b = c.get-in-Binary-3.result.now in
    let op = c.in-Binary.op in
    let divisor : c.get-in-Binary.result.now ≡ b = cc in
    let is : c.args.e.now.form ≡ form.Binary op a b = cc in
    let own = ap (λ (x : Expr). fault p ZeroDivisor (divides op && not (is_nonzero x.form))) divisor in
    let g = gives_too _ _ _ _ _ (ap (judge w c.args.under_get p) is ∙ form-Binary w c.args.under_get p op a b)
    (of_two w a b p (fault p ZeroDivisor (divides op && not (is_nonzero b.form))) (binary_fit op) _ _ _ _ _ _ _ _ _ _
    (c.note_zero_divisor-wrong.ensures.noted ∙ ap (λ l. earlier_of c.args.found.now (earliest l)) own)
    (c.note_zero_divisor-wrong.ensures.stands ∙ ap (λ (x : Expr). divides op && not (is_nonzero x.form)) divisor ∙ sym (stands-fault p ZeroDivisor (divides op && not (is_nonzero b.form))))
    c.judge-left.ensures.noted c.judge-left.ensures.types c.judge-right.ensures.noted c.judge-right.ensures.types c.binary_fit.ensures c.settle-in-Binary.ensures.noted c.settle-in-Binary.ensures.types) in
    record { noted = g.0; types = g.1 }

pub judge-returns-in-If : goal.judge-returns-in-If
judge-returns-in-If t c =
    let w = judging_of c.args.scene.now in
    let p = c.args.e.now.place.0 in
    let x = c.get-in-If.result.now in
    let a = c.get-in-If-2.result.now in
    let b = c.get-in-If-3.result.now in
    let is : c.args.e.now.form ≡ form.If x a b = cc in
    let g = gives_too _ _ _ _ _ (ap (judge w c.args.under_get p) is ∙ form-If w c.args.under_get p x a b)
    (of_three w x a b p if_fit _ _ _ _ _ _ _ _ _ _ c.judge-condition.ensures.noted c.judge-condition.ensures.types
    c.judge-left-in-If.ensures.noted c.judge-left-in-If.ensures.types c.judge-right-in-If.ensures.noted c.judge-right-in-If.ensures.types c.if_fit.ensures c.settle-in-If.ensures.noted c.settle-in-If.ensures.types) in
    record { noted = g.0; types = g.1 }

pub judge-returns-in-Fby : goal.judge-returns-in-Fby
judge-returns-in-Fby t c =
    let w = judging_of c.args.scene.now in
    let p = c.args.e.now.place.0 in
    let a = c.get-in-Fby.result.now in
    let b = c.get-in-Fby-2.result.now in
    let is : c.args.e.now.form ≡ form.Fby a b = cc in
    let g = gives_too _ _ _ _ _ (ap (judge w c.args.under_get p) is ∙ form-Fby w c.args.under_get p a b)
    (of_two w a b p [] (λ ts. barred w (alike ts)) _ _ _ _ _ _ _ _ _ _ (nothing_noted c.args.found.now) refl c.judge-left-in-Fby.ensures.noted c.judge-left-in-Fby.ensures.types
    c.judge-right-in-Fby.ensures.noted c.judge-right-in-Fby.ensures.types (barred_fit w alike _ _ _ c.alike_two.ensures c.barred.ensures) c.settle-in-Fby.ensures.noted c.settle-in-Fby.ensures.types) in
    record { noted = g.0; types = g.1 }

pub judge-returns-in-Arrow : goal.judge-returns-in-Arrow
judge-returns-in-Arrow t c =
    let w = judging_of c.args.scene.now in
    let p = c.args.e.now.place.0 in
    let a = c.get-in-Arrow.result.now in
    let b = c.get-in-Arrow-2.result.now in
    let is : c.args.e.now.form ≡ form.Arrow a b = cc in
    let g = gives_too _ _ _ _ _ (ap (judge w c.args.under_get p) is ∙ form-Arrow w c.args.under_get p a b)
    (of_two w a b p [] (λ ts. barred w (alike ts)) _ _ _ _ _ _ _ _ _ _ (nothing_noted c.args.found.now) refl c.judge-left-in-Arrow.ensures.noted c.judge-left-in-Arrow.ensures.types
    c.judge-right-in-Arrow.ensures.noted c.judge-right-in-Arrow.ensures.types (barred_fit w alike _ _ _ c.alike_two-in-Arrow.ensures c.barred-in-Arrow.ensures) c.settle-in-Arrow.ensures.noted c.settle-in-Arrow.ensures.types) in
    record { noted = g.0; types = g.1 }

pub judge-returns-in-Pre : goal.judge-returns-in-Pre
judge-returns-in-Pre t c =
    let w = judging_of c.args.scene.now in
    let p = c.args.e.now.place.0 in
    let a = c.get-in-Pre.result.now in
    let is : c.args.e.now.form ≡ form.Pre a = cc in
    let g = gives_too _ _ _ _ _ (ap (judge w c.args.under_get p) is ∙ form-Pre w c.args.under_get p a)
    (of_one w false a p [] (λ ts. barred w (alike ts)) _ _ _ _ _ _ _ _ (nothing_noted c.args.found.now) refl c.judge-operand-in-Pre.ensures.noted c.judge-operand-in-Pre.ensures.types
    (barred_fit w alike _ _ _ c.alike_one.ensures c.barred-in-Pre.ensures) c.settle-in-Pre.ensures.noted c.settle-in-Pre.ensures.types) in
    record { noted = g.0; types = g.1 }

pub judge-returns-in-Get : goal.judge-returns-in-Get
judge-returns-in-Get t c =
    let w = judging_of c.args.scene.now in
    let p = c.args.e.now.place.0 in
    let a = c.get-in-Get.result.now in
    let is : c.args.e.now.form ≡ form.Get a = cc in
    let g = gives_too _ _ _ _ _ (ap (judge w c.args.under_get p) is ∙ form-Get w c.args.under_get p a)
    (of_one w true a p [] (λ ts. barred w (get_fit ts)) _ _ _ _ _ _ _ _ (nothing_noted c.args.found.now) refl c.judge-operand-in-Get.ensures.noted c.judge-operand-in-Get.ensures.types
    (barred_fit w get_fit _ _ _ c.get_fit.ensures c.barred-in-Get.ensures) c.settle-in-Get.ensures.noted c.settle-in-Get.ensures.types) in
    record { noted = g.0; types = g.1 }

pub judge-returns-in-When : goal.judge-returns-in-When
judge-returns-in-When t c =
    let w = judging_of c.args.scene.now in
    let p = c.args.e.now.place.0 in
    let a = c.get-in-When.result.now in
    let tag = c.in-When.tag in
    let x = c.in-When.name in
    let is : c.args.e.now.form ≡ form.When a tag x = cc in
    let g = gives_too _ _ _ _ _ (ap (judge w c.args.under_get p) is ∙ form-When w c.args.under_get p a tag x)
    (of_one w false a p (when_faults w p tag x) (when_fit w tag (type_of_variable w x)) _ _ _ _ _ _ _ _ c.note_when-wrong.ensures.noted c.note_when-wrong.ensures.stands
    c.judge-operand-in-When.ensures.noted c.judge-operand-in-When.ensures.types
    (c.when_fit.ensures ∙ ap (λ q. option_map (when_fit w tag q) (given (option_map types_in c.judge-operand-in-When.result ∷ []))) c.variable_type-on.ensures)
    c.settle-in-When.ensures.noted c.settle-in-When.ensures.types) in
    record { noted = g.0; types = g.1 }

pub judge-returns-in-Call : goal.judge-returns-in-Call
judge-returns-in-Call t c =
    let w = judging_of c.args.scene.now in
    let p = c.args.e.now.place.0 in
    let xs = c.as_slice-in-Call.result.now in
    let is : c.args.e.now.form ≡ form.Call c.in-Call.name xs = cc in
    let g = gives_too _ _ _ _ _ (ap (judge w c.args.under_get p) is ∙ form-Call w c.args.under_get p c.in-Call.name xs) (c.judge_call.ensures.noted, c.judge_call.ensures.types) in
    record { noted = g.0; types = g.1 }

pub judge-returns-in-AsyncCall : goal.judge-returns-in-AsyncCall
judge-returns-in-AsyncCall t c =
    let w = judging_of c.args.scene.now in
    let p = c.args.e.now.place.0 in
    let xs = c.as_slice-in-AsyncCall.result.now in
    let is : c.args.e.now.form ≡ form.AsyncCall c.in-AsyncCall.field-0 c.in-AsyncCall.name xs = cc in
    let g = gives_too _ _ _ _ _ (ap (judge w c.args.under_get p) is ∙ form-AsyncCall w c.args.under_get p c.in-AsyncCall.field-0 c.in-AsyncCall.name xs) (c.judge_call-in-AsyncCall.ensures.noted, c.judge_call-in-AsyncCall.ensures.types) in
    record { noted = g.0; types = g.1 }

pub judge-returns-in-Merge : goal.judge-returns-in-Merge
judge-returns-in-Merge t c =
    let w = judging_of c.args.scene.now in
    let p = c.args.e.now.place.0 in
    let xs = c.as_slice.result.now in
    let is : c.args.e.now.form ≡ form.Merge c.in-Merge.name xs = cc in
    let g = gives_too _ _ _ _ _ (ap (judge w c.args.under_get p) is ∙ form-Merge w c.args.under_get p c.in-Merge.name xs) (c.judge_merge.ensures.noted, c.judge_merge.ensures.types) in
    record { noted = g.0; types = g.1 }

pub judge-returns-in-AsyncConst : goal.judge-returns-in-AsyncConst
judge-returns-in-AsyncConst t c =
    let w = judging_of c.args.scene.now in
    let p = c.args.e.now.place.0 in
    let k = c.in-AsyncConst.value in
    let g = gives_too _ _ _ _ _ (ap (judge w c.args.under_get p) c.in-AsyncConst.is ∙ judge-AsyncConst w c.args.under_get p k)
    (ready_gives w p k _ _ _ _ _ _ _ c.judge_ready-held.ensures.noted c.judge_ready-held.ensures.types c.fits.ensures c.barred-in-AsyncConst.ensures c.settle-in-AsyncConst.ensures.noted c.settle-in-AsyncConst.ensures.types) in
    record { noted = g.0; types = g.1 }

pub judge_call-returns : goal.judge_call-returns
judge_call-returns t c =
    let w = judging_of c.args.scene.now in
    let g = call_gives w c.args.place.0 c.args.is_async c.args.name.now c.args.args.now (option_map (λ k. k.node.now) c.named_node-callee.result) _ _ _ _ _ _ _ _ _
    c.named_node-callee.ensures.named c.note_call-wrong.ensures.noted c.note_call-wrong.ensures.stands c.judge_args-taken.ensures.noted
    (c.judge_args-taken.ensures.taken ∙ ap (λ ds. option_map (takes ds) (args_judged w c.args.args.now).types) c.inputs_of.ensures)
    c.call_fit-fit.ensures c.barred.ensures c.settle.ensures.noted c.settle.ensures.types in
    record { noted = g.0; types = g.1 }

pub judge_merge-returns : goal.judge_merge-returns
judge_merge-returns t c =
    let w = judging_of c.args.scene.now in
    let g = merge_gives w c.args.place.0 c.args.name.now c.args.branches.now (option_map type_in c.variable_type-on.result) _ _ _ _ _ _ _ _
    c.variable_type-on.ensures c.note_merge-wrong.ensures.noted c.note_merge-wrong.ensures.stands c.judge_branches-alike.ensures.noted c.judge_branches-alike.ensures.alike
    c.merge_fit.ensures c.settle.ensures.noted c.settle.ensures.types in
    record { noted = g.0; types = g.1 }

pub judge_branch-returns : goal.judge_branch-returns
judge_branch-returns t c =
    let w = judging_of c.args.scene.now in
    let g = branch_gives w (option_map type_in c.args.on) c.args.again c.args.branch.now _ _ _ _ _ _ _ _
    c.note_tag-wrong.ensures.noted c.note_tag-wrong.ensures.stands c.judge-value.ensures.noted c.judge-value.ensures.types c.branch_fit.ensures c.settle.ensures.noted c.settle.ensures.types in
    record { noted = g.0; types = g.1 }

pub judge_args-loop-index-init : goal.judge_args-loop-index-init
judge_args-loop-index-init t c = record { noted = nothing_noted c.args.found.now; taken = refl }

pub judge_args-loop-index-preserved : goal.judge_args-loop-index-preserved
judge_args-loop-index-preserved t c =
    let w = judging_of c.args.scene.now in
    let x = c.index-args-index.result in
    record {
      noted = noted_mapped faults_found (judge_expr w) c.args.args.now c.loop-index.index x x _ _ _ c.loop-index-test.true c.loop-index.invariant.noted c.index-args-index.is c.judge-argument.ensures.noted;
      taken = taken_step w c.args.inputs.now c.args.args.now c.loop-index.index x _ _ _ c.loop-index-test.true c.loop-index.invariant.taken c.index-args-index.is c.judge-argument.ensures.types c.also_taken-taken.ensures;
    }

pub judge_args-returns-clause-taken : goal.judge_args-returns-clause-taken
judge_args-returns-clause-taken t c = taken_whole (judging_of c.args.scene.now) c.args.inputs.now c.args.args.now c.loop-index.index _ _ c.loop-index-test.false c.loop-index.invariant.taken c.takes_all.ensures

pub judge_branches-loop-index-init : goal.judge_branches-loop-index-init
judge_branches-loop-index-init t c = record { noted = nothing_noted c.args.found.now; alike = refl }

pub judge_branches-loop-index-preserved : goal.judge_branches-loop-index-preserved
judge_branches-loop-index-preserved t c =
    let w = judging_of c.args.scene.now in
    let on = option_map type_in c.args.on in
    let x = c.index-branches-index.result in
    record {
      noted = branch_found w on c.args.branches.now c.loop-index.index x _ _ _ _ c.loop-index-test.true c.loop-index.invariant.noted c.index-branches-index.is c.has_tag-again.ensures c.judge_branch-value.ensures.noted;
      alike = branch_alike w on c.args.branches.now c.loop-index.index x _ _ _ _ c.loop-index-test.true c.loop-index.invariant.alike c.index-branches-index.is c.has_tag-again.ensures c.judge_branch-value.ensures.types c.also_alike-alike.ensures;
    }
