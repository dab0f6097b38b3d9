use Rattle.std.proofs.Common.{◌≡◌, ◌-◌, ◌∷◌, ◌++◌, [], Some, length, take, refl, sym, arith, ◌∙◌}
use Rattle.std.proofs.lemmas.Result.{IfOk-weaker}
use Rattle.hept_ast.specs.declared.tree.Expr.{Expr}
use Rattle.hept_ast.specs.declared.tree.Form.TheVariants as form
use Rattle.core_naming.specs.Names.{variable_at}
use Rattle.normal_form.specs.declared.cut.Cut.{Cut}
use Rattle.normal_form.specs.Cuts.{CutsStep}
use Rattle.normal_form.proofs.Views.{at}
use Rattle.normal_form.proofs.CutSteps.{all_cut, boxed_cut, branch_passed, branch_taken, branches_passed, cut_is, cuts_binary, cuts_if_first, cuts_if_last, cuts_merge, cuts_unary, cuts_when, leaf_of, no_parts, on_clock, two_first, two_second}
use Rattle.normal_form.proofs.Weights.{branch_lighter, weight_binary, weight_if, weight_merge, weight_unary, weight_when}
use Rattle.normal_form.proofs.cut.+cutting.Goals as goal

pub cut_boxed-returns : goal.cut_boxed-returns
cut_boxed-returns t c =
    boxed_cut c.args.x.now c.args.clock.now.steps c.args.a c.into_inner.result c.in_ok-new.field-0 c.in_ok-cut.cut.right c.in_ok-cut.cut.taken c.into_inner.ensures c.in_ok-cut.ensures c.in_ok-new.ensures

pub cut_two-returns-then-is_some : goal.cut_two-returns-then-is_some
cut_two-returns-then-is_some t c =
    two_first c.args.x.now c.args.clock.now.steps c.args.a c.args.b c.in_ok-a.a c.in_ok-a.taken (sym c.is_some.ensures ∙ c.if-is_some.true) c.in_ok-a.ensures

pub cut_two-returns : goal.cut_two-returns
cut_two-returns t c =
    two_second c.args.x.now c.args.clock.now.steps c.args.a c.args.b c.in_ok-a.a c.in_ok-b.b c.in_ok-a.taken c.in_ok-b.taken (sym c.is_some.ensures ∙ c.if-is_some.false) c.in_ok-a.ensures c.in_ok-b.ensures

pub cut_unary-returns : goal.cut_unary-returns
cut_unary-returns t c =
    let e : Expr = at c.args.place (form.Unary c.args.op c.args.a) in
    cut_is c.args.x.now c.args.clock.now.steps e c.cut_at.result (form.Unary c.args.op c.in_ok-a.a) c.in_ok-a.taken c.cut_at.ensures
    (cuts_unary c.args.x.now c.args.clock.now.steps e c.args.op c.args.a c.in_ok-a.a c.in_ok-a.taken refl c.in_ok-a.ensures)

pub cut_binary-returns : goal.cut_binary-returns
cut_binary-returns t c =
    let e : Expr = at c.args.place (form.Binary c.args.op c.args.a c.args.b) in
    cut_is c.args.x.now c.args.clock.now.steps e c.cut_at.result (form.Binary c.args.op c.in_ok-a.a c.in_ok-a.b) c.in_ok-a.taken c.cut_at.ensures
    (cuts_binary c.args.x.now c.args.clock.now.steps e c.args.op c.args.a c.args.b c.in_ok-a.a c.in_ok-a.b c.in_ok-a.taken refl c.in_ok-a.ensures)

pub cut_if-returns-then-is_some : goal.cut_if-returns-then-is_some
cut_if-returns-then-is_some t c =
    let e : Expr = at c.args.place (form.If c.args.c c.args.a c.args.b) in
    cut_is c.args.x.now c.args.clock.now.steps e c.cut_at.result (form.If c.in_ok-c.c c.in_ok-c.a c.args.b) c.in_ok-c.taken c.cut_at.ensures
    (cuts_if_first c.args.x.now c.args.clock.now.steps e c.args.c c.args.a c.args.b c.in_ok-c.c c.in_ok-c.a c.in_ok-c.taken (sym c.is_some.ensures ∙ c.if-is_some.true) refl c.in_ok-c.ensures)

pub cut_if-returns : goal.cut_if-returns
cut_if-returns t c =
    let e : Expr = at c.args.place (form.If c.args.c c.args.a c.args.b) in
    cut_is c.args.x.now c.args.clock.now.steps e c.cut_at-2.result (form.If c.in_ok-c.c c.in_ok-c.a c.in_ok-b.b) c.in_ok-b.taken c.cut_at-2.ensures
    (cuts_if_last c.args.x.now c.args.clock.now.steps e c.args.c c.args.a c.args.b c.in_ok-c.c c.in_ok-c.a c.in_ok-b.b c.in_ok-c.taken c.in_ok-b.taken (sym c.is_some.ensures ∙ c.if-is_some.false) refl c.in_ok-c.ensures c.in_ok-b.ensures)

pub cut_when-returns : goal.cut_when-returns
cut_when-returns t c =
    let steps = c.args.clock.now.steps in
    let e : Expr = at c.args.place (form.When c.args.a c.args.tag c.args.y) in
    cut_is c.args.x.now steps e c.cut_at.result (form.When c.in_ok-a.a c.args.tag c.args.y) c.in_ok-a.taken c.cut_at.ensures
    (cuts_when c.args.x.now steps e c.args.a c.in_ok-a.a c.args.tag c.args.y c.in_ok-a.taken refl
    (on_clock c.args.x.now (take (length steps - 1) steps) c.in_ok-inner.inner.steps c.args.a c.in_ok-a.a c.in_ok-a.taken c.in_ok-inner.ensures c.in_ok-a.ensures))

pub cut_merge-returns : goal.cut_merge-returns
cut_merge-returns t c =
    let e : Expr = at c.args.place (form.Merge c.args.y c.args.branches) in
    cut_is c.args.x.now c.args.clock.now.steps e c.cut_at.result (form.Merge c.args.y c.in_ok-branches.branches) c.in_ok-branches.taken c.cut_at.ensures
    (cuts_merge c.args.x.now c.args.clock.now.steps e c.args.y c.args.branches c.in_ok-branches.branches c.in_ok-branches.taken refl c.in_ok-branches.ensures)

pub cut_branch-returns : goal.cut_branch-returns
cut_branch-returns t c =
    (refl, on_clock c.args.x.now (c.args.clock.now.steps ++ record { tag = c.args.branch.tag; name = c.args.y.now } ∷ []) c.in_ok-inner.inner.steps c.args.branch.value c.in_ok-cut.cut.right c.in_ok-cut.cut.taken c.in_ok-inner.ensures c.in_ok-cut.ensures)

pub cut_step-returns-then-is_step : goal.cut_step-returns-then-is_step
cut_step-returns-then-is_step t c =
    let e = c.args.e in
    IfOk-weaker c.all_of.result (λ (cut : Cut). cut ≡ record { right = variable_at e.place c.args.x.now; taken = Some (record { named = e; clock = c.args.clock.now }) })
    (λ (cut : Cut). CutsStep c.args.x.now c.args.clock.now.steps e cut.right cut.taken)
    (λ cut k. all_cut c.args.x.now c.args.clock.now.steps e cut (sym c.is_step.ensures ∙ c.if-is_step.true) k) c.all_of.ensures

pub cut_step-cut_unary-requires : goal.cut_step-cut_unary-requires
cut_step-cut_unary-requires t c = (omega (arith, weight_unary c.args.e c.in-Unary.op c.in-Unary.a c.in-Unary.is, c.decreases), tt)

pub cut_step-cut_binary-requires : goal.cut_step-cut_binary-requires
cut_step-cut_binary-requires t c = (omega (arith, weight_binary c.args.e c.in-Binary.op c.in-Binary.a c.in-Binary.b c.in-Binary.is, c.decreases), tt)

pub cut_step-cut_if-requires : goal.cut_step-cut_if-requires
cut_step-cut_if-requires t c = (omega (arith, weight_if c.args.e c.in-If.c c.in-If.a c.in-If.b c.in-If.is, c.decreases), tt)

pub cut_step-cut_when-requires : goal.cut_step-cut_when-requires
cut_step-cut_when-requires t c = (omega (arith, weight_when c.args.e c.in-When.a c.in-When.tag c.in-When.y c.in-When.is, c.decreases), tt)

pub cut_step-cut_merge-requires : goal.cut_step-cut_merge-requires
cut_step-cut_merge-requires t c = (omega (arith, weight_merge c.args.e c.in-Merge.y c.in-Merge.branches c.in-Merge.is, c.decreases), tt)

pub cut_step-returns-in_default : goal.cut_step-returns-in_default
cut_step-returns-in_default t c =
    leaf_of c.args.x.now c.args.clock.now.steps c.args.e c.args.e.form c.cut_at.result refl
    (no_parts c.args.e (sym c.is_step.ensures ∙ c.if-is_step.false) c.in_default.not-Unary c.in_default.not-Binary c.in_default.not-If c.in_default.not-When c.in_default.not-Merge) c.cut_at.ensures

pub cut_branches-cut_branch-requires : goal.cut_branches-cut_branch-requires
cut_branches-cut_branch-requires t c =
    (omega (arith, branch_lighter c.args.branches c.branches.done c.branches.left c.remove.result c.branches.invariant c.remove.ensures.item, c.decreases), tt)

pub cut_branches-returns-then-is_some : goal.cut_branches-returns-then-is_some
cut_branches-returns-then-is_some t c =
    branch_taken c.args.x.now c.args.y.now c.args.clock.now.steps c.args.branches c.branches.done c.branches.left c.remove.new.self c.push.new.self c.append.new.self c.remove.result c.in_ok-branch.branch c.in_ok-branch.taken
    c.branches.invariant c.remove.ensures.item c.remove.ensures.rest c.in_ok-push.ensures.ok c.in_ok-append.ensures (sym c.is_some.ensures ∙ c.if-is_some.true) c.in_ok-branch.ensures

pub cut_branches-branches-preserved : goal.cut_branches-branches-preserved
cut_branches-branches-preserved t c =
    branch_passed c.args.x.now c.args.y.now c.args.clock.now.steps c.args.branches c.branches.done c.branches.left c.remove.new.self c.push.new.self c.remove.result c.in_ok-branch.branch c.in_ok-branch.taken
    c.branches.invariant c.remove.ensures.item c.remove.ensures.rest c.in_ok-push.ensures.ok (sym c.is_some.ensures ∙ c.if-is_some.false) c.in_ok-branch.ensures
