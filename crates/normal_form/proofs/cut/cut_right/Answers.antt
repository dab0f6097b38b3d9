use Rattle.std.proofs.Common.{refl}
use Rattle.std.proofs.lemmas.Result.{IfOk-weaker}
use Rattle.normal_form.specs.declared.cut.Cut.{Cut}
use Rattle.normal_form.specs.Cuts.{CutsRight, CutsStep}
use Rattle.normal_form.proofs.Views.{at}
use Rattle.normal_form.proofs.CutSteps.{of_form}
use Rattle.normal_form.proofs.CutRights.{not_step, right_rest}
use Rattle.normal_form.proofs.cut.cut_right.Goals as goal

pub returns-in_default : goal.returns-in_default
returns-in_default c =
    let e = c.args.e in
    IfOk-weaker c.cut_step.result (λ (cut : Cut). CutsStep c.args.x.now c.args.clock.now.steps (at e.place e.form) cut.right cut.taken)
    (λ (cut : Cut). CutsRight c.args.x.now c.args.clock.now.steps e cut.right cut.taken)
    (λ cut k. right_rest c.args.x.now c.args.clock.now.steps e cut.right cut.taken
    (not_step e c.in_default.not-Fby c.in_default.not-Pre c.in_default.not-Arrow c.in_default.not-Call c.in_default.not-AsyncCall c.in_default.not-Get)
    (of_form c.args.x.now c.args.clock.now.steps e e.form cut refl k)) c.cut_step.ensures
