use Rattle.std.proofs.Common.{refl}
use Rattle.hept_ast.specs.declared.tree.Expr.{Expr}
use Rattle.hept_ast.specs.declared.tree.Form.TheVariants as form
use Rattle.normal_form.proofs.CutRights.{right_async, right_is}
use Rattle.normal_form.proofs.Views.{at}
use Rattle.normal_form.proofs.cut.cut_async_call.Goals as goal

pub returns : goal.returns
returns c =
    let e : Expr = at c.args.place (form.AsyncCall c.args.queue c.args.f c.args.args) in
    right_is c.args.x.now c.args.clock.now.steps e c.cut_at.result (form.AsyncCall c.args.queue c.args.f c.in_ok-args.args) c.in_ok-args.taken c.cut_at.ensures
    (right_async c.args.x.now c.args.clock.now.steps e c.args.queue c.args.f c.args.args c.in_ok-args.args c.in_ok-args.taken refl c.in_ok-args.ensures)
