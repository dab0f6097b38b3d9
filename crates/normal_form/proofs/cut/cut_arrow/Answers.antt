use Rattle.std.proofs.Common.{refl}
use Rattle.hept_ast.specs.declared.tree.Expr.{Expr}
use Rattle.hept_ast.specs.declared.tree.Form.TheVariants as form
use Rattle.normal_form.proofs.CutRights.{right_arrow, right_is}
use Rattle.normal_form.proofs.Views.{at}
use Rattle.normal_form.proofs.cut.cut_arrow.Goals as goal

pub returns : goal.returns
returns c =
    let e : Expr = at c.args.place (form.Arrow c.args.a c.args.b) in
    right_is c.args.x.now c.args.clock.now.steps e c.cut_at.result (form.Arrow c.in_ok-a.a c.in_ok-a.b) c.in_ok-a.taken c.cut_at.ensures
    (right_arrow c.args.x.now c.args.clock.now.steps e c.args.a c.args.b c.in_ok-a.a c.in_ok-a.b c.in_ok-a.taken refl c.in_ok-a.ensures)
