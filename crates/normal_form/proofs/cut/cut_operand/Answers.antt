use Rattle.std.proofs.Common.{sym, ap, ◌∙◌}
use Rattle.hept_ast.specs.declared.tree.Expr.{Expr}
use Rattle.hept_ast.specs.declared.tree.Form.{out-Form}
use Rattle.core_naming.specs.Normal.{is_simple}
use Rattle.normal_form.proofs.CutRights.{operand_cut}
use Rattle.normal_form.proofs.cut.cut_operand.Goals as goal

pub returns : goal.returns
returns c =
    operand_cut c.args.x.now c.args.clock.now.steps c.args.a c.into_inner.result c.in_ok-new.field-0 c.in_ok-cut.cut
    (sym (ap (λ (e : Expr). is_simple (out-Form e.form)) c.get.ensures) ∙ (sym c.is_simple.ensures ∙ c.if-is_simple.false)) c.into_inner.ensures c.in_ok-cut.ensures c.in_ok-new.ensures
