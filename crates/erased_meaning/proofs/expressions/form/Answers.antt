use Rattle.std.proofs.Common.{◌≡◌, ℕ, List, ap, sym, subst, ◌∙◌}
use Rattle.std.proofs.lemmas.Result.{IfOk-weaker}
use Rattle.hept_ast.specs.declared.tree.Form.{Form, out-Form}
use Rattle.hept_ast.specs.declared.tree.Form.TheOpen.{Form-F}
use Rattle.hept_ast.specs.declared.tree.Form.TheVariants as variant_of
use Rattle.hept_ast.specs.declared.tree.Expr.{Expr}
use Rattle.hept_ast.specs.declared.tree.MergeBranch.{MergeBranch}
use Rattle.answer_table.specs.declared.paths.Step.{Step}
use Rattle.answer_table.specs.declared.questions.Answer.{Answer}
use Rattle.answer_table.specs.declared.answers.Answers.{Answers}
use Rattle.erased_meaning.specs.Rules.{FormGives}
use Rattle.erased_meaning.proofs.ExpressionsOf.{const_gives, async_const_gives, variable_gives, last_gives, when_gives, get_gives}
use Rattle.erased_meaning.proofs.expressions.form.Goals as goal

-- what an expression gives by its form
as_form : (s : Answers) (path : List Step) (t : ℕ) (r : Answer) (f g : Form) (layer : Form-F Form Expr MergeBranch) → f ≡ g → out-Form g ≡ layer → FormGives s path layer t r → FormGives s path (out-Form f) t r
as_form s path t r f g layer same out h = subst (λ (x : Form-F Form Expr MergeBranch). FormGives s path x t r) (sym (ap out-Form same ∙ out)) h

pub returns-in-Const : goal.returns-in-Const
returns-in-Const c =
    IfOk-weaker c.constant_gives.result _ _
    (λ r h scoped. as_form c.args.answers.now c.args.path.now c.args.t r _ _ _ c.in-Const.is (variant_of.outs-Const _)
    (const_gives c.args.answers.now c.args.path.now c.args.scope.now c.args.t c.in-Const.constant r h)) c.constant_gives.ensures

pub returns-in-AsyncConst : goal.returns-in-AsyncConst
returns-in-AsyncConst c =
    IfOk-weaker c.constant_gives-in-AsyncConst.result _ _
    (λ r h scoped. as_form c.args.answers.now c.args.path.now c.args.t r _ _ _ c.in-AsyncConst.is (variant_of.outs-AsyncConst _)
    (async_const_gives c.args.answers.now c.args.path.now c.args.scope.now c.args.t c.in-AsyncConst.constant r h)) c.constant_gives-in-AsyncConst.ensures

pub returns-in-Var : goal.returns-in-Var
returns-in-Var c =
    IfOk-weaker c.ask_here.result _ _
    (λ r h scoped. as_form c.args.answers.now c.args.path.now c.args.t r _ _ _ c.in-Var.is (variant_of.outs-Var _)
    (variable_gives c.args.answers.now c.args.path.now c.args.scope.now c.args.t _ r scoped h)) c.ask_here.ensures

pub returns-in-Last : goal.returns-in-Last
returns-in-Last c =
    IfOk-weaker c.ask_here-in-Last.result _ _
    (λ r h scoped. as_form c.args.answers.now c.args.path.now c.args.t r _ _ _ c.in-Last.is (variant_of.outs-Last _)
    (last_gives c.args.answers.now c.args.path.now c.args.scope.now c.args.t _ r scoped h)) c.ask_here-in-Last.ensures

pub returns-in-When : goal.returns-in-When
returns-in-When c =
    IfOk-weaker c.operand.result _ _
    (λ r h scoped. as_form c.args.answers.now c.args.path.now c.args.t r _ _ _ c.in-When.is (variant_of.outs-When _ _ _)
    (when_gives c.args.answers.now c.args.path.now c.args.scope.now c.args.t c.in-When.field-0 c.in-When.field-1 c.in-When.field-2 r h)) c.operand.ensures

pub returns-in-Get : goal.returns-in-Get
returns-in-Get c =
    IfOk-weaker c.operand-in-Get.result _ _
    (λ r h scoped. as_form c.args.answers.now c.args.path.now c.args.t r _ _ _ c.in-Get.is (variant_of.outs-Get _)
    (get_gives c.args.answers.now c.args.path.now c.args.scope.now c.args.t c.in-Get.field-0 r h)) c.operand-in-Get.ensures
