use Rattle.std.proofs.Common.{◌≡◌, List, Some, ◌==◌, ap, subst, ◌∙◌}
use Rattle.std.specs.List.{find}
use Rattle.std.proofs.lemmas.Result.{IfOk-weaker}
use Rattle.hept_ast.specs.Texts.{tag_value}
use Rattle.hept_ast.specs.declared.tree.TypeDec.{TypeDec}
use Rattle.hept_ast.specs.declared.tree.Program.{Program}
use Rattle.answer_table.specs.declared.questions.Asked.TheVariants as asked_of
use Rattle.answer_table.specs.declared.questions.Answer.{Answer}
use Rattle.answer_table.specs.Tables.{AnswerAt, setting_in}
use Rattle.erased_meaning.proofs.ExpressionsOf.{merge_gives}
use Rattle.erased_meaning.proofs.expressions.merge.Goals as goal

pub returns-in-Some : goal.returns-in-Some
returns-in-Some c =
    let s = c.args.answers.now in
    let on = subst (λ (a : Answer). AnswerAt s c.args.scope.now (asked_of.Variable c.args.on) c.args.t a) c.in-Value.is c.in_ok-value.ensures in
    let b = c.in-Some.field-0-1.now in
    let types : c.as_slice.result.now ≡ (setting_in s).types = c.as_slice.ensures ∙ ap (λ (p : Program). p.types) c.program.ensures.same in
    let found = subst (λ (ts : List TypeDec). find (λ b. tag_value ts b.tag == c.in-Value.value) c.args.branches.now ≡ Some b) types c.in-Some.ensures.1 in
    IfOk-weaker c.operand.result _ _ (λ r h scoped. merge_gives s c.args.path.now c.args.scope.now c.args.t c.args.on c.args.branches.now c.in-Value.value c.in-Some.branch b r scoped on c.in-Some.ensures.0 found h) c.operand.ensures
