use Rattle.std.proofs.Common.{ap, ◌∙◌}
use Rattle.std.specs.List.{position}
use Rattle.std.proofs.lemmas.Result.{IfOk-weaker}
use Rattle.hept_ast.specs.Texts.{same}
use Rattle.answer_table.specs.declared.questions.Asked.TheVariants as asked_of
use Rattle.erased_meaning.specs.Inputs.{InputGives, OwnGives}
use Rattle.answer_table.specs.Tables.{AnswerAt}
use Rattle.erased_meaning.proofs.VariablesOf.{own_input, own_defined}
use Rattle.erased_meaning.proofs.variables.own.Goals as goal

pub returns-in-Some : goal.returns-in-Some
returns-in-Some c =
    IfOk-weaker c.input_gives.result (InputGives c.args.answers.now c.args.home.now c.in-Some.input c.args.t) (OwnGives c.args.answers.now c.args.home.now c.args.name.now c.args.t)
    (λ r h. own_input c.args.answers.now c.args.home.now c.args.home.now c.args.t _ _ _ c.args.name.now r c.is_inner.result c.in-Some.input c.is_inner.ensures c.if-is_inner.false c.in_ok-node.ensures
    (c.in-Some.ensures ∙ ap (λ ds. position (λ d. same c.args.name.now d.name) ds) c.as_slice.ensures) h)
    c.input_gives.ensures

pub returns-in-None : goal.returns-in-None
returns-in-None c =
    IfOk-weaker c.ask_here-in-None.result (AnswerAt c.args.answers.now c.args.home.now (asked_of.Defined c.args.name) c.args.t) (OwnGives c.args.answers.now c.args.home.now c.args.name.now c.args.t)
    (λ r h. own_defined c.args.answers.now c.args.home.now c.args.home.now c.args.t _ _ _ c.args.name r c.is_inner.result c.is_inner.ensures c.if-is_inner.false c.in_ok-node.ensures
    (c.in-None.ensures ∙ ap (λ ds. position (λ d. same c.args.name.now d.name) ds) c.as_slice.ensures) h)
    c.ask_here-in-None.ensures
