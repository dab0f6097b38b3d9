use Rattle.std.proofs.lemmas.Result.{IfOk-weaker}
use Rattle.erased_meaning.proofs.EquationForms.{reset_form}
use Rattle.erased_meaning.proofs.SaysOf.{gives_as, reset_gives}
use Rattle.erased_meaning.proofs.definitions.equation_gives.Goals as goal

pub returns-in-Reset : goal.returns-in-Reset
returns-in-Reset c = IfOk-weaker c.ask_part.result _ _
    (λ a h. gives_as c.args.answers.now c.args.scope.now c.args.equation c.args.name c.args.t _ _ a (reset_form _ _ _ _ c.in-Reset.is)
    (reset_gives c.args.answers.now c.args.scope.now c.args.equation c.args.name c.args.t _ _ _ a h)) c.ask_part.ensures
