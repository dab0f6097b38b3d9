use Rattle.std.proofs.lemmas.Result.{IfOk-weaker}
use Rattle.erased_meaning.proofs.Following.{gets_as}
use Rattle.erased_meaning.proofs.FormsOf.{choice_yes_nil, choice_yes_absent}
use Rattle.erased_meaning.proofs.forms.choice_yes.Goals as goal

pub returns-in-Value : goal.returns-in-Value
returns-in-Value c =
    IfOk-weaker c.choice_no.result _ _ (λ r h a b d first. h a b d first (gets_as c.args.answers.now c.args.path.now 1 c.args.t _ _ c.in-Value.is c.in_ok-yes.ensures)) c.choice_no.ensures

pub returns-in-Nil : goal.returns-in-Nil
returns-in-Nil c = choice_yes_nil c.args.answers.now c.args.path.now c.args.t c.args.condition (gets_as c.args.answers.now c.args.path.now 1 c.args.t _ _ c.in-Nil.is c.in_ok-yes.ensures)

pub returns-in-Absent : goal.returns-in-Absent
returns-in-Absent c = choice_yes_absent c.args.answers.now c.args.path.now c.args.t c.args.condition (gets_as c.args.answers.now c.args.path.now 1 c.args.t _ _ c.in-Absent.is c.in_ok-yes.ensures)
