use Rattle.std.proofs.lemmas.Result.{IfOk-weaker}
use Rattle.erased_meaning.proofs.Following.{gets_as}
use Rattle.erased_meaning.proofs.FormsOf.{choice_nil, choice_absent}
use Rattle.erased_meaning.proofs.forms.choice.Goals as goal

pub returns-in-Value : goal.returns-in-Value
returns-in-Value c =
    IfOk-weaker c.choice_yes.result _ _ (λ r h a b d. h a b d (gets_as c.args.answers.now c.args.path.now 0 c.args.t _ _ c.in-Value.is c.in_ok-condition.ensures)) c.choice_yes.ensures

pub returns-in-Nil : goal.returns-in-Nil
returns-in-Nil c = choice_nil c.args.answers.now c.args.path.now c.args.t (gets_as c.args.answers.now c.args.path.now 0 c.args.t _ _ c.in-Nil.is c.in_ok-condition.ensures)

pub returns-in-Absent : goal.returns-in-Absent
returns-in-Absent c = choice_absent c.args.answers.now c.args.path.now c.args.t (gets_as c.args.answers.now c.args.path.now 0 c.args.t _ _ c.in-Absent.is c.in_ok-condition.ensures)
