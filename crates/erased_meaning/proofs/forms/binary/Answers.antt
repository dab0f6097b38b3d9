use Rattle.std.proofs.lemmas.Result.{IfOk-weaker}
use Rattle.erased_meaning.proofs.Following.{gets_as}
use Rattle.erased_meaning.proofs.FormsOf.{binary_nil, binary_absent}
use Rattle.erased_meaning.proofs.forms.binary.Goals as goal

pub returns-in-Nil : goal.returns-in-Nil
returns-in-Nil c = binary_nil c.args.answers.now c.args.path.now c.args.t c.args.op (gets_as c.args.answers.now c.args.path.now 0 c.args.t _ _ c.in-Nil.is c.in_ok-left.ensures)

pub returns-in-Absent : goal.returns-in-Absent
returns-in-Absent c = binary_absent c.args.answers.now c.args.path.now c.args.t c.args.op (gets_as c.args.answers.now c.args.path.now 0 c.args.t _ _ c.in-Absent.is c.in_ok-left.ensures)

pub returns-in-Value : goal.returns-in-Value
returns-in-Value c =
    IfOk-weaker c.binary_right.result _ _ (λ r h a b. h a b (gets_as c.args.answers.now c.args.path.now 0 c.args.t _ _ c.in-Value.is c.in_ok-left.ensures)) c.binary_right.ensures
