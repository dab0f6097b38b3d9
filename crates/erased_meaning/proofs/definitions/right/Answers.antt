use Rattle.std.proofs.lemmas.Result.{IfOk-weaker}
use Rattle.erased_meaning.proofs.SaysOf.{equal_is, other_is, right_one, right_more}
use Rattle.erased_meaning.proofs.definitions.right.Goals as goal

pub returns-then-left-eq1 : goal.returns-then-left-eq1
returns-then-left-eq1 c = IfOk-weaker c.ask_part.result _ _
    (λ a h place right. right_one c.args.answers.now c.args.scope.now c.args.equation c.args.name c.args.t place c.args.left.now right c.in-Some.position a c.in-Some.ensures (equal_is _ _ c.if-left-eq1.true) h) c.ask_part.ensures

pub returns-else-left-eq1 : goal.returns-else-left-eq1
returns-else-left-eq1 c = IfOk-weaker c.ask_part-else-left-eq1.result _ _
    (λ a h place right. right_more c.args.answers.now c.args.scope.now c.args.equation c.args.name c.args.t place c.args.left.now right c.in-Some.position a c.in-Some.ensures (other_is _ _ c.if-left-eq1.false) h) c.ask_part-else-left-eq1.ensures
