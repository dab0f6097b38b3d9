use Rattle.std.proofs.lemmas.Result.{IfOk-weaker}
use Rattle.erased_meaning.proofs.SaysOf.{part_here, part_last}
use Rattle.erased_meaning.proofs.definitions.defined_or_last.Goals as goal

pub returns-then-branch : goal.returns-then-branch
returns-then-branch c = IfOk-weaker c.ask_part.result _ _
    (λ a h. part_here c.args.answers.now c.args.scope.now 0 c.args.name c.args.t c.args.step _ a c.if-branch.true c.in_ok-part_defines.ensures h) c.ask_part.ensures

pub returns-else-branch : goal.returns-else-branch
returns-else-branch c = IfOk-weaker c.ask_here.result _ _
    (λ a h. part_last c.args.answers.now c.args.scope.now 0 c.args.name c.args.t c.args.step _ a c.if-branch.false c.in_ok-part_defines.ensures h) c.ask_here.ensures
