use Rattle.std.proofs.lemmas.Result.{IfOk-weaker}
use Rattle.erased_meaning.proofs.SaysOf.{defined_here, defined_later}
use Rattle.erased_meaning.proofs.definitions.defined.Goals as goal

pub returns-then-branch : goal.returns-then-branch
returns-then-branch c = IfOk-weaker c.equation_gives.result _ _
    (λ a h. defined_here c.args.answers.now c.args.scope.now c.args.name c.args.t _ _ _ c.in_ok-block.ensures _ c.as_slice-at-items.ensures c.loop-equation.equation c.at-item.result c.loop-equation-test.true c.at-item.is 0 _ a c.if-branch.true c.in_ok-test.ensures c.loop-equation.invariant h)
    c.equation_gives.ensures

pub loop-equation-preserved : goal.loop-equation-preserved
loop-equation-preserved c =
    defined_later c.args.answers.now c.args.scope.now c.args.name c.args.t _ _ _ c.in_ok-block.ensures _ c.as_slice-at-items.ensures c.loop-equation.equation c.at-item.result c.loop-equation-test.true c.at-item.is 0 _ c.if-branch.false c.in_ok-test.ensures c.loop-equation.invariant
