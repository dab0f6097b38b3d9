use Rattle.std.proofs.Common.{arith}
use Rattle.erased_meaning.proofs.DefinesOf.{defines_here, defines_later, tests_as}
use Rattle.erased_meaning.proofs.definitions.block_defines.Goals as goal

pub returns-then-branch : goal.returns-then-branch
returns-then-branch c =
    defines_here c.args.answers.now c.args.scope.now c.args.name _ _ _ c.in_ok-block.ensures c.loop-equation.equation (omega (arith, c.loop-equation-test.true, c.len-equation-end.ensures)) 0
    (tests_as c.args.answers.now c.args.scope.now c.args.name c.loop-equation.equation 0 _ _ c.if-branch.true c.in_ok-test.ensures) c.loop-equation.invariant

pub loop-equation-preserved : goal.loop-equation-preserved
loop-equation-preserved c =
    defines_later c.args.answers.now c.args.scope.now c.args.name _ _ _ c.in_ok-block.ensures c.loop-equation.equation (omega (arith, c.loop-equation-test.true, c.len-equation-end.ensures)) 0
    (tests_as c.args.answers.now c.args.scope.now c.args.name c.loop-equation.equation 0 _ _ c.if-branch.false c.in_ok-test.ensures) c.loop-equation.invariant
