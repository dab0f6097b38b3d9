use Rattle.std.proofs.Common.{arith}
use Rattle.erased_meaning.proofs.EquationsOf.{branch_defines, branch_later}
use Rattle.erased_meaning.proofs.definitions.branches_define.Goals as goal

pub returns-then-branch : goal.returns-then-branch
returns-then-branch c =
    branch_defines c.args.answers.now c.args.scope.now c.args.equation c.args.name.now c.args.branches.now c.loop-branch.branch (omega (arith, c.loop-branch-test.true)) _ c.if-branch.true
    c.in_ok-part_defines.ensures c.loop-branch.invariant

pub loop-branch-preserved : goal.loop-branch-preserved
loop-branch-preserved c =
    branch_later c.args.answers.now c.args.scope.now c.args.equation c.args.name.now c.args.branches.now c.loop-branch.branch (omega (arith, c.loop-branch-test.true)) _ c.if-branch.false
    c.in_ok-part_defines.ensures c.loop-branch.invariant
