use Rattle.std.proofs.Common.{arith}
use Rattle.erased_meaning.proofs.EquationsOf.{state_defines, state_later}
use Rattle.erased_meaning.proofs.definitions.states_define.Goals as goal

pub returns-then-branch : goal.returns-then-branch
returns-then-branch c =
    state_defines c.args.answers.now c.args.scope.now c.args.equation c.args.name.now c.args.states.now c.loop-state.state (omega (arith, c.loop-state-test.true)) _ c.if-branch.true
    c.in_ok-part_defines.ensures c.loop-state.invariant

pub loop-state-preserved : goal.loop-state-preserved
loop-state-preserved c =
    state_later c.args.answers.now c.args.scope.now c.args.equation c.args.name.now c.args.states.now c.loop-state.state (omega (arith, c.loop-state-test.true)) _ c.if-branch.false
    c.in_ok-part_defines.ensures c.loop-state.invariant
