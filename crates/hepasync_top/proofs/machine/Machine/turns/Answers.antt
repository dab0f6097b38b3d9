use Rattle.std.proofs.Common.{arith}
use Rattle.hepasync_top.proofs.Ends.{one_counted, stops, at_limit}
use Rattle.hepasync_top.proofs.machine.Machine.turns.Goals as goal

pub returns-in-Err-clause-ends : goal.returns-in-Err-clause-ends
returns-in-Err-clause-ends g c = λ a h.
    let s = c.loop-counted.invariant.1 a h in
    stops c.meaning_laws.ensures.erased a c.args.limit c.loop-counted.counted _ _ c.loop-counted.self c.turn.new.self _ _ _ _ c.in-Err.end c.loop-counted-test.true s (c.in-Err.ensures.turns a s.rows s.outs s.done)

pub loop-counted-preserved : goal.loop-counted-preserved
loop-counted-preserved g c = (
  c.in_default.ensures.can,
  λ a h. let s = c.loop-counted.invariant.1 a h in
      one_counted a c.loop-counted.counted _ _ c.loop-counted.self c.turn.new.self _ _ _ _ _ s (c.in_default.ensures.turns a s.rows s.outs s.done),
  omega (arith, c.turn.ensures.reads),
  omega (arith, c.turn.ensures.writes),
)

pub returns-clause-ends : goal.returns-clause-ends
returns-clause-ends g c = λ a h.
    let s = c.loop-counted.invariant.1 a h in
    at_limit c.meaning_laws.ensures.erased a c.args.limit c.loop-counted.counted _ _ c.loop-counted.self _ _ _ c.end_of_trace.result s (omega arith) c.end_of_trace.ensures.ends
