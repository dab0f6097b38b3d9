use Rattle.std.proofs.Common.{arith}
use Rattle.trace_io.proofs.SinkBytes.{appends_next, still_within}
use Rattle.trace_io.proofs.output_text.write_whole.Goals as goal

pub loop-done-preserved : goal.loop-done-preserved
loop-done-preserved g c =
    let xs = c.args.piece.now in (
      still_within xs c.loop-done.done c.in_ok-done.field-0 c.loop-done.invariant.0 c.in_ok-done.ensures.bound,
      appends_next _ _ _ xs c.loop-done.done c.in_ok-done.field-0 c.loop-done.invariant.1 c.in_ok-done.ensures.appended,
      omega (arith, c.write.ensures.count),
    )
