use Rattle.erased_meaning.proofs.RowsOf.{pushed, row_step, same_through}
use Rattle.erased_meaning.proofs.solve.row.Goals as goal

pub loop-output-preserved : goal.loop-output-preserved
loop-output-preserved c = record {
  sound = c.in_ok-value.ensures.sound;
  same = same_through c.args.answers.now c.loop-output.answers c.value.new.answers c.loop-output.invariant.same c.in_ok-value.ensures.same;
  values = row_step c.args.answers.now c.loop-output.answers c.args.node.now c.as_slice-output-items.result.now c.args.t c.loop-output.output-index c.output-item.result
      c.loop-output.row.items c.push.new.self.items c.in_ok-value.value c.loop-output.invariant.same c.requires.chosen c.as_slice-output-items.ensures c.loop-output-test.true c.output-item.is
      c.in_ok-value.ensures.value (pushed c.loop-output.row.items c.push.new.self.items c.in_ok-value.value _ c.push.ensures.items c.if-is_err.ensures.negation)
      c.loop-output.invariant.values;
}
