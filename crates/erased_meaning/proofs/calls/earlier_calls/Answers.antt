use Rattle.erased_meaning.proofs.CallsOf.{counts_more}
use Rattle.erased_meaning.proofs.calls.earlier_calls.Goals as goal

pub loop-at-preserved : goal.loop-at-preserved
loop-at-preserved c present asked =
    counts_more c.args.answers.now c.args.path.now present c.loop-at.at c.args.t c.in_ok-test.field-0 asked c.loop-at-test.true c.in_ok-test.ensures (c.loop-at.invariant present asked)
