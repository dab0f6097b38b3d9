use Rattle.std.proofs.Common.{subst}
use Rattle.clock_calculus.specs.Noted.{IsNoted}
use Rattle.clock_calculus.proofs.ProgressOf.{progress_more}
use Rattle.clock_calculus.proofs.check.note_nodes.Goals as goal

pub loop-index-preserved : goal.loop-index-preserved
loop-index-preserved c =
    let noted = subst (λ k. IsNoted c.in_ok-solved.solved k c.loop-index.clocks c.loop-index.first c.note_node.new.clocks c.in_ok-first.first) (c.in_ok-id.ensures {u = tt}) (c.in_ok-first.ensures {u = tt}) in
    progress_more c.args.nodes.now c.loop-index.index c.index-nodes-index.result c.loop-index-test.true c.index-nodes-index.is c.in_ok-solved.solved (c.in_ok-solved.ensures {u = tt}) c.loop-index.clocks c.note_node.new.clocks c.loop-index.first c.in_ok-first.first c.loop-index.invariant noted
