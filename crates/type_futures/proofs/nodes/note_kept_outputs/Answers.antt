use Rattle.type_futures.specs.NodeFaults.{kept_output}
use Rattle.earliest_fault.proofs.Noting.{noted_step}
use Rattle.type_futures.proofs.nodes.note_kept_outputs.Goals as goal

pub loop-output-preserved : goal.loop-output-preserved
loop-output-preserved c = noted_step (kept_output c.args.is_async) _ _ c.output-item.result c.output-item.result _ _ _ c.loop-output-test.true c.loop-output.invariant c.output-item.is c.note_kept_output.ensures
