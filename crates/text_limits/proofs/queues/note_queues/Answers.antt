use Rattle.hept_ast.specs.Limits.{queue_limit}
use Rattle.earliest_fault.proofs.Noting.{noted_mapped}
use Rattle.text_limits.proofs.queues.note_queues.Goals as goal

pub loop-e-preserved : goal.loop-e-preserved
loop-e-preserved c = noted_mapped (λ e. queue_limit e.place.0 e.form) (λ r. r.now) _ _ c.e-item.result c.e-item.result _ _ _ c.loop-e-test.true c.loop-e.invariant c.e-item.is c.note_queue.ensures
