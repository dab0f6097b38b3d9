use Rattle.std.proofs.Common.{map}
use Rattle.block_definitions.specs.Defined.{left_faults_by}
use Rattle.earliest_fault.proofs.Noting.{noted_step}
use Rattle.block_definitions.proofs.definitions.note_left_side.Goals as goal

pub loop-name-preserved : goal.loop-name-preserved
loop-name-preserved c = noted_step (left_faults_by c.args.inputs.now (map (λ r. r.now) c.args.seen.now) c.args.place.0) _ _ c.name-item.result c.name-item.result _ _ _ c.loop-name-test.true c.loop-name.invariant c.name-item.is c.note_left.ensures
