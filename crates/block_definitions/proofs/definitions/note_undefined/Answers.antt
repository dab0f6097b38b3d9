use Rattle.std.proofs.Common.{map}
use Rattle.block_definitions.specs.Defined.{undefined_fault}
use Rattle.earliest_fault.proofs.Noting.{noted_step}
use Rattle.block_definitions.proofs.definitions.note_undefined.Goals as goal

pub loop-decl-preserved : goal.loop-decl-preserved
loop-decl-preserved c = noted_step (undefined_fault (map (λ r. r.now) c.args.sets.now.keys)) _ _ c.decl-item.result c.decl-item.result _ _ _ c.loop-decl-test.true c.loop-decl.invariant c.decl-item.is c.note_if_undefined.ensures
