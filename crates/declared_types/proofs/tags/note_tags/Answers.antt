use Rattle.std.specs.Option.{option_map}
use Rattle.declared_types.specs.Tags.{tag_faults_by}
use Rattle.declared_types.specs.Types.{type_in}
use Rattle.earliest_fault.proofs.Noting.{noted_step}
use Rattle.declared_types.proofs.tags.note_tags.Goals as goal

pub loop-branch-preserved : goal.loop-branch-preserved
loop-branch-preserved c = noted_step (λ b. tag_faults_by c.args.types.now b.place.0 b.tag (option_map type_in c.args.on)) _ _ c.branch-item.result c.branch-item.result _ _ _ c.loop-branch-test.true c.loop-branch.invariant c.branch-item.is c.note_tag.ensures
