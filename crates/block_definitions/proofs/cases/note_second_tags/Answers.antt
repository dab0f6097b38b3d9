use Rattle.hept_ast.specs.Types.{same_tag}
use Rattle.block_definitions.specs.Defined.{tag_label}
use Rattle.earliest_fault.proofs.Seconds.{seconds_step}
use Rattle.block_definitions.proofs.cases.note_second_tags.Goals as goal

pub loop-index-preserved : goal.loop-index-preserved
loop-index-preserved c =
    seconds_step same_tag tag_label _ _ c.index-branches-index.result c.index-branches-index.result c.is_tag_of-again.result _ _ _ c.loop-index-test.true c.loop-index.invariant c.index-branches-index.is c.is_tag_of-again.ensures c.note_if.ensures
