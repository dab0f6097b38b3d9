use Rattle.hept_ast.specs.Limits.{name_limit}
use Rattle.earliest_fault.proofs.Noting.{noted_step}
use Rattle.text_limits.proofs.limits.note_long_names.Goals as goal

pub loop-name-preserved : goal.loop-name-preserved
loop-name-preserved c = noted_step (name_limit c.args.place.0) _ _ c.name-item.result c.name-item.result _ _ _ c.loop-name-test.true c.loop-name.invariant c.name-item.is c.note_long.ensures
