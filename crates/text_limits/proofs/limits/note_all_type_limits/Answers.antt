use Rattle.hept_ast.specs.Limits.{type_limits}
use Rattle.earliest_fault.proofs.Noting.{noted_step}
use Rattle.text_limits.proofs.limits.note_all_type_limits.Goals as goal

pub loop-declared-preserved : goal.loop-declared-preserved
loop-declared-preserved c = noted_step type_limits _ _ c.declared-item.result c.declared-item.result _ _ _ c.loop-declared-test.true c.loop-declared.invariant c.declared-item.is c.note_type_limits.ensures
