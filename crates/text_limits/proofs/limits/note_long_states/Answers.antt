use Rattle.hept_ast.specs.Limits.{name_limit}
use Rattle.hept_ast.specs.Parts.{state_case}
use Rattle.earliest_fault.proofs.Noting.{noted_mapped}
use Rattle.text_limits.proofs.limits.note_long_states.Goals as goal

pub loop-state-preserved : goal.loop-state-preserved
loop-state-preserved c = noted_mapped (λ k. name_limit k.place k.label) state_case _ _ c.state-item.result c.state-item.result _ _ _ c.loop-state-test.true c.loop-state.invariant c.state-item.is c.note_long.ensures
