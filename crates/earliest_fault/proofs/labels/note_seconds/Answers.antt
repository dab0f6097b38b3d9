use Rattle.hept_ast.specs.Texts.{same}
use Rattle.earliest_fault.specs.Labels.{label_of}
use Rattle.earliest_fault.proofs.Seconds.{met_step, seconds_added}
use Rattle.earliest_fault.proofs.labels.note_seconds.Goals as goal

pub loop-label-preserved : goal.loop-label-preserved
loop-label-preserved c = record {
  noted = seconds_added same label_of _ _ c.label-item.result c.label-item.result _ _ _ _ _ c.loop-label-test.true c.loop-label.invariant.noted c.label-item.is (c.loop-label.invariant.met c.label-item.result.name.now) c.in_ok-added.ensures.added c.note_if.ensures;
  met = λ x. met_step same label_of _ _ c.label-item.result c.label-item.result x _ _ c.loop-label-test.true c.label-item.is (c.loop-label.invariant.met x) (c.in_ok-added.ensures.names x);
}
