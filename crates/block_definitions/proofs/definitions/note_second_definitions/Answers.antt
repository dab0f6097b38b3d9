use Rattle.block_definitions.proofs.Again.{again_met, met_step}
use Rattle.block_definitions.proofs.definitions.note_second_definitions.Goals as goal

pub loop-equation-preserved : goal.loop-equation-preserved
loop-equation-preserved c = record {
  noted = again_met _ _ c.equation-item.result c.equation-item.result _ _ _ _ c.loop-equation-test.true c.loop-equation.invariant.noted c.equation-item.is c.loop-equation.invariant.earlier c.in_ok-note_again.ensures.noted;
  earlier = λ x. met_step _ _ c.equation-item.result c.equation-item.result x _ _ c.loop-equation-test.true (c.loop-equation.invariant.earlier x) c.equation-item.is (c.in_ok-note_again.ensures.earlier x);
}
