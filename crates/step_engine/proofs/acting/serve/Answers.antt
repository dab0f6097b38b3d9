use Rattle.std.proofs.Common.{refl}
use Rattle.step_engine.proofs.ActionsDone.{done_from, none_left}
use Rattle.step_engine.proofs.acting.serve.Goals as goal

pub loop-action-preserved : goal.loop-action-preserved
loop-action-preserved g c = record {
  there = let b = c.loop-action.invariant.there in let a = c.act.ensures b.0 b.1 b.2 in (a.0, a.1, a.2);
  done = λ book st owned.
      let n = c.loop-action.invariant.done book st owned in
      let a = c.act.ensures n.0 n.1 n.2 in
      (a.0, a.1, a.2, λ v h. n.3 v (done_from _ _ _ _ _ _ _ _ _ v c.loop-action-test.true refl a.3 h));
}

pub returns : goal.returns
returns g c = λ book st owned.
    let n = c.loop-action.invariant.done book st owned in
    (n.0, n.1, n.2, n.3 _ (none_left _ _ _ _ _ _ c.loop-action-test.false))
