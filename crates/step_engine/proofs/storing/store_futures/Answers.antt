use Rattle.std.proofs.Common.{◌≤◌, length, sym, ◌∙◌, arith}
use Rattle.step_engine.proofs.ActionsDone.{cells_set}
use Rattle.step_engine.proofs.FuturesKept.{store_here, store_left, stored_owned}
use Rattle.std.proofs.lemmas.Option.{slice_get_within}
use Rattle.step_engine.proofs.storing.store_futures.Goals as goal

pub loop-i-preserved : goal.loop-i-preserved
loop-i-preserved c =
    let room : length c.args.stores.now ≤ length c.loop-i.futures = omega (arith, c.requires.room, c.loop-i.auto.futures) in
    record {
      done = λ k s lt at. store_here c.args.stores.now c.args.values.now c.args.futures.now c.loop-i.futures c.loop-i.i k _ _ _ _ _ s c.loop-i-test.true room c.requires.within c.stored_cell-future.ensures c.loop-i.invariant.done c.loop-i.invariant.left lt at;
      left = λ k le. store_left c.loop-i.futures c.loop-i.i k _ le ∙ c.loop-i.invariant.left k (omega arith);
      named = λ book all.
          let named = c.loop-i.invariant.named book all in
          cells_set book c.loop-i.futures c.loop-i.i c.stored_cell-future.result named
          (stored_owned book c.args.stores.now c.args.values.now c.loop-i.futures c.loop-i.i (length c.args.values.now) (length c.args.futures.now) _ _ c.stored_cell-future.result c.loop-i-test.true room (sym c.loop-i.auto.futures) c.requires.within
          c.stored_cell-future.ensures named);
    }

pub returns-clause-stored : goal.returns-clause-stored
returns-clause-stored c = λ k s at. c.loop-i.invariant.done k s (let lt = slice_get_within c.args.stores.now k s at in omega (arith, c.loop-i-test.false)) at
