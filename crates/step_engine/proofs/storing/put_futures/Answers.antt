use Rattle.std.proofs.Common.{◌+◌, ◌<◌, ◌∙◌, length, arith}
use Rattle.step_engine.proofs.ActionsDone.{cells_set}
use Rattle.step_engine.proofs.FuturesKept.{no_handle_of, put_here, put_before}
use Rattle.step_engine.proofs.storing.put_futures.Goals as goal

pub loop-i-preserved : goal.loop-i-preserved
loop-i-preserved c =
    let room : c.args.first + c.loop-i.i < length c.loop-i.futures = omega (arith, c.requires, c.loop-i-test.true, c.loop-i.auto.futures) in
    record {
      inputs = λ k lt. put_here c.args.inputs.now c.loop-i.futures c.args.first c.loop-i.i k _ c.loop-i-test.true room c.loop-i.invariant.inputs lt;
      before = λ k lt. put_before c.loop-i.futures c.args.first c.loop-i.i k _ lt ∙ c.loop-i.invariant.before k lt;
      named = λ book all none. cells_set book c.loop-i.futures _ _ (c.loop-i.invariant.named book all none) (no_handle_of book _ (none c.loop-i.i _ c.loop-i-test.true));
    }
