use Rattle.std.proofs.Common.{◌≡◌, ℕ, Some, ap, ◌∙◌, arith}
use Rattle.step_engine.specs.Actions.{with_futures}
use Rattle.step_engine.proofs.acting.hold.Goals as goal

pub returns : goal.returns
returns c =
    let e : c.loop-j.j ≡ c.args.outputs = omega (arith, c.loop-j-test.false, c.loop-j.auto.j-end) in
    c.loop-j.invariant ∙ ap (λ (n : ℕ). with_futures c.args.futures.now c.args.first n (Some c.args.handle)) e
