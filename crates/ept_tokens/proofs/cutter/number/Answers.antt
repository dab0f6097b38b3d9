use Rattle.std.proofs.Common.{arith, ap, ◌+◌, ◌*◌}
use Rattle.ept_tokens.proofs.Decimals.{decimal_at_least}
use Rattle.ept_tokens.proofs.cutter.number.Goals as goal

pub returns-then-value-gt2147483647 : goal.returns-then-value-gt2147483647
returns-then-value-gt2147483647 c =
    let grown = decimal_at_least c.args.digits.now c.loop-digit.value c.loop-digit.digit-index (c.loop-digit.value * 10 + c.from.result) c.loop-digit-test.true c.loop-digit.invariant.rest (ap (λ x. c.loop-digit.value * 10 + x) c.from.ensures) in
    omega arith
