use Rattle.std.proofs.Common.{sym, ◌∙◌, arith}
use Rattle.trace_io.proofs.Digits.{none_of_some, longer_too_large, one_more, all_more, value_at_end, not_empty}
use Rattle.trace_io.proofs.value_text.magnitude.Goals as goal

pub returns-then-not-is_ascii_digit : goal.returns-then-not-is_ascii_digit
returns-then-not-is_ascii_digit c = sym (none_of_some c.args.greatest c.args.digits.now c.loop-digit.digit-index c.loop-digit-test.true (sym c.is_ascii_digit.ensures.value ∙ c.if-not-is_ascii_digit.true))

pub returns-then-number-from : goal.returns-then-number-from
returns-then-number-from c = sym (longer_too_large c.args.greatest c.args.digits.now c.loop-digit.digit-index c.loop-digit.number c.loop-digit-test.true
    (sym c.is_ascii_digit.ensures.value ∙ c.if-not-is_ascii_digit.false) c.loop-digit.invariant.1 (omega arith))

pub loop-digit-preserved : goal.loop-digit-preserved
loop-digit-preserved c =
    let digit = sym c.is_ascii_digit.ensures.value ∙ c.if-not-is_ascii_digit.false in (
      all_more c.args.digits.now c.loop-digit.digit-index c.loop-digit-test.true c.loop-digit.invariant.0 digit,
      omega (arith, one_more c.args.digits.now c.loop-digit.digit-index c.loop-digit.number c.loop-digit-test.true digit c.loop-digit.invariant.1),
      omega arith,
    )

pub returns : goal.returns
returns c = sym (value_at_end c.args.greatest c.args.digits.now c.loop-digit.digit-index c.loop-digit.number (not_empty c.args.digits.now (sym c.is_empty.ensures ∙ c.if-is_empty.false)) c.loop-digit-test.false c.loop-digit.invariant.0 c.loop-digit.invariant.1 c.loop-digit.invariant.2)
