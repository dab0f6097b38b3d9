use Rattle.std.proofs.Common.{◌≡◌, ◌<◌, true, drop}
use Rattle.std.specs.List.{list_all}
use Rattle.ept_tokens.specs.Tokens.{decimal, is_digit}
use Rattle.ept_tokens.proofs.cutter.number.Given as goal

abbrev pub invariant-loop-digit : goal.invariant-loop-digit
invariant-loop-digit l = record {
  rest : decimal l.value (drop l.digit-index l.digits) ≡ decimal 0 l.digits;
  digits : list_all is_digit (drop l.digit-index l.digits) ≡ true;
  small : l.value < 2147483648;
}
