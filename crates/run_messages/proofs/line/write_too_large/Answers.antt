use Rattle.std.proofs.Common.{decimal, codes, ◌++◌}
use Rattle.run_messages.proofs.Writing.{then_writes, stops_in_front}
use Rattle.run_messages.proofs.line.write_too_large.Goals as goal

pub returns-in_err-write_number-clause-text : goal.returns-in_err-write_number-clause-text
returns-in_err-write_number-clause-text g c =
    stops_in_front _ _ (codes "too large: " ++ decimal c.args.kept) (codes " over 1000000") c.from_residual.result _ c.from_residual.ensures.1 c.in_err-write_number.ensures.text

pub returns-clause-text : goal.returns-clause-text
returns-clause-text g c =
    then_writes _ _ _ (codes "too large: " ++ decimal c.args.kept) (codes " over 1000000") c.put.result c.in_ok-write_number.ensures.text c.put.ensures.text
