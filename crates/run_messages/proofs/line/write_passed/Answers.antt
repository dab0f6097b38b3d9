use Rattle.std.proofs.Common.{decimal, codes, ◌++◌}
use Rattle.run_messages.proofs.Writing.{then_writes, stops_in_front}
use Rattle.run_messages.proofs.line.write_passed.Goals as goal

pub returns-in_err-write_number-clause-text : goal.returns-in_err-write_number-clause-text
returns-in_err-write_number-clause-text g c =
    let at = codes "limit at " ++ decimal c.args.at in
    let kept = codes ": " ++ decimal c.args.kept in
    let limit = codes " of " ++ decimal c.args.limit in
    stops_in_front _ _ at (kept ++ limit) c.from_residual.result _ c.from_residual.ensures.1 c.in_err-write_number.ensures.text

pub returns-in_err-write_number-2-clause-text : goal.returns-in_err-write_number-2-clause-text
returns-in_err-write_number-2-clause-text g c =
    let at = codes "limit at " ++ decimal c.args.at in
    let kept = codes ": " ++ decimal c.args.kept in
    let limit = codes " of " ++ decimal c.args.limit in
    then_writes _ _ _ at (kept ++ limit) c.from_residual-in_err-write_number-2.result c.in_ok-write_number.ensures.text
    (stops_in_front _ _ kept limit c.from_residual-in_err-write_number-2.result _ c.from_residual-in_err-write_number-2.ensures.1 c.in_err-write_number-2.ensures.text)

pub returns-clause-text : goal.returns-clause-text
returns-clause-text g c =
    let at = codes "limit at " ++ decimal c.args.at in
    let kept = codes ": " ++ decimal c.args.kept in
    let limit = codes " of " ++ decimal c.args.limit in
    then_writes _ _ _ at (kept ++ limit) c.write_number-3.result c.in_ok-write_number.ensures.text
    (then_writes _ _ _ kept limit c.write_number-3.result c.in_ok-write_number-2.ensures.text c.write_number-3.ensures.text)
