use Rattle.std.proofs.Common.{decimal, codes, ◌++◌}
use Rattle.run_messages.specs.Lines.{bad_row_text}
use Rattle.run_messages.proofs.Writing.{then_writes, stops_in_front}
use Rattle.run_messages.proofs.line.write_bad_row.Goals as goal

pub returns-in_err-write_number-clause-text : goal.returns-in_err-write_number-clause-text
returns-in_err-write_number-clause-text g c =
    let line = codes "line " ++ decimal c.args.line in
    let text = bad_row_text c.args.fault.now in
    stops_in_front _ _ line (codes ": " ++ text) c.from_residual.result _ c.from_residual.ensures.1 c.in_err-write_number.ensures.text

pub returns-in_err-put-clause-text : goal.returns-in_err-put-clause-text
returns-in_err-put-clause-text g c =
    let line = codes "line " ++ decimal c.args.line in
    let text = bad_row_text c.args.fault.now in
    then_writes _ _ _ line (codes ": " ++ text) c.from_residual-in_err-put.result c.in_ok-write_number.ensures.text
    (stops_in_front _ _ (codes ": ") text c.from_residual-in_err-put.result _ c.from_residual-in_err-put.ensures.1 c.in_err-put.ensures.text)

pub returns-clause-text : goal.returns-clause-text
returns-clause-text g c =
    let line = codes "line " ++ decimal c.args.line in
    let text = bad_row_text c.args.fault.now in
    then_writes _ _ _ line (codes ": " ++ text) c.write_fault.result c.in_ok-write_number.ensures.text
    (then_writes _ _ _ (codes ": ") text c.write_fault.result c.in_ok-put.ensures.text c.write_fault.ensures.text)
