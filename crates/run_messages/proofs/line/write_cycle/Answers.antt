use Rattle.std.proofs.Common.{codes}
use Rattle.run_messages.specs.Lines.{spaced}
use Rattle.run_messages.proofs.Writing.{then_writes, stops_in_front}
use Rattle.run_messages.proofs.line.write_cycle.Goals as goal

pub returns-in_err-put-clause-text : goal.returns-in_err-put-clause-text
returns-in_err-put-clause-text g c =
    stops_in_front _ _ (codes "cycle: ") (spaced c.args.vars.now) c.from_residual.result _ c.from_residual.ensures.1 c.in_err-put.ensures.text

pub returns-clause-text : goal.returns-clause-text
returns-clause-text g c =
    then_writes _ _ _ (codes "cycle: ") (spaced c.args.vars.now) c.write_names.result c.in_ok-put.ensures.text c.write_names.ensures.text
