use Rattle.run_messages.specs.Lines.{behind_space}
use Rattle.run_messages.proofs.Writing.{stops_among}
use Rattle.run_messages.proofs.line.write_others.Goals as goal

pub returns-in_err-write_behind_space-clause-text : goal.returns-in_err-write_behind_space-clause-text
returns-in_err-write_behind_space-clause-text g c =
    stops_among behind_space c.args.names.now c.loop-name.name-index c.name-item.result _ _ _ c.from_residual.result _ c.loop-name-test.true c.name-item.is c.loop-name.invariant.0 c.in_err-write_behind_space.ensures.text c.from_residual.ensures.1
