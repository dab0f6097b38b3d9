use Rattle.run_checks.proofs.Refusing.{acceptance_end, clocks_end}
use Rattle.run_checks.proofs.checks.check_reads.Goals as goal

pub returns-in-Err-clause-ends : goal.returns-in-Err-clause-ends
returns-in-Err-clause-ends c = clocks_end c.args.typed c.in-Err.fault c.end_of_clocks.result c.in-Err.ensures.fault c.end_of_clocks.ensures

pub returns-in-Err-accept-clause-ends : goal.returns-in-Err-accept-clause-ends
returns-in-Err-accept-clause-ends c =
    acceptance_end c.args.typed c.in-Ok.clocked c.in-Err-accept.fault c.end_of_acceptance.result c.in-Ok.ensures.program c.in-Ok.ensures.clocks c.in-Err-accept.ensures.answer c.end_of_acceptance.ensures
