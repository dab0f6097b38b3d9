use Rattle.std.proofs.Common.{◌∙◌, ap}
use Rattle.run_checks.specs.Stops.{end_of_text}
use Rattle.run_checks.proofs.Refusing.{unread_exactly, unread_refused, read_exactly, read_refused, read_complete, read_text, read_runs, read_ends}
use Rattle.run_checks.proofs.checks.read_checked.Goals as goal

pub returns-in-Err-clause-exactly : goal.returns-in-Err-clause-exactly
returns-in-Err-clause-exactly c = unread_exactly c.args.text.now c.in-Err.fault c.end_of_text.result c.end_of_text.ensures c.in-Err.ensures.exactly

pub returns-in-Err-clause-refused : goal.returns-in-Err-clause-refused
returns-in-Err-clause-refused c = unread_refused c.args.text.now c.in-Err.fault c.end_of_text.result c.end_of_text.ensures c.in-Err.ensures.exactly c.in-Err.ensures.only

pub returns-in-Err-clause-complete : goal.returns-in-Err-clause-complete
returns-in-Err-clause-complete c = λ p spelled runs. c.end_of_text.ensures ∙ ap end_of_text (c.in-Err.ensures.only p spelled)

pub returns-clause-text : goal.returns-clause-text
returns-clause-text c = read_text c.args.text.now c.in-Ok.program c.check_program.result c.in-Ok.ensures.text c.check_program.ensures.same

pub returns-clause-runs : goal.returns-clause-runs
returns-clause-runs c = read_runs c.in-Ok.program c.check_program.result c.check_program.ensures.runs c.check_program.ensures.same

pub returns-clause-ends : goal.returns-clause-ends
returns-clause-ends c = read_ends c.args.text.now c.in-Ok.program c.check_program.result c.in-Ok.ensures.text c.check_program.ensures.ends

pub returns-clause-exactly : goal.returns-clause-exactly
returns-clause-exactly c = read_exactly c.args.text.now c.check_program.result c.in-Ok.ensures.exactly

pub returns-clause-refused : goal.returns-clause-refused
returns-clause-refused c = read_refused c.clock_laws.ensures.program c.args.text.now c.in-Ok.program c.check_program.result c.in-Ok.ensures.exactly c.in-Ok.ensures.only c.check_program.ensures.runs c.check_program.ensures.ends

pub returns-clause-complete : goal.returns-clause-complete
returns-clause-complete c = read_complete c.clock_laws.ensures.program c.args.text.now c.in-Ok.program c.check_program.result c.in-Ok.ensures.only c.check_program.ensures.same c.check_program.ensures.ends
