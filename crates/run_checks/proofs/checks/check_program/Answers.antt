use Rattle.std.proofs.Common.{Result, None, subst, sym}
use Rattle.std.specs.Prelude.{IfErr}
use Rattle.run_checks.proofs.Exits.{at_err}
use Rattle.hept_ast.specs.Stages.{ClockedProgram}
use Rattle.hept_ast.specs.declared.tree.Program.{Program}
use Rattle.type_futures.specs.Chosen.{IsChosen}
use Rattle.run_messages.specs.declared.end.End.{End}
use Rattle.run_checks.proofs.Refusing.{StopsAt, form_stops, is_runnable, reads_stop, size_stops, types_end}
use Rattle.run_checks.proofs.checks.check_program.Goals as goal

pub returns-in-Err-clause-ends : goal.returns-in-Err-clause-ends
returns-in-Err-clause-ends c = types_end c.args.program c.in-Err.fault c.end_of_types.result c.in-Err.ensures.refused c.end_of_types.ensures

pub returns-in_err-accepted-clause-ends : goal.returns-in_err-accepted-clause-ends
returns-in_err-accepted-clause-ends c =
    let e = c.in_err-accepted.field-0.0 in
    at_err (λ (a : Result ClockedProgram End). IfErr a (StopsAt c.args.program)) c.from_residual-in_err-accepted.result e c.from_residual-in_err-accepted.ensures.1
    (reads_stop c.args.program c.in-Ok.typed e c.in-Ok.ensures.same c.in-Ok.ensures.clean (c.in_ok-main.main.0, c.in_ok-main.ensures.main) c.in_err-accepted.ensures.ends)

pub returns-in_err-check_served-clause-ends : goal.returns-in_err-check_served-clause-ends
returns-in_err-check_served-clause-ends c =
    let e = c.in_err-check_served.field-0.0 in
    at_err (λ (a : Result ClockedProgram End). IfErr a (StopsAt c.args.program)) c.from_residual-in_err-check_served.result e c.from_residual-in_err-check_served.ensures.1
    (form_stops c.args.program c.in-Ok.typed c.in_ok-accepted.accepted e c.in-Ok.ensures.same c.in-Ok.ensures.clean (c.in_ok-main.main.0, c.in_ok-main.ensures.main)
    c.in_ok-accepted.ensures.same c.in_ok-accepted.ensures.accepted.0 c.in_ok-accepted.ensures.accepted.1 c.in_err-check_served.ensures.ends)

pub check_size-requires : goal.check_size-requires
check_size-requires c = subst (λ (x : Program). IsChosen x.nodes None c.in_ok-main.main.0) (sym c.in_ok-accepted.ensures.same) c.in_ok-main.ensures.main

pub returns-in_err-check_size-clause-ends : goal.returns-in_err-check_size-clause-ends
returns-in_err-check_size-clause-ends c =
    let e = c.in_err-check_size.field-0.0 in
    at_err (λ (a : Result ClockedProgram End). IfErr a (StopsAt c.args.program)) c.from_residual-in_err-check_size.result e c.from_residual-in_err-check_size.ensures.1
    (size_stops c.args.program c.in-Ok.typed c.in_ok-accepted.accepted e c.in-Ok.ensures.same c.in-Ok.ensures.clean (c.in_ok-main.main.0, c.in_ok-main.ensures.main)
    c.in_ok-accepted.ensures.same c.in_ok-accepted.ensures.accepted.0 c.in_ok-accepted.ensures.accepted.1 c.in_ok-check_served.ensures.served c.in_err-check_size.ensures.ends)

pub returns-clause-runs : goal.returns-clause-runs
returns-clause-runs c =
    is_runnable c.args.program c.in-Ok.typed c.in_ok-accepted.accepted c.in-Ok.ensures.same c.in-Ok.ensures.clean (c.in_ok-main.main.0, c.in_ok-main.ensures.main)
    c.in_ok-accepted.ensures.same c.in_ok-accepted.ensures.accepted.0 c.in_ok-accepted.ensures.accepted.1 c.in_ok-check_served.ensures.served c.in_ok-check_size.ensures.small
