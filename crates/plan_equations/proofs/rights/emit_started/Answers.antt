use Rattle.std.proofs.Common.{[]}
use Rattle.std.proofs.lemmas.Result.{IfOk-weaker}
use Rattle.step_plans.specs.declared.instruction.Instruction.TheVariants as does
use Rattle.plan_expressions.specs.Building.{IsAdded}
use Rattle.plan_equations.specs.Rights.{EmitsStarted, KeepsCells}
use Rattle.plan_equations.proofs.KeptCells.{keeps_started}
use Rattle.plan_equations.proofs.Remembering.{right_started}
use Rattle.plan_equations.proofs.rights.emit_started.Goals as goal

pub returns-clause-emits : goal.returns-clause-emits
returns-clause-emits c =
    IfOk-weaker c.add-3.result (IsAdded c.add-2.new.self c.add-3.new.self (does.Select c.in_ok-seen.seen 1 c.in_ok-left.left c.register_of-first.result))
    (EmitsStarted c.args.variables.now c.args.registers.now c.args.cell c.args.draft.now c.add-3.new.self c.args.x.now)
    (λ r added types presences e a d is start. right_started types c.args.variables.now c.args.registers.now presences c.args.cell c.args.draft.now c.add.new.self c.add-2.new.self c.add-3.new.self e a d c.args.x.now c.in_ok-seen.seen c.in_ok-left.left _ r is start
    c.requires.among c.register_of-first.ensures c.in_ok-seen.ensures c.in_ok-left.ensures added)
    c.add-3.ensures

pub returns-clause-within : goal.returns-clause-within
returns-clause-within c =
    IfOk-weaker c.add-3.result (IsAdded c.add-2.new.self c.add-3.new.self (does.Select c.in_ok-seen.seen 1 c.in_ok-left.left c.register_of-first.result))
    (KeepsCells 2 c.args.cell c.args.registers.now [] c.args.draft.now c.add-3.new.self)
    (λ r added. keeps_started c.args.cell c.args.registers.now [] c.args.variables.now c.args.draft.now c.add.new.self c.add-2.new.self c.add-3.new.self c.args.x.now c.in_ok-seen.seen c.in_ok-left.left _ r c.requires.known
    c.requires.among c.register_of-first.ensures c.in_ok-seen.ensures c.in_ok-left.ensures added)
    c.add-3.ensures
