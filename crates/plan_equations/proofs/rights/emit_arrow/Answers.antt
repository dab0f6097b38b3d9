use Rattle.std.proofs.lemmas.Result.{IfOk-weaker}
use Rattle.step_plans.specs.declared.instruction.Instruction.TheVariants as does
use Rattle.plan_expressions.specs.Building.{IsAdded}
use Rattle.plan_equations.specs.Rights.{EmitsArrow, KeepsCells}
use Rattle.plan_equations.proofs.KeptCells.{keeps_arrow}
use Rattle.plan_equations.proofs.Remembering.{right_arrow}
use Rattle.plan_equations.proofs.rights.emit_arrow.Goals as goal

pub returns-clause-emits : goal.returns-clause-emits
returns-clause-emits c =
    IfOk-weaker c.add-2.result (IsAdded c.emit-2.new.draft c.add-2.new.self (does.Select c.in_ok-seen.seen 1 c.in_ok-later.later c.in_ok-first.first))
    (EmitsArrow c.args.types.now c.args.variables.now c.args.registers.now c.args.presences.now c.args.cell c.args.draft.now c.add-2.new.self c.args.a.now c.args.b.now)
    (λ r added e is. right_arrow c.args.types.now c.args.variables.now c.args.registers.now c.args.presences.now c.args.cell c.args.draft.now c.add.new.self c.emit.new.draft c.emit-2.new.draft c.add-2.new.self e c.args.a.now c.args.b.now c.in_ok-seen.seen c.in_ok-first.first c.in_ok-later.later r is
    c.in_ok-seen.ensures c.in_ok-first.ensures.emits c.in_ok-later.ensures.emits added)
    c.add-2.ensures

pub returns-clause-within : goal.returns-clause-within
returns-clause-within c =
    IfOk-weaker c.add-2.result (IsAdded c.emit-2.new.draft c.add-2.new.self (does.Select c.in_ok-seen.seen 1 c.in_ok-later.later c.in_ok-first.first))
    (KeepsCells 1 c.args.cell c.args.registers.now c.args.presences.now c.args.draft.now c.add-2.new.self)
    (λ r added. keeps_arrow c.args.cell c.args.registers.now c.args.presences.now c.args.draft.now c.add.new.self c.emit.new.draft c.emit-2.new.draft c.add-2.new.self c.in_ok-seen.seen c.in_ok-first.first c.in_ok-later.later r c.in_ok-seen.ensures
    c.in_ok-first.ensures.within c.in_ok-later.ensures.within added)
    c.add-2.ensures
