use Rattle.std.proofs.Common.{[], length, sym, subst}
use Rattle.std.proofs.lemmas.Result.{IfOk-weaker}
use Rattle.hept_ast.specs.declared.tree.Expr.{Expr}
use Rattle.hept_ast.specs.declared.tree.Form.{out-Form}
use Rattle.step_plans.specs.declared.instruction.Instruction.TheVariants as does
use Rattle.plan_expressions.specs.Building.{IsAdded}
use Rattle.plan_expressions.specs.Clocked.{EmitsOn, KeepsWithinOn}
use Rattle.plan_expressions.specs.Computable.{Computable}
use Rattle.plan_equations.specs.Rights.{EmitsRight, KeepsCells, right_cells}
use Rattle.plan_equations.proofs.KeptCells.{as_many_cells, cells_arrow, cells_constant, cells_previous, cells_started, keeps_read, whatever_present}
use Rattle.plan_equations.proofs.Remembering.{right_constant, right_expression, right_previous}
use Rattle.plan_equations.proofs.RightOperands.{start_known, start_constant, arrow_operands, plain_right}
use Rattle.plan_equations.proofs.rights.emit_right.Goals as goal

pub emit_started-requires-clause-among : goal.emit_started-requires-clause-among
emit_started-requires-clause-among c =
    start_known c.args.types.now c.args.variables.now (length c.args.presences.now) c.args.e.now c.in-Fby.a c.in-Fby.field-1 c.get.result.now c.in-Var.x c.in-Fby.is c.get.ensures c.in-Var.is c.requires.right

pub emit_arrow-requires-clause-first : goal.emit_arrow-requires-clause-first
emit_arrow-requires-clause-first c =
    subst (λ (x : Expr). Computable c.args.types.now c.args.variables.now (length c.args.presences.now) x) (sym c.get-in-Arrow.ensures)
    (arrow_operands c.args.types.now c.args.variables.now (length c.args.presences.now) c.args.e.now c.in-Arrow.a c.in-Arrow.b c.in-Arrow.is c.requires.right).0

pub emit_arrow-requires-clause-later : goal.emit_arrow-requires-clause-later
emit_arrow-requires-clause-later c =
    subst (λ (x : Expr). Computable c.args.types.now c.args.variables.now (length c.args.presences.now) x) (sym c.get-in-Arrow-2.ensures)
    (arrow_operands c.args.types.now c.args.variables.now (length c.args.presences.now) c.args.e.now c.in-Arrow.a c.in-Arrow.b c.in-Arrow.is c.requires.right).1

pub emit-requires-clause-computable : goal.emit-requires-clause-computable
emit-requires-clause-computable c =
    plain_right c.args.types.now c.args.variables.now (length c.args.presences.now) c.args.e.now c.in_default.not-Fby c.in_default.not-Pre c.in_default.not-Arrow c.requires.right

pub returns-in_default-form-clause-emits : goal.returns-in_default-form-clause-emits
returns-in_default-form-clause-emits c =
    let start = start_constant c.args.types.now c.args.variables.now (length c.args.presences.now) c.args.e.now c.in-Fby.a c.in-Fby.field-1 c.get.result.now c.in-Fby.is c.get.ensures c.in_default-form.not-Var c.requires.right in
    IfOk-weaker c.add.result (IsAdded c.args.draft.now c.add.new.self (does.Read c.args.cell)) (EmitsRight c.args.types.now c.args.variables.now c.args.registers.now c.args.presences.now c.args.cell c.args.draft.now c.add.new.self c.args.e.now)
    (λ r added. right_constant c.args.types.now c.args.variables.now c.args.registers.now c.args.presences.now c.args.cell c.args.draft.now c.add.new.self c.args.e.now c.in-Fby.a c.in-Fby.field-1 start.0 r c.in-Fby.is start.1 added)
    c.add.ensures

pub returns-in-Pre-clause-emits : goal.returns-in-Pre-clause-emits
returns-in-Pre-clause-emits c =
    IfOk-weaker c.add-in-Pre.result (IsAdded c.args.draft.now c.add-in-Pre.new.self (does.Read c.args.cell)) (EmitsRight c.args.types.now c.args.variables.now c.args.registers.now c.args.presences.now c.args.cell c.args.draft.now c.add-in-Pre.new.self c.args.e.now)
    (λ r added. right_previous c.args.types.now c.args.variables.now c.args.registers.now c.args.presences.now c.args.cell c.args.draft.now c.add-in-Pre.new.self c.args.e.now c.in-Pre.field-0 r c.in-Pre.is added)
    c.add-in-Pre.ensures

pub returns-in_default-clause-emits : goal.returns-in_default-clause-emits
returns-in_default-clause-emits c =
    IfOk-weaker c.emit.result (EmitsOn c.args.types.now c.args.variables.now c.args.registers.now c.args.presences.now c.args.draft.now c.emit.new.draft c.args.e.now)
    (EmitsRight c.args.types.now c.args.variables.now c.args.registers.now c.args.presences.now c.args.cell c.args.draft.now c.emit.new.draft c.args.e.now)
    (λ r emits. right_expression c.args.types.now c.args.variables.now c.args.registers.now c.args.presences.now c.args.cell c.args.draft.now c.emit.new.draft c.args.e.now r
    (plain_right c.args.types.now c.args.variables.now (length c.args.presences.now) c.args.e.now c.in_default.not-Fby c.in_default.not-Pre c.in_default.not-Arrow c.requires.right) emits)
    c.emit.ensures.emits

pub returns-in-Var-clause-within : goal.returns-in-Var-clause-within
returns-in-Var-clause-within c =
    IfOk-weaker c.emit_started.result (KeepsCells 2 c.args.cell c.args.registers.now [] c.args.draft.now c.emit_started.new.draft) (KeepsCells (right_cells (out-Form c.args.e.now.form)) c.args.cell c.args.registers.now c.args.presences.now c.args.draft.now c.emit_started.new.draft)
    (λ r h. as_many_cells c.args.cell c.args.registers.now c.args.presences.now 2 (right_cells (out-Form c.args.e.now.form)) c.args.draft.now c.emit_started.new.draft r
    (cells_started c.args.e.now c.in-Fby.a c.in-Fby.field-1 c.get.result.now c.in-Var.x c.in-Fby.is c.get.ensures c.in-Var.is) (whatever_present c.args.cell c.args.registers.now c.args.presences.now 2 c.args.draft.now c.emit_started.new.draft r h))
    c.emit_started.ensures.within

pub returns-in_default-form-clause-within : goal.returns-in_default-form-clause-within
returns-in_default-form-clause-within c =
    let start = start_constant c.args.types.now c.args.variables.now (length c.args.presences.now) c.args.e.now c.in-Fby.a c.in-Fby.field-1 c.get.result.now c.in-Fby.is c.get.ensures c.in_default-form.not-Var c.requires.right in
    IfOk-weaker c.add.result (IsAdded c.args.draft.now c.add.new.self (does.Read c.args.cell)) (KeepsCells (right_cells (out-Form c.args.e.now.form)) c.args.cell c.args.registers.now c.args.presences.now c.args.draft.now c.add.new.self)
    (λ r h. as_many_cells c.args.cell c.args.registers.now c.args.presences.now 1 (right_cells (out-Form c.args.e.now.form)) c.args.draft.now c.add.new.self r
    (cells_constant c.args.e.now c.in-Fby.a c.in-Fby.field-1 start.0 c.in-Fby.is start.1) (keeps_read c.args.cell c.args.registers.now c.args.presences.now c.args.draft.now c.add.new.self r h))
    c.add.ensures

pub returns-in-Pre-clause-within : goal.returns-in-Pre-clause-within
returns-in-Pre-clause-within c =
    IfOk-weaker c.add-in-Pre.result (IsAdded c.args.draft.now c.add-in-Pre.new.self (does.Read c.args.cell)) (KeepsCells (right_cells (out-Form c.args.e.now.form)) c.args.cell c.args.registers.now c.args.presences.now c.args.draft.now c.add-in-Pre.new.self)
    (λ r h. as_many_cells c.args.cell c.args.registers.now c.args.presences.now 1 (right_cells (out-Form c.args.e.now.form)) c.args.draft.now c.add-in-Pre.new.self r
    (cells_previous c.args.e.now c.in-Pre.field-0 c.in-Pre.is) (keeps_read c.args.cell c.args.registers.now c.args.presences.now c.args.draft.now c.add-in-Pre.new.self r h))
    c.add-in-Pre.ensures

pub returns-in-Arrow-clause-within : goal.returns-in-Arrow-clause-within
returns-in-Arrow-clause-within c =
    IfOk-weaker c.emit_arrow.result (KeepsCells 1 c.args.cell c.args.registers.now c.args.presences.now c.args.draft.now c.emit_arrow.new.draft) (KeepsCells (right_cells (out-Form c.args.e.now.form)) c.args.cell c.args.registers.now c.args.presences.now c.args.draft.now c.emit_arrow.new.draft)
    (λ r h. as_many_cells c.args.cell c.args.registers.now c.args.presences.now 1 (right_cells (out-Form c.args.e.now.form)) c.args.draft.now c.emit_arrow.new.draft r (cells_arrow c.args.e.now c.in-Arrow.a c.in-Arrow.b c.in-Arrow.is) h)
    c.emit_arrow.ensures.within

pub returns-in_default-clause-within : goal.returns-in_default-clause-within
returns-in_default-clause-within c =
    IfOk-weaker c.emit.result (KeepsWithinOn c.args.registers.now c.args.presences.now c.args.draft.now c.emit.new.draft) (KeepsCells (right_cells (out-Form c.args.e.now.form)) c.args.cell c.args.registers.now c.args.presences.now c.args.draft.now c.emit.new.draft)
    (λ r h. λ cells le below present all. h cells below present all)
    c.emit.ensures.within
