use Rattle.std.proofs.Common.{ℕ, ◌+◌, ◌-◌, List, length, take, refl, ap, ◌∙◌, subst, sym, arith}
use Rattle.std.proofs.lemmas.Result.{IfOk-weaker}
use Rattle.hept_ast.specs.declared.tree.Expr.{Expr}
use Rattle.hept_ast.specs.declared.tree.MergeBranch.{MergeBranch}
use Rattle.step_plans.specs.declared.instruction.Instruction.TheVariants as does
use Rattle.plan_expressions.specs.Computable.{Computable, HasDivisor, IsDivisorOf}
use Rattle.plan_expressions.specs.Building.{IsAdded}
use Rattle.plan_expressions.specs.Clocked.{EmitsOn, EmitsBranch, EmitsBranches, KeepsWithinOn}
use Rattle.plan_expressions.proofs.Operands.{variable_known, right_divisor, when_operands, some_form, unary_over, left_over, right_over, condition_over, then_over, otherwise_over, when_over}
use Rattle.plan_expressions.proofs.Emitting.{emit_variable, emit_constant, emit_unary, emit_binary, emit_divided, emit_if, emit_when, emit_branch_of, emit_merge, emits_of}
use Rattle.plan_expressions.proofs.KeptWithin.{keeps_variable, keeps_constant, keeps_one, keeps_two, keeps_three, keeps_when, keeps_branch}
use Rattle.plan_expressions.proofs.Branches.{AreDone, computable_merge, computable_branch, last_done, more_done, all_done}
use Rattle.plan_expressions.proofs.Presences.{longer_by_one}
use Rattle.plan_expressions.proofs.Weights.{unary_lighter, left_lighter, right_lighter, condition_lighter, then_lighter, otherwise_lighter, when_lighter, merge_lighter, branch_lighter}
use Rattle.plan_expressions.proofs.expressions.+emission.Goals as goal

pub emit-returns-in_ok-value-in-Const-clause-emits : goal.emit-returns-in_ok-value-in-Const-clause-emits
emit-returns-in_ok-value-in-Const-clause-emits t c =
    IfOk-weaker c.add.result (IsAdded c.args.draft.now c.add.new.self (does.Constant c.in_ok-value-in-Const.value)) (EmitsOn c.args.types.now c.args.variables.now c.args.registers.now c.args.presences.now c.args.draft.now c.add.new.self c.args.e.now)
    (λ r added. emit_constant c.args.types.now c.args.variables.now c.args.registers.now c.args.presences.now c.args.draft.now c.add.new.self c.args.e.now c.in-Const.k c.in_ok-value-in-Const.value r c.in-Const.is c.in_ok-value-in-Const.ensures added)
    c.add.ensures

pub emit-returns-in_ok-value-in-Const-clause-within : goal.emit-returns-in_ok-value-in-Const-clause-within
emit-returns-in_ok-value-in-Const-clause-within t c =
    IfOk-weaker c.add.result (IsAdded c.args.draft.now c.add.new.self (does.Constant c.in_ok-value-in-Const.value)) (KeepsWithinOn c.args.registers.now c.args.presences.now c.args.draft.now c.add.new.self)
    (λ r added. keeps_constant c.args.registers.now c.args.presences.now c.args.draft.now c.add.new.self c.in_ok-value-in-Const.value r added)
    c.add.ensures

pub emit-returns-in-Var-clause-emits : goal.emit-returns-in-Var-clause-emits
emit-returns-in-Var-clause-emits t c =
    emit_variable c.args.types.now c.args.variables.now c.args.registers.now c.args.presences.now c.args.draft.now c.args.e.now c.in-Var.x _ c.in-Var.is (variable_known c.args.types.now c.args.variables.now (length c.args.presences.now) c.args.e.now c.in-Var.x c.in-Var.is c.requires.computable) c.register_of.ensures

pub emit-returns-in-Var-clause-within : goal.emit-returns-in-Var-clause-within
emit-returns-in-Var-clause-within t c =
    keeps_variable c.args.registers.now c.args.presences.now c.args.variables.now c.args.draft.now c.in-Var.x _ c.requires.known (variable_known c.args.types.now c.args.variables.now (length c.args.presences.now) c.args.e.now c.in-Var.x c.in-Var.is c.requires.computable) c.register_of.ensures

pub emit-returns-in_ok-a-in-Unary-clause-emits : goal.emit-returns-in_ok-a-in-Unary-clause-emits
emit-returns-in_ok-a-in-Unary-clause-emits t c =
    IfOk-weaker c.add-in-Unary.result (IsAdded c.emit.new.draft c.add-in-Unary.new.self (c.unary.result)) (EmitsOn c.args.types.now c.args.variables.now c.args.registers.now c.args.presences.now c.args.draft.now c.add-in-Unary.new.self c.args.e.now)
    (λ r added. emit_unary c.args.types.now c.args.variables.now c.args.registers.now c.args.presences.now c.args.draft.now c.emit.new.draft c.add-in-Unary.new.self c.args.e.now c.in-Unary.a c.in-Unary.op c.unary.result c.in_ok-a-in-Unary.a r c.in-Unary.is c.unary.ensures.operation (emits_of c.args.types.now c.args.variables.now c.args.registers.now c.args.presences.now _ _ c.get.result.now c.in-Unary.a c.in_ok-a-in-Unary.a c.get.ensures c.in_ok-a-in-Unary.ensures.emits) added)
    c.add-in-Unary.ensures

pub emit-returns-in_ok-a-in-Unary-clause-within : goal.emit-returns-in_ok-a-in-Unary-clause-within
emit-returns-in_ok-a-in-Unary-clause-within t c =
    IfOk-weaker c.add-in-Unary.result (IsAdded c.emit.new.draft c.add-in-Unary.new.self (c.unary.result)) (KeepsWithinOn c.args.registers.now c.args.presences.now c.args.draft.now c.add-in-Unary.new.self)
    (λ r added. keeps_one c.args.registers.now c.args.presences.now c.args.draft.now c.emit.new.draft c.add-in-Unary.new.self c.unary.result c.in_ok-a-in-Unary.a r c.in_ok-a-in-Unary.ensures.within added c.unary.ensures.within)
    c.add-in-Unary.ensures

pub emit-returns-then-is_division-clause-emits : goal.emit-returns-then-is_division-clause-emits
emit-returns-then-is_division-clause-emits t c =
    IfOk-weaker c.add-then-is_division.result (IsAdded c.emit-in-Binary.new.draft c.add-then-is_division.new.self (c.divided.result)) (EmitsOn c.args.types.now c.args.variables.now c.args.registers.now c.args.presences.now c.args.draft.now c.add-then-is_division.new.self c.args.e.now)
    (λ r added. emit_divided c.args.types.now c.args.variables.now c.args.registers.now c.args.presences.now c.args.draft.now c.emit-in-Binary.new.draft c.add-then-is_division.new.self c.args.e.now c.in-Binary.a c.in-Binary.b c.in-Binary.op c.divided.result c.in_ok-a-in-Binary.a c.in_ok-k-in-Binary.k r c.in-Binary.is c.divided.ensures.operation (emits_of c.args.types.now c.args.variables.now c.args.registers.now c.args.presences.now _ _ c.get-in-Binary.result.now c.in-Binary.a c.in_ok-a-in-Binary.a c.get-in-Binary.ensures c.in_ok-a-in-Binary.ensures.emits) (subst (λ (x : Expr). IsDivisorOf c.args.types.now x c.in_ok-k-in-Binary.k) c.get-then-is_division.ensures c.in_ok-k-in-Binary.ensures) added)
    c.add-then-is_division.ensures

pub emit-returns-then-is_division-clause-within : goal.emit-returns-then-is_division-clause-within
emit-returns-then-is_division-clause-within t c =
    IfOk-weaker c.add-then-is_division.result (IsAdded c.emit-in-Binary.new.draft c.add-then-is_division.new.self (c.divided.result)) (KeepsWithinOn c.args.registers.now c.args.presences.now c.args.draft.now c.add-then-is_division.new.self)
    (λ r added. keeps_one c.args.registers.now c.args.presences.now c.args.draft.now c.emit-in-Binary.new.draft c.add-then-is_division.new.self c.divided.result c.in_ok-a-in-Binary.a r c.in_ok-a-in-Binary.ensures.within added (λ v w lt. c.divided.ensures.within v w lt c.in_ok-k-in-Binary.ensures.nonzero))
    c.add-then-is_division.ensures

pub emit-returns-in_ok-b-in-Binary-clause-emits : goal.emit-returns-in_ok-b-in-Binary-clause-emits
emit-returns-in_ok-b-in-Binary-clause-emits t c =
    IfOk-weaker c.add-in-Binary.result (IsAdded c.emit-in-Binary-2.new.draft c.add-in-Binary.new.self (c.binary.result)) (EmitsOn c.args.types.now c.args.variables.now c.args.registers.now c.args.presences.now c.args.draft.now c.add-in-Binary.new.self c.args.e.now)
    (λ r added. emit_binary c.args.types.now c.args.variables.now c.args.registers.now c.args.presences.now c.args.draft.now c.emit-in-Binary.new.draft c.emit-in-Binary-2.new.draft c.add-in-Binary.new.self c.args.e.now c.in-Binary.a c.in-Binary.b c.in-Binary.op c.binary.result c.in_ok-a-in-Binary.a c.in_ok-b-in-Binary.b r c.in-Binary.is c.binary.ensures.operation (emits_of c.args.types.now c.args.variables.now c.args.registers.now c.args.presences.now _ _ c.get-in-Binary.result.now c.in-Binary.a c.in_ok-a-in-Binary.a c.get-in-Binary.ensures c.in_ok-a-in-Binary.ensures.emits) (emits_of c.args.types.now c.args.variables.now c.args.registers.now c.args.presences.now _ _ c.get-in-Binary-2.result.now c.in-Binary.b c.in_ok-b-in-Binary.b c.get-in-Binary-2.ensures c.in_ok-b-in-Binary.ensures.emits) added)
    c.add-in-Binary.ensures

pub emit-returns-in_ok-b-in-Binary-clause-within : goal.emit-returns-in_ok-b-in-Binary-clause-within
emit-returns-in_ok-b-in-Binary-clause-within t c =
    IfOk-weaker c.add-in-Binary.result (IsAdded c.emit-in-Binary-2.new.draft c.add-in-Binary.new.self (c.binary.result)) (KeepsWithinOn c.args.registers.now c.args.presences.now c.args.draft.now c.add-in-Binary.new.self)
    (λ r added. keeps_two c.args.registers.now c.args.presences.now c.args.draft.now c.emit-in-Binary.new.draft c.emit-in-Binary-2.new.draft c.add-in-Binary.new.self c.binary.result c.in_ok-a-in-Binary.a c.in_ok-b-in-Binary.b r c.in_ok-a-in-Binary.ensures.within c.in_ok-b-in-Binary.ensures.within added c.binary.ensures.within)
    c.add-in-Binary.ensures

pub emit-returns-in_ok-b-in-If-clause-emits : goal.emit-returns-in_ok-b-in-If-clause-emits
emit-returns-in_ok-b-in-If-clause-emits t c =
    IfOk-weaker c.add-in-If.result (IsAdded c.emit-in-If-3.new.draft c.add-in-If.new.self (does.Select c.in_ok-condition-in-If.condition 1 c.in_ok-a-in-If.a c.in_ok-b-in-If.b)) (EmitsOn c.args.types.now c.args.variables.now c.args.registers.now c.args.presences.now c.args.draft.now c.add-in-If.new.self c.args.e.now)
    (λ r added. emit_if c.args.types.now c.args.variables.now c.args.registers.now c.args.presences.now c.args.draft.now c.emit-in-If.new.draft c.emit-in-If-2.new.draft c.emit-in-If-3.new.draft c.add-in-If.new.self c.args.e.now c.in-If.condition c.in-If.a c.in-If.b c.in_ok-condition-in-If.condition c.in_ok-a-in-If.a c.in_ok-b-in-If.b r c.in-If.is (emits_of c.args.types.now c.args.variables.now c.args.registers.now c.args.presences.now _ _ c.get-in-If.result.now c.in-If.condition c.in_ok-condition-in-If.condition c.get-in-If.ensures c.in_ok-condition-in-If.ensures.emits) (emits_of c.args.types.now c.args.variables.now c.args.registers.now c.args.presences.now _ _ c.get-in-If-2.result.now c.in-If.a c.in_ok-a-in-If.a c.get-in-If-2.ensures c.in_ok-a-in-If.ensures.emits) (emits_of c.args.types.now c.args.variables.now c.args.registers.now c.args.presences.now _ _ c.get-in-If-3.result.now c.in-If.b c.in_ok-b-in-If.b c.get-in-If-3.ensures c.in_ok-b-in-If.ensures.emits) added)
    c.add-in-If.ensures

pub emit-returns-in_ok-b-in-If-clause-within : goal.emit-returns-in_ok-b-in-If-clause-within
emit-returns-in_ok-b-in-If-clause-within t c =
    IfOk-weaker c.add-in-If.result (IsAdded c.emit-in-If-3.new.draft c.add-in-If.new.self (does.Select c.in_ok-condition-in-If.condition 1 c.in_ok-a-in-If.a c.in_ok-b-in-If.b)) (KeepsWithinOn c.args.registers.now c.args.presences.now c.args.draft.now c.add-in-If.new.self)
    (λ r added. keeps_three c.args.registers.now c.args.presences.now c.args.draft.now c.emit-in-If.new.draft c.emit-in-If-2.new.draft c.emit-in-If-3.new.draft c.add-in-If.new.self c.in_ok-condition-in-If.condition c.in_ok-a-in-If.a c.in_ok-b-in-If.b r c.in_ok-condition-in-If.ensures.within c.in_ok-a-in-If.ensures.within c.in_ok-b-in-If.ensures.within added)
    c.add-in-If.ensures

pub emit-returns-in-When-clause-emits : goal.emit-returns-in-When-clause-emits
emit-returns-in-When-clause-emits t c =
    IfOk-weaker c.emit-in-When.result (EmitsOn c.args.types.now c.args.variables.now c.args.registers.now (take (length c.args.presences.now - 1) c.args.presences.now) c.args.draft.now c.emit-in-When.new.draft c.get-in-When.result.now) (EmitsOn c.args.types.now c.args.variables.now c.args.registers.now c.args.presences.now c.args.draft.now c.emit-in-When.new.draft c.args.e.now)
    (λ r emits. emit_when c.args.types.now c.args.variables.now c.args.registers.now c.args.presences.now c.args.draft.now c.emit-in-When.new.draft c.args.e.now c.in-When.a c.in-When.field-1 c.in-When.field-2 r c.in-When.is (when_operands c.args.types.now c.args.variables.now (length c.args.presences.now) c.args.e.now c.in-When.a c.in-When.field-1 c.in-When.field-2 c.in-When.is c.requires.computable).0 (emits_of c.args.types.now c.args.variables.now c.args.registers.now (take (length c.args.presences.now - 1) c.args.presences.now) c.args.draft.now c.emit-in-When.new.draft c.get-in-When.result.now c.in-When.a r c.get-in-When.ensures emits))
    c.emit-in-When.ensures.emits

pub emit-returns-in-When-clause-within : goal.emit-returns-in-When-clause-within
emit-returns-in-When-clause-within t c =
    IfOk-weaker c.emit-in-When.result (KeepsWithinOn c.args.registers.now (take (length c.args.presences.now - 1) c.args.presences.now) c.args.draft.now c.emit-in-When.new.draft) (KeepsWithinOn c.args.registers.now c.args.presences.now c.args.draft.now c.emit-in-When.new.draft)
    (λ r keeps. keeps_when c.args.registers.now c.args.presences.now c.args.draft.now c.emit-in-When.new.draft r keeps)
    c.emit-in-When.ensures.within

pub emit-returns-in-Merge-clause-emits : goal.emit-returns-in-Merge-clause-emits
emit-returns-in-Merge-clause-emits t c =
    IfOk-weaker c.emit_branches.result (EmitsBranches c.args.types.now c.args.variables.now c.args.registers.now c.args.presences.now c.args.draft.now c.emit_branches.new.draft c.in-Merge.x c.as_slice-branches.result.now) (EmitsOn c.args.types.now c.args.variables.now c.args.registers.now c.args.presences.now c.args.draft.now c.emit_branches.new.draft c.args.e.now)
    (λ r emits. emit_merge c.args.types.now c.args.variables.now c.args.registers.now c.args.presences.now c.args.draft.now c.emit_branches.new.draft c.args.e.now c.in-Merge.x c.in-Merge.branches r c.in-Merge.is (computable_merge c.args.types.now c.args.variables.now (length c.args.presences.now) c.args.e.now c.in-Merge.x c.in-Merge.branches c.as_slice-branches.result.now c.in-Merge.is c.as_slice-branches.ensures c.requires.computable).0 (subst (λ (bs : List MergeBranch). EmitsBranches c.args.types.now c.args.variables.now c.args.registers.now c.args.presences.now c.args.draft.now c.emit_branches.new.draft c.in-Merge.x bs r) c.as_slice-branches.ensures emits))
    c.emit_branches.ensures.emits

pub emit-divisor-requires : goal.emit-divisor-requires
emit-divisor-requires t c =
    subst (λ (x : Expr). HasDivisor c.args.types.now x) (sym c.get-then-is_division.ensures) (right_divisor c.args.types.now c.args.variables.now (length c.args.presences.now) c.args.e.now c.in-Binary.op c.in-Binary.a c.in-Binary.b (c.is_division.ensures.divides c.if-is_division.true) c.in-Binary.is c.requires.computable)

pub emit-divided-requires : goal.emit-divided-requires
emit-divided-requires t c =
    (c.is_division.ensures.divides c.if-is_division.true)

pub emit-binary-requires : goal.emit-binary-requires
emit-binary-requires t c =
    (c.is_division.ensures.undivided c.if-is_division.false)

pub emit-unreachable-requires : goal.emit-unreachable-requires
emit-unreachable-requires t c =
    some_form c.args.types.now c.args.variables.now (length c.args.presences.now) c.args.e.now c.requires.computable c.in_default.not-Const c.in_default.not-Var c.in_default.not-Unary c.in_default.not-Binary c.in_default.not-If c.in_default.not-When c.in_default.not-Merge

pub emit_branch-returns-clause-emits : goal.emit_branch-returns-clause-emits
emit_branch-returns-clause-emits t c =
    IfOk-weaker c.emit.result (EmitsOn c.args.types.now c.args.variables.now c.args.registers.now c.as_slice.result.now c.add.new.self c.emit.new.draft c.args.branch.now.value) (EmitsBranch c.args.types.now c.args.variables.now c.args.registers.now c.args.presences.now c.args.draft.now c.emit.new.draft c.args.x.now c.args.branch.now)
    (λ r emits. emit_branch_of c.args.types.now c.args.variables.now c.args.registers.now c.args.presences.now c.args.draft.now c.add.new.self c.emit.new.draft c.args.x.now c.args.branch.now _ c.register_of-on.result c.in_ok-value.value c.in_ok-here.here r c.requires.among c.requires.present c.register_of-on.ensures refl c.in_ok-value.ensures c.in_ok-here.ensures
    (subst (λ (inner : List ℕ). EmitsOn c.args.types.now c.args.variables.now c.args.registers.now inner c.add.new.self c.emit.new.draft c.args.branch.now.value r) (c.as_slice.ensures.value ∙ c.in_ok-inner.ensures) emits))
    c.emit.ensures.emits

pub emit_branch-returns-clause-within : goal.emit_branch-returns-clause-within
emit_branch-returns-clause-within t c =
    IfOk-weaker c.emit.result (KeepsWithinOn c.args.registers.now c.as_slice.result.now c.add.new.self c.emit.new.draft) (KeepsWithinOn c.args.registers.now c.args.presences.now c.args.draft.now c.emit.new.draft)
    (λ r keeps. keeps_branch c.args.registers.now c.args.presences.now c.args.variables.now c.args.draft.now c.add.new.self c.emit.new.draft c.args.x.now _ c.register_of-on.result c.in_ok-value.value c.in_ok-here.here r c.requires.known c.requires.among c.requires.present c.register_of-on.ensures refl c.in_ok-here.ensures
    (subst (λ (inner : List ℕ). KeepsWithinOn c.args.registers.now inner c.add.new.self c.emit.new.draft r) (c.as_slice.ensures.value ∙ c.in_ok-inner.ensures) keeps))
    c.emit.ensures.within

pub emit_branches-loop-k-init : goal.emit_branches-loop-k-init
emit_branches-loop-k-init t c =
    last_done c.args.types.now c.args.variables.now c.args.registers.now c.args.presences.now c.args.x.now c.args.branches.now c.args.draft.now c.emit_branch.new.draft c.index-branches-last.result c.in_ok-chosen.chosen c.requires.some c.index-branches-last.is c.in_ok-chosen.ensures.emits c.in_ok-chosen.ensures.within

pub emit_branches-returns-clause-emits : goal.emit_branches-returns-clause-emits
emit_branches-returns-clause-emits t c =
    all_done c.args.types.now c.args.variables.now c.args.registers.now c.args.presences.now c.args.x.now c.args.branches.now c.args.draft.now c.loop-k.draft c.loop-k.k c.loop-k.chosen (omega (arith, c.loop-k-test.false)) c.loop-k.invariant

pub emit_branches-returns-clause-within : goal.emit_branches-returns-clause-within
emit_branches-returns-clause-within t c =
    c.loop-k.invariant.within

pub emit_branches-loop-k-preserved : goal.emit_branches-loop-k-preserved
emit_branches-loop-k-preserved t c =
    more_done c.args.types.now c.args.variables.now c.args.registers.now c.args.presences.now c.args.x.now c.args.branches.now c.args.draft.now c.loop-k.draft c.emit_branch-in-loop-k.new.draft c.add.new.self c.index-branches-k.result (c.loop-k.k - 1) c.register_of-on.result c.in_ok-value.value c.loop-k.chosen c.in_ok-other.other c.in_ok-chosen-2.chosen
    (omega (arith, c.requires.some, c.loop-k-test.true, c.loop-k.auto.k)) c.index-branches-k.is c.requires.known c.requires.among c.register_of-on.ensures c.in_ok-value.ensures
    (subst (λ (k : ℕ). AreDone c.args.types.now c.args.variables.now c.args.registers.now c.args.presences.now c.args.x.now c.args.branches.now c.args.draft.now c.loop-k.draft k c.loop-k.chosen) (omega (arith, c.loop-k-test.true)) c.loop-k.invariant) c.in_ok-other.ensures.emits c.in_ok-other.ensures.within c.in_ok-chosen-2.ensures

pub emit-emit-requires : goal.emit-emit-requires
emit-emit-requires t c =
    (omega (arith, unary_lighter c.args.e.now c.in-Unary.a c.get.result.now c.in-Unary.op c.in-Unary.is c.get.ensures, c.decreases), (c.requires.known, unary_over c.args.types.now c.args.variables.now (length c.args.presences.now) c.args.e.now c.in-Unary.a c.get.result.now c.in-Unary.op c.in-Unary.is c.get.ensures c.requires.computable))

pub emit-emit-requires-in-Binary : goal.emit-emit-requires-in-Binary
emit-emit-requires-in-Binary t c =
    (omega (arith, left_lighter c.args.e.now c.in-Binary.a c.in-Binary.b c.get-in-Binary.result.now c.in-Binary.op c.in-Binary.is c.get-in-Binary.ensures, c.decreases), (c.requires.known, left_over c.args.types.now c.args.variables.now (length c.args.presences.now) c.args.e.now c.in-Binary.a c.in-Binary.b c.get-in-Binary.result.now c.in-Binary.op c.in-Binary.is c.get-in-Binary.ensures c.requires.computable))

pub emit-emit-requires-in-Binary-2 : goal.emit-emit-requires-in-Binary-2
emit-emit-requires-in-Binary-2 t c =
    (omega (arith, right_lighter c.args.e.now c.in-Binary.a c.in-Binary.b c.get-in-Binary-2.result.now c.in-Binary.op c.in-Binary.is c.get-in-Binary-2.ensures, c.decreases), (c.requires.known, right_over c.args.types.now c.args.variables.now (length c.args.presences.now) c.args.e.now c.in-Binary.a c.in-Binary.b c.get-in-Binary-2.result.now c.in-Binary.op (c.is_division.ensures.undivided c.if-is_division.false) c.in-Binary.is c.get-in-Binary-2.ensures c.requires.computable))

pub emit-emit-requires-in-If : goal.emit-emit-requires-in-If
emit-emit-requires-in-If t c =
    (omega (arith, condition_lighter c.args.e.now c.in-If.condition c.in-If.a c.in-If.b c.get-in-If.result.now c.in-If.is c.get-in-If.ensures, c.decreases), (c.requires.known, condition_over c.args.types.now c.args.variables.now (length c.args.presences.now) c.args.e.now c.in-If.condition c.in-If.a c.in-If.b c.get-in-If.result.now c.in-If.is c.get-in-If.ensures c.requires.computable))

pub emit-emit-requires-in-If-2 : goal.emit-emit-requires-in-If-2
emit-emit-requires-in-If-2 t c =
    (omega (arith, then_lighter c.args.e.now c.in-If.condition c.in-If.a c.in-If.b c.get-in-If-2.result.now c.in-If.is c.get-in-If-2.ensures, c.decreases), (c.requires.known, then_over c.args.types.now c.args.variables.now (length c.args.presences.now) c.args.e.now c.in-If.condition c.in-If.a c.in-If.b c.get-in-If-2.result.now c.in-If.is c.get-in-If-2.ensures c.requires.computable))

pub emit-emit-requires-in-If-3 : goal.emit-emit-requires-in-If-3
emit-emit-requires-in-If-3 t c =
    (omega (arith, otherwise_lighter c.args.e.now c.in-If.condition c.in-If.a c.in-If.b c.get-in-If-3.result.now c.in-If.is c.get-in-If-3.ensures, c.decreases), (c.requires.known, otherwise_over c.args.types.now c.args.variables.now (length c.args.presences.now) c.args.e.now c.in-If.condition c.in-If.a c.in-If.b c.get-in-If-3.result.now c.in-If.is c.get-in-If-3.ensures c.requires.computable))

pub emit-emit-requires-in-When : goal.emit-emit-requires-in-When
emit-emit-requires-in-When t c =
    (omega (arith, when_lighter c.args.e.now c.in-When.a c.get-in-When.result.now c.in-When.field-1 c.in-When.field-2 c.in-When.is c.get-in-When.ensures, c.decreases), (c.requires.known, when_over c.args.types.now c.args.variables.now c.args.presences.now c.args.e.now c.in-When.a c.get-in-When.result.now c.in-When.field-1 c.in-When.field-2 c.in-When.is c.get-in-When.ensures c.requires.computable))

pub emit-emit_branches-requires : goal.emit-emit_branches-requires
emit-emit_branches-requires t c =
    (omega (arith, merge_lighter c.args.e.now c.in-Merge.x c.in-Merge.branches c.as_slice-branches.result.now c.in-Merge.is c.as_slice-branches.ensures, c.decreases), (c.requires.known, ((computable_merge c.args.types.now c.args.variables.now (length c.args.presences.now) c.args.e.now c.in-Merge.x c.in-Merge.branches c.as_slice-branches.result.now c.in-Merge.is c.as_slice-branches.ensures c.requires.computable).0, ((computable_merge c.args.types.now c.args.variables.now (length c.args.presences.now) c.args.e.now c.in-Merge.x c.in-Merge.branches c.as_slice-branches.result.now c.in-Merge.is c.as_slice-branches.ensures c.requires.computable).1, ((computable_merge c.args.types.now c.args.variables.now (length c.args.presences.now) c.args.e.now c.in-Merge.x c.in-Merge.branches c.as_slice-branches.result.now c.in-Merge.is c.as_slice-branches.ensures c.requires.computable).2, (computable_merge c.args.types.now c.args.variables.now (length c.args.presences.now) c.args.e.now c.in-Merge.x c.in-Merge.branches c.as_slice-branches.result.now c.in-Merge.is c.as_slice-branches.ensures c.requires.computable).3)))))

pub emit_branches-emit_branch-requires : goal.emit_branches-emit_branch-requires
emit_branches-emit_branch-requires t c =
    (omega (arith, branch_lighter c.args.branches.now (length c.args.branches.now - 1) c.index-branches-last.result (omega (arith, c.requires.some)) c.index-branches-last.is, c.decreases), (c.requires.known, (c.requires.among, (c.requires.present, computable_branch c.args.types.now c.args.variables.now (length c.args.presences.now + 1) c.args.branches.now (length c.args.branches.now - 1) c.index-branches-last.result (omega (arith, c.requires.some)) c.index-branches-last.is c.requires.computable))))

pub emit_branches-emit_branch-requires-in-loop-k : goal.emit_branches-emit_branch-requires-in-loop-k
emit_branches-emit_branch-requires-in-loop-k t c =
    (omega (arith, branch_lighter c.args.branches.now (c.loop-k.k - 1) c.index-branches-k.result (omega (arith, c.requires.some, c.loop-k-test.true, c.loop-k.auto.k)) c.index-branches-k.is, c.decreases), (c.requires.known, (c.requires.among, (c.requires.present, computable_branch c.args.types.now c.args.variables.now (length c.args.presences.now + 1) c.args.branches.now (c.loop-k.k - 1) c.index-branches-k.result (omega (arith, c.requires.some, c.loop-k-test.true, c.loop-k.auto.k)) c.index-branches-k.is c.requires.computable))))

pub emit_branch-emit-requires : goal.emit_branch-emit-requires
emit_branch-emit-requires t c =
    (omega (arith, c.decreases), (c.requires.known, subst (λ (n : ℕ). Computable c.args.types.now c.args.variables.now n c.args.branch.now.value) (sym (ap length (c.as_slice.ensures.value ∙ c.in_ok-inner.ensures) ∙ (longer_by_one c.args.presences.now c.in_ok-here.here))) (subst (λ (n : ℕ). Computable c.args.types.now c.args.variables.now n c.args.branch.now.value) (omega arith) c.requires.computable)))
