use Rattle.std.proofs.Common.{rules, subst, sym}
use Rattle.hept_ast.specs.declared.tree.Expr.{Expr}
use Rattle.plan_expressions.specs.Computable.{Computable}
use Rattle.plan_bodies.proofs.Emitted.{all_emitted, one_so_far}
use Rattle.plan_bodies.proofs.arguments.argument_registers.Goals as goal

pub loop-arg-preserved : goal.loop-arg-preserved
loop-arg-preserved c =
    let plain : Computable c.args.types.now c.args.variables.now 0 c.arg-item.result =
    subst (λ (a : Expr). Computable c.args.types.now c.args.variables.now 0 a) (sym c.arg-item.is) (c.requires.computable c.loop-arg.arg-index c.arg-item.result (search rules)) in
    one_so_far c.args.types.now c.args.variables.now c.args.registers.now c.args.draft.now c.args.args.now c.loop-arg.arg-index c.loop-arg.values.items c.push.new.self.items c.arg-item.result c.in_ok-value.value c.loop-arg.draft c.emit.new.draft
    (search rules) c.arg-item.is (search rules) plain c.in_ok-value.ensures.emits c.in_ok-value.ensures.within c.loop-arg.invariant

pub returns-clause-emits : goal.returns-clause-emits
returns-clause-emits c =
    all_emitted c.args.types.now c.args.variables.now c.args.registers.now c.args.draft.now c.args.args.now c.loop-arg.arg-index c.loop-arg.values.items c.loop-arg.draft (search rules) c.loop-arg.invariant
