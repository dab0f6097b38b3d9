use Rattle.std.proofs.Common.{◌≡◌, ℕ, ◌+◌, List, [], ◌∷◌, ◌++◌, rules, sym, subst, arith}
use Rattle.plan_equations.proofs.Beginnings.{AreMade, all_made, enough_made, none_made, one_made}
use Rattle.plan_equations.proofs.presences.emit_presences.Goals as goal

pub loop-step-init : goal.loop-step-init
loop-step-init c =
    let first : c.in_ok-presences.presences.items ≡ c.args.base ∷ [] = search rules in
    subst (λ (rs : List ℕ). AreMade c.args.types.now c.args.variables.now c.args.clock.now c.args.base c.args.registers.now c.args.draft.now c.args.draft.now 0 rs c.args.base) (sym first)
    (none_made c.args.types.now c.args.variables.now c.args.clock.now c.args.base c.args.registers.now c.args.draft.now)

pub loop-step-preserved : goal.loop-step-preserved
loop-step-preserved c =
    let longer : c.push.new.self.items ≡ c.loop-step.presences.items ++ c.in_ok-last.last ∷ [] = search rules in
    subst (λ (rs : List ℕ). AreMade c.args.types.now c.args.variables.now c.args.clock.now c.args.base c.args.registers.now c.args.draft.now c.add.new.self (c.loop-step.step-index + 1) rs c.in_ok-last.last) (sym longer)
    (one_made c.args.types.now c.args.variables.now c.args.clock.now c.args.base c.args.registers.now c.args.draft.now c.loop-step.draft c.add.new.self c.loop-step.step-index c.loop-step.presences.items c.step-item.result c.loop-step.last c.register_of-on.result c.in_ok-value.value c.in_ok-last.last
    c.loop-step-test.true c.step-item.is c.requires.known (search rules) c.register_of-on.ensures c.in_ok-value.ensures c.in_ok-last.ensures c.loop-step.invariant)

pub returns-clause-builds : goal.returns-clause-builds
returns-clause-builds c =
    all_made c.args.types.now c.args.variables.now c.args.clock.now c.args.base c.args.registers.now c.args.draft.now c.loop-step.draft c.loop-step.step-index c.loop-step.presences.items c.loop-step.last (omega (arith, c.loop-step-test.false)) c.loop-step.invariant

pub returns-clause-as_many : goal.returns-clause-as_many
returns-clause-as_many c =
    enough_made c.args.types.now c.args.variables.now c.args.clock.now c.args.base c.args.registers.now c.args.draft.now c.loop-step.draft c.loop-step.step-index c.loop-step.presences.items c.loop-step.last (omega (arith, c.loop-step.auto.step-index-end)) (omega (arith, c.loop-step-test.false)) c.loop-step.invariant
