use Rattle.std.proofs.Common.{◌≡◌, List, rules, subst, sym, ap, ◌∙◌, ℕ, suc, length, arith}
use Rattle.std.specs.Prelude.{slice_index}
use Rattle.hept_ast.specs.Scopes.{Clock}
use Rattle.hept_ast.specs.declared.tree.Form.{out-Form}
use Rattle.plan_equations.specs.Equations.{BuildsEquation, BuildsPresences, KeepsEquation, KeepsPresences}
use Rattle.plan_equations.specs.Rights.{EmitsRight, KeepsCells, right_cells}
use Rattle.plan_equations.proofs.Defining.{at_last, keeps_equation, one_equation_more}
use Rattle.plan_equations.proofs.equations.emit_equation.Goals as goal

pub returns-clause-builds : goal.returns-clause-builds
returns-clause-builds c =
    let presences : List ℕ = c.in_ok-presences.presences.items in
    let builds = subst (λ (d : Clock). BuildsPresences c.args.types.now c.args.variables.now d c.args.base c.args.registers.now.items c.args.draft.now c.emit_presences.new.draft presences) c.as_slice.ensures
    (subst (λ (rs : List ℕ). BuildsPresences c.args.types.now c.args.variables.now c.as_slice.result.now c.args.base rs c.args.draft.now c.emit_presences.new.draft presences) c.as_slice-2.ensures.value c.in_ok-presences.ensures.builds) in
    let emits = subst (λ (rs : List ℕ). EmitsRight c.args.types.now c.args.variables.now rs presences c.args.cell c.emit_presences.new.draft c.emit_right.new.draft c.args.e.now.right c.in_ok-value.value) c.as_slice-3.ensures.value
    (subst (λ (qs : List ℕ). EmitsRight c.args.types.now c.args.variables.now c.as_slice-3.result.now qs c.args.cell c.emit_presences.new.draft c.emit_right.new.draft c.args.e.now.right c.in_ok-value.value) c.as_slice-4.ensures.value c.in_ok-value.ensures.emits) in
    let as_many : length presences ≡ suc (length c.args.e.now.clock.steps) = c.in_ok-presences.ensures.as_many ∙ ap (λ (d : Clock). suc (length d)) c.as_slice.ensures in
    let at : c.index.result.now ≡ slice_index presences (length c.args.e.now.clock.steps) = at_last presences c.len.result (length c.args.e.now.clock.steps) c.index.result.now (search rules) (search rules) (omega (arith, as_many)) in
    subst (λ (q : ℕ). BuildsEquation c.args.types.now c.args.variables.now c.args.cell c.args.base c.args.e.now c.args.registers.now.items c.args.draft.now c.push.new.self.items c.emit_right.new.draft q) (sym at)
    (one_equation_more c.args.types.now c.args.variables.now c.args.cell c.args.base c.in_ok-value.value c.args.e.now c.args.registers.now.items c.push.new.self.items presences c.args.draft.now c.emit_presences.new.draft c.emit_right.new.draft c.requires.known builds emits (search rules))

pub returns-clause-within : goal.returns-clause-within
returns-clause-within c =
    let count : ℕ = right_cells (out-Form c.args.e.now.right.form) in
    let presences : List ℕ = c.in_ok-presences.presences.items in
    let first = subst (λ (rs : List ℕ). KeepsPresences c.args.base rs c.args.draft.now c.emit_presences.new.draft presences) c.as_slice-2.ensures.value c.in_ok-presences.ensures.within in
    let then = subst (λ (rs : List ℕ). KeepsCells count c.args.cell rs presences c.emit_presences.new.draft c.emit_right.new.draft c.in_ok-value.value) c.as_slice-3.ensures.value
    (subst (λ (qs : List ℕ). KeepsCells count c.args.cell c.as_slice-3.result.now qs c.emit_presences.new.draft c.emit_right.new.draft c.in_ok-value.value) c.as_slice-4.ensures.value c.in_ok-value.ensures.within) in
    let as_many : length presences ≡ suc (length c.args.e.now.clock.steps) = c.in_ok-presences.ensures.as_many ∙ ap (λ (d : Clock). suc (length d)) c.as_slice.ensures in
    let at : c.index.result.now ≡ slice_index presences (length c.args.e.now.clock.steps) = at_last presences c.len.result (length c.args.e.now.clock.steps) c.index.result.now (search rules) (search rules) (omega (arith, as_many)) in
    subst (λ (q : ℕ). KeepsEquation count c.args.cell c.args.base c.args.registers.now.items c.args.draft.now c.push.new.self.items c.emit_right.new.draft q) (sym at)
    (keeps_equation c.args.types.now c.args.variables.now c.args.cell c.args.base c.in_ok-value.value c.args.e.now c.args.registers.now.items c.push.new.self.items presences c.args.draft.now c.emit_presences.new.draft c.emit_right.new.draft count first then (search rules) as_many)
