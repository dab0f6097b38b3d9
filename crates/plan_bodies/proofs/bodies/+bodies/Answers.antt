use Rattle.std.proofs.Common.{List, OnOk, [], ap, arith, drop, length, refl, rules, subst, suc, sym, ℕ, ◌++◌, ◌+◌, ◌∙◌, ◌∷◌, ◌≡◌, ◌≤◌}
use Rattle.std.specs.Prelude.{slice_index}
use Rattle.hept_ast.specs.Scopes.{Clock}
use Rattle.hept_ast.specs.Texts.{Name}
use Rattle.hept_ast.specs.declared.tree.TypeDec.{TypeDec}
use Rattle.plan_expressions.specs.declared.draft.Draft.{Draft}
use Rattle.plan_equations.specs.Equations.{BuildsPresences, KeepsPresences}
use Rattle.plan_equations.proofs.Defining.{at_last}
use Rattle.plan_bodies.specs.Arguments.{EmitsArguments, KeepsArguments}
use Rattle.plan_bodies.specs.Valued.{BuildsCall, BuildsNext, KeepsNext}
use Rattle.plan_bodies.proofs.Calling.{calls_build, calls_keep}
use Rattle.std.proofs.lemmas.Result.{IfOk-weaker}
use Rattle.hept_ast.specs.declared.tree.Form.{out-Form}
use Rattle.plan_equations.specs.Rights.{right_cells}
use Rattle.plan_bodies.specs.declared.bodies.PlacedBody.{PlacedBody}
use Rattle.plan_bodies.proofs.CalledNext.{IsCallHere, call_builds, call_here, call_keeps, called_node, other_builds, other_counts, other_keeps, other_longer, other_whole}
use Rattle.plan_bodies.proofs.Valuing.{IsValued, all_built, all_counted, all_kept, all_presences, all_registers, all_whole, among_all, many_here, next_here, next_value, none_valued, room_here}
use Rattle.plan_bodies.proofs.Expanding.{alone, among_variables, builds_bodies, callees, counts_cells, keeps_bodies, one_then, outputs_of, some_depth, whole_bodies}
use Rattle.plan_bodies.proofs.bodies.+bodies.Goals as goal

pub add_call-returns-clause-builds : goal.add_call-returns-clause-builds
add_call-returns-clause-builds t c =
    let types : List TypeDec = c.args.core.now.types in
    let variables : List Name = c.args.variables.now in
    let registers : List ℕ = c.args.registers.now.items in
    let clock : Clock = c.args.e.now.clock.steps in
    let presences : List ℕ = c.in_ok-presences.presences.items in
    let inputs : List ℕ = c.in_ok-inputs.inputs.items in
    let outputs : List ℕ = c.in_ok-expansion.expansion.outputs.items in
    let old : Draft = c.args.draft.now in
    let mid : Draft = c.emit_presences.new.draft in
    let then : Draft = c.argument_registers.new.draft in
    let new : Draft = c.add_body.new.draft in
    let presents : BuildsPresences types variables clock c.args.base registers old mid presences =
    subst (λ (ts : List TypeDec). BuildsPresences ts variables clock c.args.base registers old mid presences) c.as_slice-types.ensures
    (subst (λ (d : Clock). BuildsPresences c.as_slice-types.result.now variables d c.args.base registers old mid presences) c.as_slice-clock.ensures
    (subst (λ (rs : List ℕ). BuildsPresences c.as_slice-types.result.now variables c.as_slice-clock.result.now c.args.base rs old mid presences) c.as_slice.ensures.value c.in_ok-presences.ensures.builds)) in
    let emits : EmitsArguments types variables registers mid then c.args.args.now inputs =
    subst (λ (ts : List TypeDec). EmitsArguments ts variables registers mid then c.args.args.now inputs) c.as_slice-types.ensures
    (subst (λ (rs : List ℕ). EmitsArguments c.as_slice-types.result.now variables rs mid then c.args.args.now inputs) c.as_slice-2.ensures.value c.in_ok-inputs.ensures.emits) in
    let as_many : length presences ≡ suc (length clock) = c.in_ok-presences.ensures.as_many ∙ ap (λ (d : Clock). suc (length d)) c.as_slice-clock.ensures in
    let presence : c.index-presence.result.now ≡ slice_index presences (length clock) =
    at_last presences (length c.as_slice-clock.result.now) (length clock) c.index-presence.result.now (search rules) (ap (λ (d : Clock). length d) c.as_slice-clock.ensures) (omega (arith, as_many)) in
    let appended : c.append.new.self.items ≡ registers ++ outputs = (search rules) in
    subst (λ (rs : List ℕ). BuildsCall c.args.core.now c.args.depth variables c.args.next c.args.base c.args.e.now c.args.args.now c.args.callee.now registers old rs new c.index-presence.result.now c.in_ok-expansion.expansion.bodies) (sym appended)
    (calls_build c.args.core.now c.args.depth variables c.args.next c.args.base c.args.e.now c.args.args.now c.args.callee.now registers presences inputs outputs old mid then new c.index-presence.result.now c.in_ok-expansion.expansion.bodies
    c.requires.buildable c.requires.known presents presence emits c.requires.inputs c.in_ok-expansion.ensures.builds)

pub add_call-returns-clause-within : goal.add_call-returns-clause-within
add_call-returns-clause-within t c =
    let variables : List Name = c.args.variables.now in
    let registers : List ℕ = c.args.registers.now.items in
    let clock : Clock = c.args.e.now.clock.steps in
    let presences : List ℕ = c.in_ok-presences.presences.items in
    let inputs : List ℕ = c.in_ok-inputs.inputs.items in
    let outputs : List ℕ = c.in_ok-expansion.expansion.outputs.items in
    let old : Draft = c.args.draft.now in
    let mid : Draft = c.emit_presences.new.draft in
    let then : Draft = c.argument_registers.new.draft in
    let new : Draft = c.add_body.new.draft in
    let of_clock = subst (λ (rs : List ℕ). KeepsPresences c.args.base rs old mid presences) c.as_slice.ensures.value c.in_ok-presences.ensures.within in
    let of_arguments = subst (λ (rs : List ℕ). KeepsArguments rs mid then inputs) c.as_slice-2.ensures.value c.in_ok-inputs.ensures.within in
    let as_many : length presences ≡ suc (length clock) = c.in_ok-presences.ensures.as_many ∙ ap (λ (d : Clock). suc (length d)) c.as_slice-clock.ensures in
    let presence : c.index-presence.result.now ≡ slice_index presences (length clock) =
    at_last presences (length c.as_slice-clock.result.now) (length clock) c.index-presence.result.now (search rules) (ap (λ (d : Clock). length d) c.as_slice-clock.ensures) (omega (arith, as_many)) in
    let appended : c.append.new.self.items ≡ registers ++ outputs = (search rules) in
    subst (λ (rs : List ℕ). KeepsNext 0 c.in_ok-expansion.expansion.next c.args.base registers old rs new c.index-presence.result.now c.in_ok-expansion.expansion.bodies) (sym appended)
    (calls_keep c.args.core.now c.args.depth variables c.args.next c.args.base c.args.e.now c.args.args.now c.args.callee.now registers presences inputs outputs old mid then new c.index-presence.result.now c.in_ok-expansion.expansion.bodies
    c.in_ok-expansion.expansion.next of_clock as_many presence of_arguments c.in_ok-expansion.ensures.within)

pub add_equation-callee-requires : goal.add_equation-callee-requires
add_equation-callee-requires t c = called_node c.args.core.now c.requires.is_next.0 c.args.variables.now c.args.e.now c.in-Call.name c.in-Call.args c.in-Call.is c.requires.is_next.1

pub add_equation-add_call-requires : goal.add_equation-add_call-requires
add_equation-add_call-requires t c =
    let here : IsCallHere c.args.core.now c.args.variables.now c.args.e.now c.as_slice.result.now c.callee.result.now =
    call_here c.args.core.now c.requires.is_next.0 c.args.variables.now c.args.e.now c.in-Call.name c.in-Call.args c.as_slice.result.now c.callee.result.now c.in-Call.is c.as_slice.ensures c.callee.ensures c.requires.is_next.1 in
    (search rules, (c.requires.known, (here.among, (here.arguments, (here.inputs, c.requires.deep c.as_slice.result.now c.callee.result.now here.call)))))

pub add_equation-returns-in-Call-clause-builds : goal.add_equation-returns-in-Call-clause-builds
add_equation-returns-in-Call-clause-builds t c =
    let here : IsCallHere c.args.core.now c.args.variables.now c.args.e.now c.as_slice.result.now c.callee.result.now =
    call_here c.args.core.now c.requires.is_next.0 c.args.variables.now c.args.e.now c.in-Call.name c.in-Call.args c.as_slice.result.now c.callee.result.now c.in-Call.is c.as_slice.ensures c.callee.ensures c.requires.is_next.1 in
    IfOk-weaker c.add_call.result
    (λ x. BuildsCall c.args.core.now c.args.depth c.args.variables.now c.args.next c.args.base c.args.e.now c.as_slice.result.now c.callee.result.now c.args.registers.now.items c.args.draft.now c.add_call.new.registers.items c.add_call.new.draft x.presence x.bodies)
    (λ x. BuildsNext c.args.core.now c.args.depth c.args.variables.now c.args.own c.args.next c.args.base c.args.e.now c.args.registers.now.items c.args.draft.now c.add_call.new.registers.items c.add_call.new.draft x.presence x.bodies)
    (λ x h. call_builds c.args.core.now c.args.depth c.args.variables.now c.args.own c.args.next c.args.base c.args.e.now c.args.registers.now.items c.args.draft.now c.add_call.new.registers.items c.add_call.new.draft x.presence x.bodies
    c.as_slice.result.now c.callee.result.now here.call h)
    c.add_call.ensures.builds

pub add_equation-returns-in-Call-clause-longer : goal.add_equation-returns-in-Call-clause-longer
add_equation-returns-in-Call-clause-longer t c =
    let here : IsCallHere c.args.core.now c.args.variables.now c.args.e.now c.as_slice.result.now c.callee.result.now =
    call_here c.args.core.now c.requires.is_next.0 c.args.variables.now c.args.e.now c.in-Call.name c.in-Call.args c.as_slice.result.now c.callee.result.now c.in-Call.is c.as_slice.ensures c.callee.ensures c.requires.is_next.1 in
    subst (λ (n : ℕ). OnOk c.add_call.result (length c.add_call.new.registers.items ≡ length c.args.registers.now.items + n)) (sym here.outputs) c.add_call.ensures.longer

pub add_equation-returns-in-Call-clause-within : goal.add_equation-returns-in-Call-clause-within
add_equation-returns-in-Call-clause-within t c =
    IfOk-weaker c.add_call.result
    (λ x. KeepsNext 0 x.next c.args.base c.args.registers.now.items c.args.draft.now c.add_call.new.registers.items c.add_call.new.draft x.presence x.bodies)
    (λ x. KeepsNext (c.args.own + right_cells (out-Form c.args.e.now.right.form)) x.next c.args.base c.args.registers.now.items c.args.draft.now c.add_call.new.registers.items c.add_call.new.draft x.presence x.bodies)
    (λ x h. call_keeps c.args.core.now c.args.depth c.args.variables.now c.args.own c.args.next c.args.base c.args.e.now c.args.registers.now.items c.args.draft.now c.add_call.new.registers.items c.add_call.new.draft x.presence x.bodies
    (c.args.own + right_cells (out-Form c.args.e.now.right.form)) x.next h)
    c.add_call.ensures.within

pub add_equation-returns-in_ok-presence-in_default : goal.add_equation-returns-in_ok-presence-in_default
add_equation-returns-in_ok-presence-in_default t c = record {
  builds = other_builds c.args.core.now c.args.depth c.args.variables.now c.args.own c.args.next c.args.base c.args.e.now c.args.registers.now.items c.args.draft.now c.emit_equation.new.registers.items c.emit_equation.new.draft
      c.in_ok-presence-in_default.presence c.new.result c.as_slice-types.result.now c.as_slice-types.ensures c.new.ensures c.in_default.not-Call c.in_ok-presence-in_default.ensures.builds;
  longer = other_longer c.args.core.now c.args.depth c.args.variables.now c.args.own c.args.next c.args.base c.args.e.now c.args.registers.now.items c.args.draft.now c.emit_equation.new.registers.items c.emit_equation.new.draft
      c.in_ok-presence-in_default.presence c.new.result c.as_slice-types.result.now c.as_slice-types.ensures c.new.ensures c.in_default.not-Call c.requires.is_next.0 c.requires.is_next.1 c.in_ok-presence-in_default.ensures.one_more;
  cells = other_counts c.args.core.now c.args.depth c.args.variables.now c.args.own c.args.next c.args.base c.args.e.now c.args.registers.now.items c.args.draft.now c.emit_equation.new.registers.items c.emit_equation.new.draft
      c.in_ok-presence-in_default.presence c.new.result c.as_slice-types.result.now c.as_slice-types.ensures c.new.ensures c.in_default.not-Call c.requires.is_next.0 c.requires.is_next.1;
  whole = other_whole c.args.core.now c.args.depth c.args.variables.now c.args.own c.args.next c.args.base c.args.e.now c.args.registers.now.items c.args.draft.now c.emit_equation.new.registers.items c.emit_equation.new.draft
      c.in_ok-presence-in_default.presence c.new.result c.as_slice-types.result.now c.as_slice-types.ensures c.new.ensures c.in_default.not-Call;
  within = other_keeps c.args.core.now c.args.depth c.args.variables.now c.args.own c.args.next c.args.base c.args.e.now c.args.registers.now.items c.args.draft.now c.emit_equation.new.registers.items c.emit_equation.new.draft
      c.in_ok-presence-in_default.presence c.new.result c.as_slice-types.result.now c.as_slice-types.ensures c.new.ensures c.in_default.not-Call c.in_ok-presence-in_default.ensures.within;
}

pub add_equations-loop-e-init : goal.add_equations-loop-e-init
add_equations-loop-e-init t c = none_valued c.args.core.now c.args.depth c.args.node.now c.args.base c.args.cell c.args.first c.args.inputs.items c.args.draft.now c.new-presences.result.items c.new-inner.result
    c.requires.inputs c.requires.equations c.requires.cells c.new-presences.ensures.items c.new-inner.ensures

pub add_equations-add_equation-requires : goal.add_equations-add_equation-requires
add_equations-add_equation-requires t c =
    let count : c.len.result ≡ length c.loop-e.registers.items = (search rules) in
    let room : c.loop-e.own + right_cells (out-Form c.e-item.result.right.form) ≤ c.args.first =
    room_here c.args.core.now c.args.depth c.args.node.now c.args.base c.args.cell c.args.first c.args.inputs.items c.args.draft.now c.args.variables.now c.as_slice-e-items.result.now c.loop-e.e-index c.loop-e.own c.loop-e.next c.loop-e.registers.items c.loop-e.draft c.loop-e.presences.items c.loop-e.inner
    c.requires.variables c.as_slice-e-items.ensures c.loop-e.invariant c.e-item.result c.e-item.is c.loop-e-test.true in (
      search rules,
      (
        many_here c.args.core.now c.args.depth c.args.node.now c.args.base c.args.cell c.args.first c.args.inputs.items c.args.draft.now c.args.variables.now c.as_slice-e-items.result.now c.loop-e.e-index c.loop-e.own c.loop-e.next c.loop-e.registers.items c.loop-e.draft c.loop-e.presences.items c.loop-e.inner
            c.requires.variables c.as_slice-e-items.ensures c.loop-e.invariant c.e-item.result c.e-item.is c.loop-e-test.true c.len.result count,
        (
          (
            c.args.node.now,
            next_here c.args.core.now c.args.depth c.args.node.now c.args.base c.args.cell c.args.first c.args.inputs.items c.args.draft.now c.args.variables.now c.as_slice-e-items.result.now c.loop-e.e-index c.loop-e.own c.loop-e.next c.loop-e.registers.items c.loop-e.draft c.loop-e.presences.items c.loop-e.inner
                c.requires.variables c.as_slice-e-items.ensures c.loop-e.invariant c.e-item.result c.e-item.is c.loop-e-test.true c.len.result count,
          ),
          (
            (λ args callee call. c.requires.deep c.e-item.result args callee (among_all c.args.core.now c.args.depth c.args.node.now c.args.base c.args.cell c.args.first c.args.inputs.items c.args.draft.now c.args.variables.now c.as_slice-e-items.result.now c.loop-e.e-index c.loop-e.own c.loop-e.next c.loop-e.registers.items c.loop-e.draft c.loop-e.presences.items c.loop-e.inner
                c.requires.variables c.as_slice-e-items.ensures c.loop-e.invariant c.e-item.result c.e-item.is c.loop-e-test.true) call),
            omega (arith, room, c.requires.room),
          ),
        ),
      ),
    )

pub add_equations-loop-e-preserved : goal.add_equations-loop-e-preserved
add_equations-loop-e-preserved t c =
    let longer : c.push.new.self.items ≡ c.loop-e.presences.items ++ c.in_ok-added.added.presence ∷ [] = search rules in
    let further : c.append.new.self ≡ c.loop-e.inner ++ c.in_ok-added.added.bodies = search rules in
    let count : c.len.result ≡ length c.loop-e.registers.items = (search rules) in
    subst (λ (ps : List ℕ). IsValued c.args.core.now c.args.depth c.args.node.now c.args.base c.args.cell c.args.first c.args.inputs.items c.args.draft.now (drop (c.loop-e.e-index + 1) c.args.node.now.equations) (c.loop-e.own + c.right_cell_count-own.result) c.in_ok-added.added.next
    c.add_equation.new.registers.items c.add_equation.new.draft ps c.append.new.self)
    (sym longer)
    (subst (λ (bs : List PlacedBody). IsValued c.args.core.now c.args.depth c.args.node.now c.args.base c.args.cell c.args.first c.args.inputs.items c.args.draft.now (drop (c.loop-e.e-index + 1) c.args.node.now.equations) (c.loop-e.own + c.right_cell_count-own.result) c.in_ok-added.added.next
    c.add_equation.new.registers.items c.add_equation.new.draft (c.loop-e.presences.items ++ c.in_ok-added.added.presence ∷ []) bs)
    (sym further)
    (next_value c.args.core.now c.args.depth c.args.node.now c.args.base c.args.cell c.args.first c.args.inputs.items c.args.draft.now c.args.variables.now c.as_slice-e-items.result.now c.loop-e.e-index c.loop-e.own c.loop-e.next c.loop-e.registers.items c.loop-e.draft c.loop-e.presences.items c.loop-e.inner
    c.requires.variables c.as_slice-e-items.ensures c.loop-e.invariant c.e-item.result c.e-item.is c.loop-e-test.true c.len.result c.right_cell_count-own.result c.in_ok-added.added.next c.add_equation.new.registers.items c.add_equation.new.draft c.in_ok-added.added.presence c.in_ok-added.added.bodies
    count c.right_cell_count-own.ensures.count c.in_ok-added.ensures.builds c.in_ok-added.ensures.longer c.in_ok-added.ensures.cells c.in_ok-added.ensures.whole c.in_ok-added.ensures.within))

pub add_equations-returns-clause-builds : goal.add_equations-returns-clause-builds
add_equations-returns-clause-builds t c =
    all_built c.args.core.now c.args.depth c.args.node.now c.args.base c.args.cell c.args.first c.args.inputs.items c.args.draft.now c.args.variables.now c.as_slice-e-items.result.now c.loop-e.e-index c.loop-e.own c.loop-e.next c.loop-e.registers.items c.loop-e.draft c.loop-e.presences.items c.loop-e.inner
    c.requires.variables c.as_slice-e-items.ensures c.loop-e.invariant c.loop-e-test.false

pub add_equations-returns-clause-cells : goal.add_equations-returns-clause-cells
add_equations-returns-clause-cells t c =
    all_counted c.args.core.now c.args.depth c.args.node.now c.args.base c.args.cell c.args.first c.args.inputs.items c.args.draft.now c.args.variables.now c.as_slice-e-items.result.now c.loop-e.e-index c.loop-e.own c.loop-e.next c.loop-e.registers.items c.loop-e.draft c.loop-e.presences.items c.loop-e.inner
    c.requires.variables c.as_slice-e-items.ensures c.loop-e.invariant c.loop-e-test.false

pub add_equations-returns-clause-registers : goal.add_equations-returns-clause-registers
add_equations-returns-clause-registers t c =
    all_registers c.args.core.now c.args.depth c.args.node.now c.args.base c.args.cell c.args.first c.args.inputs.items c.args.draft.now c.args.variables.now c.as_slice-e-items.result.now c.loop-e.e-index c.loop-e.own c.loop-e.next c.loop-e.registers.items c.loop-e.draft c.loop-e.presences.items c.loop-e.inner
    c.requires.variables c.as_slice-e-items.ensures c.loop-e.invariant c.loop-e-test.false

pub add_equations-returns-clause-presences : goal.add_equations-returns-clause-presences
add_equations-returns-clause-presences t c =
    all_presences c.args.core.now c.args.depth c.args.node.now c.args.base c.args.cell c.args.first c.args.inputs.items c.args.draft.now c.args.variables.now c.as_slice-e-items.result.now c.loop-e.e-index c.loop-e.own c.loop-e.next c.loop-e.registers.items c.loop-e.draft c.loop-e.presences.items c.loop-e.inner
    c.requires.variables c.as_slice-e-items.ensures c.loop-e.invariant c.loop-e-test.false

pub add_equations-returns-clause-whole : goal.add_equations-returns-clause-whole
add_equations-returns-clause-whole t c =
    all_whole c.args.core.now c.args.depth c.args.node.now c.args.base c.args.cell c.args.first c.args.inputs.items c.args.draft.now c.args.variables.now c.as_slice-e-items.result.now c.loop-e.e-index c.loop-e.own c.loop-e.next c.loop-e.registers.items c.loop-e.draft c.loop-e.presences.items c.loop-e.inner
    c.requires.variables c.as_slice-e-items.ensures c.loop-e.invariant c.loop-e-test.false

pub add_equations-returns-clause-within : goal.add_equations-returns-clause-within
add_equations-returns-clause-within t c =
    all_kept c.args.core.now c.args.depth c.args.node.now c.args.base c.args.cell c.args.first c.args.inputs.items c.args.draft.now c.args.variables.now c.as_slice-e-items.result.now c.loop-e.e-index c.loop-e.own c.loop-e.next c.loop-e.registers.items c.loop-e.draft c.loop-e.presences.items c.loop-e.inner
    c.requires.variables c.as_slice-e-items.ensures c.loop-e.invariant c.loop-e-test.false

pub add_body-overflow_sub-depth : goal.add_body-overflow_sub-depth
add_body-overflow_sub-depth t c = some_depth c.args.core.now c.args.depth c.args.node.now c.requires.buildable

pub add_body-add_equations-requires : goal.add_body-add_equations-requires
add_body-add_equations-requires t c = (
  omega (arith, some_depth c.args.core.now c.args.depth c.args.node.now c.requires.buildable, c.decreases),
  (
    c.as_slice.ensures ∙ c.in_ok-names.ensures,
    (
      c.requires.inputs,
      (
        (alone c.args.core.now c.args.depth c.args.node.now c.requires.buildable).equations,
        (
          callees c.args.core.now c.args.depth c.args.node.now c.requires.buildable,
          (
            omega (arith, c.in_ok-count.ensures),
            omega (arith, c.if-count-cell.false),
          ),
        ),
      ),
    ),
  ),
)

pub add_body-output_registers-requires-clause-among : goal.add_body-output_registers-requires-clause-among
add_body-output_registers-requires-clause-among t c =
    among_variables c.args.node.now c.as_slice-3.result.now c.as_slice-2.result.now (c.as_slice-3.ensures ∙ c.in_ok-names.ensures) c.as_slice-2.ensures (alone c.args.core.now c.args.depth c.args.node.now c.requires.buildable).outputs

pub add_body-returns-clause-builds : goal.add_body-returns-clause-builds
add_body-returns-clause-builds t c =
    let outputs_are = outputs_of c.args.node.now c.as_slice-3.result.now c.as_slice-4.result.now c.in_ok-values.values.registers.items c.as_slice-2.result.now c.in_ok-outputs.outputs.items
    (c.as_slice-3.ensures ∙ c.in_ok-names.ensures) c.as_slice-4.ensures.value c.as_slice-2.ensures c.in_ok-outputs.ensures in
    builds_bodies c.args.core.now c.args.depth c.args.node.now c.args.base c.args.inputs.items c.args.draft.now c.add_equations.new.draft _ c.in_ok-values.values.inner c.append.new.self c.in_ok-outputs.outputs.items
    c.args.cell (c.args.cell + c.in_ok-count.count) c.requires.buildable (omega (arith, c.in_ok-count.ensures)) refl
    (one_then _ _ _ _ _ c.new-bodies.ensures c.in_ok-push.ensures.ok c.in_ok-append.ensures) outputs_are c.in_ok-values.ensures.builds

pub add_body-returns-clause-cells : goal.add_body-returns-clause-cells
add_body-returns-clause-cells t c =
    counts_cells c.args.core.now c.args.depth c.args.node.now c.args.cell (c.args.cell + c.in_ok-count.count) c.in_ok-values.values.next c.requires.buildable (omega (arith, c.in_ok-count.ensures)) c.in_ok-values.ensures.cells

pub add_body-returns-clause-whole : goal.add_body-returns-clause-whole
add_body-returns-clause-whole t c =
    whole_bodies c.args.core.now c.args.depth _ c.in_ok-values.values.inner c.append.new.self c.requires.buildable c.in_ok-names.ensures
    (c.in_ok-values.ensures.registers ∙ ap length c.as_slice.ensures) c.in_ok-values.ensures.presences
    (one_then _ _ _ _ _ c.new-bodies.ensures c.in_ok-push.ensures.ok c.in_ok-append.ensures) c.in_ok-values.ensures.whole

pub add_body-returns-clause-within : goal.add_body-returns-clause-within
add_body-returns-clause-within t c =
    let outputs_are = outputs_of c.args.node.now c.as_slice-3.result.now c.as_slice-4.result.now c.in_ok-values.values.registers.items c.as_slice-2.result.now c.in_ok-outputs.outputs.items
    (c.as_slice-3.ensures ∙ c.in_ok-names.ensures) c.as_slice-4.ensures.value c.as_slice-2.ensures c.in_ok-outputs.ensures in
    keeps_bodies c.args.core.now c.args.depth c.args.node.now c.args.base c.args.inputs.items c.args.draft.now c.add_equations.new.draft _ c.in_ok-values.values.inner c.append.new.self c.in_ok-outputs.outputs.items
    c.in_ok-values.values.next c.requires.buildable (c.in_ok-values.ensures.registers ∙ ap length (c.as_slice.ensures ∙ c.in_ok-names.ensures))
    (one_then _ _ _ _ _ c.new-bodies.ensures c.in_ok-push.ensures.ok c.in_ok-append.ensures) outputs_are c.in_ok-values.ensures.within
