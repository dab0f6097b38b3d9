use Rattle.std.proofs.Common.{[], ◌∷◌, List, sym, subst, ap, ◌∙◌}
use Rattle.std.proofs.lemmas.Result.{on_ok_weaker}
use Rattle.hept_ast.specs.Scopes.{Clock}
use Rattle.hept_ast.specs.declared.tree.Expr.{Expr}
use Rattle.hept_ast.specs.declared.tree.Form.{out-Form}
use Rattle.hept_ast.specs.declared.tree.TypeDec.{TypeDec}
use Rattle.plan_equations.specs.Equations.{inside_of}
use Rattle.plan_equations.specs.Grounds.{Body, fby_memories}
use Rattle.plan_expressions.specs.declared.draft.Draft.{Draft}
use Rattle.plan_bodies.specs.declared.bodies.PlacedBody.{PlacedBody}
use Rattle.step_plans.specs.Things.{Presence_of, Value_of}
use Rattle.plan_nodes.specs.Built.{AddsCells}
use Rattle.plan_nodes.specs.Stores.{IsPresence, IsStart}
use Rattle.plan_nodes.proofs.Adding.{adds_none, adds_same}
use Rattle.plan_nodes.proofs.StoredForms.{kept_later, kept_previous, memories_arrow, memories_fby, memories_inside, memories_plain, memories_previous, start_of}
use Rattle.plan_nodes.proofs.stores.add_store.Goals as goal

pub keep_fby-requires-clause-start : goal.keep_fby-requires-clause-start
keep_fby-requires-clause-start c = subst (λ (a : Expr). IsStart a) (sym c.get.ensures) (start_of c.args.core.now.types c.args.e.now.right c.in-Fby.a c.in-Fby.b c.in-Fby.is c.requires.storable.right)

pub keep_fby-requires-clause-computable : goal.keep_fby-requires-clause-computable
keep_fby-requires-clause-computable c = kept_later c.args.core.now.types c.args.placed.now.variables c.args.e.now.right c.in-Fby.a c.in-Fby.b c.get-in-Fby.result.now c.in-Fby.is c.get-in-Fby.ensures c.requires.storable.kept

pub keep_value-requires-clause-computable : goal.keep_value-requires-clause-computable
keep_value-requires-clause-computable c = kept_previous c.args.core.now.types c.args.placed.now.variables c.args.e.now.right c.in-Pre.a c.get-in-Pre.result.now c.in-Pre.is c.get-in-Pre.ensures c.requires.storable.kept

pub returns-in-Fby : goal.returns-in-Fby
returns-in-Fby c =
    on_ok_weaker c.keep_fby.result
    (λ (h : (body : Body) (clock : Clock) → IsPresence c.args.placed.now clock c.args.here → AddsCells c.args.core.now.types body c.args.placed.now (fby_memories c.args.core.now.types (out-Form c.get.result.now.form) c.get-in-Fby.result.now clock (inside_of body.scope)) c.args.draft.now c.args.cells.now c.keep_fby.new.draft c.keep_fby.new.cells) body is.
    adds_same c.args.core.now.types body c.args.placed.now _ _ c.args.draft.now c.keep_fby.new.draft c.args.cells.now c.keep_fby.new.cells
    (ap (λ (a : Expr). fby_memories c.args.core.now.types (out-Form a.form) c.get-in-Fby.result.now c.args.e.now.clock.steps (inside_of body.scope)) c.get.ensures
    ∙ ap (λ (b : Expr). fby_memories c.args.core.now.types (out-Form c.in-Fby.a.form) b c.args.e.now.clock.steps (inside_of body.scope)) c.get-in-Fby.ensures
    ∙ sym (memories_inside c.args.core.now.types body.scope c.args.e.now c.requires.storable.resets ∙ memories_fby c.args.core.now.types c.args.e.now.right c.in-Fby.a c.in-Fby.b c.args.e.now.clock.steps (inside_of body.scope) c.in-Fby.is)) (h body c.args.e.now.clock.steps is))
    c.keep_fby.ensures

pub returns-in-Pre : goal.returns-in-Pre
returns-in-Pre c =
    on_ok_weaker c.keep_value.result
    (λ (h : (body : Body) (clock : Clock) → IsPresence c.args.placed.now clock c.args.here → AddsCells c.args.core.now.types body c.args.placed.now (Value_of c.get-in-Pre.result.now clock (inside_of body.scope) 0 ∷ []) c.args.draft.now c.args.cells.now c.keep_value.new.draft c.keep_value.new.cells) body is.
    adds_same c.args.core.now.types body c.args.placed.now _ _ c.args.draft.now c.keep_value.new.draft c.args.cells.now c.keep_value.new.cells
    (ap (λ (a : Expr). Value_of a c.args.e.now.clock.steps (inside_of body.scope) 0 ∷ []) c.get-in-Pre.ensures
    ∙ sym (memories_inside c.args.core.now.types body.scope c.args.e.now c.requires.storable.resets ∙ memories_previous c.args.core.now.types c.args.e.now.right c.in-Pre.a c.args.e.now.clock.steps (inside_of body.scope) c.in-Pre.is)) (h body c.args.e.now.clock.steps is))
    c.keep_value.ensures

pub returns-in-Arrow : goal.returns-in-Arrow
returns-in-Arrow c =
    on_ok_weaker c.keep_presence.result
    (λ (h : (types : List TypeDec) (body : Body) (placed : PlacedBody) (clock : Clock) (draft : Draft) → IsPresence placed clock c.args.here → AddsCells types body placed (Presence_of clock (inside_of body.scope) ∷ []) draft c.args.cells.now draft c.keep_presence.new.cells) body is.
    adds_same c.args.core.now.types body c.args.placed.now _ _ c.args.draft.now c.args.draft.now c.args.cells.now c.keep_presence.new.cells
    (sym (memories_inside c.args.core.now.types body.scope c.args.e.now c.requires.storable.resets ∙ memories_arrow c.args.core.now.types c.args.e.now.right c.in-Arrow.field-0 c.in-Arrow.field-1 c.args.e.now.clock.steps (inside_of body.scope) c.in-Arrow.is))
    (h c.args.core.now.types body c.args.placed.now c.args.e.now.clock.steps c.args.draft.now is))
    c.keep_presence.ensures

pub returns-in_default : goal.returns-in_default
returns-in_default c body is =
    adds_same c.args.core.now.types body c.args.placed.now _ _ c.args.draft.now c.args.draft.now c.args.cells.now c.args.cells.now
    (sym (memories_inside c.args.core.now.types body.scope c.args.e.now c.requires.storable.resets
    ∙ memories_plain c.args.core.now.types c.args.e.now.right c.args.e.now.clock.steps (inside_of body.scope) c.in_default.not-Fby c.in_default.not-Pre c.in_default.not-Arrow c.requires.storable.right))
    (adds_none c.args.core.now.types body c.args.placed.now c.args.draft.now c.args.cells.now)
