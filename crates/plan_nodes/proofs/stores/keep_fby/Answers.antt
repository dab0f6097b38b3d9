use Rattle.std.proofs.Common.{ℕ, [], ◌∷◌, List, sym, ap, ◌∙◌}
use Rattle.std.proofs.lemmas.Result.{on_ok_weaker}
use Rattle.hept_ast.specs.Scopes.{Clock}
use Rattle.hept_ast.specs.Texts.{const_value}
use Rattle.hept_ast.specs.declared.tree.TypeDec.{TypeDec}
use Rattle.plan_equations.specs.Equations.{inside_of}
use Rattle.plan_equations.specs.Grounds.{Body}
use Rattle.plan_expressions.specs.declared.draft.Draft.{Draft}
use Rattle.plan_bodies.specs.declared.bodies.PlacedBody.{PlacedBody}
use Rattle.step_plans.specs.Things.{Presence_of, Value_of}
use Rattle.plan_nodes.specs.Built.{AddsCells}
use Rattle.plan_nodes.specs.Stores.{IsPresence}
use Rattle.plan_nodes.proofs.Adding.{adds_on, adds_same}
use Rattle.plan_nodes.proofs.StoredForms.{memory_constant, memories_started}
use Rattle.plan_nodes.proofs.stores.keep_fby.Goals as goal

pub returns-in_ok-initial-in-Const : goal.returns-in_ok-initial-in-Const
returns-in_ok-initial-in-Const c =
    on_ok_weaker c.keep_value.result
    (λ (h : (body : Body) (clock : Clock) → IsPresence c.args.placed.now clock c.args.here → AddsCells c.args.core.now.types body c.args.placed.now (Value_of c.args.later.now clock (inside_of body.scope) c.in_ok-initial-in-Const.initial ∷ []) c.args.draft.now c.args.cells.now c.keep_value.new.draft c.keep_value.new.cells) body clock is.
    adds_same c.args.core.now.types body c.args.placed.now _ _ c.args.draft.now c.keep_value.new.draft c.args.cells.now c.keep_value.new.cells
    (ap (λ (n : ℕ). Value_of c.args.later.now clock (inside_of body.scope) n ∷ []) (c.in_ok-initial-in-Const.ensures ∙ ap (λ (ts : List TypeDec). const_value ts c.in-Const.k) c.as_slice.ensures)
    ∙ sym (memory_constant c.args.core.now.types c.args.start.now c.args.later.now c.in-Const.k clock (inside_of body.scope) c.in-Const.is)) (h body clock is))
    c.keep_value.ensures

pub returns-in_ok-keep_value-in_default : goal.returns-in_ok-keep_value-in_default
returns-in_ok-keep_value-in_default c =
    on_ok_weaker c.keep_presence.result
    (λ (h : (types : List TypeDec) (body : Body) (placed : PlacedBody) (clock : Clock) (draft : Draft) → IsPresence placed clock c.args.here → AddsCells types body placed (Presence_of clock (inside_of body.scope) ∷ []) draft c.keep_value-in_default.new.cells draft c.keep_presence.new.cells) body clock is.
    adds_same c.args.core.now.types body c.args.placed.now _ _ c.args.draft.now c.keep_value-in_default.new.draft c.args.cells.now c.keep_presence.new.cells
    (sym (memories_started c.args.core.now.types c.args.start.now c.args.later.now clock (inside_of body.scope) c.requires.start c.in_default.not-Const))
    (adds_on c.args.core.now.types body c.args.placed.now (Value_of c.args.later.now clock (inside_of body.scope) 0 ∷ []) (Presence_of clock (inside_of body.scope) ∷ []) c.args.draft.now c.keep_value-in_default.new.draft c.keep_value-in_default.new.draft c.args.cells.now c.keep_value-in_default.new.cells c.keep_presence.new.cells
    (c.in_ok-keep_value-in_default.ensures body clock is) (h c.args.core.now.types body c.args.placed.now clock c.keep_value-in_default.new.draft is)))
    c.keep_presence.ensures
