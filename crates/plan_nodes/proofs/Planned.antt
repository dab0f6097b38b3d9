-- The parts of a plan together.
use Rattle.std.proofs.Common.{◌≡◌, ℕ, zero, suc, ◌<◌, ◌≤◌, List, [], length, All, Some, refl, sym, subst, ap, ◌∙◌, arith}
use Rattle.std.specs.Prelude.{get_or, slice_get, slice_index}
use Rattle.std.proofs.lemmas.List.{length-map}
use Rattle.std.proofs.lemmas.List.Elements.{All-nil, All-weaker}
use Rattle.std.proofs.lemmas.Option.{get_or_from_slice_get, slice_get_within, slice_get-get_or}
use Rattle.hept_ast.specs.Texts.{Name, names}
use Rattle.hept_ast.specs.declared.tree.Core.{Core}
use Rattle.hept_ast.specs.declared.tree.CoreNode.{CoreNode}
use Rattle.hept_ast.specs.declared.tree.Decl.{Decl}
use Rattle.step_plans.specs.Things.{Named, initial_of}
use Rattle.step_plans.specs.Operations.{In_values}
use Rattle.step_plans.specs.Plans.{Ground, Entry, Has, IsCalled, IsPlanOf, MakesAll, quiet_top, start_of, top_of}
use Rattle.step_plans.specs.declared.action.Action.{Action}
use Rattle.step_plans.specs.declared.action.Action.TheVariants as act
use Rattle.step_plans.specs.declared.action.Offering.{Offering}
use Rattle.step_plans.specs.declared.instruction.Store.{Store}
use Rattle.step_plans.specs.declared.plan.NodePlan.{NodePlan}
use Rattle.step_engine.specs.Running.{IsStoreWithin}
use Rattle.step_engine.specs.Actions.{IsActionWithin, IsFutureStoreWithin}
use Rattle.node_memory.specs.Standing.{IsCallWithin, IsSound}
use Rattle.plan_expressions.specs.Building.{AreActionsWithin, HaveRegisters}
use Rattle.plan_expressions.specs.declared.draft.Draft.{Draft}
use Rattle.plan_expressions.proofs.Adding.{registers_later}
use Rattle.plan_equations.specs.Grounds.{Body, bodies_of, ground_of}
use Rattle.plan_bodies.specs.Buildable.{IsBuildable, IsBuildableAlone}
use Rattle.plan_bodies.specs.Expansions.{ArePlaced, BuildsBodies, CountsCells, IsExpanded, IsWhole, KeepsBodies}
use Rattle.plan_bodies.specs.declared.bodies.PlacedBody.{PlacedBody}
use Rattle.plan_nodes.specs.Built.{AddsAllCells, IsQuietBody}
use Rattle.plan_nodes.specs.Texts.{BuildsText, IsTextWithin}
use Rattle.plan_nodes.specs.declared.nodes.BuiltText.{BuiltText}
use Rattle.plan_nodes.proofs.Expanded.{called_all, called_later, has_bodies, has_cells, quiet_bodies}
use Rattle.plan_nodes.proofs.Starting.{AreInputRegisters, built_at_start, inputs_below}

-- ---- the text

pub text_built : (core : Core) (node : CoreNode) (first : List ℕ) (start values : Draft) (placed : List PlacedBody) (text : BuiltText) → AreInputRegisters (length node.inputs) first → start.actions.items ≡ [] → start.at ≡ suc (length node.inputs) →
    IsBuildable core (length core.nodes) node → BuildsBodies core (length core.nodes) node 0 0 first start values placed text.outputs.items → All (IsWhole core) placed → length text.outputs.items ≡ length node.outputs →
    AddsAllCells core.types placed values text.draft text.cells → BuildsText core node text
text_built core node first start values placed text are none at buildable builds wholes many adds =
    let g : Ground = ground_of core node in
    let all : List Body = bodies_of core node in
    let quiet : All IsQuietBody all = quiet_bodies core (length core.nodes) node (top_of node) buildable quiet_top in
    let built = built_at_start g node first start are none at in
    let x : IsExpanded g (start_of node 0) built.here values all placed node (top_of node) text.outputs.items =
    builds g (top_of node) (start_of node 0) (record { types = refl; nodes = refl }) refl quiet_top (has_cells g) (has_bodies core all) built in
    let are_placed : ArePlaced x.here.entries x.here.at all placed = subst (λ (n : ℕ). ArePlaced x.here.entries n all placed) (sym x.leads.at) x.bodies in
    let kept = adds.keeps g (start_of node 0) x.here all refl are_placed quiet x.leads in
    record {
      last = kept.here;
      leads = kept.leads;
      have = kept.have;
      called = All-weaker (IsCalled x.here.entries) (IsCalled kept.here.entries) (λ call h. called_later x.here.entries kept.here.entries kept.more.grows call h) g.calls
          (called_all core x.here.entries x.here.at all placed are_placed wholes);
      as_many = many;
      outputs_are = registers_later x.here kept.here (top_of node) (names node.outputs) text.outputs.items values.at text.draft.at (omega (arith, kept.longer, x.leads.at)) kept.more x.outputs_are;
    }

pub text_within : (core : Core) (node : CoreNode) (first : List ℕ) (start values : Draft) (placed : List PlacedBody) (next : ℕ) (text : BuiltText) → length first ≡ length node.inputs → AreInputRegisters (length node.inputs) first → start.actions.items ≡ [] →
    start.at ≡ suc (length node.inputs) → CountsCells core (length core.nodes) node 0 next → KeepsBodies next 0 first start values placed text.outputs.items → AddsAllCells core.types placed values text.draft text.cells → BuildsText core node text →
    IsTextWithin (length node.inputs) text
text_within core node first start values placed next text many are none at counts keeps adds built =
    let n : ℕ = length text.cells.stores.items in
    let as_many : n ≡ length (ground_of core node).memories = built.have.as_many in
    let room : next ≤ n = omega (arith, counts (top_of node), as_many) in
    let nothing : AreActionsWithin n start = subst (λ (actions : List Action). All (IsActionWithin start.at n 0 0) actions) (sym none) (All-nil _) in
    let v = keeps n room (omega (arith, at)) (inputs_below first (length node.inputs) start.at many are at) nothing in
    let s = adds.within n v.2 v.0 in
    record {
      room = omega (arith, at, v.1, s.1);
      initial = ap length built.have.initial ∙ length-map (ground_of core node).memories initial_of ∙ sym as_many;
      actions = s.0;
      stores = s.2;
      outputs = λ k q lt. omega (arith, v.3 k q lt, s.1);
    }

-- ---- the plan

-- a plan of these parts
pub record IsMadeOf (node : CoreNode) (text : BuiltText) (plan : NodePlan) : Type 0 where
  pub inputs : plan.inputs ≡ length node.inputs
  pub actions : plan.actions.items ≡ text.draft.actions.items
  pub stores : plan.stores.items ≡ text.cells.stores.items
  pub future_stores : plan.future_stores.items ≡ []
  pub initial : plan.initial.items ≡ text.cells.initial.items
  pub future_initial : plan.future_initial.items ≡ []
  pub offerings : plan.offerings.items ≡ []
  pub outputs : plan.outputs.items ≡ text.outputs.items
  pub values : plan.values ≡ text.draft.at
  pub futures : plan.futures ≡ length node.inputs

nothing_at : {X : Type 0} (k : ℕ) (x : X) → slice_get [] k ≡ Some x → ⊥
nothing_at k x e = cc

in_all : {X : Type 0} (P : X → Type 0) (xs : List X) (k : ℕ) (x : X) → All P xs → slice_get xs k ≡ Some x → P x
in_all P xs k x all e = subst P (get_or_from_slice_get xs k x x e) (all k x (slice_get_within xs k x e))

output_value : (entries : List Entry) (node : CoreNode) (outputs : List ℕ) (at k : ℕ) (x : Name) → HaveRegisters entries (top_of node) (names node.outputs) outputs at → length outputs ≡ length node.outputs → slice_get (names node.outputs) k ≡ Some x →
    (r : ℕ) × (slice_get outputs k ≡ Some r) × Has entries (Named x (top_of node)) (In_values r)
output_value entries node outputs at k x have many e =
    let within : k < length (names node.outputs) = slice_get_within (names node.outputs) k x e in
    let below : k < length outputs = omega (arith, within, length-map node.outputs (λ (d : Decl). d.name), many) in
    (slice_index outputs k, slice_get-get_or outputs k 0 below, (have k x e).0)

alone : (core : Core) (depth : ℕ) (node : CoreNode) → IsBuildable core depth node → IsBuildableAlone core node
unfolding IsBuildable
alone core zero node h = absurd h
alone core (suc depth) node h = h.0

pub is_plan : (core : Core) (node : CoreNode) (text : BuiltText) (plan : NodePlan) → IsBuildable core (length core.nodes) node → BuildsText core node text → IsMadeOf node text plan → IsPlanOf (ground_of core node) [] node plan
is_plan core node text plan buildable built made = record {
  last = built.last;
  inputs = made.inputs;
  places = (alone core (length core.nodes) node buildable).places;
  makes = subst (λ (offerings : List Offering). MakesAll (ground_of core node) [] offerings (start_of node 0) plan.actions.items built.last) (sym made.offerings)
      (subst (λ (actions : List Action). MakesAll (ground_of core node) [] [] (start_of node 0) actions built.last) (sym made.actions) built.leads.makes);
  each = λ k site e. absurd (nothing_at k site e);
  keeps = λ k m e.
      let h = built.have.keeps k m e in
      (h.0, ap (λ (ss : List Store). slice_get ss k) made.stores ∙ h.1, h.2);
  keeps_futures = λ k m e. absurd (nothing_at k m e);
  future_cells = ap length made.future_stores;
  initial = made.initial ∙ built.have.initial;
  future_initial = made.future_initial;
  marks = λ k site e. absurd (nothing_at k site e);
  counted = λ k call e. in_all (IsCalled built.last.entries) (ground_of core node).calls k call built.called e;
  as_many = ap length made.outputs ∙ built.as_many;
  outputs = λ k x e.
      let h = output_value built.last.entries node text.outputs.items text.draft.at k x built.outputs_are built.as_many e in
      (h.0, ap (λ (rs : List ℕ). slice_get rs k) made.outputs ∙ h.1, h.2);
}

-- ---- what the plan names is there

-- without futures and calls what an action names is there however many there are
more_room : (n m f k : ℕ) (a : Action) → IsActionWithin n m 0 0 a → IsActionWithin n m f k a
more_room n m f k (act.Compute to i) h = h
more_room n m f k (act.Move to i) h = absurd (omega (arith, h.0))
more_room n m f k (act.Offer c) h = absurd (omega (arith, h))
more_room n m f k (act.Get to g x) h = absurd (omega (arith, h.2))

actions_within : (n m f k : ℕ) (actions : List Action) → All (IsActionWithin n m 0 0) actions → All (IsActionWithin n m f k) actions
actions_within n m f k actions h = λ i a lt. more_room n m f k (get_or actions i a) (h i a lt)

pub is_sound : (node : CoreNode) (text : BuiltText) (plan : NodePlan) → IsTextWithin (length node.inputs) text → IsMadeOf node text plan → IsSound plan
is_sound node text plan within made =
    let stores : length plan.stores.items ≡ length text.cells.stores.items = ap length made.stores in
    record {
      room = omega (arith, within.room, made.inputs, made.values);
      futures_room = omega (arith, ap length made.future_stores, made.inputs, made.futures);
      initial = ap length made.initial ∙ within.initial ∙ sym stores;
      future_initial = ap length made.future_initial ∙ sym (ap length made.future_stores);
      actions = actions_within plan.values (length plan.stores.items) plan.futures (length plan.offerings.items) plan.actions.items
          (subst (λ (n : ℕ). All (IsActionWithin n (length plan.stores.items) 0 0) plan.actions.items) (sym made.values)
          (subst (λ (m : ℕ). All (IsActionWithin text.draft.at m 0 0) plan.actions.items) (sym stores)
          (subst (λ (actions : List Action). All (IsActionWithin text.draft.at (length text.cells.stores.items) 0 0) actions) (sym made.actions) within.actions)));
      calls = subst (λ (offerings : List Offering). All (IsCallWithin plan.values plan.futures) offerings) (sym made.offerings) (All-nil (IsCallWithin plan.values plan.futures));
      stores = subst (λ (ss : List Store). All (IsStoreWithin plan.values) ss) (sym made.stores) (subst (λ (n : ℕ). All (IsStoreWithin n) text.cells.stores.items) (sym made.values) within.stores);
      future_stores = subst (λ (ss : List Store). All (IsFutureStoreWithin plan.values (length ss) plan.futures) ss) (sym made.future_stores) (All-nil (IsFutureStoreWithin plan.values 0 plan.futures));
      outputs = subst (λ (rs : List ℕ). All (λ r. r < plan.values) rs) (sym made.outputs) (subst (λ (n : ℕ). All (λ r. r < n) text.outputs.items) (sym made.values) within.outputs);
    }
