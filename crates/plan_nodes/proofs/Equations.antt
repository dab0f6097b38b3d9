-- The cells of the equations of a body, one after another.
use Rattle.std.proofs.Common.{◌≡◌, ℕ, zero, suc, ◌+◌, ◌<◌, ◌≤◌, List, [], ◌∷◌, ◌++◌, All, length, take, get_or, Some, refl, sym, subst, ap, ◌∙◌, arith, append-nil}
use Rattle.std.specs.Prelude.{slice_get, slice_index}
use Rattle.std.proofs.lemmas.Grind.{flat_map-append}
use Rattle.std.proofs.lemmas.List.{take_more, take_all}
use Rattle.std.proofs.lemmas.Option.{get_or_from_slice_get, slice_get_read, slice_get_within}
use Rattle.hept_ast.specs.Texts.{Name, names}
use Rattle.hept_ast.specs.declared.tree.TypeDec.{TypeDec}
use Rattle.hept_ast.specs.declared.tree.Core.{Core}
use Rattle.hept_ast.specs.declared.tree.CoreNode.{CoreNode}
use Rattle.hept_ast.specs.declared.tree.CoreEquation.{CoreEquation}
use Rattle.step_plans.specs.Things.{Memory}
use Rattle.plan_expressions.specs.declared.draft.Draft.{Draft}
use Rattle.plan_equations.specs.Grounds.{Body, body_memories, equation_memories, memories_of}
use Rattle.plan_bodies.specs.Buildable.{AreBuildable, IsKeepable, no_equation, one_more, one_call, variables_of}
use Rattle.plan_bodies.specs.Expansions.{IsWhole}
use Rattle.plan_bodies.specs.declared.bodies.PlacedBody.{PlacedBody}
use Rattle.plan_nodes.specs.Built.{AddsCells}
use Rattle.plan_nodes.specs.Stores.{IsPresence, IsRightOrCall, a_right, a_call, IsStorable}
use Rattle.plan_nodes.specs.declared.stores.Cells.{Cells}
use Rattle.plan_nodes.proofs.Adding.{adds_on, adds_same}

-- ---- which equations a body has

-- a right side or a call, without resets
pub record IsServed (types : List TypeDec) (e : CoreEquation) : Type 0 where
  pub right : IsRightOrCall types e.right
  pub resets : e.resets ≡ []

pub served_there : (core : Core) (node : CoreNode) (known : List Name) (es : List CoreEquation) (i : ℕ) (e : CoreEquation) → slice_get es i ≡ Some e → AreBuildable core node known es → IsServed core.types e
served_there core node known [] i e at no_equation = absurd (cc)
served_there core node known (d ∷ es) zero e at (one_more x found clock right rest) =
    let same : d ≡ e = cc in
    subst (λ (c : CoreEquation). IsServed core.types c) same (record { right = a_right known (suc (length d.clock.steps)) right; resets = found.resets })
served_there core node known (d ∷ es) (suc i) e at (one_more x found clock right rest) = served_there core node (known ++ x ∷ []) es i e at rest
served_there core node known (d ∷ es) zero e at (one_call args callee is clock callable rest) =
    let same : d ≡ e = cc in
    subst (λ (c : CoreEquation). IsServed core.types c) same (record { right = a_call is.name args is.form; resets = callable.found.resets })
served_there core node known (d ∷ es) (suc i) e at (one_call args callee is clock callable rest) = served_there core node (known ++ d.left) es i e at rest

kept_there : (types : List TypeDec) (variables : List Name) (es : List CoreEquation) (i : ℕ) (e : CoreEquation) → slice_get es i ≡ Some e → All (λ c. IsKeepable types variables c.right) es → IsKeepable types variables e.right
kept_there types variables es i e at all = subst (λ (c : CoreEquation). IsKeepable types variables c.right) (get_or_from_slice_get es i e e at) (all i e (slice_get_within es i e at))

-- ---- the equation at a place, where the loop reads it

module _ (core : Core) (placed : PlacedBody) (whole : IsWhole core placed) (es : List CoreEquation) (same : es ≡ placed.node.now.equations) (i : ℕ) (e : CoreEquation) (lt : i < length es) (is : e ≡ get_or es i e) where
  at_place : slice_get placed.node.now.equations i ≡ Some e
  at_place = subst (λ (ds : List CoreEquation). slice_get ds i ≡ Some e) same (slice_get_read es (length es) i e refl lt is)

  pub storable_at : IsStorable core.types placed.variables e
  storable_at =
      let served = served_there core placed.node.now (names placed.node.now.inputs) placed.node.now.equations i e at_place whole.buildable.equations in
      record {
        right = served.right;
        kept = subst (λ (xs : List Name). IsKeepable core.types xs e.right) (sym whole.variables) (kept_there core.types (variables_of placed.node.now) placed.node.now.equations i e at_place whole.buildable.kept);
        resets = served.resets;
      }

  pub presence_at : (here : ℕ) → slice_index placed.presences.items i ≡ here → IsPresence placed e.clock.steps here
  presence_at here read = record {
    place = i;
    equation = e;
    at = at_place;
    clock = refl;
    there = omega (arith, lt, whole.presences, ap length same);
    presence = read;
  }

-- ---- equations one after another

module _ (types : List TypeDec) (body : Body) (placed : PlacedBody) where
  -- one equation more
  pub adds_equation : (es : List CoreEquation) (i : ℕ) (e : CoreEquation) (old mid new : Draft) (before between after : Cells) → i < length es → e ≡ get_or es i e → AddsCells types body placed (memories_of types body.scope (take i es)) old before mid between →
      AddsCells types body placed (equation_memories types body.scope e) mid between new after → AddsCells types body placed (memories_of types body.scope (take (i + 1) es)) old before new after
  adds_equation es i e old mid new before between after lt is done here =
      let longer : take (i + 1) es ≡ take i es ++ e ∷ [] = take_more es i e lt ∙ ap (λ (d : CoreEquation). take i es ++ d ∷ []) (sym is) in
      let split : memories_of types body.scope (take (i + 1) es) ≡ memories_of types body.scope (take i es) ++ equation_memories types body.scope e =
      ap (memories_of types body.scope) longer ∙ flat_map-append (equation_memories types body.scope) (take i es) (e ∷ [])
      ∙ ap (λ (ms : List Memory). memories_of types body.scope (take i es) ++ ms) (append-nil (equation_memories types body.scope e)) in
      adds_same types body placed (memories_of types body.scope (take i es) ++ equation_memories types body.scope e) (memories_of types body.scope (take (i + 1) es)) old new before after (sym split)
      (adds_on types body placed (memories_of types body.scope (take i es)) (equation_memories types body.scope e) old mid new before between after done here)

  -- all of them
  pub all_equations : (es : List CoreEquation) (i : ℕ) (old new : Draft) (before after : Cells) → es ≡ placed.node.now.equations → length es ≤ i → placed.node.now ≡ body.node → AddsCells types body placed (memories_of types body.scope (take i es)) old before new after →
      AddsCells types body placed (body_memories types body) old before new after
  all_equations es i old new before after same le of_node h =
      adds_same types body placed (memories_of types body.scope (take i es)) (body_memories types body) old new before after
      (ap (memories_of types body.scope) (take_all i es le ∙ same ∙ ap (λ (n : CoreNode). n.equations) of_node)) h
