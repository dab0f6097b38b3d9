-- A call: its clock, its arguments, the body of its node and the variables that take its outputs.
use Rattle.std.proofs.Common.{◌≡◌, ℕ, zero, suc, ◌<◌, ◌≤◌, ◌==◌, Bool, true, false, List, [], ◌∷◌, ◌++◌, length, take, Some, refl, sym, subst, ap, ◌∙◌, arith}
use Rattle.std.specs.Prelude.{Option, slice_get, slice_index, slice_index_or}
use Rattle.std.proofs.lemmas.List.{take_all}
use Rattle.std.proofs.lemmas.List.Elements.{All-append}
use Rattle.std.proofs.lemmas.Bool.Decides.{Decides-eqb}
use Rattle.std.proofs.lemmas.Option.{get_or_from_slice_get, slice_get_read, slice_get_within}
use Rattle.hept_ast.specs.Texts.{Name, is_in, names, place_in}
use Rattle.hept_ast.specs.Scopes.{Clock, Text, Scope, Lowered, Under, equation_of}
use Rattle.hept_ast.specs.declared.tree.Core.{Core}
use Rattle.hept_ast.specs.declared.tree.CoreNode.{CoreNode}
use Rattle.hept_ast.specs.declared.tree.CoreEquation.{CoreEquation}
use Rattle.hept_ast.specs.declared.tree.Decl.{Decl}
use Rattle.hept_ast.specs.declared.tree.Expr.{Expr}
use Rattle.hept_ast.specs.declared.tree.Form.{out-Form, out-roll-Form}
use Rattle.hept_ast.specs.declared.tree.Form.TheOpen.{Form-F}
use Rattle.hept_ast.specs.declared.tree.Form.TheVariants as form
use Rattle.step_plans.specs.Things.{Thing, Here, Named, Part, Result}
use Rattle.step_plans.specs.Operations.{Register, In_values}
use Rattle.step_plans.specs.Plans.{Ground, Entry, Has, Means, IsInputAt, IsQuiet, Progress, argument, call, defines, defines_output, here_called, here_under, quiet_call, quiet_equation, result, variable_under}
use Rattle.plan_expressions.specs.Building.{Emitted, HaveRegisters, KnowsMore, Leads}
use Rattle.plan_expressions.specs.declared.draft.Draft.{Draft}
use Rattle.plan_expressions.proofs.Adding.{after, knows_on, knows_same, means_more, registers_later}
use Rattle.plan_equations.specs.Equations.{ArePresent, BuildsPresences, IsBuilt, KeepsPresences, inside_of}
use Rattle.plan_equations.specs.Grounds.{Body, bodies, call_scope, right_scope}
use Rattle.plan_bodies.specs.Arguments.{AreEmitted, EmitsArguments, KeepsArguments}
use Rattle.plan_bodies.specs.Buildable.{IsBuildable}
use Rattle.plan_bodies.specs.Expansions.{ArePlaced, BuildsBodies, IsExpanded, KeepsBodies}
use Rattle.plan_bodies.specs.Valued.{BuildsCall, IsGroundedCall, IsNextBuilt, KeepsNext}
use Rattle.plan_bodies.specs.declared.bodies.PlacedBody.{PlacedBody}

-- ---- lists

element_at : {A : Type 0} (xs : List A) (k : ℕ) → k < length xs → (x : A) × (slice_get xs k ≡ Some x)
element_at [] k lt = absurd (omega (arith, lt))
element_at (x ∷ xs) zero lt = (x, refl)
element_at (x ∷ xs) (suc k) lt = element_at xs k (omega (arith, lt))

as_many_names : (ds : List Decl) → length (names ds) ≡ length ds
as_many_names [] = refl
as_many_names (d ∷ ds) = ap suc (as_many_names ds)

-- ---- what was placed still is

placed_later : (before after : Progress) (at later : ℕ) (all : List Body) (placed : List PlacedBody) → at ≤ later → KnowsMore before after → ArePlaced before.entries at all placed → ArePlaced after.entries later all placed
placed_later before after at later [] [] le more h = tt
placed_later before after at later [] (p ∷ placed) le more h = absurd h
placed_later before after at later (body ∷ all) [] le more h = absurd h
placed_later before after at later (body ∷ all) (p ∷ placed) le more h = (
  record {
    node = h.0.node;
    values = registers_later before after body.scope _ p.registers.items at later le more h.0.values;
    read = registers_later before after (inside_of body.scope) _ p.registers.items at later le more h.0.read;
    present = λ k e get.
        let x = h.0.present k e get in
        (more.grows _ _ x.0, omega (arith, x.1));
  },
  placed_later before after at later all placed le more h.1,
)

-- ---- names with values in a body and in its right sides

-- the values of one list of variables after those of another
registers_joined : (entries : List Entry) (s : Scope) (variables others : List Name) (registers values : List ℕ) (at : ℕ) → length registers ≡ length variables → HaveRegisters entries s variables registers at → HaveRegisters entries s others values at →
    HaveRegisters entries s (variables ++ others) (registers ++ values) at
registers_joined entries s [] others [] values at many first second k x get = second k x get
registers_joined entries s [] others (r ∷ registers) values at many first second k x get = absurd (omega (arith, many))
registers_joined entries s (v ∷ variables) others [] values at many first second k x get = absurd (omega (arith, many))
registers_joined entries s (v ∷ variables) others (r ∷ registers) values at many first second zero x get = first 0 x get
registers_joined entries s (v ∷ variables) others (r ∷ registers) values at many first second (suc k) x get =
    registers_joined entries s variables others registers values at (omega (arith, many)) (λ j y h. first (suc j) y h) second k x get

module _ (g : Ground) (start : Progress) (draft : Draft) (s : Scope) where
  -- where so much is known before, this name can be given this value
  abbrev IsNameable : Progress → Name → ℕ → Type 0
  IsNameable before x r = (now : Progress) → Leads g start draft now → KnowsMore before now → Emitted g start now draft draft (Named x s) r

  record AreNamed (before : Progress) (xs : List Name) (value : ℕ → ℕ) : Type 0 where
    now : Progress
    leads : Leads g start draft now
    more : KnowsMore before now
    has : (k : ℕ) (x : Name) → slice_get xs k ≡ Some x → Has now.entries (Named x s) (In_values (value k)) × Has now.entries (Named x (inside_of s)) (In_values (value k)) × (value k < draft.at)

  one_more_has : (now : Progress) (y : Name) (xs : List Name) (value : ℕ → ℕ) → Has now.entries (Named y s) (In_values (value 0)) → Has now.entries (Named y (inside_of s)) (In_values (value 0)) → value 0 < draft.at →
      ((k : ℕ) (x : Name) → slice_get xs k ≡ Some x → Has now.entries (Named x s) (In_values (value (suc k))) × Has now.entries (Named x (inside_of s)) (In_values (value (suc k))) × (value (suc k) < draft.at)) →
      (k : ℕ) (x : Name) → slice_get (y ∷ xs) k ≡ Some x → Has now.entries (Named x s) (In_values (value k)) × Has now.entries (Named x (inside_of s)) (In_values (value k)) × (value k < draft.at)
  one_more_has now y xs value here right lt rest zero x get =
      let same : y ≡ x = cc in
      subst (λ (z : Name). Has now.entries (Named z s) (In_values (value 0)) × Has now.entries (Named z (inside_of s)) (In_values (value 0)) × (value 0 < draft.at)) same (here, right, lt)
  one_more_has now y xs value here right lt rest (suc k) x get = rest k x get

  all_named : (before : Progress) (xs : List Name) (value : ℕ → ℕ) → Leads g start draft before → ((k : ℕ) (x : Name) → slice_get xs k ≡ Some x → IsNameable before x (value k)) → AreNamed before xs value
  all_named before [] value leads nameable = record { now = before; leads = leads; more = knows_same before; has = λ k x get. absurd (cc) }
  all_named before (y ∷ xs) value leads nameable =
      let rest = all_named before xs (λ k. value (suc k)) leads (λ k x get. nameable (suc k) x get) in
      let one = nameable 0 y refl rest.now rest.leads rest.more in
      let two = means_more g start one.after draft (Named y (inside_of s)) (value 0) one.leads one.within (variable_under y s [] one.has) in
      let grows : KnowsMore rest.now two.after = knows_on rest.now one.after two.after one.more two.more in
      record {
        now = two.after;
        leads = two.leads;
        more = knows_on before rest.now two.after rest.more grows;
        has = one_more_has two.after y xs value (two.more.grows _ _ one.has) two.has one.within
            (λ k x get. let h = rest.has k x get in (grows.grows _ _ h.0, grows.grows _ _ h.1, h.2));
      }

-- ---- the outputs

call_form : (e : Expr) (f : Name) (args : List Expr) → e.form ≡ form.Call f args → out-Form e.form ≡ Form-F.Call f args
call_form e f args h = ap out-Form (h ∙ sym (form.rolls-Call f args)) ∙ out-roll-Form _

one_left : (xs : List Name) (j : ℕ) (x : Name) → length xs ≡ 1 → slice_get xs j ≡ Some x → (j ≡ 0) × (xs ≡ x ∷ [])
one_left [] j x one get = absurd (omega (arith, one))
one_left (y ∷ []) zero x one get =
    let same : y ≡ x = cc in
    (refl, ap (λ (z : Name). z ∷ []) same)
one_left (y ∷ []) (suc j) x one get = absurd (cc)
one_left (y ∷ z ∷ xs) j x one get = absurd (omega (arith, one))

places_of : (core : Core) (depth : ℕ) (node : CoreNode) → IsBuildable core depth node → (k : ℕ) (x : Name) → slice_get (names node.inputs) k ≡ Some x → IsInputAt node k x
unfolding IsBuildable
places_of core zero node h = absurd h
places_of core (suc depth) node h = h.0.places

-- the last beginning of a clock is the clock
whole : (entries : List Entry) (s : Scope) (c : Clock) (presences : List ℕ) (presence : ℕ) → presence ≡ slice_index presences (length c) → Has entries (Here (take (length c) c) s) (In_values (slice_index presences (length c))) →
    Has entries (Here c s) (In_values presence)
whole entries s c presences presence is h =
    subst (λ (d : Clock). Has entries (Here d s) (In_values presence)) (take_all (length c) c (omega arith))
    (subst (λ (r : ℕ). Has entries (Here (take (length c) c) s) (In_values r)) (sym is) h)

-- a call without resets that is found in a body, in a ground that has it
module _ (core : Core) (depth next : ℕ) (g : Ground) (node : CoreNode) (b : Scope) (e : CoreEquation) (args : List Expr) (callee : CoreNode) (ground : IsGroundedCall core depth g node b next e args callee) where
  abbrev s : Scope
  s = right_scope b e

  abbrev called : Scope
  called = call_scope b e args callee

  to_right : (entries : List Entry) (thing : Scope → Thing) (r : Register) → Has entries (thing (inside_of b)) r → Has entries (thing s) r
  to_right entries thing r h = subst (λ (xs : List Name). Has entries (thing (Under b xs)) r) (sym ground.found.resets) h

  quiet_called : IsQuiet called
  quiet_called = quiet_call (subst (λ (xs : List Name). IsQuiet (Under b xs)) (sym ground.found.resets) (quiet_equation ground.quiet))

  output_means : (entries : List Entry) (h r : Register) (j : ℕ) (y : Name) → slice_get (names callee.outputs) j ≡ Some y → Has entries (Here e.clock.steps s) h → Has entries (Named y called) r → Means g entries (Result e.right j e.clock.steps s) r
  output_means entries h r j y get here named =
      let is : slice_index_or (names callee.outputs) j [] ≡ y = get_or_from_slice_get (names callee.outputs) j y [] get in
      result e.right ground.call.name args (Lowered callee) j e.clock.steps s h ground.counted.0 (call_form e.right ground.call.name args ground.call.form)
      (ap (λ (n : Name → Option Text). n ground.call.name) ground.ground.nodes ∙ ground.call.named)
      (slice_get_read g.calls (length g.calls) ground.counted.0 _ refl ground.counted.1 (sym ground.counted.2)) here
      (subst (λ (z : Name). Has entries (Named z called) r) (sym is) named)

  module _ (start : Progress) (draft : Draft) where
    left_nameable : (before : Progress) (h : Register) (r j : ℕ) (x y : Name) → r < draft.at → slice_get e.left j ≡ Some x → slice_get (names callee.outputs) j ≡ Some y → Has before.entries (Here e.clock.steps b) h → Has before.entries (Here e.clock.steps s) h →
        Has before.entries (Named y called) (In_values r) → IsNameable g start draft b before x r
    left_nameable before h r j x y lt left output here right has now leads more =
        by_length (length e.left == 1) refl
      where
        of_call : Emitted g start now draft draft (Result e.right j e.clock.steps s) r
        of_call = means_more g start now draft (Result e.right j e.clock.steps s) r leads lt (output_means now.entries h (In_values r) j y output (more.grows _ _ right) (more.grows _ _ has))

        found : (equation_of node x ≡ Some e) × (place_in x e.left ≡ j) × (is_in x (names node.inputs) ≡ false)
        found = ground.found.found j x left

        body_here : Has of_call.after.entries (Here e.clock.steps b) h
        body_here = of_call.more.grows _ _ (more.grows _ _ here)

        as_one : (j ≡ 0) × (e.left ≡ x ∷ []) → Emitted g start now draft draft (Named x b) r
        as_one one =
            let as_part = means_more g start of_call.after draft (Part e.right e.clock.steps s) r of_call.leads lt
            (call e.right ground.call.name args e.clock.steps s h (call_form e.right ground.call.name args ground.call.form) (of_call.more.grows _ _ (more.grows _ _ right))
            (subst (λ (k : ℕ). Has of_call.after.entries (Result e.right k e.clock.steps s) (In_values r)) one.0 of_call.has)) in
            let as_named = means_more g start as_part.after draft (Named x b) r as_part.leads lt (defines node x e b h ground.body found.0 one.1 found.2 (as_part.more.grows _ _ body_here) as_part.has) in
            after g start now draft draft draft (Result e.right j e.clock.steps s) (Named x b) r r of_call
            (after g start of_call.after draft draft draft (Part e.right e.clock.steps s) (Named x b) r r as_part as_named)

        as_many : (length e.left == 1) ≡ false → Emitted g start now draft draft (Named x b) r
        as_many many =
            after g start now draft draft draft (Result e.right j e.clock.steps s) (Named x b) r r of_call
            (means_more g start of_call.after draft (Named x b) r of_call.leads lt
            (defines_output node x e b h ground.body found.0 many found.2 body_here (subst (λ (k : ℕ). Has of_call.after.entries (Result e.right k e.clock.steps s) (In_values r)) (sym found.1) of_call.has)))

        by_length : (one : Bool) → (length e.left == 1) ≡ one → Emitted g start now draft draft (Named x b) r
        by_length true is = as_one (one_left e.left j x ((Decides-eqb (length e.left) 1).0 is) left)
        by_length false is = as_many is

    -- ---- the inputs

    input_nameable : (before : Progress) (h : Register) (r k : ℕ) (x : Name) (a : Expr) → r < draft.at → IsInputAt callee k x → slice_get args k ≡ Some a → Has before.entries (Here e.clock.steps s) h → Has before.entries (Part a e.clock.steps s) (In_values r) →
        IsNameable g start draft called before x r
    input_nameable before h r k x a lt input at here has now leads more =
        means_more g start now draft (Named x called) r leads lt
        (argument callee x a e.clock.steps s e.right.place.0 args h input.among input.free (subst (λ (i : ℕ). slice_get args i ≡ Some a) (sym input.place) at) (more.grows _ _ here) (more.grows _ _ has))

  -- ---- the called body begins

  record IsBegun (start before : Progress) (draft : Draft) (presence : ℕ) (inputs : List ℕ) : Type 0 where
    built : IsBuilt g called presence start draft (names callee.inputs) inputs
    more : KnowsMore before built.here

  begun_with : (start before base_right : Progress) (draft : Draft) (presence : ℕ) (inputs : List ℕ) → presence < draft.at → KnowsMore before base_right → Has base_right.entries (Here [] called) (In_values presence) →
      Has base_right.entries (Here [] (inside_of called)) (In_values presence) → AreNamed g start draft called base_right (names callee.inputs) (slice_index inputs) → IsBegun start before draft presence inputs
  begun_with start before base_right draft presence inputs lt more here right given = record {
    built = record {
      here = given.now;
      leads = given.leads;
      below = lt;
      body = given.more.grows _ _ here;
      right = given.more.grows _ _ right;
      values = λ k x get. let y = given.has k x get in (y.0, y.2);
      read = λ k x get. let y = given.has k x get in (y.1, y.2);
    };
    more = knows_on before base_right given.now more given.more;
  }

  module _ (start before : Progress) (draft : Draft) (presence : ℕ) (inputs : List ℕ) (buildable : IsBuildable core depth callee) (enough : length args ≡ length callee.inputs) (lt : presence < draft.at) where
    inputs_named : (now : Progress) → Leads g start draft now → Has now.entries (Here e.clock.steps s) (In_values presence) →
        ((k : ℕ) (a : Expr) → slice_get args k ≡ Some a → Has now.entries (Part a e.clock.steps s) (In_values (slice_index inputs k)) × (slice_index inputs k < draft.at)) → AreNamed g start draft called now (names callee.inputs) (slice_index inputs)
    inputs_named now leads here has =
        all_named g start draft called now (names callee.inputs) (slice_index inputs) leads
        (λ k x get.
        let below : k < length args = omega (arith, slice_get_within (names callee.inputs) k x get, as_many_names callee.inputs, enough) in
        let a = element_at args k below in
        let value = has k a.0 a.1 in
        input_nameable start draft now (In_values presence) (slice_index inputs k) k x a.0 value.1 (places_of core depth callee buildable k x get) a.1 here value.0)

    begins : Leads g start draft before → Has before.entries (Here e.clock.steps s) (In_values presence) →
        ((k : ℕ) (a : Expr) → slice_get args k ≡ Some a → Has before.entries (Part a e.clock.steps s) (In_values (slice_index inputs k)) × (slice_index inputs k < draft.at)) → IsBegun start before draft presence inputs
    begins leads here has =
        let base_here = means_more g start before draft (Here [] called) presence leads lt (here_called e.clock.steps s e.right.place.0 args (Lowered callee) here) in
        let base_right = means_more g start base_here.after draft (Here [] (inside_of called)) presence base_here.leads lt (here_under [] called [] base_here.has) in
        let more : KnowsMore before base_right.after = knows_on before base_here.after base_right.after base_here.more base_right.more in
        begun_with start before base_right.after draft presence inputs lt more (base_right.more.grows _ _ base_here.has) base_right.has
        (inputs_named base_right.after base_right.leads (more.grows _ _ here) (λ k a get. let value = has k a get in (more.grows _ _ value.0, value.1)))

  -- ---- and ends

  lefts_named : (start here : Progress) (draft : Draft) (h : Register) (outputs : List ℕ) → Leads g start draft here → Has here.entries (Here e.clock.steps b) h → Has here.entries (Here e.clock.steps s) h →
      HaveRegisters here.entries called (names callee.outputs) outputs draft.at → AreNamed g start draft b here e.left (slice_index outputs)
  lefts_named start here draft h outputs leads body right have =
      all_named g start draft b here e.left (slice_index outputs) leads
      (λ j x get.
      let below : j < length (names callee.outputs) = omega (arith, slice_get_within e.left j x get, as_many_names callee.outputs, ground.outputs) in
      let o = element_at (names callee.outputs) j below in
      let value = have j o.0 o.1 in
      left_nameable start draft here h (slice_index outputs j) j x o.0 value.1 get o.1 body right value.0)

  -- ---- the whole

  module _ (base : ℕ) (variables : List Name) (registers inputs outputs : List ℕ) (mid then new : Draft) (presence : ℕ) (all : List Body) (placed : List PlacedBody) (start before : Progress)
      (built : IsBuilt g b base start mid variables registers) (many : length registers ≡ length variables) (more : KnowsMore before built.here) (old_le : before.at ≤ mid.at) (under : presence < mid.at)
      (in_right : Has built.here.entries (Here e.clock.steps (inside_of b)) (In_values presence)) where
    closes : (here : Progress) → mid.at ≤ new.at → KnowsMore built.here here → ArePlaced here.entries new.at all placed → AreNamed g start new b here e.left (slice_index outputs) →
        IsNextBuilt g b base start before new (variables ++ e.left) (registers ++ outputs) e presence all placed
    closes here le inside are lefts =
        let grows : KnowsMore built.here lefts.now = knows_on built.here here lefts.now inside lefts.more in
        record {
          built = record {
            here = lefts.now;
            leads = lefts.leads;
            below = omega (arith, built.below, le);
            body = grows.grows _ _ built.body;
            right = grows.grows _ _ built.right;
            values = registers_joined lefts.now.entries b variables e.left registers outputs new.at many
                (registers_later built.here lefts.now b variables registers mid.at new.at le grows built.values) (λ k y get. let z = lefts.has k y get in (z.0, z.2));
            read = registers_joined lefts.now.entries (inside_of b) variables e.left registers outputs new.at many
                (registers_later built.here lefts.now (inside_of b) variables registers mid.at new.at le grows built.read) (λ k y get. let z = lefts.has k y get in (z.1, z.2));
          };
          more = knows_on before built.here lefts.now more grows;
          longer = omega (arith, old_le, le);
          present = grows.grows _ _ in_right;
          under = omega (arith, under, le);
          inner = placed_later here lefts.now new.at new.at all placed (omega arith) lefts.more are;
        }

    module _ (in_body : Has built.here.entries (Here e.clock.steps b) (In_values presence)) where
      here : Has built.here.entries (Here e.clock.steps s) (In_values presence)
      here = to_right built.here.entries (λ z. Here e.clock.steps z) (In_values presence) in_right

      expands : (middle : Progress) → KnowsMore built.here middle → mid.at ≤ middle.at → IsExpanded g start middle new all placed callee called outputs →
          IsNextBuilt g b base start before new (variables ++ e.left) (registers ++ outputs) e presence all placed
      expands middle first le x =
          let inside : KnowsMore built.here x.here = knows_on built.here middle x.here first x.more in
          closes x.here (omega (arith, le, x.longer)) inside x.bodies
          (lefts_named start x.here new (In_values presence) outputs x.leads (inside.grows _ _ in_body) (inside.grows _ _ here) x.outputs_are)

      goes_down : (m : AreEmitted g start built.here mid then args e.clock.steps s inputs) → ((begun : IsBuilt g called presence start then (names callee.inputs) inputs) → IsExpanded g start begun.here new all placed callee called outputs) →
          IsBegun start m.after then presence inputs → IsNextBuilt g b base start before new (variables ++ e.left) (registers ++ outputs) e presence all placed
      goes_down m builds begun =
          let at : begun.built.here.at ≡ then.at = begun.built.leads.at in
          expands begun.built.here (knows_on built.here m.after begun.built.here m.more begun.more) (omega (arith, m.longer, at)) (builds begun.built)

      emitted : IsBuildable core depth callee → length args ≡ length callee.inputs → AreEmitted g start built.here mid then args e.clock.steps s inputs →
          ((begun : IsBuilt g called presence start then (names callee.inputs) inputs) → IsExpanded g start begun.here new all placed callee called outputs) →
          IsNextBuilt g b base start before new (variables ++ e.left) (registers ++ outputs) e presence all placed
      emitted buildable enough m builds = goes_down m builds (begins start m.after then presence inputs buildable enough (omega (arith, under, m.longer)) m.leads (m.more.grows _ _ here) m.has)

  module _ (base : ℕ) (variables : List Name) (registers presences inputs outputs : List ℕ) (mid then new : Draft) (presence : ℕ) (all : List Body) (placed : List PlacedBody) (start before : Progress) where
    right_registers : (built : IsBuilt g b base start mid variables registers) → HaveRegisters built.here.entries s variables registers mid.at
    right_registers built k x get =
        let y = built.read k x get in
        (to_right built.here.entries (λ z. Named x z) (In_values (slice_index registers k)) y.0, y.1)

    present : IsBuildable core depth callee → length registers ≡ length variables → presence ≡ slice_index presences (length e.clock.steps) → length args ≡ length callee.inputs → EmitsArguments core.types variables registers mid then args inputs →
        ((begun : IsBuilt g called presence start then (names callee.inputs) inputs) → IsExpanded g start begun.here new all placed callee called outputs) → ArePresent g b base start before mid variables registers e.clock.steps presences →
        IsNextBuilt g b base start before new (variables ++ e.left) (registers ++ outputs) e presence all placed
    present buildable many is enough emits builds p =
        let last : length e.clock.steps < length presences = omega (arith, p.as_many) in
        let in_body : Has p.built.here.entries (Here e.clock.steps b) (In_values presence) = whole p.built.here.entries b e.clock.steps presences presence is (p.present.body (length e.clock.steps) last) in
        let in_right : Has p.built.here.entries (Here e.clock.steps (inside_of b)) (In_values presence) = whole p.built.here.entries (inside_of b) e.clock.steps presences presence is (p.present.right (length e.clock.steps) last) in
        let under : presence < mid.at = subst (λ (r : ℕ). r < mid.at) (sym is) (p.present.within (length e.clock.steps) last) in
        emitted base variables registers inputs outputs mid then new presence all placed start before p.built many p.more p.longer under in_right in_body buildable enough
        (emits g e.clock.steps s (In_values presence) start p.built.here ground.ground.types p.built.leads (to_right p.built.here.entries (λ z. Here e.clock.steps z) (In_values presence) in_right) (right_registers p.built)) builds

module _ (core : Core) (depth : ℕ) (variables : List Name) (next base : ℕ) (e : CoreEquation) (args : List Expr) (callee : CoreNode) (registers presences inputs outputs : List ℕ) (old mid then new : Draft) (presence : ℕ) (placed : List PlacedBody) where
  pub calls_build : IsBuildable core depth callee → length registers ≡ length variables → BuildsPresences core.types variables e.clock.steps base registers old mid presences → presence ≡ slice_index presences (length e.clock.steps) →
      EmitsArguments core.types variables registers mid then args inputs → length args ≡ length callee.inputs → BuildsBodies core depth callee next presence inputs then new placed outputs →
      BuildsCall core depth variables next base e args callee registers old (registers ++ outputs) new presence placed
  calls_build buildable many presents is emits enough builds g node b start ground built =
      present core depth next g node b e args callee ground base variables registers presences inputs outputs mid then new presence (bodies core depth callee (call_scope b e args callee)) placed start built.here
      buildable many is enough emits
      (λ begun. builds g (call_scope b e args callee) start ground.ground refl (quiet_called core depth next g node b e args callee ground) ground.cells ground.called begun)
      (presents g node b start ground.ground.types ground.body ground.clock built)

  pub calls_keep : (next_after : ℕ) → KeepsPresences base registers old mid presences → length presences ≡ suc (length e.clock.steps) → presence ≡ slice_index presences (length e.clock.steps) → KeepsArguments registers mid then inputs →
      KeepsBodies next_after presence inputs then new placed outputs → KeepsNext 0 next_after base registers old (registers ++ outputs) new presence placed
  calls_keep next_after of_clock enough is of_arguments of_bodies cells none le some below all =
      let x = of_clock cells some below all in
      let y = of_arguments cells (λ k d lt. omega (arith, below k d lt, x.1)) x.0 in
      let under : presence < mid.at = subst (λ (r : ℕ). r < mid.at) (sym is) (x.2 (length e.clock.steps) 0 (omega (arith, enough))) in
      let z = of_bodies cells le (omega (arith, under, y.1)) y.2 y.0 in
      let longer : old.at ≤ new.at = omega (arith, x.1, y.1, z.1) in
      (z.0, longer, All-append (λ q. q < new.at) registers outputs (λ k d lt. omega (arith, below k d lt, longer)) z.3, omega (arith, under, y.1, z.1), z.2)
