-- The values of a body's variables, equation by equation, and what its calls give.
use Rattle.std.proofs.Common.{◌≡◌, inl, inr, ℕ, ◌+◌, ◌<◌, ◌≤◌, List, [], ◌∷◌, ◌++◌, length, take, drop, get_or, All, Some, refl, sym, subst, ap, ◌∙◌, arith}
use Rattle.std.specs.Prelude.{Contains, slice_get, slice_index}
use Rattle.std.specs.List.{flat_map}
use Rattle.std.proofs.Math.Seq.{get_or-append_seam}
use Rattle.std.proofs.lemmas.List.{append-nil, append_assoc, drop_all, drop_more, get_or_append_left, length-append, length-map, length_push, take_at}
use Rattle.std.proofs.lemmas.List.Concat.{flat_map-append}
use Rattle.std.proofs.lemmas.List.Elements.{All-append, All-head, All-nil, All-push, All-same, All-weaker, Contains-append_right}
use Rattle.std.proofs.lemmas.List.Sums.{sum_by-cons, sum_by_push}
use Rattle.std.proofs.lemmas.Option.{slice_get_within}
use Rattle.hept_ast.specs.Scopes.{Scope}
use Rattle.hept_ast.specs.Texts.{Name, names}
use Rattle.hept_ast.specs.declared.tree.TypeDec.{TypeDec}
use Rattle.hept_ast.specs.declared.tree.Core.{Core}
use Rattle.hept_ast.specs.declared.tree.CoreNode.{CoreNode}
use Rattle.hept_ast.specs.declared.tree.CoreEquation.{CoreEquation}
use Rattle.hept_ast.specs.declared.tree.Form.{out-Form}
use Rattle.step_plans.specs.Things.{Memory, Here}
use Rattle.step_plans.specs.Operations.{In_values}
use Rattle.step_plans.specs.Plans.{Ground, Has, Progress, top_of}
use Rattle.plan_expressions.specs.Building.{KnowsMore}
use Rattle.plan_expressions.specs.declared.draft.Draft.{Draft}
use Rattle.plan_expressions.proofs.Adding.{knows_on, knows_same}
use Rattle.plan_equations.specs.Equations.{IsBuilt, IsGroundedEquation, inside_of}
use Rattle.plan_equations.specs.Grounds.{Body, HasBody, body_memories, equation_memories, memories_of, right_scope}
use Rattle.plan_equations.specs.Rights.{HasCells, right_cells}
use Rattle.plan_equations.proofs.KeptCells.{below_later}
use Rattle.plan_bodies.specs.Buildable.{AreBuildable, one_call, one_more, variables_of}
use Rattle.plan_bodies.specs.Expansions.{ArePlaced, IsPlacedWithin, IsWhole}
use Rattle.plan_bodies.specs.Valued.{AreValued, BuildsNext, BuildsValues, CountsNext, CountsValues, IsGroundedBody, IsGroundedNext, IsNext, calls, defines, IsNextBuilt, KeepsNext, KeepsValues, bodies_memories, called_in, cells_of, inner_bodies}
use Rattle.plan_bodies.specs.declared.bodies.PlacedBody.{PlacedBody}
use Rattle.plan_bodies.proofs.Counted.{as_many_memories}
use Rattle.plan_bodies.proofs.Splitting.{all_left, all_right, cells_left, cells_right, flat_around, flat_push, last_or_before, placed_both, placed_later}

abbrev lefts : List CoreEquation → List Name
lefts es = flat_map (λ e. e.left) es

-- these equations are left: the variables before them have values, and these are the numbers of their first cell and of the first cell of what they call
pub record IsValued (core : Core) (depth : ℕ) (node : CoreNode) (base cell first : ℕ) (old_registers : List ℕ) (old : Draft) (left : List CoreEquation) (own next : ℕ) (registers : List ℕ) (new : Draft) (presences : List ℕ) (inner : List PlacedBody) : Type 0 where
  pub known : List Name
  pub done : List CoreEquation
  pub variables : known ++ lefts left ≡ variables_of node
  pub all : done ++ left ≡ node.equations
  pub own_at : own ≡ cell + cells_of done
  pub own_left : own + cells_of left ≡ first
  pub counts : CountsValues core depth done first next
  pub many : length registers ≡ length known
  pub placed : length presences ≡ length done
  pub buildable : AreBuildable core node known left
  pub whole : All (IsWhole core) inner
  pub builds : (g : Ground) (b : Scope) (start : Progress) → IsGroundedBody core depth g node b cell first → (built : IsBuilt g b base start old (names node.inputs) old_registers) →
      AreValued g b base start built.here new known registers done presences (inner_bodies core depth b done) inner
  pub keeps : KeepsValues next base old_registers old registers new presences inner

-- ---- at the start no equation is done

pub none_valued : (core : Core) (depth : ℕ) (node : CoreNode) (base cell first : ℕ) (registers : List ℕ) (draft : Draft) (presences : List ℕ) (inner : List PlacedBody) → length registers ≡ length node.inputs → AreBuildable core node (names node.inputs) node.equations →
    first ≡ cell + cells_of node.equations → presences ≡ [] → inner ≡ [] → IsValued core depth node base cell first registers draft node.equations cell first registers draft presences inner
none_valued core depth node base cell first registers draft presences inner many buildable at none nobody =
    let count : length (names node.inputs) ≡ length node.inputs = length-map node.inputs (λ d. d.name) in
    record {
      known = names node.inputs;
      done = [];
      variables = refl;
      all = refl;
      own_at = omega arith;
      own_left = sym at;
      counts = λ b. omega arith;
      many = many ∙ sym count;
      placed = ap length none;
      buildable = buildable;
      whole = All-same (IsWhole core) inner [] nobody (All-nil (IsWhole core));
      builds = λ g b start ground built. record {
        built = built;
        more = knows_same built.here;
        longer = omega (arith, built.leads.at);
        present = λ k e get. absurd (cc);
        inner = subst (ArePlaced built.here.entries draft.at []) (sym nobody) tt;
      };
      keeps = λ cells room some below within. (
        within,
        omega arith,
        below,
        All-same (λ q. q < draft.at) presences [] none (All-nil (λ q. q < draft.at)),
        All-same (IsPlacedWithin draft.at) inner [] nobody (All-nil (IsPlacedWithin draft.at)),
      );
    }

-- ---- what the ground has for the next equation

as_many_cells : (types : List TypeDec) (b : Scope) (es : List CoreEquation) → length (memories_of types b es) ≡ cells_of es
as_many_cells types b [] = refl
as_many_cells types b (e ∷ es) =
    let here : length (equation_memories types b e) ≡ right_cells (out-Form e.right.form) = as_many_memories types (out-Form e.right.form) e.clock.steps (right_scope b e) in
    let rest : length (memories_of types b es) ≡ cells_of es = as_many_cells types b es in
    length-append (equation_memories types b e) (memories_of types b es) ∙ (ap (λ (n : ℕ). n + length (memories_of types b es)) here ∙ (ap (λ (n : ℕ). right_cells (out-Form e.right.form) + n) rest
    ∙ sym (sum_by-cons (λ (d : CoreEquation). right_cells (out-Form d.right.form)) e es)))

-- the bodies of what these equations call, and their cells, around one of them
bodies_around : (core : Core) (depth : ℕ) (b : Scope) (done : List CoreEquation) (e : CoreEquation) (es all : List CoreEquation) → done ++ e ∷ es ≡ all →
    bodies_memories core (inner_bodies core depth b done) ++ (bodies_memories core (called_in core depth b e) ++ bodies_memories core (inner_bodies core depth b es)) ≡ bodies_memories core (inner_bodies core depth b all)
bodies_around core depth b done e es all same =
    let f = body_memories core.types in
    let x : List Body = inner_bodies core depth b done in
    let y : List Body = called_in core depth b e in
    let z : List Body = inner_bodies core depth b es in
    let whole : x ++ (y ++ z) ≡ inner_bodies core depth b all = flat_around (called_in core depth b) done e es all same in
    ap (λ (ms : List Memory). flat_map f x ++ ms) (sym (flat_map-append f y z)) ∙ (sym (flat_map-append f x (y ++ z)) ∙ ap (flat_map f) whole)

ground_next : (core : Core) (depth : ℕ) (g : Ground) (node : CoreNode) (b : Scope) (cell first own next : ℕ) (done : List CoreEquation) (e : CoreEquation) (es : List CoreEquation) → done ++ e ∷ es ≡ node.equations → own ≡ cell + cells_of done →
    CountsValues core depth done first next → IsGroundedBody core depth g node b cell first → IsGroundedNext core depth g node b own next e
ground_next core depth g node b cell first own next done e es all at counts ground =
    let before : List Memory = memories_of core.types b done in
    let mine : List Memory = equation_memories core.types b e in
    let after : List Memory = memories_of core.types b es in
    let row : HasCells g cell (before ++ (mine ++ after)) = subst (HasCells g cell) (sym (flat_around (equation_memories core.types b) done e es node.equations all)) ground.cells in
    let own_is : cell + length before ≡ own = omega (arith, at, as_many_cells core.types b done) in
    let called_before : List Memory = bodies_memories core (inner_bodies core depth b done) in
    let called_mine : List Memory = bodies_memories core (called_in core depth b e) in
    let called_after : List Memory = bodies_memories core (inner_bodies core depth b es) in
    let called_row : HasCells g first (called_before ++ (called_mine ++ called_after)) = subst (HasCells g first) (sym (bodies_around core depth b done e es node.equations all)) ground.called_cells in
    let next_is : first + length called_before ≡ next = sym (counts b) in
    let inner : All (HasBody g) (inner_bodies core depth b done ++ (called_in core depth b e ++ inner_bodies core depth b es)) =
    subst (All (HasBody g)) (sym (flat_around (called_in core depth b) done e es node.equations all)) ground.called in
    record {
      ground = ground.ground;
      body = ground.body;
      quiet = ground.quiet;
      of_body = ground.of_body;
      there = subst (λ (ds : List CoreEquation). Contains ds e) all (Contains-append_right done (e ∷ es) e (0, omega arith, refl));
      equation = All-head (IsGroundedEquation g node b) e es (all_right (IsGroundedEquation g node b) done (e ∷ es) (subst (All (IsGroundedEquation g node b)) (sym all) ground.equations));
      cells = cells_left g own mine after (subst (λ (n : ℕ). HasCells g n (mine ++ after)) own_is (cells_right g cell before (mine ++ after) row));
      called_cells = cells_left g next called_mine called_after (subst (λ (n : ℕ). HasCells g n (called_mine ++ called_after)) next_is (cells_right g first called_before (called_mine ++ called_after) called_row));
      called = all_left (HasBody g) (called_in core depth b e) (inner_bodies core depth b es) (all_right (HasBody g) (inner_bodies core depth b done) (called_in core depth b e ++ inner_bodies core depth b es) inner);
    }

-- ---- one equation more

-- the equations done, with one more, have presences
present_more : (b : Scope) (done : List CoreEquation) (e : CoreEquation) (presences : List ℕ) (presence at later : ℕ) (before after : Progress) → length presences ≡ length done → at ≤ later → KnowsMore before after →
    ((k : ℕ) (d : CoreEquation) → slice_get done k ≡ Some d → Has before.entries (Here d.clock.steps (inside_of b)) (In_values (slice_index presences k)) × (slice_index presences k < at)) →
    Has after.entries (Here e.clock.steps (inside_of b)) (In_values presence) → presence < later →
    (k : ℕ) (d : CoreEquation) → slice_get (done ++ e ∷ []) k ≡ Some d → Has after.entries (Here d.clock.steps (inside_of b)) (In_values (slice_index (presences ++ presence ∷ []) k)) × (slice_index (presences ++ presence ∷ []) k < later)
present_more b done e presences presence at later before after many le more placed here lt k d get =
    elim (last_or_before done e d k get) [
      | inl a ↦
          let within : k < length done = slice_get_within done k d a in
          let same : slice_index (presences ++ presence ∷ []) k ≡ slice_index presences k = get_or_append_left presences (presence ∷ []) 0 k (omega arith) in
          let h = placed k d a in
          subst (λ (q : ℕ). Has after.entries (Here d.clock.steps (inside_of b)) (In_values q) × (q < later)) (sym same) (more.grows _ _ h.0, omega (arith, h.1))
      | inr z ↦
          let at_end : k ≡ length presences = z.0 ∙ sym many in
          let same : slice_index (presences ++ presence ∷ []) k ≡ presence = ap (slice_index (presences ++ presence ∷ [])) at_end ∙ get_or-append_seam presences presence [] 0 in
          subst (λ (y : CoreEquation). Has after.entries (Here y.clock.steps (inside_of b)) (In_values (slice_index (presences ++ presence ∷ []) k)) × (slice_index (presences ++ presence ∷ []) k < later)) (sym z.1)
          (subst (λ (q : ℕ). Has after.entries (Here e.clock.steps (inside_of b)) (In_values q) × (q < later)) (sym same) (here, lt))
    ]

-- the next of the equations that are left, and those after it
record IsFirst (core : Core) (node : CoreNode) (known : List Name) (e : CoreEquation) (es : List CoreEquation) : Type 0 where
  next : IsNext core node known e
  rest : AreBuildable core node (known ++ e.left) es

first_of : (core : Core) (node : CoreNode) (known : List Name) (e : CoreEquation) (es : List CoreEquation) → AreBuildable core node known (e ∷ es) → IsFirst core node known e es
first_of core node known e es (one_more x found among right rest) = record {
  next = defines x found among right;
  rest = subst (λ (xs : List Name). AreBuildable core node (known ++ xs) es) (sym found.left) rest;
}
first_of core node known e es (one_call args callee call among callable rest) = record { next = calls args callee call among callable; rest = rest }

-- what is there is there later
within_later : (at later : ℕ) (p : PlacedBody) → at ≤ later → IsPlacedWithin at p → IsPlacedWithin later p
within_later at later p le h = record { registers = below_later p.registers.items at later le h.registers; presences = below_later p.presences.items at later le h.presences }

module _ (core : Core) (depth : ℕ) (node : CoreNode) (base cell first : ℕ) (old_registers : List ℕ) (old : Draft) (e : CoreEquation) (es : List CoreEquation) (own next : ℕ) (registers : List ℕ) (mid : Draft) (presences : List ℕ) (inner : List PlacedBody)
    (v : IsValued core depth node base cell first old_registers old (e ∷ es) own next registers mid presences inner) where
  step : (after : ℕ) (more : List ℕ) (new : Draft) (presence : ℕ) (placed : List PlacedBody) → BuildsNext core depth v.known own next base e registers mid more new presence placed → length more ≡ length registers + length e.left → CountsNext core depth e next after →
      All (IsWhole core) placed → KeepsNext (own + right_cells (out-Form e.right.form)) after base registers mid more new presence placed →
      IsValued core depth node base cell first old_registers old es (own + right_cells (out-Form e.right.form)) after more new (presences ++ presence ∷ []) (inner ++ placed)
  step after more new presence placed builds longer counted whole keeps =
      let one : IsFirst core node v.known e es = first_of core node v.known e es v.buildable in
      let mine : ℕ = right_cells (out-Form e.right.form) in
      let cells_here : cells_of (e ∷ es) ≡ mine + cells_of es = sum_by-cons (λ (d : CoreEquation). right_cells (out-Form d.right.form)) e es in
      let cells_done : cells_of (v.done ++ e ∷ []) ≡ cells_of v.done + mine = sum_by_push (λ (d : CoreEquation). right_cells (out-Form d.right.form)) v.done e in
      let far : first ≤ next = omega (arith, v.counts (top_of node)) in
      let on : next ≤ after = omega (arith, counted (top_of node)) in
      record {
        known = v.known ++ e.left;
        done = v.done ++ e ∷ [];
        variables = append_assoc v.known e.left (lefts es) ∙ v.variables;
        all = append_assoc v.done (e ∷ []) es ∙ v.all;
        own_at = omega (arith, v.own_at, cells_done);
        own_left = omega (arith, v.own_left, cells_here);
        counts = λ b.
            let both : bodies_memories core (inner_bodies core depth b (v.done ++ e ∷ [])) ≡ bodies_memories core (inner_bodies core depth b v.done) ++ bodies_memories core (called_in core depth b e) =
            ap (bodies_memories core) (flat_push (called_in core depth b) v.done e) ∙ flat_map-append (body_memories core.types) (inner_bodies core depth b v.done) (called_in core depth b e) in
            omega (arith, v.counts b, counted b, ap length both, length-append (bodies_memories core (inner_bodies core depth b v.done)) (bodies_memories core (called_in core depth b e)));
        many = omega (arith, longer, v.many, length-append v.known e.left);
        placed = omega (arith, v.placed, length_push v.done e, length_push presences presence);
        buildable = one.rest;
        whole = All-append (IsWhole core) inner placed v.whole whole;
        builds = λ g b start ground built.
            let x : AreValued g b base start built.here mid v.known registers v.done presences (inner_bodies core depth b v.done) inner = v.builds g b start ground built in
            let y : IsNextBuilt g b base start x.built.here new (v.known ++ e.left) more e presence (called_in core depth b e) placed =
            builds g node b start one.next (ground_next core depth g node b cell first own next v.done e es v.all v.own_at v.counts ground) x.built in
            let le : mid.at ≤ new.at = omega (arith, y.longer, x.built.leads.at) in
            record {
              built = y.built;
              more = knows_on built.here x.built.here y.built.here x.more y.more;
              longer = omega (arith, x.longer, le);
              present = present_more b v.done e presences presence mid.at new.at x.built.here y.built.here v.placed le y.more x.present y.present y.under;
              inner = subst (λ (bs : List Body). ArePlaced y.built.here.entries new.at bs (inner ++ placed)) (sym (flat_push (called_in core depth b) v.done e))
                  (placed_both y.built.here.entries new.at (inner_bodies core depth b v.done) (called_in core depth b e) inner placed (placed_later x.built.here y.built.here mid.at new.at (inner_bodies core depth b v.done) inner le y.more x.inner) y.inner);
            };
        keeps = λ cells room some below within.
            let w = v.keeps cells (omega (arith, room, on)) some below within in
            let k = keeps cells (omega (arith, room, on, far, v.own_left, cells_here)) room (omega (arith, some, w.1)) w.2 w.0 in (
              k.0,
              omega (arith, w.1, k.1),
              k.2,
              All-push (λ q. q < new.at) presences presence (λ i q lt. omega (arith, w.3 i q lt, k.1)) k.3,
              All-append (IsPlacedWithin new.at) inner placed (All-weaker (IsPlacedWithin mid.at) (IsPlacedWithin new.at) (λ p h. within_later mid.at new.at p (omega (arith, k.1)) h) inner w.4) k.4,
            );
      }

-- ---- the equations of a node from one on

known_names : (core : Core) (depth : ℕ) (node : CoreNode) (base cell first : ℕ) (old_registers : List ℕ) (old : Draft) (left : List CoreEquation) (own next : ℕ) (registers : List ℕ) (mid : Draft) (presences : List ℕ) (inner : List PlacedBody) (variables : List Name) → variables ≡ variables_of node →
    (v : IsValued core depth node base cell first old_registers old left own next registers mid presences inner) → take (length registers) variables ≡ v.known
known_names core depth node base cell first old_registers old left own next registers mid presences inner variables named v =
    ap (take (length registers)) (named ∙ sym v.variables) ∙ take_at v.known (lefts left) (length registers) (sym v.many)

-- the equations from this one on
from_here : (node : CoreNode) (items : List CoreEquation) (i : ℕ) (e : CoreEquation) → items ≡ node.equations → e ≡ get_or items i e → i < length items → drop i node.equations ≡ e ∷ drop (i + 1) node.equations
from_here node items i e same is below =
    subst (λ (es : List CoreEquation). drop i es ≡ e ∷ drop (i + 1) es) same (drop_more items i e below ∙ ap (λ (d : CoreEquation). d ∷ drop (i + 1) items) (sym is))

module _ (core : Core) (depth : ℕ) (node : CoreNode) (base cell first : ℕ) (old_registers : List ℕ) (old : Draft) (variables : List Name) (items : List CoreEquation) (i own next : ℕ) (registers : List ℕ) (mid : Draft) (presences : List ℕ) (inner : List PlacedBody)
    (named : variables ≡ variables_of node) (same : items ≡ node.equations) (v : IsValued core depth node base cell first old_registers old (drop i node.equations) own next registers mid presences inner) where
  module _ (e : CoreEquation) (is : e ≡ get_or items i e) (below : i < length items) where
    here : IsValued core depth node base cell first old_registers old (e ∷ drop (i + 1) node.equations) own next registers mid presences inner
    here = subst (λ (es : List CoreEquation). IsValued core depth node base cell first old_registers old es own next registers mid presences inner) (from_here node items i e same is below) v

    known_here : take (length registers) variables ≡ here.known
    known_here = known_names core depth node base cell first old_registers old (e ∷ drop (i + 1) node.equations) own next registers mid presences inner variables named here

    pub next_here : (n : ℕ) → n ≡ length registers → IsNext core node (take n variables) e
    next_here n many =
        subst (λ (xs : List Name). IsNext core node xs e) (sym (ap (λ (k : ℕ). take k variables) many ∙ known_here)) (first_of core node here.known e (drop (i + 1) node.equations) here.buildable).next

    pub many_here : (n : ℕ) → n ≡ length registers → length registers ≡ length (take n variables)
    many_here n many = here.many ∙ sym (ap length (ap (λ (k : ℕ). take k variables) many ∙ known_here))

    pub among_all : Contains node.equations e
    among_all = subst (λ (ds : List CoreEquation). Contains ds e) here.all (Contains-append_right here.done (e ∷ drop (i + 1) node.equations) e (0, omega arith, refl))

    pub room_here : own + right_cells (out-Form e.right.form) ≤ first
    room_here =
        let cells_here : cells_of (e ∷ drop (i + 1) node.equations) ≡ right_cells (out-Form e.right.form) + cells_of (drop (i + 1) node.equations) = sum_by-cons (λ (d : CoreEquation). right_cells (out-Form d.right.form)) e (drop (i + 1) node.equations) in
        omega (arith, here.own_left, cells_here)

    pub next_value : (n count after : ℕ) (more : List ℕ) (new : Draft) (presence : ℕ) (placed : List PlacedBody) → n ≡ length registers → count ≡ right_cells (out-Form e.right.form) → BuildsNext core depth (take n variables) own next base e registers mid more new presence placed →
        length more ≡ length registers + length e.left → CountsNext core depth e next after → All (IsWhole core) placed → KeepsNext (own + right_cells (out-Form e.right.form)) after base registers mid more new presence placed →
        IsValued core depth node base cell first old_registers old (drop (i + 1) node.equations) (own + count) after more new (presences ++ presence ∷ []) (inner ++ placed)
    next_value n count after more new presence placed many counts builds longer counted whole keeps =
        subst (λ (k : ℕ). IsValued core depth node base cell first old_registers old (drop (i + 1) node.equations) (own + k) after more new (presences ++ presence ∷ []) (inner ++ placed)) (sym counts)
        (step core depth node base cell first old_registers old e (drop (i + 1) node.equations) own next registers mid presences inner here after more new presence placed
        (subst (λ (xs : List Name). BuildsNext core depth xs own next base e registers mid more new presence placed) (ap (λ (k : ℕ). take k variables) many ∙ known_here) builds) longer counted whole keeps)

  -- ---- the end

  module _ (past : length items ≤ i) where
    at_end : IsValued core depth node base cell first old_registers old [] own next registers mid presences inner
    at_end = subst (λ (es : List CoreEquation). IsValued core depth node base cell first old_registers old es own next registers mid presences inner) (drop_all i node.equations (subst (λ (es : List CoreEquation). length es ≤ i) same past)) v

    all_there : at_end.known ≡ variables_of node
    all_there = sym (append-nil at_end.known) ∙ at_end.variables

    all_done : at_end.done ≡ node.equations
    all_done = sym (append-nil at_end.done) ∙ at_end.all

    pub all_built : BuildsValues core depth node cell first base old_registers old registers mid presences inner
    all_built g b start ground built =
        subst (λ (es : List CoreEquation). AreValued g b base start built.here mid (variables_of node) registers es presences (inner_bodies core depth b es) inner) all_done
        (subst (λ (xs : List Name). AreValued g b base start built.here mid xs registers at_end.done presences (inner_bodies core depth b at_end.done) inner) all_there (at_end.builds g b start ground built))

    pub all_counted : CountsValues core depth node.equations first next
    all_counted = subst (λ (es : List CoreEquation). CountsValues core depth es first next) all_done at_end.counts

    pub all_registers : length registers ≡ length variables
    all_registers = at_end.many ∙ (ap length all_there ∙ sym (ap length named))

    pub all_presences : length presences ≡ length node.equations
    all_presences = at_end.placed ∙ ap length all_done

    pub all_whole : All (IsWhole core) inner
    all_whole = at_end.whole

    pub all_kept : KeepsValues next base old_registers old registers mid presences inner
    all_kept = at_end.keeps
