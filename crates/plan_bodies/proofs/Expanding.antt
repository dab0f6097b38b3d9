-- A node's body and those of what it calls, from its equations.
use Rattle.std.proofs.Common.{◌≡◌, ℕ, zero, suc, ◌+◌, ◌-◌, ◌<◌, ◌≤◌, true, List, [], ◌∷◌, ◌++◌, length, map, All, Contains, Some, refl, sym, subst, ap, ◌∙◌, arith}
use Rattle.std.specs.Prelude.{slice_get, slice_index}
use Rattle.std.specs.List.{flat_map}
use Rattle.std.proofs.lemmas.List.{length-append}
use Rattle.std.proofs.lemmas.List.Elements.{All-cons, All-nil}
use Rattle.std.proofs.lemmas.List.Sums.{sum_by-cons}
use Rattle.std.proofs.lemmas.Option.{get_or_from_slice_get, slice_get_within}
use Rattle.hept_ast.specs.Texts.{Name, is_in, names, place_in}
use Rattle.hept_ast.specs.Scopes.{Scope}
use Rattle.hept_ast.specs.declared.tree.Core.{Core}
use Rattle.hept_ast.specs.declared.tree.CoreNode.{CoreNode}
use Rattle.hept_ast.specs.declared.tree.CoreEquation.{CoreEquation}
use Rattle.hept_ast.specs.declared.tree.Decl.{Decl}
use Rattle.hept_ast.specs.declared.tree.Expr.{Expr}
use Rattle.hept_ast.specs.declared.tree.Form.{out-Form}
use Rattle.hept_ast.specs.declared.tree.TypeDec.{TypeDec}
use Rattle.step_plans.specs.Operations.{In_values}
use Rattle.step_plans.specs.Plans.{Entry, Ground, Has}
use Rattle.step_plans.specs.Things.{Memory, Named}
use Rattle.plan_expressions.specs.Building.{HaveRegisters}
use Rattle.plan_expressions.specs.declared.draft.Draft.{Draft}
use Rattle.plan_expressions.proofs.PlacesOf.{named_at, within_names}
use Rattle.plan_equations.specs.Grounds.{Body, HasBody, bodies, body_memories, equation_memories, memories_of, right_scope}
use Rattle.plan_equations.specs.Rights.{HasCells, right_cells}
use Rattle.plan_bodies.specs.Buildable.{IsBuildable, IsBuildableAlone, IsCallOf, variables_of}
use Rattle.plan_bodies.specs.Expansions.{BuildsBodies, CountsCells, IsExpanded, IsPlacedWithin, IsWhole, KeepsBodies}
use Rattle.plan_bodies.specs.Valued.{BuildsValues, CountsValues, KeepsValues, bodies_memories, cells_of, inner_bodies}
use Rattle.plan_bodies.specs.declared.bodies.PlacedBody.{PlacedBody}
use Rattle.plan_bodies.proofs.Counted.{as_many_memories}

-- ---- depth

one_less : (d : ℕ) → d ≡ suc d - 1
one_less d = omega arith

pub some_depth : (core : Core) (depth : ℕ) (node : CoreNode) → IsBuildable core depth node → 1 ≤ depth
unfolding IsBuildable
some_depth core zero node h = absurd h
some_depth core (suc d) node h = omega arith

pub alone : (core : Core) (depth : ℕ) (node : CoreNode) → IsBuildable core depth node → IsBuildableAlone core node
unfolding IsBuildable
alone core zero node h = absurd h
alone core (suc d) node h = h.0

pub callees : (core : Core) (depth : ℕ) (node : CoreNode) → IsBuildable core depth node → (e : CoreEquation) (args : List Expr) (callee : CoreNode) → Contains node.equations e → IsCallOf core e args callee → IsBuildable core (depth - 1) callee
unfolding IsBuildable
callees core zero node h e args callee there is = absurd h
callees core (suc d) node h e args callee there is = subst (λ (n : ℕ). IsBuildable core n callee) (one_less d) (h.1 e args callee there is)

abbrev pub body_at : CoreNode → Scope → Body
body_at node b = record { node = node; scope = b }

pub bodies_are : (core : Core) (depth : ℕ) (node : CoreNode) (b : Scope) → 1 ≤ depth → bodies core depth node b ≡ body_at node b ∷ inner_bodies core (depth - 1) b node.equations
unfolding bodies
bodies_are core zero node b h = absurd (omega (arith, h))
bodies_are core (suc d) node b h = ap (λ (n : ℕ). body_at node b ∷ inner_bodies core n b node.equations) (one_less d)

-- ---- cells

cells_first : (g : Ground) (cell : ℕ) (own rest : List Memory) → HasCells g cell (own ++ rest) → HasCells g cell own
cells_first g cell [] rest h = tt
cells_first g cell (m ∷ own) rest h = (h.0, cells_first g (suc cell) own rest h.1)

cells_rest : (g : Ground) (cell : ℕ) (own rest : List Memory) → HasCells g cell (own ++ rest) → HasCells g (cell + length own) rest
cells_rest g cell [] rest h =
    let same : cell ≡ cell + 0 = omega arith in
    subst (λ (n : ℕ). HasCells g n rest) same h
cells_rest g cell (m ∷ own) rest h =
    let next : suc cell + length own ≡ cell + suc (length own) = omega arith in
    subst (λ (n : ℕ). HasCells g n rest) next (cells_rest g (suc cell) own rest h.1)

own_cells : (types : List TypeDec) (b : Scope) (es : List CoreEquation) → length (memories_of types b es) ≡ cells_of es
own_cells types b [] = refl
own_cells types b (e ∷ es) =
    let sum : cells_of (e ∷ es) ≡ right_cells (out-Form e.right.form) + cells_of es = sum_by-cons _ e es in
    omega (arith, length-append (equation_memories types b e) (memories_of types b es), as_many_memories types (out-Form e.right.form) e.clock.steps (right_scope b e), own_cells types b es, sum)

pub counts_cells : (core : Core) (depth : ℕ) (node : CoreNode) (cell first next : ℕ) → IsBuildable core depth node → first ≡ cell + cells_of node.equations → CountsValues core (depth - 1) node.equations first next → CountsCells core depth node cell next
counts_cells core depth node cell first next buildable cells counts b =
    let own : List Memory = memories_of core.types b node.equations in
    let rest : List Memory = bodies_memories core (inner_bodies core (depth - 1) b node.equations) in
    let all_are = bodies_are core depth node b (some_depth core depth node buildable) in
    let sum : length (flat_map (body_memories core.types) (bodies core depth node b)) ≡ length own + length rest = ap (λ (all : List Body). length (flat_map (body_memories core.types) all)) all_are ∙ length-append own rest in
    omega (arith, sum, own_cells core.types b node.equations, cells, counts b)

-- ---- outputs

-- the values that the outputs are
abbrev pub outputs_at : (variables : List Name) → (registers : List ℕ) → List Decl → List ℕ
outputs_at variables registers outputs = map (λ d. slice_index registers (place_in d.name variables)) outputs

output_at : (variables : List Name) (registers : List ℕ) (outputs : List Decl) (k : ℕ) (x : Name) → slice_get (names outputs) k ≡ Some x → slice_index (outputs_at variables registers outputs) k ≡ slice_index registers (place_in x variables)
output_at variables registers [] k x e = absurd (cc)
output_at variables registers (d ∷ ds) zero x e = let same : d.name ≡ x = cc in ap (λ (y : Name). slice_index registers (place_in y variables)) same
output_at variables registers (d ∷ ds) (suc k) x e = output_at variables registers ds k x e

in_all : (P : Name → Type 0) (xs : List Name) (k : ℕ) (x : Name) → All P xs → slice_get xs k ≡ Some x → P x
in_all P xs k x all e = subst P (get_or_from_slice_get xs k x x e) (all k x (slice_get_within xs k x e))

have_outputs : (entries : List Entry) (s : Scope) (variables : List Name) (registers : List ℕ) (at : ℕ) (outputs : List Decl) → HaveRegisters entries s variables registers at → All (λ y. is_in y variables ≡ true) (names outputs) →
    HaveRegisters entries s (names outputs) (outputs_at variables registers outputs) at
have_outputs entries s variables registers at outputs have among k x e =
    let h = have (place_in x variables) x (named_at x variables (in_all (λ y. is_in y variables ≡ true) (names outputs) k x among e)) in
    subst (λ (q : ℕ). Has entries (Named x s) (In_values q) × (q < at)) (sym (output_at variables registers outputs k x e)) h

outputs_within : (variables : List Name) (registers : List ℕ) (at : ℕ) (outputs : List Decl) → length registers ≡ length variables → All (λ q. q < at) registers → All (λ x. is_in x variables ≡ true) (names outputs) →
    All (λ r. r < at) (outputs_at variables registers outputs)
outputs_within variables registers at [] many below among = All-nil (λ r. r < at)
outputs_within variables registers at (d ∷ ds) many below among =
    let here : is_in d.name variables ≡ true = among 0 d.name (omega arith) in
    All-cons (λ r. r < at) (slice_index registers (place_in d.name variables)) (outputs_at variables registers ds) (below (place_in d.name variables) 0 (omega (arith, within_names d.name variables here, many)))
    (outputs_within variables registers at ds many below (λ k x lt. among (suc k) x (omega (arith, lt))))

-- outputs that were read from slices
pub outputs_of : (node : CoreNode) (variables : List Name) (registers given : List ℕ) (ds : List Decl) (values : List ℕ) → variables ≡ variables_of node → registers ≡ given → ds ≡ node.outputs → values ≡ outputs_at variables registers ds →
    values ≡ outputs_at (variables_of node) given node.outputs
outputs_of node variables registers given ds values v r d is =
    is ∙ ap (λ (xs : List Name). outputs_at xs registers ds) v ∙ ap (λ (rs : List ℕ). outputs_at (variables_of node) rs ds) r ∙ ap (λ (es : List Decl). outputs_at (variables_of node) given es) d

pub among_variables : (node : CoreNode) (variables : List Name) (ds : List Decl) → variables ≡ variables_of node → ds ≡ node.outputs → All (λ x. is_in x (variables_of node) ≡ true) (names node.outputs) → All (λ x. is_in x variables ≡ true) (names ds)
among_variables node variables ds v d h =
    subst (λ (es : List Decl). All (λ x. is_in x variables ≡ true) (names es)) (sym d) (subst (λ (xs : List Name). All (λ x. is_in x xs ≡ true) (names node.outputs)) (sym v) h)

-- ---- bodies

-- one body, and then others
pub one_then : {X : Type 0} (none one all inner : List X) (p : X) → none ≡ [] → one ≡ none ++ p ∷ [] → all ≡ one ++ inner → all ≡ p ∷ inner
one_then {X} none one all inner p h i j = j ∙ ap (λ (xs : List X). xs ++ inner) (i ∙ ap (λ (xs : List X). xs ++ p ∷ []) h)

module _ (core : Core) (depth : ℕ) (node : CoreNode) (base : ℕ) (inputs : List ℕ) (old new : Draft) (p : PlacedBody) (inner placed : List PlacedBody) (outputs : List ℕ) where
  pub builds_bodies : (cell first : ℕ) → IsBuildable core depth node → first ≡ cell + cells_of node.equations → p.node.now ≡ node → placed ≡ p ∷ inner → outputs ≡ outputs_at (variables_of node) p.registers.items node.outputs →
      BuildsValues core (depth - 1) node cell first base inputs old p.registers.items new p.presences.items inner → BuildsBodies core depth node cell base inputs old new placed outputs
  builds_bodies cell first buildable cells is placed_are outputs_are builds g b start ground body quiet has have from =
      let own : List Memory = memories_of core.types b node.equations in
      let called : List Body = inner_bodies core (depth - 1) b node.equations in
      let rest : List Memory = bodies_memories core called in
      let all_are : bodies core depth node b ≡ body_at node b ∷ called = bodies_are core depth node b (some_depth core depth node buildable) in
      let by_itself : IsBuildableAlone core node = alone core depth node buildable in
      let memories : HasCells g cell (own ++ rest) = subst (λ (all : List Body). HasCells g cell (flat_map (body_memories core.types) all)) all_are has in
      let each : All (HasBody g) (body_at node b ∷ called) = subst (λ (all : List Body). All (HasBody g) all) all_are have in
      let of_body : HasBody g (body_at node b) = each 0 (body_at node b) (omega arith) in
      let at_first : cell + length own ≡ first = omega (arith, own_cells core.types b node.equations, cells) in
      let v = builds g b start (record {
        ground = ground;
        body = body;
        quiet = quiet;
        of_body = of_body;
        equations = by_itself.grounded g b body of_body;
        cells = cells_first g cell own rest memories;
        called_cells = subst (λ (n : ℕ). HasCells g n rest) at_first (cells_rest g cell own rest memories);
        called = λ k d lt. each (suc k) d (omega (arith, lt));
      }) from in
      subst (λ (all : List Body). IsExpanded g start from.here new all placed node b outputs) (sym all_are)
      (subst (λ (ps : List PlacedBody). IsExpanded g start from.here new (body_at node b ∷ called) ps node b outputs) (sym placed_are)
      (subst (λ (os : List ℕ). IsExpanded g start from.here new (body_at node b ∷ called) (p ∷ inner) node b os) (sym outputs_are)
      (record {
        here = v.built.here;
        leads = v.built.leads;
        more = v.more;
        longer = v.longer;
        bodies = (record { node = is; values = v.built.values; read = v.built.read; present = v.present }, v.inner);
        outputs_are = have_outputs v.built.here.entries b (variables_of node) p.registers.items new.at node.outputs v.built.values by_itself.outputs;
      })))

  pub keeps_bodies : (next : ℕ) → IsBuildable core depth node → length p.registers.items ≡ length (variables_of node) → placed ≡ p ∷ inner → outputs ≡ outputs_at (variables_of node) p.registers.items node.outputs →
      KeepsValues next base inputs old p.registers.items new p.presences.items inner → KeepsBodies next base inputs old new placed outputs
  keeps_bodies next buildable many placed_are outputs_are keeps cells le below have all =
      let h = keeps cells le below have all in (
        h.0,
        h.1,
        subst (λ (ps : List PlacedBody). All (IsPlacedWithin new.at) ps) (sym placed_are) (All-cons (IsPlacedWithin new.at) p inner (record { registers = h.2; presences = h.3 }) h.4),
        subst (λ (os : List ℕ). All (λ q. q < new.at) os) (sym outputs_are) (outputs_within (variables_of node) p.registers.items new.at node.outputs many h.2 (alone core depth node buildable).outputs),
      )

pub whole_bodies : (core : Core) (depth : ℕ) (p : PlacedBody) (inner placed : List PlacedBody) → IsBuildable core depth p.node.now → p.variables ≡ variables_of p.node.now → length p.registers.items ≡ length p.variables → length p.presences.items ≡ length p.node.now.equations → placed ≡ p ∷ inner →
    All (IsWhole core) inner → All (IsWhole core) placed
whole_bodies core depth p inner placed buildable variables registers presences placed_are rest =
    subst (λ (ps : List PlacedBody). All (IsWhole core) ps) (sym placed_are)
    (All-cons (IsWhole core) p inner (record { buildable = alone core depth p.node.now buildable; variables = variables; registers = registers; presences = presences }) rest)
