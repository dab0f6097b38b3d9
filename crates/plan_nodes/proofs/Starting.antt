-- The inputs have values when an instant begins.
use Rattle.std.proofs.Common.{◌≡◌, ℕ, zero, suc, ◌+◌, ◌<◌, List, [], ◌∷◌, All, length, get_or, Some, refl, sym, subst, ◌∙◌, arith}
use Rattle.std.specs.Prelude.{slice_get, slice_index}
use Rattle.std.proofs.lemmas.Grind.{get_or_default_zero}
use Rattle.std.proofs.lemmas.List.{length-map}
use Rattle.std.proofs.lemmas.Option.{slice_get_within}
use Rattle.hept_ast.specs.Scopes.{Scope}
use Rattle.hept_ast.specs.Texts.{Name, names}
use Rattle.hept_ast.specs.declared.tree.CoreNode.{CoreNode}
use Rattle.hept_ast.specs.declared.tree.Decl.{Decl}
use Rattle.step_plans.specs.Things.{Here, Named}
use Rattle.step_plans.specs.Operations.{In_values}
use Rattle.step_plans.specs.Plans.{Ground, Entry, At, Has, newest, older, known, here_under, variable_under, MakesAll, made, also, Progress, inputs_at, start_of, top_of}
use Rattle.step_plans.specs.declared.action.Action.{Action}
use Rattle.plan_expressions.specs.Building.{HaveRegisters, KnowsMore}
use Rattle.plan_equations.specs.Equations.{IsBuilt, inside_of}
use Rattle.plan_expressions.specs.declared.draft.Draft.{Draft}
use Rattle.plan_expressions.proofs.Adding.{knows_on, knows_same}

-- an input's value
input_has : (s : Scope) (xs : List Name) (at later k : ℕ) (x : Name) → slice_get xs k ≡ Some x → Has (inputs_at s xs at later) (Named x s) (In_values (at + k))
input_has s [] at later k x h = absurd (cc)
input_has s (y ∷ xs) at later zero x h =
    let same : y ≡ x = cc in
    let here : at ≡ at + 0 = omega arith in
    subst (λ (r : ℕ). Has (inputs_at s (y ∷ xs) at later) (Named x s) (In_values r)) here
    (subst (λ (z : Name). Has (inputs_at s (y ∷ xs) at later) (Named z s) (In_values at)) same newest)
input_has s (y ∷ xs) at later (suc k) x h =
    let next : suc at + k ≡ at + suc k = omega arith in
    older (older (subst (λ (r : ℕ). Has (inputs_at s xs (suc at) (suc later)) (Named x s) (In_values r)) next (input_has s xs (suc at) (suc later) k x h)))

-- names that stand for values, from this one on
abbrev Stand : List Entry → Scope → List Name → (from at : ℕ) → Type 0
Stand entries s xs from at = (k : ℕ) (x : Name) → slice_get xs k ≡ Some x → Has entries (Named x s) (In_values (from + k)) × (from + k < at)

-- the same names under no resets
record AreSeen (g : Ground) (b : Scope) (p : Progress) (xs : List Name) (from : ℕ) : Type 0 where
  after : Progress
  makes : MakesAll g [] [] p [] after
  at : after.at ≡ p.at
  more : KnowsMore p after
  seen : Stand after.entries (inside_of b) xs from p.at

stand_next : (entries : List Entry) (s : Scope) (y : Name) (xs : List Name) (from at : ℕ) → Stand entries s (y ∷ xs) from at → Stand entries s xs (suc from) at
stand_next entries s y xs from at h k x e =
    let next : from + suc k ≡ suc from + k = omega arith in
    subst (λ (r : ℕ). Has entries (Named x s) (In_values r) × (r < at)) next (h (suc k) x e)

stand_more : (entries : List Entry) (s : Scope) (y : Name) (xs : List Name) (from at : ℕ) → Has entries (Named y s) (In_values from) → from < at → Stand entries s xs (suc from) at → Stand entries s (y ∷ xs) from at
stand_more entries s y xs from at h lt rest zero x e =
    let same : y ≡ x = cc in
    let here : from ≡ from + 0 = omega arith in
    (subst (λ (r : ℕ). Has entries (Named x s) (In_values r)) here (subst (λ (z : Name). Has entries (Named z s) (In_values from)) same h), omega (arith, lt))
stand_more entries s y xs from at h lt rest (suc k) x e =
    let next : suc from + k ≡ from + suc k = omega arith in
    subst (λ (r : ℕ). Has entries (Named x s) (In_values r) × (r < at)) next (rest k x e)

see_names : (g : Ground) (b : Scope) (p : Progress) (xs : List Name) (from : ℕ) → Stand p.entries b xs from p.at → AreSeen g b p xs from
see_names g b p [] from h = record { after = p; makes = made; at = refl; more = knows_same p; seen = λ k x e. absurd (cc) }
see_names g b p (y ∷ xs) from h =
    let first = h 0 y refl in
    let here : from + 0 ≡ from = omega arith in
    let lt : from < p.at = omega (arith, first.1) in
    let named : Has p.entries (Named y b) (In_values from) = subst (λ (r : ℕ). Has p.entries (Named y b) (In_values r)) here first.0 in
    let q : Progress = record { entries = At (Named y (inside_of b)) (In_values from) ∷ p.entries; at = p.at; later = p.later; offered = p.offered } in
    let more : KnowsMore p q = record { later = refl; grows = λ thing r x. older x } in
    let rest : AreSeen g b q xs (suc from) = see_names g b q xs (suc from) (stand_next q.entries b y xs from q.at (λ k x e. (older (h k x e).0, (h k x e).1))) in
    record {
      after = rest.after;
      makes = also (known (Named y (inside_of b)) (In_values from) lt (variable_under y b [] named)) rest.makes;
      at = rest.at;
      more = knows_on p q rest.after more rest.more;
      seen = stand_more rest.after.entries (inside_of b) y xs from p.at (rest.more.grows _ _ newest) lt rest.seen;
    }

-- the inputs' values have these numbers
abbrev pub AreInputRegisters : (count : ℕ) → List ℕ → Type 0
AreInputRegisters count registers = (k : ℕ) → k < count → slice_index registers k ≡ suc k

have_registers : (entries : List Entry) (s : Scope) (xs : List Name) (registers : List ℕ) (at : ℕ) → AreInputRegisters (length xs) registers → Stand entries s xs 1 at → HaveRegisters entries s xs registers at
have_registers entries s xs registers at are h k x e =
    let next : 1 + k ≡ slice_index registers k = (let i : 1 + k ≡ suc k = omega arith in i ∙ sym (are k (slice_get_within xs k x e))) in
    subst (λ (r : ℕ). Has entries (Named x s) (In_values r) × (r < at)) next (h k x e)

pub built_at_start : (g : Ground) (node : CoreNode) (registers : List ℕ) (draft : Draft) → AreInputRegisters (length node.inputs) registers → draft.actions.items ≡ [] → draft.at ≡ suc (length node.inputs) →
    IsBuilt g (top_of node) 0 (start_of node 0) draft (names node.inputs) registers
built_at_start g node registers draft are none at =
    let b : Scope = top_of node in
    let p : Progress = start_of node 0 in
    let many : length (names node.inputs) ≡ length node.inputs = length-map node.inputs (λ (d : Decl). d.name) in
    let numbers : AreInputRegisters (length (names node.inputs)) registers = subst (λ (n : ℕ). AreInputRegisters n registers) (sym many) are in
    let stand : Stand p.entries b (names node.inputs) 1 p.at = λ k x e.
    let within : k < length (names node.inputs) = slice_get_within (names node.inputs) k x e in
    (older (input_has b (names node.inputs) 1 0 k x e), omega (arith, within, many)) in
    let q : Progress = record { entries = At (Here [] (inside_of b)) (In_values 0) ∷ p.entries; at = p.at; later = p.later; offered = p.offered } in
    let positive : 0 < p.at = omega arith in
    let more : KnowsMore p q = record { later = refl; grows = λ thing r x. older x } in
    let rest : AreSeen g b q (names node.inputs) 1 = see_names g b q (names node.inputs) 1 (λ k x e. (older (stand k x e).0, (stand k x e).1)) in
    let all : KnowsMore p rest.after = knows_on p q rest.after more rest.more in
    let same : draft.at ≡ p.at = at in
    record {
      here = rest.after;
      leads = record {
        makes = subst (λ (actions : List Action). MakesAll g [] [] p actions rest.after) (sym none) (also (known (Here [] (inside_of b)) (In_values 0) positive (here_under [] b [] newest)) rest.makes);
        at = rest.at ∙ sym same;
      };
      below = omega (arith, at);
      body = all.grows _ _ newest;
      right = rest.more.grows _ _ newest;
      values = have_registers rest.after.entries b (names node.inputs) registers draft.at numbers (λ k x e. (all.grows _ _ (stand k x e).0, omega (arith, (stand k x e).1, same)));
      read = have_registers rest.after.entries (inside_of b) (names node.inputs) registers draft.at numbers (λ k x e. ((rest.seen k x e).0, omega (arith, (rest.seen k x e).1, same)));
    }

-- they are there when the instant begins
pub inputs_below : (registers : List ℕ) (inputs at : ℕ) → length registers ≡ inputs → AreInputRegisters inputs registers → at ≡ suc inputs → All (λ q. q < at) registers
inputs_below registers inputs at many are e k d lt =
    let within : k < inputs = omega (arith, lt, many) in
    let here : get_or registers k d ≡ suc k = get_or_default_zero registers k d lt ∙ are k within in
    omega (arith, here, within, e)
