-- The presences of a clock, from the base clock on.
use Rattle.std.proofs.Common.{◌≡◌, ℕ, zero, suc, ◌+◌, ◌<◌, ◌≤◌, true, List, [], ◌∷◌, ◌++◌, length, take, get_or, All, Some, refl, sym, subst, ap, ◌∙◌, arith}
use Rattle.std.specs.Prelude.{slice_get, slice_index}
use Rattle.std.proofs.Math.Seq.{get_or-append_seam}
use Rattle.std.proofs.lemmas.List.{length-take-le, take_all, take_more}
use Rattle.std.proofs.lemmas.List.Elements.{All-push}
use Rattle.hept_ast.specs.Texts.{Name, is_in, place_in, tag_value}
use Rattle.hept_ast.specs.Scopes.{Clock, Scope, equation_of}
use Rattle.hept_ast.specs.Meaning.{clock_of_equation}
use Rattle.hept_ast.specs.declared.tree.TypeDec.{TypeDec}
use Rattle.hept_ast.specs.declared.tree.ClockStep.{ClockStep}
use Rattle.hept_ast.specs.declared.tree.CoreNode.{CoreNode}
use Rattle.step_plans.specs.Things.{Here, Named}
use Rattle.step_plans.specs.Operations.{In_values}
use Rattle.step_plans.specs.Plans.{Ground, Entry, Has, Tests, flag, here_under}
use Rattle.step_plans.specs.declared.instruction.Instruction.TheVariants as does
use Rattle.plan_expressions.specs.Building.{IsAdded, KnowsMore}
use Rattle.plan_expressions.specs.Clocked.{Supplied}
use Rattle.plan_expressions.specs.declared.draft.Draft.{Draft}
use Rattle.plan_expressions.proofs.Adding.{adds_thing, knows_on, knows_same, means_more}
use Rattle.plan_expressions.proofs.KeptWithin.{keeps_variable}
use Rattle.plan_expressions.proofs.PlacesOf.{named_at}
use Rattle.plan_expressions.proofs.Presences.{inner_supplied, longer_by_one, supplied_later}
use Rattle.plan_expressions.proofs.Within.{added_within}
use Rattle.plan_equations.specs.Equations.{BuildsPresences, IsProperClock, no_step, one_more, KeepsPresences, inside_of}
use Rattle.plan_equations.proofs.KeptCells.{below_later}

-- ---- the last step of a clock

last_same : {A : Type 0} (xs ys : List A) (x y : A) → xs ++ x ∷ [] ≡ ys ++ y ∷ [] → (xs ≡ ys) × (x ≡ y)
last_same [] [] x y e = (refl, cc)
last_same [] (z ∷ zs) x y e = absurd (omega (arith, ap length e, longer_by_one zs y))
last_same (z ∷ zs) [] x y e = absurd (omega (arith, ap length e, longer_by_one zs x))
last_same (z ∷ zs) (w ∷ ws) x y e =
    let rest : zs ++ x ∷ [] ≡ ws ++ y ∷ [] = cc in
    let first : z ≡ w = cc in
    let h = last_same zs ws x y rest in
    (ap (λ (v : _). v ∷ zs) first ∙ ap (λ (vs : List _). w ∷ vs) h.0, h.1)

record IsLast (g : Ground) (node : CoreNode) (b : Scope) (c : Clock) (p : ClockStep) : Type 0 where
  before : IsProperClock g node b c
  place : ℕ
  tested : slice_get g.tested place ≡ Some (Tests node p.name b)
  clock : clock_of_equation (equation_of node p.name) ≡ c

last_of : (g : Ground) (node : CoreNode) (b : Scope) (d c : Clock) (p : ClockStep) → d ≡ c ++ p ∷ [] → IsProperClock g node b d → IsLast g node b c p
last_of g node b d c p e no_step = absurd (omega (arith, ap length e, longer_by_one c p))
last_of g node b d c p e (one_more {c = f} q place clock tested is) =
    let same = last_same f c q p e in
    let given : IsLast g node b f q = record { before = clock; place = place; tested = tested; clock = is } in
    subst (λ (z : Clock). IsLast g node b z p) same.0 (subst (λ (z : ClockStep). IsLast g node b f z) same.1 given)

-- ---- the base clock

base_present : (entries : List Entry) (s : Scope) (base : ℕ) → Has entries (Here [] s) (In_values base) → (k : ℕ) → k < 1 → Has entries (Here (take k []) s) (In_values (slice_index (base ∷ []) k))
base_present entries s base here zero lt = here
base_present entries s base here (suc k) lt = absurd (omega arith)

base_below : (base at k : ℕ) → base < at → k < 1 → slice_index (base ∷ []) k < at
base_below base at zero some lt = some
base_below base at (suc k) some lt = absurd (omega arith)

base_each : (base at : ℕ) → base < at → All (λ q. q < at) (base ∷ [])
base_each base at some zero d lt = some
base_each base at some (suc k) d lt = absurd (omega (arith, lt))

builds_base : (types : List TypeDec) (variables : List Name) (base : ℕ) (registers : List ℕ) (draft : Draft) → BuildsPresences types variables [] base registers draft draft (base ∷ [])
builds_base types variables base registers draft g node b start same body clock built = record {
  built = built;
  more = knows_same built.here;
  longer = omega (arith, built.leads.at);
  present = record {
    long = λ z. refl;
    body = base_present built.here.entries b base built.body;
    right = base_present built.here.entries (inside_of b) base built.right;
    within = λ k lt. base_below base draft.at k built.below lt;
  };
  as_many = refl;
}

keeps_base : (base : ℕ) (registers : List ℕ) (draft : Draft) → KeepsPresences base registers draft draft (base ∷ [])
keeps_base base registers draft cells some below all = (all, omega arith, base_each base draft.at some)

-- ---- one step more

module _ (types : List TypeDec) (variables : List Name) (base : ℕ) (registers : List ℕ) (c : Clock) (p : ClockStep) (presences : List ℕ) (old mid new : Draft) (last on value here : ℕ) where
  builds_step : is_in p.name variables ≡ true → on ≡ slice_index registers (place_in p.name variables) → value ≡ tag_value types p.tag → last ≡ slice_index presences (length c) → IsAdded mid new (does.Flag last on value) here →
      BuildsPresences types variables c base registers old mid presences → BuildsPresences types variables (c ++ p ∷ []) base registers old new (presences ++ here ∷ [])
  builds_step among at is at_last added builds g node b start same body clock built =
      let step = last_of g node b (c ++ p ∷ []) c p refl clock in
      let m = builds g node b start same body step.before built in
      let many : length presences ≡ suc (length c) = m.as_many in
      let v = m.built.values (place_in p.name variables) p.name (named_at p.name variables among) in
      let outer : Has m.built.here.entries (Here c b) (In_values last) =
      subst (λ (q : ℕ). Has m.built.here.entries (Here c b) (In_values q)) (sym at_last)
      (subst (λ (d : Clock). Has m.built.here.entries (Here d b) (In_values (slice_index presences (length c)))) (take_all (length c) c (omega arith)) (m.present.body (length c) (omega arith))) in
      let named : Has m.built.here.entries (Named p.name b) (In_values on) = subst (λ (q : ℕ). Has m.built.here.entries (Named p.name b) (In_values q)) (sym at) v.0 in
      let flagged = adds_thing g start m.built.here m.built.here mid mid new (Here (c ++ p ∷ []) b) (does.Flag last on value) here added m.built.leads (knows_same m.built.here) (omega arith)
      (flag node c p b step.place body outer named step.tested step.clock (is ∙ ap (λ (ts : List TypeDec). tag_value ts p.tag) (sym same))) in
      let seen = means_more g start flagged.after new (Here (c ++ p ∷ []) (inside_of b)) here flagged.leads flagged.within (here_under (c ++ p ∷ []) b [] flagged.has) in
      let more : KnowsMore m.built.here seen.after = knows_on m.built.here flagged.after seen.after flagged.more seen.more in
      let given : Supplied m.built.here.entries b (inside_of b) c variables registers presences mid.at = record { body = m.built.values; right = m.built.read; present = m.present } in
      let supplied = inner_supplied seen.after.entries b (inside_of b) c p variables registers presences new.at here (omega arith)
      (supplied_later m.built.here seen.after b (inside_of b) c variables registers presences mid.at new.at flagged.longer more given) (seen.more.grows _ _ flagged.has) seen.has seen.within in
      record {
        built = record {
          here = seen.after;
          leads = seen.leads;
          below = omega (arith, m.built.below, m.built.leads.at, flagged.longer, seen.leads.at);
          body = more.grows _ _ m.built.body;
          right = more.grows _ _ m.built.right;
          values = supplied.body;
          read = supplied.right;
        };
        more = knows_on built.here m.built.here seen.after m.more more;
        longer = omega (arith, m.longer, flagged.longer);
        present = supplied.present;
        as_many = longer_by_one presences here ∙ ap suc (many ∙ sym (longer_by_one c p));
      }

  keeps_step : length registers ≡ length variables → is_in p.name variables ≡ true → on ≡ slice_index registers (place_in p.name variables) → last ≡ slice_index presences (length c) → length presences ≡ suc (length c) → IsAdded mid new (does.Flag last on value) here →
      KeepsPresences base registers old mid presences → KeepsPresences base registers old new (presences ++ here ∷ [])
  keeps_step known among at at_last many added keeps cells some below all =
      let x = keeps cells some below all in
      let outer : last < mid.at = subst (λ (q : ℕ). q < mid.at) (sym at_last) (x.2 (length c) 0 (omega arith)) in
      let tested : on < old.at = (keeps_variable registers [] variables old p.name on known among at cells below (λ k d lt. absurd (omega (arith, lt))) all).2 in (
        added_within cells mid new (does.Flag last on value) here added (outer, omega (arith, tested, x.1)) x.0,
        omega (arith, x.1, added.next),
        All-push (λ q. q < new.at) presences here (below_later presences mid.at new.at (omega (arith, added.next)) x.2) (omega (arith, added.register, added.next)),
      )

-- ---- the beginnings so far

module _ (types : List TypeDec) (variables : List Name) (clock : Clock) (base : ℕ) (registers : List ℕ) (old : Draft) where
  -- a presence for each beginning of at most so many steps
  pub record AreMade (now : Draft) (k : ℕ) (presences : List ℕ) (last : ℕ) : Type 0 where
    pub builds : BuildsPresences types variables (take k clock) base registers old now presences
    pub within : KeepsPresences base registers old now presences
    pub as_many : length presences ≡ suc k
    pub last_is : last ≡ slice_index presences k

  pub none_made : AreMade old 0 (base ∷ []) base
  none_made = record { builds = builds_base types variables base registers old; within = keeps_base base registers old; as_many = refl; last_is = refl }

  pub one_made : (now new : Draft) (k : ℕ) (presences : List ℕ) (p : ClockStep) (last on value here : ℕ) → k < length clock → p ≡ get_or clock k p → length registers ≡ length variables → is_in p.name variables ≡ true →
      on ≡ slice_index registers (place_in p.name variables) → value ≡ tag_value types p.tag → IsAdded now new (does.Flag last on value) here → AreMade now k presences last → AreMade new (k + 1) (presences ++ here ∷ []) here
  one_made now new k presences p last on value here lt is known among at tag added made =
      let steps : length (take k clock) ≡ k = length-take-le k clock (omega arith) in
      let next : take (k + 1) clock ≡ take k clock ++ p ∷ [] = take_more clock k p lt ∙ ap (λ (z : ClockStep). take k clock ++ z ∷ []) (sym is) in
      let at_last : last ≡ slice_index presences (length (take k clock)) = made.last_is ∙ ap (slice_index presences) (sym steps) in
      let many : length presences ≡ k + 1 = omega (arith, made.as_many) in
      record {
        builds = subst (λ (c : Clock). BuildsPresences types variables c base registers old new (presences ++ here ∷ [])) (sym next)
            (builds_step types variables base registers (take k clock) p presences old now new last on value here among at tag at_last added made.builds);
        within = keeps_step types variables base registers (take k clock) p presences old now new last on value here known among at at_last (made.as_many ∙ ap suc (sym steps)) added made.within;
        as_many = longer_by_one presences here ∙ ap suc many;
        last_is = sym (ap (slice_index (presences ++ here ∷ [])) (sym many) ∙ get_or-append_seam presences here [] 0);
      }

  pub all_made : (now : Draft) (k : ℕ) (presences : List ℕ) (last : ℕ) → length clock ≤ k → AreMade now k presences last → BuildsPresences types variables clock base registers old now presences
  all_made now k presences last le made = subst (λ (c : Clock). BuildsPresences types variables c base registers old now presences) (take_all k clock le) made.builds

  pub enough_made : (now : Draft) (k : ℕ) (presences : List ℕ) (last : ℕ) → k ≤ length clock → length clock ≤ k → AreMade now k presences last → length presences ≡ suc (length clock)
  enough_made now k presences last le above made = omega (arith, made.as_many)
