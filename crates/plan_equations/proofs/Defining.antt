-- A variable is its equation's right side.
use Rattle.std.proofs.Common.{◌≡◌, ◌⊎◌, inl, inr, ℕ, zero, suc, ◌<◌, ◌≤◌, List, [], ◌∷◌, ◌++◌, length, take, All, Some, refl, sym, subst, ap, ◌∙◌, arith}
use Rattle.std.specs.Prelude.{slice_get, slice_index, get_or}
use Rattle.std.proofs.lemmas.Grind.{get_or_default_zero}
use Rattle.std.proofs.Math.Seq.{get_or-append_seam}
use Rattle.std.proofs.lemmas.List.{get_or_append_left, take_all}
use Rattle.std.proofs.lemmas.List.Elements.{All-push}
use Rattle.std.proofs.lemmas.Option.{slice_get_within}
use Rattle.hept_ast.specs.Texts.{Name}
use Rattle.hept_ast.specs.Scopes.{Clock, Scope, Under}
use Rattle.hept_ast.specs.declared.tree.TypeDec.{TypeDec}
use Rattle.hept_ast.specs.declared.tree.CoreNode.{CoreNode}
use Rattle.hept_ast.specs.declared.tree.CoreEquation.{CoreEquation}
use Rattle.step_plans.specs.Things.{Thing, Here, Named, Part}
use Rattle.step_plans.specs.Operations.{Register, In_values}
use Rattle.step_plans.specs.Plans.{Ground, Entry, At, Has, newest, older, Means, IsBodyOf, defines, variable_under, quiet_equation, known, Progress}
use Rattle.step_plans.proofs.Making.{one_meaning_more}
use Rattle.plan_expressions.specs.Building.{HaveRegisters}
use Rattle.plan_expressions.specs.declared.draft.Draft.{Draft}
use Rattle.plan_equations.specs.Equations.{BuildsEquation, BuildsPresences, IsFound, KeepsEquation, KeepsPresences, inside_of}
use Rattle.plan_equations.specs.Rights.{EmitsRight, KeepsCells}
use Rattle.plan_equations.proofs.KeptCells.{below_later}

last_or_before : {A : Type 0} (xs : List A) (y z : A) (k : ℕ) → slice_get (xs ++ y ∷ []) k ≡ Some z → (slice_get xs k ≡ Some z) ⊎ ((k ≡ length xs) × (z ≡ y))
last_or_before [] y z zero h = inr (refl, (cc))
last_or_before [] y z (suc k) h = absurd (cc)
last_or_before (x ∷ xs) y z zero h = inl h
last_or_before (x ∷ xs) y z (suc k) h = elim (last_or_before xs y z k h) [ inl a ↦ inl a | inr b ↦ inr (ap suc b.0, b.1) ]

-- one variable more
registers_more : (entries after : List Entry) (s : Scope) (variables : List Name) (registers : List ℕ) (at later r : ℕ) (x : Name) → length registers ≡ length variables → at ≤ later →
    ((thing : Thing) (q : Register) → Has entries thing q → Has after thing q) → HaveRegisters entries s variables registers at → Has after (Named x s) (In_values r) → r < later →
    HaveRegisters after s (variables ++ x ∷ []) (registers ++ r ∷ []) later
registers_more entries after s variables registers at later r x many le grows have here lt = λ k y get.
    elim (last_or_before variables x y k get) [
      | inl a ↦
          let within : k < length variables = slice_get_within variables k y a in
          let e : slice_index (registers ++ r ∷ []) k ≡ slice_index registers k = get_or_append_left registers (r ∷ []) 0 k (omega arith) in
          let h = have k y a in
          subst (λ (q : ℕ). Has after (Named y s) (In_values q) × (q < later)) (sym e) (grows _ _ h.0, omega (arith, h.1))
      | inr b ↦
          let at_end : k ≡ length registers = b.0 ∙ sym many in
          let e : slice_index (registers ++ r ∷ []) k ≡ r = ap (slice_index (registers ++ r ∷ [])) at_end ∙ get_or-append_seam registers r [] 0 in
          subst (λ (z : Name). Has after (Named z s) (In_values (slice_index (registers ++ r ∷ []) k)) × (slice_index (registers ++ r ∷ []) k < later)) (sym b.1)
          (subst (λ (q : ℕ). Has after (Named x s) (In_values q) × (q < later)) (sym e) (here, lt))
    ]

named_by : (g : Ground) (node : CoreNode) (b : Scope) (e : CoreEquation) (x : Name) (entries : List Entry) (h r : Register) → IsBodyOf b node → IsFound node e x → Has entries (Here e.clock.steps b) h → Has entries (Part e.right e.clock.steps (inside_of b)) r →
    Means g entries (Named x b) r
named_by g node b e x entries h r body f here right =
    defines node x e b h body f.found f.left f.input here
    (subst (λ (xs : List Name). Has entries (Part e.right e.clock.steps (Under b xs)) r) (sym f.resets) right)

-- the last beginning of a clock is the clock
whole : (entries : List Entry) (s : Scope) (c : Clock) (r : Register) → Has entries (Here (take (length c) c) s) r → Has entries (Here c s) r
whole entries s c r h = subst (λ (d : Clock). Has entries (Here d s) r) (take_all (length c) c (omega arith)) h

-- the value that was read
pub at_last : (xs : List ℕ) (n m x : ℕ) → x ≡ get_or xs n x → n ≡ m → m < length xs → x ≡ slice_index xs m
at_last xs n m x is same within = is ∙ ap (λ (k : ℕ). get_or xs k x) same ∙ get_or_default_zero xs m x within

module _ (types : List TypeDec) (variables : List Name) (cell base r : ℕ) (e : CoreEquation) (registers more presences : List ℕ) (old mid new : Draft) where
  pub one_equation_more : length registers ≡ length variables → BuildsPresences types variables e.clock.steps base registers old mid presences → EmitsRight types variables registers presences cell mid new e.right r → more ≡ registers ++ r ∷ [] →
      BuildsEquation types variables cell base e registers old more new (slice_index presences (length e.clock.steps))
  one_equation_more many presents emits longer g node b x start found same body quiet cells ground from =
      let p = presents g node b start same body ground.clock from in
      let c : Clock = e.clock.steps in
      let h : Register = In_values (slice_index presences (length c)) in
      let in_body : Has p.built.here.entries (Here c b) h = whole p.built.here.entries b c h (p.present.body (length c) (omega (arith, p.as_many))) in
      let in_right : Has p.built.here.entries (Here c (inside_of b)) h = whole p.built.here.entries (inside_of b) c h (p.present.right (length c) (omega (arith, p.as_many))) in
      let m = emits g node b (inside_of b) c h start p.built.here same (quiet_equation quiet) cells p.built.leads in_right (record { body = p.built.values; right = p.built.read; present = p.present }) ground.right in
      let lt : r < m.after.at = omega (arith, m.within, m.leads.at) in
      let one : Progress = record { entries = At (Named x b) (In_values r) ∷ m.after.entries; at = m.after.at; later = m.after.later; offered = m.after.offered } in
      let two : Progress = record { entries = At (Named x (inside_of b)) (In_values r) ∷ one.entries; at = m.after.at; later = m.after.later; offered = m.after.offered } in
      let grows : (thing : Thing) (q : Register) → Has p.built.here.entries thing q → Has two.entries thing q = λ thing q a. older (older (m.more.grows thing q a)) in
      record {
        built = record {
          here = two;
          leads = record {
            makes = one_meaning_more g [] [] start one two new.actions.items
                (one_meaning_more g [] [] start m.after one new.actions.items m.leads.makes (known (Named x b) (In_values r) lt (named_by g node b e x m.after.entries h (In_values r) body found (m.more.grows _ _ in_body) m.has)))
                (known (Named x (inside_of b)) (In_values r) lt (variable_under x b [] newest));
            at = m.leads.at;
          };
          below = omega (arith, p.built.below, m.longer);
          body = grows _ _ p.built.body;
          right = grows _ _ p.built.right;
          values = subst (λ (rs : List ℕ). HaveRegisters two.entries b (variables ++ x ∷ []) rs new.at) (sym longer)
              (registers_more p.built.here.entries two.entries b variables registers mid.at new.at r x many m.longer grows p.built.values (older newest) m.within);
          read = subst (λ (rs : List ℕ). HaveRegisters two.entries (inside_of b) (variables ++ x ∷ []) rs new.at) (sym longer)
              (registers_more p.built.here.entries two.entries (inside_of b) variables registers mid.at new.at r x many m.longer grows p.built.read newest m.within);
        };
        more = record { later = m.more.later ∙ p.more.later; grows = λ thing q a. grows thing q (p.more.grows thing q a) };
        longer = omega (arith, p.longer, m.longer);
        present = grows _ _ in_right;
        under = omega (arith, p.present.within (length c) (omega (arith, p.as_many)), m.longer);
      }

  pub keeps_equation : (count : ℕ) → KeepsPresences base registers old mid presences → KeepsCells count cell registers presences mid new r → more ≡ registers ++ r ∷ [] → length presences ≡ suc (length e.clock.steps) → KeepsEquation count cell base registers old more new (slice_index presences (length e.clock.steps))
  keeps_equation count keeps_presences keeps longer as_many cells le some below all =
      let x = keeps_presences cells some below all in
      let y = keeps cells le (below_later registers old.at mid.at x.1 below) x.2 x.0 in
      (y.0, omega (arith, x.1, y.1), subst (λ (rs : List ℕ). All (λ q. q < new.at) rs) (sym longer) (All-push (λ q. q < new.at) registers r (λ k d lt. omega (arith, below k d lt, x.1, y.1)) y.2), omega (arith, x.2 (length e.clock.steps) 0 (omega (arith, as_many)), y.1))
