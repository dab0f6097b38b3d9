-- What an expression may use, on the clock without its last step and on the clock with one step more.
use Rattle.std.proofs.Common.{◌≡◌, ◌⊎◌, inl, inr, ℕ, zero, suc, ◌-◌, ◌<◌, ◌≤◌, List, [], ◌∷◌, ◌++◌, length, take, refl, sym, subst, ap, ◌∙◌, arith, length-append}
use Rattle.std.specs.Prelude.{slice_index}
use Rattle.std.proofs.Math.Seq.{get_or-append_seam}
use Rattle.std.proofs.lemmas.List.{get_or-take, get_or_append_left, length-take-le, take-append-le, take_all}
use Rattle.hept_ast.specs.Texts.{Name}
use Rattle.hept_ast.specs.Scopes.{Clock, Scope}
use Rattle.hept_ast.specs.declared.tree.ClockStep.{ClockStep}
use Rattle.step_plans.specs.Things.{Here}
use Rattle.step_plans.specs.Operations.{In_values}
use Rattle.step_plans.specs.Plans.{Entry, Has, Progress}
use Rattle.plan_expressions.specs.Building.{KnowsMore}
use Rattle.plan_expressions.specs.Clocked.{Supplied}
use Rattle.plan_expressions.proofs.Adding.{registers_later}

pub supplied_later : (before after : Progress) (b s : Scope) (c : Clock) (variables : List Name) (registers presences : List ℕ) (at later : ℕ) → at ≤ later → KnowsMore before after →
    Supplied before.entries b s c variables registers presences at → Supplied after.entries b s c variables registers presences later
supplied_later before after b s c variables registers presences at later le more given = record {
  body = registers_later before after b variables registers at later le more given.body;
  right = registers_later before after s variables registers at later le more given.right;
  present = record {
    long = given.present.long;
    body = λ k lt. more.grows _ _ (given.present.body k lt);
    right = λ k lt. more.grows _ _ (given.present.right k lt);
    within = λ k lt. omega (arith, given.present.within k lt);
  };
}

-- ---- the clock without its last step

take_take : {A : Type 0} (xs : List A) (k n : ℕ) → k ≤ n → take k (take n xs) ≡ take k xs
take_take xs zero n le = refl
take_take [] (suc k) zero le = refl
take_take [] (suc k) (suc n) le = refl
take_take (x ∷ xs) (suc k) zero le = absurd (omega arith)
take_take (x ∷ xs) (suc k) (suc n) le = ap (λ (ys : List _). x ∷ ys) (take_take xs k n (omega arith))

outer_present : (entries : List Entry) (s : Scope) (c : Clock) (presences : List ℕ) → length presences ≡ suc (length c) →
    ((k : ℕ) → k < length presences → Has entries (Here (take k c) s) (In_values (slice_index presences k))) → (k : ℕ) → k < length (take (length presences - 1) presences) →
    Has entries (Here (take k (take (length c - 1) c)) s) (In_values (slice_index (take (length presences - 1) presences) k))
outer_present entries s c presences long present k lt =
    let shorter : length (take (length presences - 1) presences) ≡ length presences - 1 = length-take-le (length presences - 1) presences (omega arith) in
    subst (λ (d : Clock). Has entries (Here d s) (In_values (slice_index (take (length presences - 1) presences) k))) (sym (take_take c k (length c - 1) (omega arith)))
    (subst (λ (r : ℕ). Has entries (Here (take k c) s) (In_values r)) (sym (get_or-take (length presences - 1) presences k 0 (omega arith))) (present k (omega arith)))

pub outer_supplied : (entries : List Entry) (b s : Scope) (c : Clock) (variables : List Name) (registers presences : List ℕ) (at : ℕ) → 1 < length presences → Supplied entries b s c variables registers presences at →
    Supplied entries b s (take (length c - 1) c) variables registers (take (length presences - 1) presences) at
outer_supplied entries b s c variables registers presences at several given =
    let long : length presences ≡ suc (length c) = given.present.long (omega arith) in
    let shorter : length (take (length presences - 1) presences) ≡ length presences - 1 = length-take-le (length presences - 1) presences (omega arith) in
    let clock : length (take (length c - 1) c) ≡ length c - 1 = length-take-le (length c - 1) c (omega arith) in
    record {
      body = given.body;
      right = given.right;
      present = record {
        long = λ some. omega arith;
        body = outer_present entries b c presences long given.present.body;
        right = outer_present entries s c presences long given.present.right;
        within = λ k lt. subst (λ (r : ℕ). r < at) (sym (get_or-take (length presences - 1) presences k 0 (omega arith))) (given.present.within k (omega arith));
      };
    }

-- ---- the clock with one step more

earlier_or_last : (k n : ℕ) → k < suc n → (k < n) ⊎ (k ≡ n)
earlier_or_last zero zero lt = inr refl
earlier_or_last zero (suc n) lt = inl (omega arith)
earlier_or_last (suc k) zero lt = absurd (omega arith)
earlier_or_last (suc k) (suc n) lt = elim (earlier_or_last k n (omega arith)) [ inl a ↦ inl (omega arith) | inr e ↦ inr (ap suc e) ]

pub longer_by_one : {A : Type 0} (xs : List A) (x : A) → length (xs ++ x ∷ []) ≡ suc (length xs)
longer_by_one xs x = let l = length-append xs (x ∷ []) in omega (arith, l)

inner_each : (P : Clock → ℕ → Type 0) (c : Clock) (step : ClockStep) (presences : List ℕ) (r : ℕ) → length presences ≡ suc (length c) → ((k : ℕ) → k < length presences → P (take k c) (slice_index presences k)) → P (c ++ step ∷ []) r →
    (k : ℕ) → k < length (presences ++ r ∷ []) → P (take k (c ++ step ∷ [])) (slice_index (presences ++ r ∷ []) k)
inner_each P c step presences r long each last k lt =
    let more : length (presences ++ r ∷ []) ≡ suc (length presences) = longer_by_one presences r in
    let steps : length (c ++ step ∷ []) ≡ suc (length c) = longer_by_one c step in
    elim (earlier_or_last k (length presences) (omega arith)) [
      | inl a ↦
          subst (λ (d : Clock). P d (slice_index (presences ++ r ∷ []) k)) (sym (take-append-le k c (step ∷ []) (omega arith)))
          (subst (P (take k c)) (sym (get_or_append_left presences (r ∷ []) 0 k a)) (each k a))
      | inr e ↦
          subst (λ (d : Clock). P d (slice_index (presences ++ r ∷ []) k)) (sym (take_all k (c ++ step ∷ []) (omega arith)))
          (subst (P (c ++ step ∷ [])) (sym (ap (slice_index (presences ++ r ∷ [])) e ∙ get_or-append_seam presences r [] 0)) last)
    ]

pub inner_supplied : (entries : List Entry) (b s : Scope) (c : Clock) (step : ClockStep) (variables : List Name) (registers presences : List ℕ) (at r : ℕ) → 0 < length presences → Supplied entries b s c variables registers presences at →
    Has entries (Here (c ++ step ∷ []) b) (In_values r) → Has entries (Here (c ++ step ∷ []) s) (In_values r) → r < at → Supplied entries b s (c ++ step ∷ []) variables registers (presences ++ r ∷ []) at
inner_supplied entries b s c step variables registers presences at r some given in_body in_right below =
    let long : length presences ≡ suc (length c) = given.present.long some in
    record {
      body = given.body;
      right = given.right;
      present = record {
        long = λ z. longer_by_one presences r ∙ ap suc (long ∙ sym (longer_by_one c step));
        body = inner_each (λ d q. Has entries (Here d b) (In_values q)) c step presences r long given.present.body in_body;
        right = inner_each (λ d q. Has entries (Here d s) (In_values q)) c step presences r long given.present.right in_right;
        within = inner_each (λ d q. q < at) c step presences r long given.present.within below;
      };
    }
