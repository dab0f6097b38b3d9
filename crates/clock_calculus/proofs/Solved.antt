-- Equations of terms, solved one after another.
use Rattle.std.proofs.Common.{◌≡◌, ℕ, zero, suc, ◌+◌, ◌<◌, ◌≤◌, List, [], ◌∷◌, ◌++◌, length, map, take, refl, sym, ◌∙◌, ap, arith, subst, None, slice_index_or, inl, inr}
use Rattle.std.specs.Prelude.{All}
use Rattle.std.specs.List.Sorted.{IsPermutation, IsNonDecreasingBy}
use Rattle.std.proofs.lemmas.List.{length-map, length-take, get_or-take, get_or-map}
use Rattle.std.proofs.lemmas.List.Elements.{All-nil, All-more}
use Rattle.std.proofs.lemmas.Bool.{cases_lt}
use Rattle.std.proofs.lemmas.List.Sorted.{All-permutation, IsPermutation-sym, IsPermutation-map}
use Rattle.clock_calculus.specs.Unify.{Assignment, Bindings, bound, Agrees, FreeIn, AreEquated, CannotEqual, least}
use Rattle.clock_calculus.specs.Numbering.{encoded, equation_of, equations_of, names_of, steps_of}
use Rattle.clock_calculus.specs.Solving.{Equation, Holds, Solves, IsClash, IsFirstClash, Answers, IsAnswer}
use Rattle.clock_calculus.specs.Written.{base_term, clock_term, condition_of}
use Rattle.clock_calculus.specs.declared.conditions.Condition.{Condition}
use Rattle.clock_calculus.specs.declared.numbers.Numbers.{Numbers}
use Rattle.clock_calculus.specs.declared.solve.Solution as solution
use Rattle.clock_calculus.specs.declared.solve.Solution.TheVariants as variant
use Rattle.clock_calculus.proofs.Bindings.{least_respects}

pub unbound_push : (b : Bindings) → ((u : ℕ) → bound b u ≡ None) → (u : ℕ) → bound (b ++ None ∷ []) u ≡ None
unbound_push [] h zero = refl
unbound_push [] h (suc u) = refl
unbound_push (o ∷ b) h zero = h zero
unbound_push (o ∷ b) h (suc u) = unbound_push b (λ v. h (suc v)) u

-- with nothing bound no equation is asked
pub solves_none : (b : Bindings) → ((u : ℕ) → bound b u ≡ None) → Solves (length b) b []
solves_none b free = record {
  solved = λ u. subst (λ o. FreeIn b o) (sym (free u)) tt;
  long = refl;
  says = λ a h. All-nil (Holds a);
  least_so = λ a h u. subst (λ o. Agrees a u o) (sym (free u)) tt;
}

-- one more equation
module _ (n : ℕ) (b now : Bindings) (es : List Equation) (i : ℕ) (e : Equation) (below : i < length es) (at : (d : Equation) → slice_index_or es i d ≡ e) (s : Solves n b (take i es)) where
  more_all : (a : Assignment) → All (Holds a) (take i es) → Holds a e → All (Holds a) (take (i + 1) es)
  more_all a all h = All-more (Holds a) es i e below all (subst (Holds a) (sym (at e)) h)

  less_all : (a : Assignment) → All (Holds a) (take (i + 1) es) → All (Holds a) (take i es)
  less_all a all k d h =
      let ki : k < i = omega (arith, length-take i es) in
      subst (Holds a) (get_or-take (i + 1) es k d (omega arith) ∙ sym (get_or-take i es k d ki)) (all k d (omega (arith, length-take (i + 1) es)))

  last_of : (a : Assignment) → All (Holds a) (take (i + 1) es) → Holds a e
  last_of a all = subst (Holds a) (get_or-take (i + 1) es i e (omega arith) ∙ at e) (all i e (omega (arith, length-take (i + 1) es)))

  pub solves_more : AreEquated b now e.left e.right → Solves n now (take (i + 1) es)
  solves_more eq = record {
    solved = eq.solved;
    long = eq.long ∙ s.long;
    says = λ a h. more_all a (s.says a (eq.keeps a h)) (eq.says a h);
    least_so = λ a all. eq.least_so a (s.least_so a (less_all a all)) (last_of a all);
  }

  pub clashes : CannotEqual b e.left e.right → IsClash es e.place
  clashes cannot = record {
    at = i;
    within = below;
    place = λ d. ap (λ e. e.place) (at d);
    before = (least b, s.says (least b) (least_respects b s.solved));
    none = λ a all. cannot a (s.least_so a (less_all a all)) (last_of a all);
  }

-- ---- in any order

pub solves_permuted : (n : ℕ) (b : Bindings) (xs ys : List Equation) → IsPermutation xs ys → Solves n b ys → Solves n b xs
solves_permuted n b xs ys perm s = record {
  solved = s.solved;
  long = s.long;
  says = λ a h. All-permutation (Holds a) ys xs (IsPermutation-sym xs ys perm) (s.says a h);
  least_so = λ a all. s.least_so a (All-permutation (Holds a) xs ys perm all);
}

module _ (xs ys : List Equation) (p : ℕ) (perm : IsPermutation xs ys) (sorted : IsNonDecreasingBy (λ e. e.place) ys) (c : IsClash ys p) where
  -- an equation of an earlier place stands before the one that clashes
  earlier : (a : Assignment) → All (Holds a) (take c.at ys) → All (λ e. e.place < p → Holds a e) ys
  earlier a all k d below lt = elim (cases_lt k c.at) [
    | inl h ↦ subst (Holds a) (get_or-take c.at ys k d h) (all k d (omega (arith, length-take c.at ys, c.within)))
    | inr h ↦ let q = sorted c.at k d h below in absurd (omega (arith, c.place d))
  ]

  -- those up to it are of places up to its
  up_to_it : (a : Assignment) → All (λ e. e.place ≤ p → Holds a e) ys → All (Holds a) (take (c.at + 1) ys)
  up_to_it a all k d below =
      let h : k < c.at + 1 = omega (arith, length-take (c.at + 1) ys) in
      let q = sorted k c.at d (omega arith) c.within in
      subst (Holds a) (sym (get_or-take (c.at + 1) ys k d h)) (all k d (omega (arith, length-take (c.at + 1) ys)) (omega (arith, c.place d)))

  pub first_clash : IsFirstClash xs p
  first_clash = record {
    before = (c.before.0, All-permutation (λ e. e.place < p → Holds c.before.0 e) ys xs (IsPermutation-sym xs ys perm) (earlier c.before.0 c.before.1));
    none = λ a all. c.none a (up_to_it a (All-permutation (λ e. e.place ≤ p → Holds a e) xs ys perm all));
  }

pub sorted_mapped : {X : Type 0} (place : X → ℕ) (f : X → Equation) → ((x : X) → (f x).place ≡ place x) → (xs : List X) → IsNonDecreasingBy place xs → IsNonDecreasingBy (λ e. e.place) (map f xs)
sorted_mapped place f same [] sorted i j d le below = absurd (omega arith)
sorted_mapped place f same (x ∷ xs) sorted i j d le below =
    let h : j < length (x ∷ xs) = omega (arith, length-map (x ∷ xs) f) in
    let g = sorted i j x le h in
    let u = ap (λ e. e.place) (get_or-map f (x ∷ xs) i x d (omega arith)) ∙ same (slice_index_or (x ∷ xs) i x) in
    let v = ap (λ e. e.place) (get_or-map f (x ∷ xs) j x d h) ∙ same (slice_index_or (x ∷ xs) j x) in
    omega (arith, u, v, g)

-- ---- conditions as code holds them

module _ (n : Numbers) (cs : List Condition) (i : ℕ) (c : Condition) (below : i < length cs) (at : c ≡ slice_index_or cs i c) where
  read_at : (d : Equation) → slice_index_or (equations_of n cs) i d ≡ equation_of (names_of n) (steps_of n) (condition_of c)
  read_at d = get_or-map (λ c. equation_of (names_of n) (steps_of n) (condition_of c)) cs i c d below ∙ ap (λ c. equation_of (names_of n) (steps_of n) (condition_of c)) (sym at)

  below_too : i < length (equations_of n cs)
  below_too = omega (arith, length-map cs (λ c. equation_of (names_of n) (steps_of n) (condition_of c)))

  pub condition_more : (b now : Bindings) → Solves n.unknowns b (take i (equations_of n cs)) → AreEquated b now (encoded (names_of n) (steps_of n) (base_term c.left)) (encoded (names_of n) (steps_of n) (clock_term c.right)) → Solves n.unknowns now (take (i + 1) (equations_of n cs))
  condition_more b now s eq = solves_more n.unknowns b now (equations_of n cs) i (equation_of (names_of n) (steps_of n) (condition_of c)) below_too read_at s eq

  pub condition_clashes : (b : Bindings) → Solves n.unknowns b (take i (equations_of n cs)) → CannotEqual b (encoded (names_of n) (steps_of n) (base_term c.left)) (encoded (names_of n) (steps_of n) (clock_term c.right)) → IsClash (equations_of n cs) c.place.0
  condition_clashes b s cannot = clashes n.unknowns b b (equations_of n cs) i (equation_of (names_of n) (steps_of n) (condition_of c)) below_too read_at s cannot

-- the answer for the sorted conditions is one for the conditions
pub answer_permuted : (n : Numbers) (xs ys : List Condition) → IsPermutation xs ys → IsNonDecreasingBy (λ c. c.place.0) ys → (s : solution.Solution) → Answers n.unknowns (equations_of n ys) s → IsAnswer n.unknowns (equations_of n xs) s
answer_permuted n xs ys perm sorted (variant.Solved b) s = solves_permuted n.unknowns b.items _ _ (IsPermutation-map _ xs ys perm) s
answer_permuted n xs ys perm sorted (variant.Clash place) c =
    first_clash _ _ place.0 (IsPermutation-map (λ c. equation_of (names_of n) (steps_of n) (condition_of c)) xs ys perm) (sorted_mapped (λ (c : Condition). c.place.0) (λ c. equation_of (names_of n) (steps_of n) (condition_of c)) (λ c. refl) ys sorted) c
