-- Conditions of clocks hold under an assignment of clocks where their equations of terms do, and the other way round.
use Rattle.std.proofs.Common.{◌≡◌, ℕ, suc, ◌+◌, ◌-◌, ◌<◌, ◌≤◌, List, [], ◌∷◌, ◌++◌, length, map, refl, sym, ◌∙◌, ap, arith, Bool, true, false, if◌then◌else◌, ◌&&◌, ◌||◌, not, inl, inr, append_assoc, append-nil, Some, None, nat_lt, nat_le, slice_index_or, cond}
use Rattle.std.specs.Prelude.{Option, position, unwrap_or, filter, All, ⊤}
use Rattle.std.specs.List.{list_any, position_or_len}
use Rattle.std.proofs.lemmas.Slice.Eq.{bytes_eq-Decides}
use Rattle.std.proofs.lemmas.Bool.Decides.{nat_tests}
use Rattle.std.proofs.lemmas.List.{map-append, length-map}
use Rattle.std.proofs.lemmas.List.Elements.{All-nil, All-cons, All-head, All-tail}
use Rattle.std.proofs.lemmas.List.Quantifiers.{position-Some}
use Rattle.hept_ast.specs.Texts.{Name, same, is_in}
use Rattle.hept_ast.specs.Types.{same_tag}
use Rattle.hept_ast.specs.Scopes.{Clock}
use Rattle.hept_ast.specs.Clocks as clocks
use Rattle.hept_ast.specs.Clocks.{Base, Of, Inner, On, Condition, clock, Meets, CanMeet, before, up_to}
use Rattle.hept_ast.specs.declared.tree.Tag.{Tag}
use Rattle.hept_ast.specs.declared.tree.Tag.TheVariants as tag
use Rattle.hept_ast.specs.declared.tree.ClockStep.{ClockStep}
use Rattle.clock_calculus.specs.Numbering.{same_step, step_number, step_at, clock_path, encoded, equation_of, solved_clock, IsNumbered, KnowsStep}
use Rattle.clock_calculus.specs.Proper.{HasNumber, IsDeclared, IsProper, AreProper}
use Rattle.clock_calculus.specs.Solving.{Equation, Holds, Solves, IsFirstClash}
use Rattle.clock_calculus.specs.Unify.{Assignment, base_path, path, Bindings, IsWithin, least}
use Rattle.clock_calculus.proofs.Bindings.{least_respects, least_is_least}

-- ---- tests

both_true : (a b : Bool) → (a && b) ≡ true → (a ≡ true) × (b ≡ true)
both_true true b e = (refl, e)
both_true false b e = cc

truths : (b c : Bool) → same_tag (tag.Truth b) (tag.Truth c) ≡ true → b ≡ c
truths true true e = refl
truths true false e = cc
truths false true e = cc
truths false false e = refl

tag_true : (s t : Tag) → same_tag s t ≡ true → s ≡ t
tag_true (tag.Truth b) (tag.Truth c) e = ap tag.Truth (truths b c e)
tag_true (tag.Truth b) (tag.Constructor y) e = cc
tag_true (tag.Constructor x) (tag.Truth c) e = cc
tag_true (tag.Constructor x) (tag.Constructor y) e = ap tag.Constructor ((bytes_eq-Decides x y).0 e)

pub step_true : (s t : ClockStep) → same_step s t ≡ true → s ≡ t
step_true s t e =
    let h = both_true (same_tag s.tag t.tag) (same s.name t.name) e in
    ap (λ x. record { tag = x; name = s.name }) (tag_true s.tag t.tag h.0) ∙ ap (λ x. record { tag = t.tag; name = x }) ((bytes_eq-Decides s.name t.name).0 h.1)

-- ---- positions

counted_step : (t : Bool) (n m : ℕ) (rest : Bool) → (rest ≡ true → n < m) → (t || rest) ≡ true → cond (not t) (1 + n) 0 < suc m
counted_step true n m rest h e = omega arith
counted_step false n m rest h e = let k = h e in omega arith

counted : {X : Type 0} (p : X → Bool) (xs : List X) → list_any p xs ≡ true → position_or_len p xs < length xs
counted p [] e = cc
counted p (x ∷ xs) e = counted_step (p x) (position_or_len p xs) (length xs) (list_any p xs) (counted p xs) e

position_found : {X : Type 0} (p : X → Bool) (xs : List X) → list_any p xs ≡ true → position p xs ≡ Some (position_or_len p xs)
position_found p xs e = let below = counted p xs e in grind (arith, nat_tests)

position_within : (p : Name → Bool) (xs : List Name) (n : ℕ) → length xs ≤ n → (o : Option ℕ) → position p xs ≡ o → IsWithin n o
position_within p xs n h None e = tt
position_within p xs n h (Some i) e = let w = position-Some p xs i [] e in omega (arith, w.0)

-- a name that is listed stands at its position
name_at : (x : Name) (V : List Name) (i : ℕ) → position (same x) V ≡ Some i → (i < length V) × (slice_index_or V i [] ≡ x)
name_at x V i e = let w = position-Some (same x) V i [] e in (w.0, sym ((bytes_eq-Decides x (slice_index_or V i [])).0 w.1))

none_step : (t : Bool) (n m : ℕ) (rest : Bool) → (rest ≡ false → n ≡ m) → (t || rest) ≡ false → cond (not t) (1 + n) 0 ≡ suc m
none_step true n m rest h e = cc
none_step false n m rest h e = let k = h e in omega arith

none_counted : {X : Type 0} (p : X → Bool) (xs : List X) → list_any p xs ≡ false → position_or_len p xs ≡ length xs
none_counted p [] e = refl
none_counted p (x ∷ xs) e = none_step (p x) (position_or_len p xs) (length xs) (list_any p xs) (none_counted p xs) e

pub not_listed : {X : Type 0} (p : X → Bool) (xs : List X) → list_any p xs ≡ false → position p xs ≡ None
not_listed p xs e = let all = none_counted p xs e in grind (arith, nat_tests)

module _ (V : List Name) (S : List ClockStep) where
  -- ---- unknowns are numbered

  within : (n : ℕ) (t : clocks.Term) → HasNumber n t → IsWithin (length V + n) (encoded V S t).base
  unfolding encoded
  within n Base h = tt
  within n (Of x) h = position_within (same x) V (length V + n) (omega arith) (position (same x) V) refl
  within n (Inner k) h = omega arith
  within n (On t tag x) h = within n t h

  pub proper_numbered : (n : ℕ) (c : Condition) → IsProper V n c → IsNumbered (length V + n) V S c
  proper_numbered n c p = (within n c.left p.left, within n c.right p.right)

  -- ---- from clocks to numbers

  abbrev number_path : Clock → List ℕ
  number_path p = map (step_number S) p

  unfoldable to_numbers : clocks.Assignment → Assignment
  to_numbers a u = if nat_lt u (length V) then number_path (a.variable (slice_index_or V u [])) else number_path (a.expression (u - length V))

  to_variable : (a : clocks.Assignment) (u : ℕ) → u < length V → to_numbers a u ≡ number_path (a.variable (slice_index_or V u []))
  unfolding to_numbers
  to_variable a u h =
      let e : nat_lt u (length V) ≡ true = grind (arith, nat_tests) in
      ap (λ t. if t then number_path (a.variable (slice_index_or V u [])) else number_path (a.expression (u - length V))) e

  to_expression : (a : clocks.Assignment) (n : ℕ) → to_numbers a (length V + n) ≡ number_path (a.expression n)
  unfolding to_numbers
  to_expression a n =
      let e : nat_lt (length V + n) (length V) ≡ false = grind (arith, nat_tests) in
      let m : length V + n - length V ≡ n = omega arith in
      ap (λ t. if t then number_path (a.variable (slice_index_or V (length V + n) [])) else number_path (a.expression (length V + n - length V))) e ∙ ap (λ k. number_path (a.expression k)) m

  to_named : (a : clocks.Assignment) (x : Name) (o : Option ℕ) → position (same x) V ≡ o → is_in x V ≡ true → base_path (to_numbers a) o ++ [] ≡ number_path (a.variable x)
  to_named a x None e d = let f = position_found (same x) V d in cc
  to_named a x (Some i) e d =
      let w = name_at x V i e in
      append-nil (to_numbers a i) ∙ to_variable a i w.0 ∙ ap (λ y. number_path (a.variable y)) w.1

  to_term : (a : clocks.Assignment) (t : clocks.Term) → IsDeclared V t → path (to_numbers a) (encoded V S t) ≡ number_path (clock a t)
  unfolding encoded
  to_term a Base d = refl
  to_term a (Of x) d = to_named a x (position (same x) V) refl d
  to_term a (Inner n) d = append-nil (to_numbers a (length V + n)) ∙ to_expression a n
  to_term a (On t tag x) d =
      let s : ClockStep = record { tag = tag; name = x } in
      let e = encoded V S t in
      sym (append_assoc (base_path (to_numbers a) e.base) e.steps (step_number S s ∷ [])) ∙ ap (λ p. p ++ step_number S s ∷ []) (to_term a t d) ∙ sym (map-append (step_number S) (clock a t) (s ∷ []))

  -- a name that is not declared stands for the base clock
  outer_holds : (a : clocks.Assignment) (x : Name) (t : Bool) → is_in x V ≡ t → a.variable x ≡ [] → path (to_numbers a) (encoded V S (Of x)) ≡ []
  unfolding encoded
  outer_holds a x true e h = to_named a x (position (same x) V) refl e ∙ ap number_path h
  outer_holds a x false e h = ap (λ o. base_path (to_numbers a) o ++ []) (not_listed (same x) V e)

  empty_path : (b : Assignment) → path b (encoded V S Base) ≡ []
  unfolding encoded
  empty_path b = refl

  to_condition : (n : ℕ) (a : clocks.Assignment) (c : Condition) → IsProper V n c → clock a c.left ≡ clock a c.right → Holds (to_numbers a) (equation_of V S c)
  to_condition n a c p e = elim p.declared [
    | inl d ↦ to_term a c.left d.0 ∙ ap number_path e ∙ sym (to_term a c.right d.1)
    | inr o ↦
        let x = o.0 in
        let h : a.variable x ≡ [] = sym (ap (clock a) o.1) ∙ e ∙ ap (clock a) o.2 in
        ap (λ t. path (to_numbers a) (encoded V S t)) o.1 ∙ outer_holds a x (is_in x V) refl h ∙ sym (empty_path (to_numbers a)) ∙ ap (λ t. path (to_numbers a) (encoded V S t)) (sym o.2)
  ]

  -- ---- from numbers to clocks

  unfoldable pub from_numbers : Assignment → clocks.Assignment
  from_numbers b = record { variable = λ x. clock_path S (base_path b (position (same x) V)); expression = λ n. clock_path S (b (length V + n)) }

  known_step : (s : ClockStep) → list_any (same_step s) S ≡ true → step_at S (step_number S s) ≡ s
  known_step s k =
      let i = position_or_len (same_step s) S in
      let e = position_found (same_step s) S k in
      let w = position-Some (same_step s) S i (record { tag = tag.Truth true; name = [] }) e in
      ap (λ o. step_at S (unwrap_or o 0)) e ∙ sym (step_true s (step_at S i) w.1)

  from_term : (b : Assignment) (t : clocks.Term) → KnowsStep S t → clock (from_numbers b) t ≡ clock_path S (path b (encoded V S t))
  unfolding encoded from_numbers
  from_term b Base k = refl
  from_term b (Of x) k = ap (clock_path S) (sym (append-nil (base_path b (position (same x) V))))
  from_term b (Inner n) k = ap (clock_path S) (sym (append-nil (b (length V + n))))
  from_term b (On t tag x) k =
      let s : ClockStep = record { tag = tag; name = x } in
      let e = encoded V S t in
      ap (λ p. p ++ s ∷ []) (from_term b t k.0) ∙ ap (λ u. clock_path S (path b e) ++ u ∷ []) (sym (known_step s k.1)) ∙ sym (map-append (step_at S) (path b e) (step_number S s ∷ []))
      ∙ ap (clock_path S) (append_assoc (base_path b e.base) e.steps (step_number S s ∷ []))

  from_condition : (b : Assignment) (c : Condition) → KnowsStep S c.left → KnowsStep S c.right → Holds b (equation_of V S c) → clock (from_numbers b) c.left ≡ clock (from_numbers b) c.right
  from_condition b c kl kr e = from_term b c.left kl ∙ ap (clock_path S) e ∙ sym (from_term b c.right kr)

  -- ---- lists of conditions

  abbrev equations : List Condition → List Equation
  equations cs = map (equation_of V S) cs

  abbrev pub KnowsAll : List Condition → Type 0
  KnowsAll [] = ⊤
  KnowsAll (c ∷ cs) = (KnowsStep S c.left × KnowsStep S c.right) × KnowsAll cs

  all_from : (b : Assignment) (cs : List Condition) → KnowsAll cs → All (Holds b) (equations cs) → Meets (from_numbers b) cs
  all_from b [] k h = tt
  all_from b (c ∷ cs) k h = (from_condition b c k.0.0 k.0.1 (All-head (Holds b) (equation_of V S c) (equations cs) h), all_from b cs k.1 (All-tail (Holds b) (equation_of V S c) (equations cs) h))

  all_to : (n : ℕ) (a : clocks.Assignment) (cs : List Condition) → AreProper V n cs → Meets a cs → All (Holds (to_numbers a)) (equations cs)
  all_to n a [] p m = All-nil (Holds (to_numbers a))
  all_to n a (c ∷ cs) p m = All-cons (Holds (to_numbers a)) (equation_of V S c) (equations cs) (to_condition n a c p.0 m.0) (all_to n a cs p.1 m.1)

  kept_from : (b : Assignment) (keep : Condition → Bool) (P : Equation → Type 0) (c : Condition) (cs : List Condition) (t : Bool) → keep c ≡ t → (KnowsStep S c.left × KnowsStep S c.right)
      → ((keep c ≡ true) → P (equation_of V S c)) → (P (equation_of V S c) → Holds b (equation_of V S c)) → Meets (from_numbers b) (filter keep cs) → Meets (from_numbers b) (cond t (c ∷ filter keep cs) (filter keep cs))
  kept_from b keep P c cs true e k f g m = (from_condition b c k.0 k.1 (g (f e)), m)
  kept_from b keep P c cs false e k f g m = m

  filter_from : (b : Assignment) (keep : Condition → Bool) (P : Equation → Type 0) → ((c : Condition) → keep c ≡ true → P (equation_of V S c)) → (cs : List Condition) → KnowsAll cs → All (λ e. P e → Holds b e) (equations cs) → Meets (from_numbers b) (filter keep cs)
  filter_from b keep P f [] k h = tt
  filter_from b keep P f (c ∷ cs) k h =
      kept_from b keep P c cs (keep c) refl k.0 (f c) (All-head (λ e. P e → Holds b e) (equation_of V S c) (equations cs) h) (filter_from b keep P f cs k.1 (All-tail (λ e. P e → Holds b e) (equation_of V S c) (equations cs) h))

  kept_to : (n : ℕ) (a : clocks.Assignment) (keep : Condition → Bool) (P : Equation → Type 0) (c : Condition) (cs : List Condition) (t : Bool) → keep c ≡ t → IsProper V n c → (P (equation_of V S c) → keep c ≡ true)
      → Meets a (cond t (c ∷ filter keep cs) (filter keep cs)) → (P (equation_of V S c) → Holds (to_numbers a) (equation_of V S c)) × Meets a (filter keep cs)
  kept_to n a keep P c cs true e p f m = ((λ q. to_condition n a c p m.0), m.1)
  kept_to n a keep P c cs false e p f m = ((λ q. let g = f q in cc), m)

  filter_to : (n : ℕ) (a : clocks.Assignment) (keep : Condition → Bool) (P : Equation → Type 0) → ((c : Condition) → P (equation_of V S c) → keep c ≡ true) → (cs : List Condition) → AreProper V n cs → Meets a (filter keep cs) → All (λ e. P e → Holds (to_numbers a) e) (equations cs)
  filter_to n a keep P f [] p m = All-nil (λ e. P e → Holds (to_numbers a) e)
  filter_to n a keep P f (c ∷ cs) p m =
      let r = kept_to n a keep P c cs (keep c) refl p.0 (f c) m in
      All-cons (λ e. P e → Holds (to_numbers a) e) (equation_of V S c) (equations cs) r.0 (filter_to n a keep P f cs p.1 r.1)

  -- ---- what solving says of conditions

  pub solved_meets : (u : ℕ) (b : Bindings) (cs : List Condition) → KnowsAll cs → Solves u b (equations cs) → Meets (from_numbers (least b)) cs
  solved_meets u b cs k s = all_from (least b) cs k (s.says (least b) (least_respects b s.solved))

  pub solved_clocks : (b : Bindings) → (from_numbers (least b)).variable ≡ solved_clock V S b
  unfolding from_numbers solved_clock
  solved_clocks b = refl

  no_shorter : (u n : ℕ) (b : Bindings) (cs : List Condition) → AreProper V n cs → Solves u b (equations cs) → (a : clocks.Assignment) → Meets a cs → (x : Name) (o : Option ℕ) → position (same x) V ≡ o → is_in x V ≡ true
      → length (clock_path S (base_path (least b) o)) ≤ length (a.variable x)
  no_shorter u n b cs p s a m x None e d = let f = position_found (same x) V d in cc
  no_shorter u n b cs p s a m x (Some i) e d =
      let w = name_at x V i e in
      let r = s.least_so (to_numbers a) (all_to n a cs p m) in
      let h = least_is_least b (to_numbers a) r i in
      let l : length (to_numbers a i) ≡ length (a.variable x) = ap length (to_variable a i w.0 ∙ ap (λ y. number_path (a.variable y)) w.1) ∙ length-map (a.variable x) (step_number S) in
      omega (arith, h, l, length-map (least b i) (step_at S))

  pub solved_least : (u n : ℕ) (b : Bindings) (cs : List Condition) → AreProper V n cs → Solves u b (equations cs) → (a : clocks.Assignment) → Meets a cs → (x : Name) → is_in x V ≡ true
      → length ((from_numbers (least b)).variable x) ≤ length (a.variable x)
  unfolding from_numbers
  solved_least u n b cs p s a m x d = no_shorter u n b cs p s a m x (position (same x) V) refl d

  lt_true : (m n : ℕ) → nat_lt m n ≡ true → m < n
  lt_true m n e = grind (arith, nat_tests)

  true_le : (m n : ℕ) → m ≤ n → nat_le m n ≡ true
  true_le m n h = grind (arith, nat_tests)

  pub clash_before : (p : ℕ) (cs : List Condition) → KnowsAll cs → IsFirstClash (equations cs) p → CanMeet (before p cs)
  clash_before p cs k c = (from_numbers c.before.0, filter_from c.before.0 (λ c. nat_lt c.place p) (λ e. e.place < p) (λ c e. lt_true c.place p e) cs k c.before.1)

  pub clash_with : (n p : ℕ) (cs : List Condition) → AreProper V n cs → IsFirstClash (equations cs) p → CanMeet (up_to p cs) → ⊥
  clash_with n p cs proper c m = c.none (to_numbers m.0) (filter_to n m.0 (λ c. nat_le c.place p) (λ e. e.place ≤ p) (λ c h. true_le c.place p h) cs proper m.1)
