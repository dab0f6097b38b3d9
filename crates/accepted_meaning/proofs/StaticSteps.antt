-- The clocks of least total length have no steps but those of variables that are never undefined and seen in the same block, up to reset bodies, on the clock of the steps before.
use Rattle.std.proofs.Common.{◌≡◌, ℕ, ◌+◌, ◌≤◌, Bool, true, false, not, ◌||◌, ◌&&◌, cond, if◌then◌else◌, List, [], ◌∷◌, ◌++◌, length, sum_by, refl, sym, ap, subst, ◌∙◌, ◌⊎◌, inl, inr, ⊎_elim, Contains, Option, Some, None, is_some, arith, nat_lt}
use Rattle.std.specs.List.{AllByRecursion as Each, list_any, flat_map}
use Rattle.std.proofs.lemmas.Bool.{false≢true, and_parts, and_from, lt-ltb, le-ltb}
use Rattle.std.proofs.lemmas.List.Sums.{sum_by-cons}
use Rattle.std.proofs.lemmas.List.Elements.{All-weaker, recursion_from_All}
use Rattle.hept_ast.specs.Texts.{Name, is_in, names}
use Rattle.hept_ast.specs.Scopes.{Clock}
use Rattle.hept_ast.specs.Parts.{Surroundings, Placed, declaration, expressions_of, inside, parts, seen_at, variables}
use Rattle.hept_ast.specs.Clocks.{AreClocks, Assignment, Base, Condition, Inner, Meets, Of, On, Term, clock, conditions, equal, numbered, own_names, part_conditions, read_clock, total_length}
use Rattle.hept_ast.specs.declared.tree.ClockStep.{ClockStep}
use Rattle.hept_ast.specs.declared.tree.Decl.{Decl}
use Rattle.hept_ast.specs.declared.tree.Expr.{Expr}
use Rattle.hept_ast.specs.declared.tree.Ty.{Ty}
use Rattle.hept_ast.specs.declared.tree.Form.{out-Form}
use Rattle.sound_expressions.specs.Sound.{Within, Sees, Sound, is_constant, is_async_constant, is_variable, is_last, is_unary, is_binary, is_if, is_fby, is_pre, is_arrow, is_when, is_merge, is_call, is_async_call, is_get}
use Rattle.accepted_meaning.specs.SoundNodes.{AreSeenBeside, AreStepsSeen, IsSeenBeside, SoundPart}
use Rattle.sound_expressions.specs.Demands.{NamesDiffer}
use Rattle.accepted_meaning.proofs.StaticKept.{AllUsed, kept, kept_short, kept_step, none_dropped, same_clock, same_clock_is, same_clock_self}
use Rattle.sound_expressions.proofs.Expressions.{meets_left, meets_right}
use Rattle.sound_expressions.specs.Demands.{assigned}
use Rattle.accepted_meaning.proofs.StaticInside.{SoundAt, part_inside}
use Rattle.accepted_meaning.proofs.StaticConditions.{Are, CondIn, Ok, Range, StepIn, TermIn, interface, part_in}
use Rattle.accepted_meaning.proofs.StaticGroups.{IsPeaked, parts_peaked, peak, peak_in, peak_of}
use Rattle.accepted_meaning.proofs.TextLists.{contains_cases, contains_here, contains_none, contains_there, contains_is_in, flat_is_in, is_in_flat, mapped}

-- ---- the variable of a `when` or `merge` is seen and never undefined

step_seen : (k : Within) (site : Surroundings) (U : Name → Type 0) → ((z : Name) (d : Decl) (c : Clock) → Sees k site z d c → k.grade z ≡ false → U z) → (e : Expr) (c : Clock) (ts : List Ty) → Sound k site e c ts → StepIn U (out-Form e.form)
step_seen k site U h e c ts (is_constant o t n) = subst (StepIn U) (sym o) tt
step_seen k site U h e c ts (is_async_constant o t n) = subst (StepIn U) (sym o) tt
step_seen k site U h e c ts (is_variable o s) = subst (StepIn U) (sym o) tt
step_seen k site U h e c ts (is_last o s i) = subst (StepIn U) (sym o) tt
step_seen k site U h e c ts (is_unary o s f) = subst (StepIn U) (sym o) tt
step_seen k site U h e c ts (is_binary o s r f n) = subst (StepIn U) (sym o) tt
step_seen k site U h e c ts (is_if o i s r f) = subst (StepIn U) (sym o) tt
step_seen k site U h e c ts (is_fby o s r f n) = subst (StepIn U) (sym o) tt
step_seen k site U h e c ts (is_pre o s f n) = subst (StepIn U) (sym o) tt
step_seen k site U h e c ts (is_arrow o s r f) = subst (StepIn U) (sym o) tt
step_seen k site U h e c ts (is_when {c = b} {x = x} {d = d} o v s t i f g) = subst (StepIn U) (sym o) (h x d b v g)
step_seen k site U h e c ts (is_merge {x = x} {d = d} o v i g s a f) = subst (StepIn U) (sym o) (h x d c v g)
step_seen k site U h e c ts (is_call o n s f l m) = subst (StepIn U) (sym o) tt
step_seen k site U h e c ts (is_async_call o n s f l m) = subst (StepIn U) (sym o) tt
step_seen k site U h e c ts (is_get o s f) = subst (StepIn U) (sym o) tt

-- ---- sums

-- sums of no larger numbers that are no smaller in sum are the same numbers
sum_below : {X : Type 0} (f g : X → ℕ) → ((x : X) → f x ≤ g x) → (xs : List X) → sum_by f xs ≤ sum_by g xs
sum_below f g h [] = omega arith
sum_below f g h (x ∷ xs) =
    let a = h x in
    let b = sum_below f g h xs in
    let c = sum_by-cons f x xs in
    let d = sum_by-cons g x xs in
    omega arith

sum_same : {X : Type 0} (f g : X → ℕ) → ((x : X) → f x ≤ g x) → (xs : List X) → sum_by g xs ≤ sum_by f xs → (x : X) → Contains xs x → g x ≤ f x
sum_same f g h [] le x at = contains_none x at
sum_same {X} f g h (y ∷ ys) le x at = ⊎_elim (λ is. subst (λ (z : X). g z ≤ f z) is here) (λ c. sum_same f g h ys rest x c) (contains_cases y x ys at)
  where
    a : f y ≤ g y
    a = h y

    b : sum_by f ys ≤ sum_by g ys
    b = sum_below f g h ys

    c : sum_by f (y ∷ ys) ≡ f y + sum_by f ys
    c = sum_by-cons f y ys

    d : sum_by g (y ∷ ys) ≡ g y + sum_by g ys
    d = sum_by-cons g y ys

    here : g y ≤ f y
    here = let a1 = a in let b1 = b in let c1 = c in let d1 = d in omega arith

    rest : sum_by g ys ≤ sum_by f ys
    rest = let a1 = a in let b1 = b in let c1 = c in let d1 = d in omega arith

-- ---- one group of parts

abbrev is_base : Clock → Bool
is_base [] = true
is_base _ = false

abbrev part_length : Placed → ℕ
part_length q = length (flat_map inside (expressions_of q.part))

-- what is known of a node: its parts are sound, and its clocks are of least length
pub record Timed (k : Within) : Type 0 where
  pub differ : NamesDiffer (names (variables k.node))
  pub sound_parts : (q : Placed) → Contains (parts k.node) q → SoundPart k q.site q.part
  pub numbers : ℕ → Clock
  pub meets : Meets (assigned k numbers) (conditions k.node)
  pub least : (d : Name → Clock) → AreClocks k.node d → total_length k.node k.clock ≤ total_length k.node d
  pub declared : (y : Name) → (is_in y (names (variables k.node)) ≡ true) ⊎ (k.clock y ≡ [])

-- the parts at which x is a variable of their own
module _ (k : Within) (h : Timed k) (x : Name) (x_is : x ≡ peak_of k.node x) where
  abbrev own : Placed → List Name
  own q = own_names k.node q.site

  abbrev in_group : Placed → Bool
  in_group q = is_in x (own q)

  abbrev group_names : List Name
  group_names = flat_map (λ q. if in_group q then own q else []) (parts k.node)

  abbrev seen_here : Placed → Name → Bool
  seen_here q z = is_some (declaration (seen_at k.node q.site) z) && (is_in z (own q) || is_base (k.clock z))

  abbrev seen_there : Name → Bool
  seen_there z = list_any (λ q. in_group q && seen_here q z) (parts k.node)

  -- a step is used if its variable is seen there on the clock of the steps before it, and never undefined
  abbrev used : Clock → Name → Bool
  used before z = (seen_there z && same_clock (k.clock z) before) && not (k.grade z)

  abbrev keep : Clock → Clock
  keep c = kept used [] c

  abbrev change : Bool → Clock → Clock
  change b c = if b then keep c else c

  -- whether an expression of this number stands in a part of the group
  abbrev grouped : ℕ → List Placed → ℕ → Bool
  grouped n [] m = false
  grouped n (q ∷ qs) m = if nat_lt m (n + part_length q) then in_group q else grouped (n + part_length q) qs m

  abbrev new_clock : Name → Clock
  new_clock v = change (is_in v group_names) (k.clock v)

  abbrev new_numbers : ℕ → Clock
  new_numbers n = change (grouped 0 (parts k.node) n) (h.numbers n)

  abbrev old : Assignment
  old = assigned k h.numbers

  abbrev new : Assignment
  new = record { variable = new_clock; expression = new_numbers }

  -- ---- terms and conditions of the group, and of other parts

  abbrev VariableIn : Bool → Name → Type 0
  VariableIn b v = is_in v group_names ≡ b

  abbrev NumberIn : Bool → ℕ → Type 0
  NumberIn b n = grouped 0 (parts k.node) n ≡ b

  abbrev UsedIn : Bool → Term → Name → Type 0
  UsedIn b t z = b ≡ true → used (clock old t) z ≡ true

  change_base : (b : Bool) → change b [] ≡ []
  change_base true = refl
  change_base false = refl

  change_step : (b : Bool) (c d : Clock) (s : ClockStep) → (b ≡ true → used c s.name ≡ true) → d ≡ change b c → d ++ s ∷ [] ≡ change b (c ++ s ∷ [])
  change_step false c d s u e = ap (λ l. l ++ s ∷ []) e
  change_step true c d s u e =
      ap (λ l. l ++ s ∷ []) e ∙ sym (kept_step used [] c s ∙ ap (λ b. keep c ++ cond b (s ∷ []) []) (u refl))

  term_changed : (b : Bool) (t : Term) → TermIn (VariableIn b) (NumberIn b) (UsedIn b) t → clock new t ≡ change b (clock old t)
  term_changed b Base i = sym (change_base b)
  term_changed b (Of v) i = ap (λ z. change z (k.clock v)) i
  term_changed b (Inner n) i = ap (λ z. change z (h.numbers n)) i
  term_changed b (On t tag z) i = change_step b (clock old t) (clock new t) (record { tag = tag; name = z }) i.1 (term_changed b t i.0)

  condition_changed : (b : Bool) (c : Condition) → CondIn (VariableIn b) (NumberIn b) (UsedIn b) c → clock old c.left ≡ clock old c.right → clock new c.left ≡ clock new c.right
  condition_changed b c i e = ⊎_elim inner outer i
    where
      inner : TermIn (VariableIn b) (NumberIn b) (UsedIn b) c.left × TermIn (VariableIn b) (NumberIn b) (UsedIn b) c.right → clock new c.left ≡ clock new c.right
      inner i = term_changed b c.left i.0 ∙ (ap (change b) e ∙ sym (term_changed b c.right i.1))

      outer : (v : Name) × (c.left ≡ Of v) × (c.right ≡ Base) → clock new c.left ≡ clock new c.right
      outer o =
          let base : k.clock o.0 ≡ [] = sym (ap (clock old) o.1) ∙ (e ∙ ap (clock old) o.2) in
          ap (clock new) o.1 ∙ (ap (change (is_in o.0 group_names)) base ∙ (change_base (is_in o.0 group_names) ∙ sym (ap (clock new) o.2)))

  are_changed : (b : Bool) (cs : List Condition) → Are (VariableIn b) (NumberIn b) (UsedIn b) cs → Meets old cs → Meets new cs
  are_changed b [] i m = tt
  are_changed b (c ∷ cs) i m = (condition_changed b c i.0 m.0, are_changed b cs i.1 m.1)

  -- ---- the variables of a part's own

  all_peaked : (q : Placed) → Contains (parts k.node) q → IsPeaked k.node q.site
  all_peaked q at = parts_peaked k.node h.differ q at

  group_member : (q : Placed) → Contains (parts k.node) q → in_group q ≡ true → (v : Name) → is_in v (own q) ≡ true → is_in v group_names ≡ true
  group_member q at here v e =
      is_in_flat (λ q. if in_group q then own q else []) (parts k.node) q v at (ap (λ b. is_in v (if b then own q else [])) here ∙ e)

  shares : (q : Placed) → Contains (parts k.node) q → (v : Name) → is_in v (own q) ≡ true → is_in v group_names ≡ true → in_group q ≡ true
  shares q at v e among =
      let (p, p_at, p_in) = flat_is_in (λ (q : Placed). if in_group q then own q else []) (parts k.node) v among in
      go p p_at (in_group p) refl p_in
    where
      go : (p : Placed) → Contains (parts k.node) p → (b : Bool) → in_group p ≡ b → is_in v (if b then own p else []) ≡ true → in_group q ≡ true
      go p p_at true s i =
          let peaks : peak (own q) ≡ x = all_peaked q at v e ∙ (sym (all_peaked p p_at v i) ∙ (all_peaked p p_at x s ∙ sym x_is)) in
          subst (λ (z : Name). is_in z (own q) ≡ true) peaks (peak_in (own q) v e)
      go p p_at false s i = absurd (false≢true i)

  own_in : (q : Placed) → Contains (parts k.node) q → (v : Name) → is_in v (own q) ≡ true → VariableIn (in_group q) v
  own_in q at v e = go (in_group q) refl
    where
      outside : (b : Bool) → is_in v group_names ≡ b → in_group q ≡ false → b ≡ false
      outside true s f = absurd (false≢true (sym f ∙ shares q at v e s))
      outside false s f = refl

      go : (b : Bool) → in_group q ≡ b → is_in v group_names ≡ in_group q
      go true s = group_member q at s v e ∙ sym s
      go false s = outside (is_in v group_names) refl s ∙ sym s

  -- ---- the steps of a part

  any_here : (p : Placed → Bool) (qs : List Placed) (q : Placed) → Contains qs q → p q ≡ true → list_any p qs ≡ true
  any_here p [] q at e = contains_none q at
  any_here p (y ∷ ys) q at e = ⊎_elim (λ is. ap (λ b. b || list_any p ys) (ap p is ∙ e)) (λ c. later (p y) (any_here p ys q c e)) (contains_cases y q ys at)
    where
      later : (b : Bool) {c : Bool} → c ≡ true → b || c ≡ true
      later true e = refl
      later false e = e

  any_there : (p : Placed → Bool) (qs : List Placed) → list_any p qs ≡ true → (q : Placed) × Contains qs q × (p q ≡ true)
  any_there p [] e = absurd (false≢true e)
  any_there p (y ∷ ys) e = go (p y) refl e (any_there p ys)
    where
      go : (b : Bool) → p y ≡ b → b || list_any p ys ≡ true → (list_any p ys ≡ true → (q : Placed) × Contains ys q × (p q ≡ true)) → (q : Placed) × Contains (y ∷ ys) q × (p q ≡ true)
      go true s e later = (y, contains_here y ys, s)
      go false s e later = let r = later e in (r.0, contains_there y r.0 ys r.1, r.2)

  is_seen : (q : Placed) (z : Name) (d : Decl) (c : Clock) → Sees k q.site z d c → seen_here q z ≡ true
  is_seen q z d c s = and_from (is_some (declaration (seen_at k.node q.site) z)) (is_in z (own q) || is_base (k.clock z)) (ap is_some s.declared) (⊎_elim first second s.outer)
    where
      first : is_in z (own q) ≡ true → is_in z (own q) || is_base (k.clock z) ≡ true
      first e = ap (λ b. b || is_base (k.clock z)) e

      or_true : (b c : Bool) → c ≡ true → b || c ≡ true
      or_true true c e = refl
      or_true false c e = e

      second : k.clock z ≡ [] → is_in z (own q) || is_base (k.clock z) ≡ true
      second e = or_true (is_in z (own q)) (is_base (k.clock z)) (ap is_base e)

  seen_again : (q : Placed) (z : Name) (c : Clock) → seen_here q z ≡ true → k.clock z ≡ c → (d : Decl) × Sees k q.site z d c
  seen_again q z c e same_there =
      let (some, place) = and_parts (is_some (declaration (seen_at k.node q.site) z)) (is_in z (own q) || is_base (k.clock z)) e in
      let (d, is) = some_of (declaration (seen_at k.node q.site) z) refl some in
      (d, record { declared = is; here = here_of (is_in z (own q)) place; outer = outer_of (is_in z (own q)) refl place })
    where
      some_of : (o : Option Decl) → declaration (seen_at k.node q.site) z ≡ o → is_some o ≡ true → (d : Decl) × (declaration (seen_at k.node q.site) z ≡ Some d)
      some_of None s e = absurd (false≢true e)
      some_of (Some d) s e = (d, s)

      base_of : (c : Clock) → k.clock z ≡ c → is_base c ≡ true → k.clock z ≡ []
      base_of [] s e = s
      base_of (t ∷ ts) s e = absurd (false≢true e)

      here_of : (b : Bool) → b || is_base (k.clock z) ≡ true → (if b then k.clock z else []) ≡ c
      here_of true e = same_there
      here_of false e = sym (base_of (k.clock z) refl e) ∙ same_there

      outer_of : (b : Bool) → is_in z (own q) ≡ b → b || is_base (k.clock z) ≡ true → (is_in z (own q) ≡ true) ⊎ (k.clock z ≡ [])
      outer_of true s e = inl s
      outer_of false s e = inr (base_of (k.clock z) refl e)

  -- a step of this variable, behind the clock that it has at a part, is used
  abbrev UsedAt : Placed → Name → Type 0
  UsedAt q z = UsedIn (in_group q) (read_clock (own q) z) z

  steps_in : (q : Placed) → Contains (parts k.node) q → Each (Ok (VariableIn (in_group q)) (NumberIn (in_group q)) (UsedIn (in_group q)) (own q)) (flat_map inside (expressions_of q.part))
  steps_in q at =
      recursion_from_All (λ e. StepIn (UsedAt q) (out-Form e.form)) (flat_map inside (expressions_of q.part))
      (All-weaker (SoundAt k q.site) (λ e. StepIn (UsedAt q) (out-Form e.form)) (λ e s. step_seen k q.site (UsedAt q) uses e s.0 s.1 s.2) (flat_map inside (expressions_of q.part)) (part_inside k q.site q.part (h.sound_parts q at)))
    where
      read_is : (z : Name) (b : Bool) → (b ≡ true) ⊎ (k.clock z ≡ []) → k.clock z ≡ clock old (if b then Of z else Base)
      read_is z true o = refl
      read_is z false o = ⊎_elim (λ e. absurd (false≢true e)) (λ e. e) o

      uses : (z : Name) (d : Decl) (c : Clock) → Sees k q.site z d c → k.grade z ≡ false → UsedAt q z
      uses z d c s never g =
          let on_clock = same_clock (k.clock z) (clock old (read_clock (own q) z)) in
          and_from (seen_there z && on_clock) (not (k.grade z))
          (and_from (seen_there z) on_clock (any_here (λ q. in_group q && seen_here q z) (parts k.node) q at (and_from (in_group q) (seen_here q z) g (is_seen q z d c s)))
          (ap (same_clock (k.clock z)) (sym (read_is z (is_in z (own q)) s.outer)) ∙ same_clock_self (k.clock z)))
          (ap not never)

  -- ---- all conditions

  numbered_changed : (n : ℕ) (qs : List Placed) → ((q : Placed) → Contains qs q → Contains (parts k.node) q) → ((m : ℕ) → n ≤ m → grouped 0 (parts k.node) m ≡ grouped n qs m) → Meets old (numbered k.node n qs) → Meets new (numbered k.node n qs)
  numbered_changed n [] within zone m = tt
  numbered_changed n (q ∷ qs) within zone m =
      meets_both (part_conditions (own_names k.node q.site) (seen_at k.node q.site) n q.part) (numbered k.node (n + length (flat_map inside (expressions_of q.part))) qs)
      (are_changed (in_group q) (part_conditions (own_names k.node q.site) (seen_at k.node q.site) n q.part)
      (part_in (VariableIn (in_group q)) (NumberIn (in_group q)) (UsedIn (in_group q)) (own q) (own_in q at) (seen_at k.node q.site) n q.part range (steps_in q at))
      (meets_left old (part_conditions (own_names k.node q.site) (seen_at k.node q.site) n q.part) _ m))
      (numbered_changed (n + length (flat_map inside (expressions_of q.part))) qs (λ p c. within p (contains_there q p qs c)) later (meets_right old (part_conditions (own_names k.node q.site) (seen_at k.node q.site) n q.part) _ m))
    where
      at : Contains (parts k.node) q
      at = within q (contains_here q qs)

      meets_both : (xs ys : List Condition) → Meets new xs → Meets new ys → Meets new (xs ++ ys)
      meets_both [] ys p r = r
      meets_both (c ∷ cs) ys p r = (p.0, meets_both cs ys p.1 r)

      range : Range (NumberIn (in_group q)) n (n + length (flat_map inside (expressions_of q.part)))
      range m low high = zone m low ∙ ap (λ b. if b then in_group q else grouped (n + part_length q) qs m) (lt-ltb m (n + part_length q) high)

      later : (m : ℕ) → n + length (flat_map inside (expressions_of q.part)) ≤ m → grouped 0 (parts k.node) m ≡ grouped (n + part_length q) qs m
      later m low = zone m (omega (arith, low)) ∙ ap (λ b. if b then in_group q else grouped (n + part_length q) qs m) (le-ltb m (n + part_length q) low)

  meet_both : (xs ys : List Condition) → Meets new xs → Meets new ys → Meets new (xs ++ ys)
  meet_both [] ys p r = r
  meet_both (c ∷ cs) ys p r = (p.0, meet_both cs ys p.1 r)

  new_meets : Meets new (conditions k.node)
  new_meets =
      let ends = flat_map (λ (d : Decl). equal d.place.0 (Of d.name) Base) (k.node.inputs ++ k.node.outputs) in
      meet_both ends (numbered k.node 0 (parts k.node))
      (are_changed true ends (interface (VariableIn true) (NumberIn true) (UsedIn true) (k.node.inputs ++ k.node.outputs)) (meets_left old ends _ h.meets))
      (numbered_changed 0 (parts k.node) (λ q c. c) (λ m low. refl) (meets_right old ends _ h.meets))

  not_longer : (b : Bool) (c : Clock) → length (change b c) ≤ length c
  not_longer true c = kept_short used [] c
  not_longer false c = omega arith

  not_shorter : (d : Decl) → Contains (variables k.node) d → length (k.clock d.name) ≤ length (new_clock d.name)
  not_shorter d at =
      sum_same (λ (d : Decl). length (new_clock d.name)) (λ (d : Decl). length (k.clock d.name)) (λ d. not_longer (is_in d.name group_names) (k.clock d.name)) (variables k.node) (h.least new_clock (new_numbers, new_meets)) d at

  steps_used : (y : Name) → is_in y group_names ≡ true → AllUsed used [] (k.clock y)
  steps_used y among = ⊎_elim by_length (λ base. subst (λ (c : Clock). AllUsed used [] c) (sym base) tt) (h.declared y)
    where
      by_length : is_in y (names (variables k.node)) ≡ true → AllUsed used [] (k.clock y)
      by_length declared =
          let (d, at, is) = mapped (λ (d : Decl). d.name) (variables k.node) y (contains_is_in y (names (variables k.node)) declared) in
          let long = subst (λ (v : Name). length (k.clock v) ≤ length (new_clock v)) is (not_shorter d at) in
          none_dropped used [] (k.clock y) (subst (λ (b : Bool). length (k.clock y) ≤ length (change b (k.clock y))) among long)

  step_beside : (q : Placed) → in_group q ≡ true → (before : Clock) (z : Name) → used before z ≡ true → IsSeenBeside k q.site z before
  step_beside q here before z e =
      let (sampled, defined) = and_parts (seen_there z && same_clock (k.clock z) before) (not (k.grade z)) e in
      let (somewhere, same_there) = and_parts (seen_there z) (same_clock (k.clock z) before) sampled in
      let (p, p_at, p_is) = any_there (λ q. in_group q && seen_here q z) (parts k.node) somewhere in
      let (there, seen_p) = and_parts (in_group p) (seen_here p z) p_is in
      let (d, sees) = seen_again p z before seen_p (same_clock_is (k.clock z) before same_there) in
      record { at = p; of_node = p_at; shared = x; here = here; there = there; decl = d; sees = sees; defined = not_grade (k.grade z) defined }
    where
      not_grade : (b : Bool) → not b ≡ true → b ≡ false
      not_grade true e = absurd (false≢true e)
      not_grade false e = refl

  steps_beside : (q : Placed) → in_group q ≡ true → (before c : Clock) → AllUsed used before c → AreSeenBeside k q.site before c
  steps_beside q here before [] u = tt
  steps_beside q here before (s ∷ c) u = (step_beside q here before s.name u.0, steps_beside q here (before ++ s ∷ []) c u.1)

pub steps_seen : (k : Within) → Timed k → AreStepsSeen k
steps_seen k h q y at own_y =
    let x = peak (own_names k.node q.site) in
    let x_in : is_in x (own_names k.node q.site) ≡ true = peak_in (own_names k.node q.site) y own_y in
    let x_is = parts_peaked k.node h.differ q at x x_in in
    steps_beside k h x x_is q x_in [] (k.clock y) (steps_used k h x x_is y (group_member k h x x_is q at x_in y own_y))
