-- Numbers of names, and how cycles of numbers are those of names.
use Rattle.std.proofs.Common.{Vec, Global, ◌≡◌, ℕ, zero, suc, ◌+◌, ◌<◌, ◌≤◌, min, add-one, List, [], ◌∷◌, ◌++◌, length, map, refl, sym, ◌∙◌, ap, subst, arith, append-nil, Bool, true, false, ◌||◌, if◌then◌else◌, ◌==◌, cond, ◌⊎◌, inl, inr, Contains, All, slice_index_or}
use Rattle.std.specs.Prelude.{MatchOption, nat_lt, count_by, ⊤}
use Rattle.std.specs.List.{flat_map}
use Rattle.std.proofs.lemmas.Bool.{false≢true, ltb-true, lt-ltb}
use Rattle.std.proofs.lemmas.Bool.Decides.{nat_tests}
use Rattle.std.proofs.lemmas.Grind.{flat_map-append}
use Rattle.std.proofs.lemmas.List.{length-map, get_or-map, get_or_past}
use Rattle.std.proofs.lemmas.List.Folds.{list_any-append}
use Rattle.std.proofs.lemmas.List.Sums.{sum_by-append}
use Rattle.std.proofs.lemmas.List.Elements.{All-append, All-cons, Contains-append_left, Contains-append_right, Contains-append_cases}
use Rattle.std.proofs.lemmas.Slice.Eq.{bytes_eq-Decides}
use Rattle.hept_ast.specs.Texts.{Name, same, is_in, place_in, names}
use Rattle.hept_ast.specs.Scopes.{Clock}
use Rattle.hept_ast.specs.Parts.{Surroundings, Part, Block, Plain, Switch, Reset, Automaton, Transition, Placed, parts, variables}
use Rattle.hept_ast.specs.Causal.{InTurn, IsCycle, HasNoCycle, Reads, reads_in, variable_reads, BeginsWithFirst}
use Rattle.std.specs.Prelude.{Option, Some, None, is_some, slice_get}
use Rattle.hept_ast.specs.ClockMaps.{ClockMap, clock_in, path_in, steps_or_none}
use Rattle.hept_ast.specs.Stages.{HasLeastClocks, declares_in}
use Rattle.hept_ast.specs.declared.tree.ClockPath.{ClockPath}
use Rattle.hept_ast.specs.declared.tree.Program.{Program}
use Rattle.hept_ast.specs.declared.tree.Node.{Node}
use Rattle.causality.specs.Flows.{DataFlow, around, flow_in, flow_by, node_flows}
use Rattle.causality.specs.Graph.{Graph, Edge, InRange, IsSimpleCycle, BeginsWithLeast, row, times}
use Rattle.causality.specs.Vertices.{lefts, vertices, number_in, numbers, name_of, flow_reads, clock_reads, graph_by, HasClocksOfDeclared, IsNodeCycle}
use Rattle.causality.proofs.FlowsOf.{flows_of_parts}
use Rattle.causality.proofs.Lists.{or_left, or_right, or_either}
use Rattle.causality.proofs.Ranks.{cycle_mapped, no_cycle_mapped}

same_self : (x : Name) → same x x ≡ true
same_self x = (bytes_eq-Decides x x).1 refl

same_is : (x y : Name) → same x y ≡ true → x ≡ y
same_is x y e = (bytes_eq-Decides x y).0 e

-- ---- the place of a name

within_by : (b r : Bool) (n m : ℕ) → (r ≡ true → n < m) → b || r ≡ true → (if b then 0 else n + 1) < m + 1
within_by true r n m h e = omega arith
within_by false r n m h e = let k = h e in omega arith

long : (v : Name) (vs : List Name) → length (v ∷ vs) ≡ length vs + 1
long v vs = omega arith

pub within : (x : Name) (vs : List Name) → is_in x vs ≡ true → place_in x vs < length vs
within x [] e = absurd (false≢true e)
within x (v ∷ vs) e = rw (long v vs) (within_by (same x v) (is_in x vs) (place_in x vs) (length vs) (within x vs) e)

listed_by : (b r : Bool) (n m : ℕ) → (n < m → r ≡ true) → (if b then 0 else n + 1) < m + 1 → b || r ≡ true
listed_by true r n m h lt = refl
listed_by false r n m h lt = h (omega arith)

pub listed : (x : Name) (vs : List Name) → place_in x vs < length vs → is_in x vs ≡ true
listed x [] lt = absurd (omega arith)
listed x (v ∷ vs) lt = listed_by (same x v) (is_in x vs) (place_in x vs) (length vs) (listed x vs) (subst (λ n. place_in x (v ∷ vs) < n) (long v vs) lt)

name_by : (b : Bool) (x v : Name) (vs : List Name) → same x v ≡ b → (is_in x vs ≡ true → name_of vs (place_in x vs) ≡ x) → b || is_in x vs ≡ true → name_of (v ∷ vs) (if b then 0 else place_in x vs + 1) ≡ x
name_by true x v vs s h e = sym (same_is x v s)
name_by false x v vs s h e = rw add-one (h e)

pub name_there : (x : Name) (vs : List Name) → is_in x vs ≡ true → name_of vs (place_in x vs) ≡ x
name_there x [] e = absurd (false≢true e)
name_there x (v ∷ vs) e = name_by (same x v) x v vs refl (name_there x vs) e

-- the place in the first part of a list
prefix_by : (b : Bool) (n m k : ℕ) → n ≡ min m k → (if b then 0 else n + 1) ≡ min (if b then 0 else m + 1) (k + 1)
prefix_by true n m k e = omega arith
prefix_by false n m k e = omega arith

pub place_prefix : (x : Name) (ds ls : List Name) → place_in x ds ≡ min (place_in x (ds ++ ls)) (length ds)
place_prefix x [] ls = omega arith
place_prefix x (d ∷ ds) ls = rw (long d ds) (prefix_by (same x d) (place_in x ds) (place_in x (ds ++ ls)) (length ds) (place_prefix x ds ls))

-- ---- numbers of names

one_within : (vs : List Name) (x : Name) (b : Bool) → nat_lt (place_in x vs) (length vs) ≡ b → All (λ w. w < length vs) (if b then place_in x vs ∷ [] else [])
one_within vs x true e = All-cons (λ w. w < length vs) (place_in x vs) [] (ltb-true (place_in x vs) (length vs) e) (λ k d lt. absurd (omega arith))
one_within vs x false e = λ k d lt. absurd (omega arith)

pub numbers_within : (vs xs : List Name) → All (λ w. w < length vs) (numbers vs xs)
numbers_within vs [] = λ k d lt. absurd (omega arith)
numbers_within vs (x ∷ xs) = All-append (λ w. w < length vs) (number_in vs x) (numbers vs xs) (one_within vs x (nat_lt (place_in x vs) (length vs)) refl) (numbers_within vs xs)

of_one : (vs : List Name) (x : Name) (w : ℕ) (b : Bool) → nat_lt (place_in x vs) (length vs) ≡ b → Contains (if b then place_in x vs ∷ [] else []) w → (place_in x vs ≡ w) × (w < length vs)
of_one vs x w true e c =
    let z : c.0 ≡ 0 = omega (arith, c.1) in
    let k : place_in x vs ≡ w = subst (λ i. slice_index_or (place_in x vs ∷ []) i w ≡ w) z c.2 in
    (k, subst (λ n. n < length vs) k (ltb-true (place_in x vs) (length vs) e))
of_one vs x w false e c = absurd (omega (arith, c.1))

pub in_numbers : (vs xs : List Name) (w : ℕ) → Contains (numbers vs xs) w → (y : Name) × (is_in y xs ≡ true) × (place_in y vs ≡ w) × (w < length vs)
in_numbers vs [] w c = absurd (omega (arith, c.1))
in_numbers vs (x ∷ xs) w c = elim (Contains-append_cases (number_in vs x) (numbers vs xs) w c) [
  | inl h ↦ let o = of_one vs x w (nat_lt (place_in x vs) (length vs)) refl h in (x, or_left (same x x) (is_in x xs) (same_self x), o.0, o.1)
  | inr h ↦ let r = in_numbers vs xs w h in (r.0, or_right (same r.0 x) (is_in r.0 xs) r.1, r.2, r.3)
]

pub numbers_in : (vs xs : List Name) (y : Name) → is_in y xs ≡ true → place_in y vs < length vs → Contains (numbers vs xs) (place_in y vs)
numbers_in vs [] y e lt = absurd (false≢true e)
numbers_in vs (x ∷ xs) y e lt = elim (or_either (same y x) (is_in y xs) e) [
  | inl s ↦
      let k : y ≡ x = same_is y x s in
      let one : Contains (number_in vs y) (place_in y vs) = subst (λ (b : Bool). Contains (if b then place_in y vs ∷ [] else []) (place_in y vs)) (sym (lt-ltb (place_in y vs) (length vs) lt)) (0, omega arith, refl) in
      Contains-append_left (number_in vs x) (numbers vs xs) (place_in y vs) (subst (λ z. Contains (number_in vs z) (place_in y vs)) k one)
  | inr r ↦ Contains-append_right (number_in vs x) (numbers vs xs) (place_in y vs) (numbers_in vs xs y r lt)
]

-- ---- what the equations of a node read

reads_of_part : (x : Name) (site : Surroundings) (q : Part) → flat_map (λ f. if is_in x f.left then f.reads else []) (flow_by (around site) q) ≡ reads_in x site q
reads_of_part x site (Block ds es) = refl
reads_of_part x site (Plain p left right) = append-nil _
reads_of_part x site (Switch p on bs) = refl
reads_of_part x site (Reset p every sets) = refl
reads_of_part x site (Automaton p qs) = refl
reads_of_part x site (Transition s qs e) = refl

reads_each : (x : Name) (qs : List Placed) → flow_reads (flat_map flow_in qs) x ≡ flat_map (λ q. reads_in x q.site q.part) qs
reads_each x [] = refl
reads_each x (q ∷ qs) =
    flat_map-append (λ (f : DataFlow). if is_in x f.left then f.reads else []) (flow_in q) (flat_map flow_in qs)
    ∙ (ap (λ t. t ++ flow_reads (flat_map flow_in qs) x) (reads_of_part x q.site q.part) ∙ ap (λ t. reads_in x q.site q.part ++ t) (reads_each x qs))

reads_are : (node : Node) (clock : Name → Clock) (x : Name) → flow_reads (node_flows node) x ++ clock_reads clock x ≡ variable_reads node clock x
reads_are node clock x = ap (λ t. t ++ clock_reads clock x) (ap (λ fs. flow_reads fs x) (sym (flows_of_parts node)) ∙ reads_each x (parts node))

defined_by : (b : Bool) (reads : List Name) (y : Name) → is_in y (if b then reads else []) ≡ true → b ≡ true
defined_by true reads y e = refl
defined_by false reads y e = absurd (false≢true e)

source_in : (flows : List DataFlow) (x y : Name) → is_in y (flow_reads flows x) ≡ true → is_in x (lefts flows) ≡ true
source_in [] x y e = e
source_in (f ∷ fs) x y e =
    list_any-append (same x) f.left (lefts fs)
    ∙ elim (or_either _ _ (sym (list_any-append (same y) (if is_in x f.left then f.reads else []) (flow_reads fs x)) ∙ e)) [
      | inl h ↦ or_left _ _ (defined_by (is_in x f.left) f.reads y h)
      | inr h ↦ or_right _ _ (source_in fs x y h)
    ]

-- ---- edges and reads

lt_or : (n m : ℕ) → (n < m) ⊎ (m ≤ n)
lt_or n zero = inr (omega arith)
lt_or zero (suc m) = inl (omega arith)
lt_or (suc n) (suc m) = elim (lt_or n m) [ inl h ↦ inl (omega arith) | inr h ↦ inr (omega arith) ]

count_more : {X : Type 0} (p : X → Bool) (y : X) (ys : List X) → count_by p (y ∷ ys) ≡ cond (p y) 1 0 + count_by p ys
count_more p y ys = sum_by-append (λ x. cond (p x) 1 0) (y ∷ []) ys ∙ ap (λ t. t + count_by p ys) (omega arith)

module _ (node : Node) (clock : Name → Clock) where
  abbrev g : Graph
  g = graph_by (vertices node) (node_flows node) clock

  abbrev vs : List Name
  vs = vertices node

  row_is : (u : ℕ) → u < length vs → row g u ≡ numbers vs (variable_reads node clock (name_of vs u))
  row_is u lt = get_or-map (λ x. numbers vs (flow_reads (node_flows node) x ++ clock_reads clock x)) vs u [] [] lt ∙ ap (numbers vs) (reads_are node clock (name_of vs u))

  as_long : length g ≡ length vs
  as_long = length-map vs (λ x. numbers vs (flow_reads (node_flows node) x ++ clock_reads clock x))

  row_within : (u : ℕ) → (u < length vs) ⊎ (length vs ≤ u) → All (λ w. w < length vs) (row g u)
  row_within u (inl lt) = subst (All (λ w. w < length vs)) (sym (row_is u lt)) (numbers_within vs (variable_reads node clock (name_of vs u)))
  row_within u (inr past) = subst (All (λ w. w < length vs)) (sym (get_or_past g u [] (subst (λ n. n ≤ u) (sym as_long) past))) (λ k d lt. absurd (omega arith))

  pub in_range : InRange g
  in_range = λ u. subst (λ n. All (λ w. w < n) (row g u)) (sym as_long) (row_within u (lt_or u (length vs)))

  edge_reads : (u v : ℕ) → Edge g u v → Reads node clock (name_of vs u) (name_of vs v) × (place_in (name_of vs v) vs ≡ v)
  edge_reads u v e =
      let lt : u < length vs = subst (λ n. u < n) as_long e.from in
      let r = in_numbers vs (variable_reads node clock (name_of vs u)) v (subst (λ t. Contains t v) (row_is u lt) e.to) in
      let y = r.0 in
      let here : is_in y vs ≡ true = listed y vs (subst (λ n. n < length vs) (sym r.2) r.3) in
      let named : name_of vs v ≡ y = ap (name_of vs) (sym r.2) ∙ name_there y vs here in
      (subst (λ z. Reads node clock (name_of vs u) z) (sym named) r.1, ap (λ z. place_in z vs) named ∙ r.2)

  reads_edge : (x y : Name) → Reads node clock x y → is_in x vs ≡ true → is_in y vs ≡ true → Edge g (place_in x vs) (place_in y vs)
  reads_edge x y r hx hy =
      let lt : place_in x vs < length vs = within x vs hx in
      record {
        from = subst (λ n. place_in x vs < n) (sym as_long) lt;
        to = subst (λ t. Contains t (place_in y vs)) (sym (row_is (place_in x vs) lt)) (numbers_in vs (variable_reads node clock (name_of vs (place_in x vs))) y (subst (λ z. Reads node clock z y) (sym (name_there x vs hx)) r) (within y vs hy));
      }

  -- each that reads has a number
  module _ (declared : HasClocksOfDeclared node clock) where
    source : (x y : Name) → Reads node clock x y → is_in x vs ≡ true
    source x y r =
        list_any-append (same x) (names (variables node)) (lefts (node_flows node))
        ∙ elim (or_either _ _ (sym (list_any-append (same y) (flow_reads (node_flows node) x) (clock_reads clock x)) ∙ (ap (is_in y) (reads_are node clock x) ∙ r))) [
          | inl h ↦ or_right _ _ (source_in (node_flows node) x y h)
          | inr h ↦ or_left _ _ (declared x y h)
        ]

    abbrev Inner : Name → Name → Type 0
    Inner x y = Reads node clock x y × (is_in y vs ≡ true)

    source_of : (first y : Name) (ys : List Name) → InTurn (Reads node clock) first (y ∷ ys) → is_in y vs ≡ true
    source_of first y [] t = source y first t
    source_of first y (z ∷ zs) t = source y z t.0

    inner_turn : (first x : Name) (xs : List Name) → is_in first vs ≡ true → InTurn (Reads node clock) first (x ∷ xs) → InTurn Inner first (x ∷ xs)
    inner_turn first x [] f t = (t, f)
    inner_turn first x (y ∷ ys) f t = ((t.0, source_of first y ys t.1), inner_turn first y ys f t.1)

    pub no_cycle_of_names : HasNoCycle (Edge g) → HasNoCycle (Reads node clock)
    no_cycle_of_names none [] c = c
    no_cycle_of_names none (x ∷ xs) c =
        no_cycle_mapped Inner (Edge g) (λ y. place_in y vs) (λ x y r. reads_edge x y r.0 (source x y r.0) r.1) none (x ∷ xs) (inner_turn x x xs (source_of x x xs c) c)

  -- ---- the cycle that is kept

  abbrev EachFirst : List ℕ → Type 0
  EachFirst [] = ⊤
  EachFirst (k ∷ ks) = (place_in (name_of vs k) vs ≡ k) × EachFirst ks

  rest_first : (z k : ℕ) (ks : List ℕ) → InTurn (Edge g) z (k ∷ ks) → EachFirst ks
  rest_first z k [] t = tt
  rest_first z k (m ∷ ms) t = ((edge_reads k m t.0).1, rest_first z m ms t.1)

  last_first : (z k : ℕ) (ks : List ℕ) → InTurn (Edge g) z (k ∷ ks) → place_in (name_of vs z) vs ≡ z
  last_first z k [] t = (edge_reads k z t).1
  last_first z k (m ∷ ms) t = last_first z m ms t.1

  cycle_first : (ks : List ℕ) → IsCycle (Edge g) ks → EachFirst ks
  cycle_first [] c = tt
  cycle_first (k ∷ ks) c = (last_first k k ks c, rest_first k k ks c)

  one_count : (x : Name) (k : ℕ) (b : Bool) → place_in (name_of vs k) vs ≡ k → same x (name_of vs k) ≡ b → cond {A = ℕ} b 1 0 ≤ cond (k == place_in x vs) 1 0
  one_count x k true f e = let h : k ≡ place_in x vs = sym f ∙ ap (λ z. place_in z vs) (sym (same_is x (name_of vs k) e)) in grind (arith, nat_tests)
  one_count x k false f e = omega arith

  count_le : (x : Name) (ks : List ℕ) → EachFirst ks → count_by (same x) (map (name_of vs) ks) ≤ times (place_in x vs) ks
  count_le x [] f = omega arith
  count_le x (k ∷ ks) f = let h = one_count x k (same x (name_of vs k)) f.0 refl in let t = count_le x ks f.1 in omega (arith, h, t, count_more (same x) (name_of vs k) (map (name_of vs) ks), count_more (λ w. w == place_in x vs) k ks)

  in_order : (k w : ℕ) → place_in (name_of vs k) vs ≡ k → place_in (name_of vs w) vs ≡ w → k ≤ w → place_in (name_of vs k) (names (variables node)) ≤ place_in (name_of vs w) (names (variables node))
  in_order k w f h le =
      let a = place_prefix (name_of vs k) (names (variables node)) (lefts (node_flows node)) in
      let b = place_prefix (name_of vs w) (names (variables node)) (lefts (node_flows node)) in
      omega (arith, a, b, f, h, le)

  no_later : (k : ℕ) (ws : List ℕ) → place_in (name_of vs k) vs ≡ k → EachFirst ws → ((i d : ℕ) → i < length ws → k ≤ slice_index_or ws i d)
      → All (λ y. place_in (name_of vs k) (names (variables node)) ≤ place_in y (names (variables node))) (map (name_of vs) ws)
  no_later k [] f h le = λ i d lt. absurd (omega arith)
  no_later k (w ∷ ws) f h le =
      All-cons (λ y. place_in (name_of vs k) (names (variables node)) ≤ place_in y (names (variables node))) (name_of vs w) (map (name_of vs) ws) (in_order k w f h.0 (le 0 0 (omega arith)))
      (no_later k ws f h.1 (λ i d lt. le (suc i) d (omega arith)))

  begins : (ks : List ℕ) → IsCycle (Edge g) ks → BeginsWithLeast ks → BeginsWithFirst (names (variables node)) (map (name_of vs) ks)
  begins [] c b = c
  begins (k ∷ ks) c b = let f = cycle_first (k ∷ ks) c in no_later k ks f.0 f.1 (λ i d lt. b (suc i) d (omega arith))

  pub kept_cycle : (ks : List ℕ) → IsSimpleCycle g ks → BeginsWithLeast ks → IsNodeCycle node clock (map (name_of vs) ks)
  kept_cycle ks s b = record {
    cycle = cycle_mapped (Edge g) (Reads node clock) (name_of vs) (λ u v e. (edge_reads u v e).0) ks s.cycle;
    first = begins ks s.cycle b;
    once = λ x. let t = s.once (place_in x vs) in let c = count_le x ks (cycle_first ks s.cycle) in omega (arith, t, c);
  }

  -- each vertex of a cycle is one of the graph's
  turn_within : (z k : ℕ) (ks : List ℕ) → InTurn (Edge g) z (k ∷ ks) → All (λ w. w < length vs) (k ∷ ks)
  turn_within z k [] t = All-cons (λ w. w < length vs) k [] (subst (λ n. k < n) as_long t.from) (λ i d lt. absurd (omega arith))
  turn_within z k (m ∷ ms) t = All-cons (λ w. w < length vs) k (m ∷ ms) (subst (λ n. k < n) as_long t.0.from) (turn_within z m ms t.1)

  pub cycle_within : (ks : List ℕ) → IsCycle (Edge g) ks → All (λ w. w < length vs) ks
  cycle_within [] c = absurd c
  cycle_within (k ∷ ks) c = turn_within k k ks c

-- what the search for a cycle finds
module _ (node : Node) (clock : Name → Clock) (gr : Graph) (is : gr ≡ graph_by (vertices node) (node_flows node) clock) (o : Option (Vec ℕ Global))
    (found : MatchOption o (HasNoCycle (Edge gr)) (λ c. IsSimpleCycle gr c.items × BeginsWithLeast c.items)) where
  pub cycle_found : (cycle : Vec ℕ Global) → o ≡ Some cycle → IsSimpleCycle (graph_by (vertices node) (node_flows node) clock) cycle.items × BeginsWithLeast cycle.items
  cycle_found cycle e =
      let h : IsSimpleCycle gr cycle.items × BeginsWithLeast cycle.items = subst (λ p. MatchOption p (HasNoCycle (Edge gr)) (λ c. IsSimpleCycle gr c.items × BeginsWithLeast c.items)) e found in
      (subst (λ t. IsSimpleCycle t cycle.items) is h.0, h.1)

  pub none_found : HasClocksOfDeclared node clock → o ≡ None → HasNoCycle (Reads node clock)
  none_found declared e =
      let h : HasNoCycle (Edge gr) = subst (λ p. MatchOption p (HasNoCycle (Edge gr)) (λ c. IsSimpleCycle gr c.items × BeginsWithLeast c.items)) e found in
      no_cycle_of_names node clock declared (subst (λ t. HasNoCycle (Edge t)) is h)

pub all_within : {X : Type 0} (f : X → Name) (xs : List X) (node : Node) (clock : Name → Clock) (ks ms : List ℕ) → map f xs ≡ vertices node → ms ≡ ks → IsCycle (Edge (graph_by (vertices node) (node_flows node) clock)) ks
    → All (λ w. w < length xs) ms
all_within f xs node clock ks ms e h c =
    subst (λ n. All (λ w. w < n) ms) (ap length (sym e) ∙ length-map xs f) (subst (λ l. All (λ w. w < length (vertices node)) l) (sym h) (cycle_within node clock ks c))

-- a variable with a clock other than the base clock is declared
by_path : (o : Option ClockPath) (y : Name) → is_in y (map (λ s. s.name) (steps_or_none o)) ≡ true → is_some o ≡ true
by_path None y e = absurd (false≢true e)
by_path (Some p) y e = refl

pub declared_clocks : (program : Program) (clocks : ClockMap) (k : ℕ) (node : Node) → HasLeastClocks program clocks → slice_get program.nodes k ≡ Some node → HasClocksOfDeclared node (clock_in clocks k)
declared_clocks program clocks k node h at x y e = ap (λ o. declares_in o x) (sym at) ∙ (sym (h.exact k x) ∙ by_path (path_in clocks k x) y e)
