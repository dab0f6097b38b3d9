-- Calls of a well-formed core end, and its left sides are on the clocks of their equations.
use Rattle.std.proofs.Common.{◌≡◌, ℕ, zero, suc, ◌+◌, ◌<◌, ◌≤◌, Bool, true, false, ◌||◌, if◌then◌else◌, List, [], ◌∷◌, ◌++◌, map, length, refl, sym, ap, subst, ◌∙◌, ◌⊎◌, inl, inr, ⊎_elim, Option, Some, None, slice_get, slice_index_or, arith, Contains}
use Rattle.std.specs.List.{list_any, flat_map, find}
use Rattle.std.proofs.lemmas.Bool.{false≢true}
use Rattle.std.proofs.lemmas.List.{length-map}
use Rattle.std.proofs.lemmas.List.Elements.{All-contains}
use Rattle.hept_ast.specs.Texts.{Name, same, is_in}
use Rattle.hept_ast.specs.Meaning.{clock_of_equation}
use Rattle.hept_ast.specs.Faults.{calls_lead, calls_of, lead, node_named}
use Rattle.hept_ast.specs.Paths.{AllDiffer, IsAmong, at_head, in_tail}
use Rattle.hept_ast.specs.declared.tree.Core.{Core}
use Rattle.hept_ast.specs.declared.tree.CoreNode.{CoreNode}
use Rattle.hept_ast.specs.declared.tree.CoreEquation.{CoreEquation}
use Rattle.hept_ast.specs.declared.tree.Node.{Node}
use Rattle.core_rules.specs.Cores.{as_node}
use Rattle.core_rules.specs.WellFormed.{ALeftSideIsOnItsClock, Accessible, CallsNode, CoreCallsEnd, IsWellFormed, IsWellFormedNode}
use Rattle.core_rules.proofs.Ends.{Chain, all_end, same_is, same_self}

-- ---- elements

contains_at : {A : Type 0} (x y : A) (xs : List A) (k : ℕ) → k < length (x ∷ xs) → slice_index_or (x ∷ xs) k y ≡ y → (x ≡ y) ⊎ Contains xs y
contains_at x y xs zero lt e = inl e
contains_at x y xs (suc k) lt e = inr (k, omega arith, e)

contains_cases : {A : Type 0} (x y : A) (xs : List A) → Contains (x ∷ xs) y → (x ≡ y) ⊎ Contains xs y
contains_cases x y xs h = contains_at x y xs h.0 h.1 h.2

contains_none : {A P : Type 0} (x : A) → Contains [] x → P
contains_none x h = let lt = h.1 in absurd (omega arith)

-- ---- left sides

among : (x : Name) (xs : List Name) → is_in x xs ≡ true → IsAmong x xs
among x [] e = absurd (false≢true e)
among x (y ∷ ys) e = go (same x y) refl e (among x ys)
  where
    go : (b : Bool) → same x y ≡ b → b || is_in x ys ≡ true → (is_in x ys ≡ true → IsAmong x ys) → IsAmong x (y ∷ ys)
    go true s e later = subst (λ (z : Name). IsAmong x (z ∷ ys)) (same_is x y s) at_head
    go false s e later = in_tail (later e)

pub in_second : (x : Name) (xs ys : List Name) → is_in x ys ≡ true → is_in x (xs ++ ys) ≡ true
in_second x [] ys e = e
in_second x (z ∷ zs) ys e = go (same x z) (in_second x zs ys e)
  where
    go : (b : Bool) → is_in x (zs ++ ys) ≡ true → b || is_in x (zs ++ ys) ≡ true
    go true h = refl
    go false h = h

pub in_first : (x : Name) (xs ys : List Name) → is_in x xs ≡ true → is_in x (xs ++ ys) ≡ true
in_first x [] ys e = absurd (false≢true e)
in_first x (z ∷ zs) ys e = go (same x z) e (in_first x zs ys)
  where
    go : (b : Bool) → b || is_in x zs ≡ true → (is_in x zs ≡ true → is_in x (zs ++ ys) ≡ true) → b || is_in x (zs ++ ys) ≡ true
    go true e later = refl
    go false e later = later e

pub not_both : (x : Name) (xs ys : List Name) → AllDiffer (xs ++ ys) → is_in x ys ≡ true → is_in x xs ≡ false
not_both x [] ys h e = refl
not_both x (z ∷ zs) ys h e = go (same x z) refl (not_both x zs ys h.1 e)
  where
    go : (b : Bool) → same x z ≡ b → is_in x zs ≡ false → same x z || is_in x zs ≡ false
    go true s r = absurd (h.0 (subst (λ (v : Name). IsAmong v (zs ++ ys)) (same_is x z s) (among x (zs ++ ys) (in_second x zs ys e))))
    go false s r = ap (λ b. b || is_in x zs) s ∙ r

pub rest_differs : (xs ys : List Name) → AllDiffer (xs ++ ys) → AllDiffer ys
rest_differs [] ys h = h
rest_differs (x ∷ xs) ys h = rest_differs xs ys h.1

in_lefts : (x : Name) (es : List CoreEquation) (e : CoreEquation) → Contains es e → is_in x e.left ≡ true → is_in x (flat_map (λ d. d.left) es) ≡ true
in_lefts x [] e at i = contains_none e at
in_lefts x (d ∷ ds) e at i =
    ⊎_elim (λ is. in_first x d.left (flat_map (λ d. d.left) ds) (subst (λ (z : CoreEquation). is_in x z.left ≡ true) (sym is) i))
    (λ c. in_second x d.left (flat_map (λ d. d.left) ds) (in_lefts x ds e c i)) (contains_cases d e ds at)

found : (x : Name) (es : List CoreEquation) (e : CoreEquation) → AllDiffer (flat_map (λ d. d.left) es) → Contains es e → is_in x e.left ≡ true → find (λ d. is_in x d.left) es ≡ Some e
found x [] e differ at i = contains_none e at
found x (d ∷ ds) e differ at i =
    ⊎_elim (λ is. ap (λ b. if b then Some d else find (λ d. is_in x d.left) ds) (subst (λ (z : CoreEquation). is_in x z.left ≡ true) (sym is) i) ∙ ap Some is)
    (λ c. ap (λ b. if b then Some d else find (λ d. is_in x d.left) ds) (not_both x d.left (flat_map (λ d. d.left) ds) differ (in_lefts x ds e c i))
    ∙ found x ds e (rest_differs d.left (flat_map (λ d. d.left) ds) differ) c i) (contains_cases d e ds at)

pub a_left_side_is_on_its_clock : ALeftSideIsOnItsClock
a_left_side_is_on_its_clock core node e x h at i = ap clock_of_equation (found x node.equations e h.one_left at i)

-- ---- nodes by their names

name_by : (b : Bool) (f : Name) (m n : Node) (rest : Option Node) → same f m.name ≡ b → (rest ≡ Some n → f ≡ n.name) → (if b then Some m else rest) ≡ Some n → f ≡ n.name
name_by true f m n rest s later e = same_is f m.name s ∙ ap (λ (z : Node). z.name) some_is
  where
    some_is : m ≡ n
    some_is = cc
name_by false f m n rest s later e = later e

name_of_named : (nodes : List Node) (f : Name) (n : Node) → node_named nodes f ≡ Some n → f ≡ n.name
name_of_named [] f n e = cc
name_of_named (m ∷ ms) f n e = name_by (same f m.name) f m n (node_named ms f) refl (name_of_named ms f n) e

place_by : (b : Bool) (n m : Node) (ns : List Node) (rest : Option Node) → (rest ≡ Some m → (i : ℕ) × (slice_get ns i ≡ Some m)) → (if b then Some n else rest) ≡ Some m → (i : ℕ) × (slice_get (n ∷ ns) i ≡ Some m)
place_by true n m ns rest later e = (zero, e)
place_by false n m ns rest later e = let r = later e in (suc r.0, r.1)

place_of : (nodes : List Node) (f : Name) (n : Node) → node_named nodes f ≡ Some n → (i : ℕ) × (slice_get nodes i ≡ Some n)
place_of [] f n e = cc
place_of (m ∷ ms) f n e = place_by (same f m.name) m n ms (node_named ms f) (place_of ms f n) e

name_listed : (nodes : List Node) (i : ℕ) (n : Node) → slice_get nodes i ≡ Some n → is_in n.name (map (λ m. m.name) nodes) ≡ true
name_listed [] i n e = cc
name_listed (m ∷ ms) zero n e = ap (λ b. b || is_in n.name (map (λ (m : Node). m.name) ms)) (subst (λ (x : Node). same x.name m.name ≡ true) some_is (same_self m.name))
  where
    some_is : m ≡ n
    some_is = cc
name_listed (m ∷ ms) (suc i) n e = later (same n.name m.name) (name_listed ms i n e)
  where
    later : (b : Bool) {c : Bool} → c ≡ true → b || c ≡ true
    later true h = refl
    later false h = h

-- a node seen as one of a program is that of the core
of_core : (nodes : List CoreNode) (i : ℕ) (n : Node) → slice_get (map as_node nodes) i ≡ Some n → (node : CoreNode) × Contains nodes node × (as_node node ≡ n)
of_core [] i n e = cc
of_core (m ∷ ms) zero n e = (m, (0, omega arith, refl), some_is)
  where
    some_is : as_node m ≡ n
    some_is = cc
of_core (m ∷ ms) (suc i) n e = let r = of_core ms i n e in (r.0, (suc r.1.0, longer r.1.0 r.1.1, r.1.2), r.2)
  where
    longer : (k : ℕ) → k < length ms → suc k < length (m ∷ ms)
    longer k h = omega arith

contained : (x : Name) (xs : List Name) → is_in x xs ≡ true → Contains xs x
contained x [] e = absurd (false≢true e)
contained x (y ∷ ys) e = go (same x y) refl e (contained x ys)
  where
    go : (b : Bool) → same x y ≡ b → b || is_in x ys ≡ true → (is_in x ys ≡ true → Contains ys x) → Contains (y ∷ ys) x
    go true s e later = (0, omega arith, sym (same_is x y s))
    go false s e later = let r = later e in (suc r.0, longer r.0 r.1, r.2)
      where
        longer : (k : ℕ) → k < length ys → suc k < length (y ∷ ys)
        longer k h = omega arith

-- a node that a node calls leads to it by no calls
not_back : (core : Core) → IsWellFormed core → (f g : Name) → CallsNode (map as_node core.nodes) f g → calls_lead (map as_node core.nodes) g f ≡ false
not_back core h f g calls = go (node_named (map as_node core.nodes) f) refl calls
  where
    go : (o : Option Node) → node_named (map as_node core.nodes) f ≡ o → is_in g (calls_of o) ≡ true → calls_lead (map as_node core.nodes) g f ≡ false
    go None is e = absurd (false≢true e)
    go (Some n) is e =
        let (i, at) = place_of (map as_node core.nodes) f n is in
        let (node, inside, node_is) = of_core core.nodes i n at in
        let free = (All-contains (IsWellFormedNode core) core.nodes node h inside).calls g (subst (λ (z : Node). is_in g (calls_of (Some z)) ≡ true) (sym node_is) e) in
        subst (λ (x : Name). calls_lead (map as_node core.nodes) g x ≡ false) (sym (name_of_named (map as_node core.nodes) f n is ∙ ap (λ (z : Node). z.name) (sym node_is))) free

-- fewer calls lead no further
any_more : (p q : Name → Bool) → ((x : Name) → p x ≡ true → q x ≡ true) → (xs : List Name) → list_any p xs ≡ true → list_any q xs ≡ true
any_more p q h [] e = e
any_more p q h (x ∷ xs) e = go (p x) refl e (any_more p q h xs)
  where
    first : (b : Bool) (c : Bool) → b ≡ true → b || c ≡ true
    first true c e = refl
    first false c e = absurd (false≢true e)

    second : (b c : Bool) → c ≡ true → b || c ≡ true
    second true c e = refl
    second false c e = e

    go : (b : Bool) → p x ≡ b → b || list_any p xs ≡ true → (list_any p xs ≡ true → list_any q xs ≡ true) → q x || list_any q xs ≡ true
    go true s e later = first (q x) (list_any q xs) (h x s)
    go false s e later = second (q x) (list_any q xs) (later e)

or_more : (b c d : Bool) → (c ≡ true → d ≡ true) → b || c ≡ true → b || d ≡ true
or_more true c d h e = refl
or_more false c d h e = h e

lead_more : (nodes : List Node) (k m : ℕ) → k ≤ m → (f g : Name) → lead nodes k f g ≡ true → lead nodes m f g ≡ true
lead_more nodes zero zero le f g e = e
lead_more nodes zero (suc m) le f g e = ap (λ b. b || list_any (λ h. lead nodes m h g) (calls_of (node_named nodes f))) e
lead_more nodes (suc k) zero le f g e = absurd (omega arith)
lead_more nodes (suc k) (suc m) le f g e =
    or_more (same f g) (list_any (λ h. lead nodes k h g) (calls_of (node_named nodes f))) (list_any (λ h. lead nodes m h g) (calls_of (node_named nodes f)))
    (λ a. any_more (λ h. lead nodes k h g) (λ h. lead nodes m h g) (λ x t. lead_more nodes k m (omega arith) x g t) (calls_of (node_named nodes f)) a) e

-- one that is in the list passes
passes_in : (p : Name → Bool) (x : Name) (xs : List Name) → is_in x xs ≡ true → p x ≡ true → list_any p xs ≡ true
passes_in p x [] e h = e
passes_in p x (y ∷ ys) e h = go (same x y) refl e (λ (i : is_in x ys ≡ true). passes_in p x ys i h)
  where
    second : (b c : Bool) → c ≡ true → b || c ≡ true
    second true c e = refl
    second false c e = e

    go : (b : Bool) → same x y ≡ b → b || is_in x ys ≡ true → (is_in x ys ≡ true → list_any p ys ≡ true) → p y || list_any p ys ≡ true
    go true s e later = ap (λ b. b || list_any p ys) (subst (λ (z : Name). p z ≡ true) (same_is x y s) h)
    go false s e later = second (p y) (list_any p ys) (later e)

module _ (core : Core) (h : IsWellFormed core) where
  abbrev nodes : List Node
  nodes = map as_node core.nodes

  -- z leads to x by at most k calls, and the path leads to z
  comes_back : (x z : Name) (path : List Name) (k : ℕ) → lead nodes k z x ≡ true → k + length path ≤ length nodes → Chain (CallsNode nodes) z path → is_in x path ≡ true → ⊥
  comes_back x z [] k led few chain e = false≢true e
  comes_back x z (p ∷ ps) k led few chain e = go (same x p) refl e (λ (i : is_in x ps ≡ true). comes_back x p ps (suc k) further (omega arith) chain.1 i)
    where
      second : (b d : Bool) → d ≡ true → b || d ≡ true
      second true d e = refl
      second false d e = e

      further : lead nodes (suc k) p x ≡ true
      further = second (same p x) _ (passes_in (λ h. lead nodes k h x) z (calls_of (node_named nodes p)) chain.0 led)

      short : k ≤ length nodes
      short = omega (arith, few)

      go : (b : Bool) → same x p ≡ b → b || is_in x ps ≡ true → (is_in x ps ≡ true → ⊥) → ⊥
      go true s e later = false≢true (sym (not_back core h x z (subst (λ (v : Name). CallsNode nodes v z) (sym (same_is x p s)) chain.0)) ∙ lead_more nodes k (length nodes) short z x led)
      go false s e later = later e

  called_among : (f g : Name) → CallsNode nodes f g → is_in f (map (λ n. n.name) nodes) ≡ true
  called_among f g calls = go (node_named nodes f) refl calls
    where
      go : (o : Option Node) → node_named nodes f ≡ o → is_in g (calls_of o) ≡ true → is_in f (map (λ (n : Node). n.name) nodes) ≡ true
      go None is e = absurd (false≢true e)
      go (Some n) is e =
          let (i, at) = place_of nodes f n is in
          let f_is = name_of_named nodes f n is in
          subst (λ (x : Name). is_in x (map (λ (n : Node). n.name) nodes) ≡ true) (sym f_is) (name_listed nodes i n at)

  few_calls : (path : List Name) → length path ≤ length (map (λ (n : Node). n.name) nodes) → 0 + length path ≤ length nodes
  few_calls path few = let k = subst (λ m. length path ≤ m) (length-map nodes (λ (n : Node). n.name)) few in omega arith

  program_calls_end : (f : Name) → Accessible (CallsNode nodes) f
  program_calls_end f = all_end (CallsNode nodes) (map (λ (n : Node). n.name) nodes) (record {
    among = called_among;
    no_return = λ x path few chain e. comes_back x x path zero (same_self x) (few_calls path few) chain e;
  }) f

pub core_calls_end : CoreCallsEnd
core_calls_end core h f = program_calls_end core h f
