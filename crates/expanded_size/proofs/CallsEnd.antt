-- Calls of a program without faults end.
use Rattle.std.proofs.Common.{◌≡◌, ℕ, zero, suc, ◌+◌, ◌≤◌, Bool, true, false, ◌||◌, if◌then◌else◌, List, [], ◌∷◌, map, length, refl, sym, ap, subst, ◌∙◌, Option, Some, None, slice_get, arith, All}
use Rattle.std.specs.List.{list_any, flat_map}
use Rattle.std.specs.Option.{option_map}
use Rattle.std.proofs.lemmas.Bool.{false≢true}
use Rattle.std.proofs.lemmas.List.{length-map}
use Rattle.std.proofs.lemmas.List.Elements.{All-head, All-tail}
use Rattle.hept_ast.specs.Texts.{Name, same, is_in}
use Rattle.hept_ast.specs.Faults.{IsTyped, calls_lead, calls_of, faults, lead, node_faults, node_named, seconds}
use Rattle.hept_ast.specs.declared.tree.Node.{Node}
use Rattle.hept_ast.specs.declared.tree.Program.{Program}
use Rattle.call_graph.specs.Graph.{node_place}
use Rattle.core_rules.specs.WellFormed.{Accessible, CallsNode}
use Rattle.core_rules.proofs.Ends.{Chain, all_end, same_is, same_self}
use Rattle.sound_expressions.specs.Demands.{NamesDiffer}
use Rattle.sound_expressions.proofs.Lists.{names_differ, nil_left, nil_right, none_of_each}
use Rattle.expanded_size.proofs.NotBack.{NotBack, node_calls}

-- ---- names in lists

pub is_first : (x : Name) (xs : List Name) → is_in x (x ∷ xs) ≡ true
is_first x xs = ap (λ b. b || is_in x xs) (same_self x)

or_second : (b c : Bool) → c ≡ true → b || c ≡ true
or_second true c e = refl
or_second false c e = e

or_more : (b c d : Bool) → (c ≡ true → d ≡ true) → b || c ≡ true → b || d ≡ true
or_more true c d h e = refl
or_more false c d h e = h e

pub is_later : (x y : Name) (ys : List Name) → is_in x ys ≡ true → is_in x (y ∷ ys) ≡ true
is_later x y ys e = or_second (same x y) (is_in x ys) e

-- what holds of each name holds of one that is among them
pub of_name : (P : Name → Type 0) (x : Name) (xs : List Name) → All P xs → is_in x xs ≡ true → P x
of_name P x [] h e = absurd (false≢true e)
of_name P x (y ∷ ys) h e = go (same x y) refl e (of_name P x ys (All-tail P y ys h))
  where
    go : (b : Bool) → same x y ≡ b → b || is_in x ys ≡ true → (is_in x ys ≡ true → P x) → P x
    go true s e later = subst P (sym (same_is x y s)) (All-head P y ys h)
    go false s e later = later e

-- one that is in the list passes
passes_in : (p : Name → Bool) (x : Name) (xs : List Name) → is_in x xs ≡ true → p x ≡ true → list_any p xs ≡ true
passes_in p x [] e h = e
passes_in p x (y ∷ ys) e h = go (same x y) refl e (λ (i : is_in x ys ≡ true). passes_in p x ys i h)
  where
    go : (b : Bool) → same x y ≡ b → b || is_in x ys ≡ true → (is_in x ys ≡ true → list_any p ys ≡ true) → p y || list_any p ys ≡ true
    go true s e later = ap (λ b. b || list_any p ys) (subst (λ (z : Name). p z ≡ true) (same_is x y s) h)
    go false s e later = or_second (p y) (list_any p ys) (later e)

any_more : (p q : Name → Bool) → ((x : Name) → p x ≡ true → q x ≡ true) → (xs : List Name) → list_any p xs ≡ true → list_any q xs ≡ true
any_more p q h [] e = e
any_more p q h (x ∷ xs) e = go (p x) refl e (any_more p q h xs)
  where
    go : (b : Bool) → p x ≡ b → b || list_any p xs ≡ true → (list_any p xs ≡ true → list_any q xs ≡ true) → q x || list_any q xs ≡ true
    go true s e later = ap (λ b. b || list_any q xs) (h x s)
    go false s e later = or_second (q x) (list_any q xs) (later e)

-- what holds of each element holds of the one at a position
at_place : {X : Type 0} (P : X → Type 0) (xs : List X) (i : ℕ) (x : X) → All P xs → slice_get xs i ≡ Some x → P x
at_place P [] i x h e = cc
at_place P (y ∷ ys) zero x h e = subst P is (All-head P y ys h)
  where
    is : y ≡ x
    is = cc
at_place P (y ∷ ys) (suc i) x h e = at_place P ys i x (All-tail P y ys h) e

-- ---- nodes by their names

pub named_is : (nodes : List Node) (f : Name) (n : Node) → node_named nodes f ≡ Some n → f ≡ n.name
named_is [] f n e = cc
named_is (m ∷ ms) f n e = go (same f m.name) refl e (named_is ms f n)
  where
    go : (b : Bool) → same f m.name ≡ b → (if b then Some m else node_named ms f) ≡ Some n → (node_named ms f ≡ Some n → f ≡ n.name) → f ≡ n.name
    go true s e later = same_is f m.name s ∙ ap (λ (z : Node). z.name) is
      where
        is : m ≡ n
        is = cc
    go false s e later = later e

-- a node by its name has a position
pub place_of : (nodes : List Node) (f : Name) (n : Node) → node_named nodes f ≡ Some n → (i : ℕ) × (node_place f nodes ≡ Some i) × (slice_get nodes i ≡ Some n)
place_of [] f n e = cc
place_of (m ∷ ms) f n e = go (same f m.name) e (place_of ms f n)
  where
    go : (b : Bool) → (if b then Some m else node_named ms f) ≡ Some n → (node_named ms f ≡ Some n → (i : ℕ) × (node_place f ms ≡ Some i) × (slice_get ms i ≡ Some n)) →
        (i : ℕ) × ((if b then Some 0 else option_map suc (node_place f ms)) ≡ Some i) × (slice_get (m ∷ ms) i ≡ Some n)
    go true e later = (zero, refl, e)
    go false e later = let (i, at, is) = later e in (suc i, ap (option_map suc) at, is)

name_listed : (nodes : List Node) (i : ℕ) (n : Node) → slice_get nodes i ≡ Some n → is_in n.name (map (λ m. m.name) nodes) ≡ true
name_listed [] i n e = cc
name_listed (m ∷ ms) zero n e = ap (λ b. b || is_in n.name (map (λ (m : Node). m.name) ms)) (subst (λ (x : Node). same x.name m.name ≡ true) is (same_self m.name))
  where
    is : m ≡ n
    is = cc
name_listed (m ∷ ms) (suc i) n e = or_second (same n.name m.name) (is_in n.name (map (λ (m : Node). m.name) ms)) (name_listed ms i n e)

-- where names differ, the node at a position is the one that its name names
pub is_place : (nodes : List Node) → NamesDiffer (map (λ m. m.name) nodes) → (i : ℕ) (n : Node) → slice_get nodes i ≡ Some n → (node_place n.name nodes ≡ Some i) × (node_named nodes n.name ≡ Some n)
is_place [] differ i n e = cc
is_place (m ∷ ms) differ zero n e = go (same n.name m.name) (subst (λ (x : Node). same x.name m.name ≡ true) is (same_self m.name))
  where
    is : m ≡ n
    is = cc

    go : (b : Bool) → b ≡ true → ((if b then Some 0 else option_map suc (node_place n.name ms)) ≡ Some 0) × ((if b then Some m else node_named ms n.name) ≡ Some n)
    go true s = (refl, e)
    go false s = absurd (false≢true s)
is_place (m ∷ ms) differ (suc i) n e = go (same n.name m.name) refl (is_place ms differ.1 i n e)
  where
    go : (b : Bool) → same n.name m.name ≡ b → (node_place n.name ms ≡ Some i) × (node_named ms n.name ≡ Some n) →
        ((if b then Some 0 else option_map suc (node_place n.name ms)) ≡ Some (suc i)) × ((if b then Some m else node_named ms n.name) ≡ Some n)
    go true s h = absurd (false≢true (sym differ.0 ∙ subst (λ (x : Name). is_in x (map (λ (m : Node). m.name) ms) ≡ true) (same_is n.name m.name s) (name_listed ms i n e)))
    go false s h = (ap (option_map suc) h.0, h.1)

-- ---- programs without faults

names_of : (nodes : List Node) → map (λ (q : ℕ × Name). q.1) (map (λ n. (n.place.0, n.name)) nodes) ≡ map (λ n. n.name) nodes
names_of [] = refl
names_of (n ∷ ns) = ap (λ (xs : List Name). n.name ∷ xs) (names_of ns)

fewer_calls : (nodes : List Node) (k m : ℕ) → k ≤ m → (f g : Name) → lead nodes k f g ≡ true → lead nodes m f g ≡ true
fewer_calls nodes zero zero le f g e = e
fewer_calls nodes zero (suc m) le f g e = ap (λ b. b || list_any (λ h. lead nodes m h g) (calls_of (node_named nodes f))) e
fewer_calls nodes (suc k) zero le f g e = absurd (omega arith)
fewer_calls nodes (suc k) (suc m) le f g e =
    or_more (same f g) (list_any (λ h. lead nodes k h g) (calls_of (node_named nodes f))) (list_any (λ h. lead nodes m h g) (calls_of (node_named nodes f)))
    (λ a. any_more (λ h. lead nodes k h g) (λ h. lead nodes m h g) (λ x t. fewer_calls nodes k m (omega arith) x g t) (calls_of (node_named nodes f)) a) e

module _ (p : Program) (typed : IsTyped p) where
  node_clean : All (λ n. node_faults p n ≡ []) p.nodes
  node_clean = none_of_each (node_faults p) p.nodes (nil_right _ (flat_map (node_faults p) p.nodes) typed)

  pub nodes_differ : NamesDiffer (map (λ n. n.name) p.nodes)
  nodes_differ = subst NamesDiffer (names_of p.nodes) (names_differ labels (nil_right _ (seconds same [] labels) (nil_left _ (flat_map (node_faults p) p.nodes) typed)))
    where
      labels : List (ℕ × Name)
      labels = map (λ (n : Node). (n.place.0, n.name)) p.nodes

  -- what a node that a name names calls
  pub call_of_node : (f g : Name) (n : Node) → node_named p.nodes f ≡ Some n → is_in g (calls_of (Some n)) ≡ true → NotBack p.nodes n g
  call_of_node f g n named e =
      let (i, at, is) = place_of p.nodes f n named in
      of_name (NotBack p.nodes n) g (calls_of (Some n)) (node_calls p n (at_place (λ (m : Node). node_faults p m ≡ []) p.nodes i n node_clean is)) e

  not_back : (f g : Name) → CallsNode p.nodes f g → calls_lead p.nodes g f ≡ false
  not_back f g calls = go (node_named p.nodes f) refl calls
    where
      go : (o : Option Node) → node_named p.nodes f ≡ o → is_in g (calls_of o) ≡ true → calls_lead p.nodes g f ≡ false
      go None is e = absurd (false≢true e)
      go (Some n) is e =
          let (m, named, free) = call_of_node f g n is e in
          subst (λ (x : Name). calls_lead p.nodes g x ≡ false) (sym (named_is p.nodes f n is)) (subst (λ (x : Name). calls_lead p.nodes x n.name ≡ false) (sym (named_is p.nodes g m named)) free)

  -- z leads to x by at most k calls, and the path leads to z
  comes_back : (x z : Name) (path : List Name) (k : ℕ) → lead p.nodes k z x ≡ true → k + length path ≤ length p.nodes → Chain (CallsNode p.nodes) z path → is_in x path ≡ true → ⊥
  comes_back x z [] k led few chain e = false≢true e
  comes_back x z (y ∷ ys) k led few chain e = go (same x y) refl e (λ (i : is_in x ys ≡ true). comes_back x y ys (suc k) further (omega arith) chain.1 i)
    where
      further : lead p.nodes (suc k) y x ≡ true
      further = or_second (same y x) _ (passes_in (λ h. lead p.nodes k h x) z (calls_of (node_named p.nodes y)) chain.0 led)

      short : k ≤ length p.nodes
      short = omega (arith, few)

      go : (b : Bool) → same x y ≡ b → b || is_in x ys ≡ true → (is_in x ys ≡ true → ⊥) → ⊥
      go true s e later = false≢true (sym (not_back x z (subst (λ (v : Name). CallsNode p.nodes v z) (sym (same_is x y s)) chain.0)) ∙ fewer_calls p.nodes k (length p.nodes) short z x led)
      go false s e later = later e

  called_among : (f g : Name) → CallsNode p.nodes f g → is_in f (map (λ n. n.name) p.nodes) ≡ true
  called_among f g calls = go (node_named p.nodes f) refl calls
    where
      go : (o : Option Node) → node_named p.nodes f ≡ o → is_in g (calls_of o) ≡ true → is_in f (map (λ (n : Node). n.name) p.nodes) ≡ true
      go None is e = absurd (false≢true e)
      go (Some n) is e =
          let (i, at, here) = place_of p.nodes f n is in
          subst (λ (x : Name). is_in x (map (λ (n : Node). n.name) p.nodes) ≡ true) (sym (named_is p.nodes f n is)) (name_listed p.nodes i n here)

  few_calls : (path : List Name) → length path ≤ length (map (λ (n : Node). n.name) p.nodes) → 0 + length path ≤ length p.nodes
  few_calls path few = let k = subst (λ m. length path ≤ m) (length-map p.nodes (λ (n : Node). n.name)) few in omega arith

  pub calls_end : (f : Name) → Accessible (CallsNode p.nodes) f
  calls_end f = all_end (CallsNode p.nodes) (map (λ (n : Node). n.name) p.nodes) (record {
    among = called_among;
    no_return = λ x path few chain e. comes_back x x path zero (same_self x) (few_calls path few) chain e;
  }) f
