-- The nodes of a core and those of the core in which a subexpression is named, by name and by position.
use Rattle.std.proofs.Common.{◌≡◌, ◌⊎◌, inl, inr, ⊎_elim, ℕ, zero, suc, ◌<◌, Bool, true, false, if◌then◌else◌, List, [], ◌∷◌, ◌++◌, length, Option, Some, None, slice_get, slice_index_or, Contains, refl, sym, ap, subst, ◌∙◌, arith}
use Rattle.std.specs.List.{find}
use Rattle.std.specs.Option.{option_map}
use Rattle.std.proofs.lemmas.Option.{slice_get-get_or}
use Rattle.hept_ast.specs.Texts.{Name, same}
use Rattle.hept_ast.specs.Scopes.{Text, Lowered}
use Rattle.hept_ast.specs.declared.tree.Core.{Core}
use Rattle.hept_ast.specs.declared.tree.CoreNode.{CoreNode}
use Rattle.core_naming.specs.Names.{IsNaming}
use Rattle.core_naming.specs.Ties.{TiedText, the_node, a_node}

-- ---- elements

contains_at : {A : Type 0} (x y : A) (xs : List A) (k : ℕ) → k < length (x ∷ xs) → slice_index_or (x ∷ xs) k y ≡ y → (x ≡ y) ⊎ Contains xs y
contains_at x y xs zero lt e = inl e
contains_at x y xs (suc k) lt e = inr (k, omega arith, e)

contains_cases : {A : Type 0} (x y : A) (xs : List A) → Contains (x ∷ xs) y → (x ≡ y) ⊎ Contains xs y
contains_cases x y xs h = contains_at x y xs h.0 h.1 h.2

contains_later : {A : Type 0} (x y : A) (xs : List A) → Contains xs y → Contains (x ∷ xs) y
contains_later x y xs h = (suc h.0, longer h.0 h.1, h.2)
  where
    longer : (k : ℕ) → k < length xs → suc k < length (x ∷ xs)
    longer k lt = omega arith

got_contains : {A : Type 0} (xs : List A) (k : ℕ) (y : A) → slice_get xs k ≡ Some y → Contains xs y
got_contains [] k y e = cc
got_contains (x ∷ xs) zero y e = (0, omega arith, some_is)
  where
    some_is : x ≡ y
    some_is = cc
got_contains (x ∷ xs) (suc k) y e = contains_later x y xs (got_contains xs k y e)

contains_got : {A : Type 0} (xs : List A) (y : A) → Contains xs y → (k : ℕ) × (slice_get xs k ≡ Some y)
contains_got xs y h = (h.0, slice_get-get_or xs h.0 y h.1 ∙ ap Some h.2)

same_some : {A : Type 0} (a b : A) → Some a ≡ Some b → a ≡ b
same_some a b e = cc

-- an element of two lists stands in one place of them, whatever is between them
between : {A : Type 0} (xs ys : List A) (a b y : A) → Contains (xs ++ ys) y → (k : ℕ) × (slice_get (xs ++ a ∷ ys) k ≡ Some y) × (slice_get (xs ++ b ∷ ys) k ≡ Some y)
between [] ys a b y h = let g = contains_got ys y h in (suc g.0, g.1, g.1)
between (x ∷ xs) ys a b y h =
    ⊎_elim (λ is. (zero, ap Some is, ap Some is)) (λ c. let r = between xs ys a b y c in (suc r.0, r.1, r.2)) (contains_cases x y (xs ++ ys) h)

middle : {A : Type 0} (xs ys : List A) (a : A) → slice_get (xs ++ a ∷ ys) (length xs) ≡ Some a
middle [] ys a = refl
middle (x ∷ xs) ys a = middle xs ys a

-- ---- nodes

pub data TiedOption (core other : Core) (n : IsNaming core other) : Option Text → Option Text → Type 0 where
  no_text : TiedOption core other n None None
  both : {text moved : Text} → TiedText core other n text moved → TiedOption core other n (Some text) (Some moved)

-- tied texts are those of the nodes at one position
pub record Standing (core other : Core) (text moved : Text) : Type 0 where
  pub position : ℕ
  pub node : CoreNode
  pub moved_node : CoreNode
  pub at : slice_get core.nodes position ≡ Some node
  pub moved_at : slice_get other.nodes position ≡ Some moved_node
  pub text_is : text ≡ Lowered node
  pub moved_is : moved ≡ Lowered moved_node

module _ (core other : Core) (n : IsNaming core other) where
  abbrev Tied : CoreNode → CoreNode → Type 0
  Tied a b = TiedText core other n (Lowered a) (Lowered b)

  abbrev StayIn : List CoreNode → Type 0
  StayIn ms = (m : CoreNode) → Contains ms m → Tied m m

  by_name : Name → List CoreNode → Option Text
  by_name f ms = option_map Lowered (find (λ m. same f m.name) ms)

  stays_here : (m : CoreNode) (ms : List CoreNode) → StayIn (m ∷ ms) → Tied m m
  stays_here m ms h = h m (0, omega arith, refl)

  stays_later : (m : CoreNode) (ms : List CoreNode) → StayIn (m ∷ ms) → StayIn ms
  stays_later m ms h k c = h k (contains_later m k ms c)

  found_later : (f : Name) (ms : List CoreNode) → StayIn ms → TiedOption core other n (by_name f ms) (by_name f ms)
  unfolding by_name
  found_later f [] h = no_text
  found_later f (m ∷ ms) h = go (same f m.name) (found_later f ms (stays_later m ms h))
    where
      go : (b : Bool) → TiedOption core other n (by_name f ms) (by_name f ms) →
          TiedOption core other n (option_map Lowered (if b then Some m else find (λ m. same f m.name) ms)) (option_map Lowered (if b then Some m else find (λ m. same f m.name) ms))
      go true k = both (stays_here m ms h)
      go false k = k

  found_tied : (f : Name) (ms : List CoreNode) → StayIn (ms ++ n.back) → TiedOption core other n (by_name f (ms ++ n.node ∷ n.back)) (by_name f (ms ++ n.moved ∷ n.back))
  unfolding by_name
  found_tied f [] h = go (same f n.node.name) (same f n.moved.name) (ap (same f) (sym n.step.name)) (found_later f n.back h)
    where
      go : (b c : Bool) → b ≡ c → TiedOption core other n (by_name f n.back) (by_name f n.back) →
          TiedOption core other n (option_map Lowered (if b then Some n.node else find (λ m. same f m.name) n.back)) (option_map Lowered (if c then Some n.moved else find (λ m. same f m.name) n.back))
      go true true e k = both the_node
      go false false e k = k
      go true false e k = cc
      go false true e k = cc
  found_tied f (m ∷ ms) h = go (same f m.name) (found_tied f ms (stays_later m (ms ++ n.back) h))
    where
      go : (b : Bool) → TiedOption core other n (by_name f (ms ++ n.node ∷ n.back)) (by_name f (ms ++ n.moved ∷ n.back)) →
          TiedOption core other n (option_map Lowered (if b then Some m else find (λ m. same f m.name) (ms ++ n.node ∷ n.back))) (option_map Lowered (if b then Some m else find (λ m. same f m.name) (ms ++ n.moved ∷ n.back)))
      go true k = both (stays_here m (ms ++ n.back) h)
      go false k = k

  -- the nodes of one name are tied
  pub nodes_tied : (f : Name) → TiedOption core other n (option_map Lowered (find (λ m. same f m.name) core.nodes)) (option_map Lowered (find (λ m. same f m.name) other.nodes))
  unfolding by_name
  nodes_tied f =
      subst (λ (ms : List CoreNode). TiedOption core other n (by_name f ms) (by_name f other.nodes)) (sym n.nodes)
      (subst (λ (ms : List CoreNode). TiedOption core other n (by_name f (n.front ++ n.node ∷ n.back)) (by_name f ms)) (sym n.others) (found_tied f n.front (λ m c. a_node c)))

  standing_at : (text moved : Text) (k : ℕ) (a b : CoreNode) → text ≡ Lowered a → moved ≡ Lowered b →
      slice_get (n.front ++ n.node ∷ n.back) k ≡ Some a → slice_get (n.front ++ n.moved ∷ n.back) k ≡ Some b → Standing core other text moved
  standing_at text moved k a b e f p q = record {
    position = k;
    node = a;
    moved_node = b;
    at = ap (λ (ms : List CoreNode). slice_get ms k) n.nodes ∙ p;
    moved_at = ap (λ (ms : List CoreNode). slice_get ms k) n.others ∙ q;
    text_is = e;
    moved_is = f;
  }

  pub standing : (text moved : Text) → TiedText core other n text moved → Standing core other text moved
  standing _ _ the_node = standing_at (Lowered n.node) (Lowered n.moved) (length n.front) n.node n.moved refl refl (middle n.front n.back n.node) (middle n.front n.back n.moved)
  standing _ _ (a_node {m = m} h) = let r = between n.front n.back n.node n.moved m h in standing_at (Lowered m) (Lowered m) r.0 m m refl refl r.1 r.2

  tied_by : (a b c d : CoreNode) → a ≡ b → c ≡ d → Tied a c → Tied b d
  tied_by a b c d e f h = subst (λ (m : CoreNode). Tied m d) e (subst (λ (m : CoreNode). Tied a m) f h)

  tied_at : (ms : List CoreNode) → StayIn (ms ++ n.back) → (k : ℕ) (a b : CoreNode) →
      slice_get (ms ++ n.node ∷ n.back) k ≡ Some a → slice_get (ms ++ n.moved ∷ n.back) k ≡ Some b → Tied a b
  tied_at [] h zero a b p q = tied_by n.node a n.moved b (same_some n.node a p) (same_some n.moved b q) the_node
  tied_at [] h (suc k) a b p q = tied_by a a a b refl (same_some a b (sym p ∙ q)) (h a (got_contains n.back k a p))
  tied_at (m ∷ ms) h zero a b p q = tied_by m a m b (same_some m a p) (same_some m b q) (stays_here m (ms ++ n.back) h)
  tied_at (m ∷ ms) h (suc k) a b p q = tied_at ms (stays_later m (ms ++ n.back) h) k a b p q

  -- and so are the nodes at one position
  pub at_one_position : (k : ℕ) (a b : CoreNode) → slice_get core.nodes k ≡ Some a → slice_get other.nodes k ≡ Some b → TiedText core other n (Lowered a) (Lowered b)
  at_one_position k a b p q =
      tied_at n.front (λ m c. a_node c) k a b (ap (λ (ms : List CoreNode). slice_get ms k) (sym n.nodes) ∙ p) (ap (λ (ms : List CoreNode). slice_get ms k) (sym n.others) ∙ q)
