-- In a well-formed core a chain of calls has at most as many nodes as the core: the names to which a node leads are among ever fewer.
use Rattle.std.proofs.Common.{◌≡◌, ℕ, zero, suc, ◌<◌, ◌≤◌, Bool, true, false, ◌||◌, if◌then◌else◌, List, [], ◌∷◌, map, length, refl, sym, ap, subst, Option, Some, None, option_map, arith}
use Rattle.std.specs.List.{find}
use Rattle.std.proofs.lemmas.Bool.{false≢true}
use Rattle.std.proofs.lemmas.List.{length-map}
use Rattle.hept_ast.specs.Texts.{Name, same, is_in}
use Rattle.hept_ast.specs.Scopes.{Lowered}
use Rattle.hept_ast.specs.Faults.{calls_of, node_named}
use Rattle.hept_ast.specs.declared.tree.Core.{Core}
use Rattle.hept_ast.specs.declared.tree.CoreNode.{CoreNode}
use Rattle.hept_ast.specs.declared.tree.Node.{Node}
use Rattle.core_rules.specs.Cores.{as_node}
use Rattle.core_rules.specs.WellFormed.{Accessible, CallsNode, IsWellFormed, reach}
use Rattle.core_rules.proofs.CallsOf.{core_calls_end}
use Rattle.core_rules.proofs.Ends.{same_is}
use Rattle.call_depths.specs.Depths.{CallsAreBounded, EndsWithin, ends, nodes_in}

-- ---- what is led to

-- R leads from the one to the other by any number of steps
data Leads {A : Type 0} (R : A → A → Type 0) : A → A → Type 0 where
  here : {x : A} → Leads R x x
  there : {x y z : A} → R x y → Leads R y z → Leads R x z

further : {A : Type 0} (R : A → A → Type 0) (x y z : A) → Leads R x y → R y z → Leads R x z
further R _ _ z (here {x = x}) r = there r here
further R _ _ z (there {x = x} {y = w} {z = y} s h) r = there s (further R w y z h r)

-- where no chain goes on without end, no step leads back
no_return : {A : Type 0} (R : A → A → Type 0) (x : A) → Accessible R x → (y : A) → R x y → Leads R y x → ⊥
no_return R x (reach next) _ r here = no_return R x (next x r) x r here
no_return R x (reach next) y r (there {y = z} s h) = no_return R y (next y r) z s (further R z x y h r)

-- ---- a list without a name

-- a shorter list that has all other names
record Without (x : Name) (zs : List Name) : Type 0 where
  rest : List Name
  shorter : length rest < length zs
  others : (y : Name) → same y x ≡ false → is_in y zs ≡ true → is_in y rest ≡ true

in_later : (b c : Bool) → b ≡ false → b || c ≡ true → c ≡ true
in_later true c n e = absurd (false≢true (sym n))
in_later false c n e = e

or_more : (b c d : Bool) → (c ≡ true → d ≡ true) → b || c ≡ true → b || d ≡ true
or_more true c d h e = refl
or_more false c d h e = h e

longer : (z : Name) (rest zs : List Name) → length rest < length zs → length (z ∷ rest) < length (z ∷ zs)
longer z rest zs h = omega (arith, h)

few : (m : ℕ) (rest zs : List Name) → length rest < length zs → length zs ≤ suc m → length rest ≤ m
few m rest zs h k = omega (arith, h, k)

none_left : (rest zs : List Name) → length rest < length zs → length zs ≤ 0 → ⊥
none_left rest zs h k = omega (arith, h, k)

without : (x : Name) (zs : List Name) → is_in x zs ≡ true → Without x zs
without x [] e = absurd (false≢true e)
without x (z ∷ zs) e = go (same x z) refl (without x zs) e
  where
    go : (b : Bool) → same x z ≡ b → (is_in x zs ≡ true → Without x zs) → b || is_in x zs ≡ true → Without x (z ∷ zs)
    go true s later e = record {
      rest = zs;
      shorter = omega arith;
      others = λ y n i. in_later (same y z) (is_in y zs) (subst (λ (v : Name). same y v ≡ false) (same_is x z s) n) i;
    }
    go false s later e =
        let w = later e in
        record {
          rest = z ∷ w.rest;
          shorter = longer z w.rest zs w.shorter;
          others = λ y n i. or_more (same y z) (is_in y zs) (is_in y w.rest) (w.others y n) i;
        }

-- ---- nodes by their names

no_some : {A P : Type 0} (x : A) → None ≡ Some x → P
no_some x e = cc

lowered_some : (m node : CoreNode) → Some (Lowered m) ≡ Some (Lowered node) → m ≡ node
lowered_some m node e = cc

lowered : (o : Option CoreNode) (node : CoreNode) → option_map Lowered o ≡ Some (Lowered node) → o ≡ Some node
lowered None node e = no_some (Lowered node) e
lowered (Some m) node e = ap Some (lowered_some m node e)

named : (f : Name) (ns : List CoreNode) (node : CoreNode) → find (λ n. same f n.name) ns ≡ Some node → node_named (map as_node ns) f ≡ Some (as_node node)
named f [] node e = no_some node e
named f (n ∷ ns) node e = go (same f n.name) e (named f ns node)
  where
    go : (b : Bool) → (if b then Some n else find (λ (m : CoreNode). same f m.name) ns) ≡ Some node → (find (λ (m : CoreNode). same f m.name) ns ≡ Some node → node_named (map as_node ns) f ≡ Some (as_node node)) →
        (if b then Some (as_node n) else node_named (map as_node ns) f) ≡ Some (as_node node)
    go true e later = ap (option_map as_node) e
    go false e later = later e

listed : (f : Name) (ns : List CoreNode) (node : CoreNode) → find (λ n. same f n.name) ns ≡ Some node → is_in f (map (λ n. n.name) ns) ≡ true
listed f [] node e = no_some node e
listed f (n ∷ ns) node e = go (same f n.name) e (listed f ns node)
  where
    go : (b : Bool) → (if b then Some n else find (λ (m : CoreNode). same f m.name) ns) ≡ Some node → (find (λ (m : CoreNode). same f m.name) ns ≡ Some node → is_in f (map (λ (m : CoreNode). m.name) ns) ≡ true) →
        b || is_in f (map (λ (m : CoreNode). m.name) ns) ≡ true
    go true e later = refl
    go false e later = later e

-- ---- chains of calls

module _ (core : Core) (well : IsWellFormed core) where
  abbrev Calls : Name → Name → Type 0
  Calls = CallsNode (map as_node core.nodes)

  abbrev all : List Name
  all = map (λ (n : CoreNode). n.name) core.nodes

  calls_by : (f g : Name) (node : CoreNode) → nodes_in core f ≡ Some (Lowered node) → is_in g (calls_of (Some (as_node node))) ≡ true → Calls f g
  calls_by f g node found calls = subst (λ (o : Option Node). is_in g (calls_of o) ≡ true) (sym (named f core.nodes node (lowered (find (λ n. same f n.name) core.nodes) node found))) calls

  among : (f : Name) (node : CoreNode) → nodes_in core f ≡ Some (Lowered node) → is_in f all ≡ true
  among f node found = listed f core.nodes node (lowered (find (λ n. same f n.name) core.nodes) node found)

  -- what a node that f calls leads to is not f
  other : (f g h : Name) → Calls f g → Leads Calls g h → same h f ≡ false
  other f g h calls leads = go (same h f) refl
    where
      go : (b : Bool) → same h f ≡ b → same h f ≡ false
      go true s = absurd (no_return Calls f (core_calls_end core well f) g calls (subst (λ (x : Name). Leads Calls g x) (same_is h f s) leads))
      go false s = s

  -- what a node leads to is among these names, of which there are at most so many
  ends_within : (m : ℕ) (names : List Name) (f : Name) (node : CoreNode) → length names ≤ m → nodes_in core f ≡ Some (Lowered node) → ((g : Name) → Leads Calls f g → is_in g all ≡ true → is_in g names ≡ true) → EndsWithin core m node
  ends_within zero names f node few_names found covers = let w = without f names (covers f here (among f node found)) in absurd (none_left w.rest names w.shorter few_names)
  ends_within (suc m) names f node few_names found covers =
      ends (λ g callee calls next.
      let w = without f names (covers f here (among f node found)) in
      let step : Calls f g = calls_by f g node found calls in
      ends_within m w.rest g callee (few m w.rest names w.shorter few_names) next (λ h leads i. w.others h (other f g h step leads) (covers h (there step leads) i)))

  as_many : length all ≤ length core.nodes
  as_many = let k = length-map core.nodes (λ (n : CoreNode). n.name) in omega arith

  within_all : (f : Name) (node : CoreNode) → nodes_in core f ≡ Some (Lowered node) → EndsWithin core (length core.nodes) node
  within_all f node found = ends_within (length core.nodes) all f node as_many found (λ g leads i. i)

pub calls_are_bounded : CallsAreBounded
calls_are_bounded core well f node found = within_all core well f node found
