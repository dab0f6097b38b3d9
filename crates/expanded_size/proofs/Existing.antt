-- A node has one expanded size at most, and each node of a program without faults of types has one.
use Rattle.std.proofs.Common.{◌≡◌, ℕ, zero, suc, ◌+◌, ◌<◌, true, List, [], ◌∷◌, length, refl, sym, ap, subst, ◌∙◌, arith, Option, None, Some, slice_get}
use Rattle.std.proofs.lemmas.Option.{none-some, same_Some}
use Rattle.hept_ast.specs.Texts.{Name, is_in}
use Rattle.hept_ast.specs.Faults.{IsTyped, calls_of, node_named}
use Rattle.hept_ast.specs.Parts.{expressions}
use Rattle.hept_ast.specs.declared.tree.Node.{Node}
use Rattle.hept_ast.specs.declared.tree.Program.{Program}
use Rattle.core_rules.specs.WellFormed.{Accessible, CallsNode, reach}
use Rattle.expanded_size.specs.Sizes.{EachHasSize, HasSize, OneSize, SizeIs, SizesAre, a_call, no_call, of_text}
use Rattle.expanded_size.proofs.CallsEnd.{call_of_node, calls_end, is_first, is_later, is_place, nodes_differ}

-- ---- one size

mutual
  one_size_of : (nodes : List Node) (node : Node) (a b : ℕ) → SizeIs nodes node a → SizeIs nodes node b → a ≡ b
  one_size_of nodes node a b (of_text {n = n} h) (of_text {n = m} k) =
      let e : n ≡ m = one_size_of_all nodes (calls_of (Some node)) n m h k in
      ap (λ (x : ℕ). length (expressions node) + x) e

  one_size_of_all : (nodes : List Node) (fs : List Name) (a b : ℕ) → SizesAre nodes fs a → SizesAre nodes fs b → a ≡ b
  one_size_of_all nodes fs a b no_call no_call = refl
  one_size_of_all nodes fs a b (a_call {fs = rest} {callee = g} {n = a1} {m = a2} is h hs) (a_call {callee = g'} {n = b1} {m = b2} is' k ks) =
      let same : g' ≡ g = same_Some g' g (sym is' ∙ is) in
      let e : a1 ≡ b1 = one_size_of nodes g a1 b1 h (subst (λ (x : Node). SizeIs nodes x b1) same k) in
      let f : a2 ≡ b2 = one_size_of_all nodes rest a2 b2 hs ks in
      cc

pub one_size : OneSize
one_size nodes k n m (node, at, h) (other, there, g) =
    one_size_of nodes node n m h (subst (λ (x : Node). SizeIs nodes x m) (same_Some other node (sym there ∙ at)) g)

-- ---- a size

-- the node of a name has a size
record Sized (nodes : List Node) (f : Name) : Type 0 where
  node : Node
  size : ℕ
  named : node_named nodes f ≡ Some node
  is : SizeIs nodes node size

sizes_of : (nodes : List Node) (fs : List Name) → ((f : Name) → is_in f fs ≡ true → Sized nodes f) → (m : ℕ) × SizesAre nodes fs m
sizes_of nodes [] h = (0, no_call)
sizes_of nodes (f ∷ fs) h =
    let s = h f (is_first f fs) in
    let (m, are) = sizes_of nodes fs (λ g e. h g (is_later g f fs e)) in
    (s.size + m, a_call s.named s.is are)

size_of : (p : Program) → IsTyped p → (f : Name) → Accessible (CallsNode p.nodes) f → (n : Node) → node_named p.nodes f ≡ Some n → Sized p.nodes f
size_of p typed f (reach h) n named =
    let each = λ (g : Name) (e : is_in g (calls_of (Some n)) ≡ true).
    let (m, is, free) = call_of_node p typed f g n named e in
    size_of p typed g (h g (subst (λ (o : Option Node). is_in g (calls_of o) ≡ true) (sym named) e)) m is in
    let (total, are) = sizes_of p.nodes (calls_of (Some n)) each in
    record { node = n; size = length (expressions n) + total; named = named; is = of_text are }

none_within : {X : Type 0} (xs : List X) (k : ℕ) → k < length xs → slice_get xs k ≡ None → ⊥
none_within [] k within e = omega arith
none_within (x ∷ xs) zero within e = none-some x (sym e)
none_within (x ∷ xs) (suc k) within e = none_within xs k (omega arith) e

pub each_has_size : EachHasSize
each_has_size p k typed within = go (slice_get p.nodes k) refl
  where
    go : (o : Option Node) → slice_get p.nodes k ≡ o → (m : ℕ) × HasSize p.nodes k m
    go None e = absurd (none_within p.nodes k within e)
    go (Some n) e =
        let (placed, named) = is_place p.nodes (nodes_differ p typed) k n e in
        let s = size_of p typed n.name (calls_end p typed n.name) n named in
        (s.size, (s.node, e ∙ (sym named ∙ s.named), s.is))
