-- The sizes that a settled table says are the expanded sizes of the nodes.
use Rattle.std.proofs.Common.{◌≡◌, ℕ, ◌+◌, ◌<◌, List, [], ◌∷◌, ◌++◌, length, map, get_or, refl, sym, ap, subst, ◌∙◌, arith, add_assoc, Option, None, Some, slice_get}
use Rattle.std.specs.Option.{option_and_then}
use Rattle.std.proofs.lemmas.List.{get_or-map, length-map}
use Rattle.std.proofs.lemmas.Option.{none-some, same_Some, get_or_from_slice_get, slice_get_within}
use Rattle.hept_ast.specs.Texts.{Name}
use Rattle.hept_ast.specs.Faults.{IsTyped, calls_of, node_named}
use Rattle.hept_ast.specs.Parts.{expressions}
use Rattle.hept_ast.specs.declared.tree.Node.{Node}
use Rattle.hept_ast.specs.declared.tree.Program.{Program}
use Rattle.call_graph.specs.Graph.{IsGraphOf, as_list, edge_of, edges, node_place, places_of, row_in}
use Rattle.call_graph.specs.declared.graph.CallGraph.{CallGraph}
use Rattle.call_graph.specs.declared.graph.Row.{Row}
use Rattle.expanded_size.specs.Sizes.{HasSize, SizeIs, SizesAre, a_call, kept, no_call, of_text}
use Rattle.expanded_size.specs.Tables.{IsSettled, callee_lists, known, size_by, with_callees}
use Rattle.expanded_size.proofs.CallsEnd.{is_place, named_is, nodes_differ, place_of}
use Rattle.expanded_size.proofs.Existing.{each_has_size}

no_more : (a : ℕ) → a ≡ a + 0
no_more a = omega arith

kept_sum : (a n : ℕ) → kept (kept a + kept n) ≡ kept (a + n)
kept_sum a n = omega arith

-- what a table is made for
pub record IsMadeFor (nodes : List Node) (counts : List ℕ) (callees : List (List ℕ)) : Type 0 where
  pub own : counts ≡ map (λ n. kept (length (expressions n))) nodes
  pub called : callees ≡ map (λ n. places_of nodes (calls_of (node_named nodes n.name))) nodes

module _ (nodes : List Node) (counts : List ℕ) (callees : List (List ℕ)) (sizes : List (Option ℕ)) (made : IsMadeFor nodes counts callees) (settled : IsSettled counts callees sizes) where
  count_is : (i : ℕ) (n : Node) → slice_get nodes i ≡ Some n → get_or counts i 0 ≡ kept (length (expressions n))
  count_is i n at =
      ap (λ (xs : List ℕ). get_or xs i 0) made.own
      ∙ (get_or-map (λ (m : Node). kept (length (expressions m))) nodes i n 0 (slice_get_within nodes i n at)
      ∙ ap (λ (m : Node). kept (length (expressions m))) (get_or_from_slice_get nodes i n n at))

  callees_are : (i : ℕ) (f : Name) (n : Node) → slice_get nodes i ≡ Some n → node_named nodes f ≡ Some n → get_or callees i [] ≡ places_of nodes (calls_of (Some n))
  callees_are i f n at named =
      ap (λ (xs : List (List ℕ)). get_or xs i []) made.called
      ∙ (get_or-map (λ (m : Node). places_of nodes (calls_of (node_named nodes m.name))) nodes i n [] (slice_get_within nodes i n at)
      ∙ (ap (λ (m : Node). places_of nodes (calls_of (node_named nodes m.name))) (get_or_from_slice_get nodes i n n at)
      ∙ (ap (λ (g : Name). places_of nodes (calls_of (node_named nodes g))) (sym (named_is nodes f n named))
      ∙ ap (λ (o : Option Node). places_of nodes (calls_of o)) named)))

  -- what a size comes to by those of the callees is known
  is_known : (i n : ℕ) → i < length callees → size_by counts callees sizes i ≡ Some n → (o : Option ℕ) → known sizes i ≡ o → known sizes i ≡ Some n
  is_known i n within is None at = absurd (none-some n (sym (settled.whole i within at) ∙ is))
  is_known i n within is (Some m) at = at ∙ (sym (settled.right i m at) ∙ is)

  known_by : (f : Name) (n : Node) (i m : ℕ) → node_named nodes f ≡ Some n → slice_get nodes i ≡ Some n
      → with_callees sizes (kept (length (expressions n))) (places_of nodes (calls_of (Some n))) ≡ Some (kept (length (expressions n) + m)) → known sizes i ≡ Some (kept (length (expressions n) + m))
  known_by f n i m named at all =
      let within : i < length callees = subst (λ k. i < k) (sym (ap length made.called ∙ length-map nodes _)) (slice_get_within nodes i n at) in
      let found = ap (λ k. with_callees sizes k (get_or callees i [])) (count_is i n at)
      ∙ (ap (with_callees sizes (kept (length (expressions n)))) (callees_are i f n at named) ∙ all) in
      is_known i (kept (length (expressions n) + m)) within found (known sizes i) refl

  one_more : (f : Name) (fs : List Name) (a n m i : ℕ) → node_place f nodes ≡ Some i → known sizes i ≡ Some (kept n)
      → with_callees sizes (kept (a + n)) (places_of nodes fs) ≡ Some (kept (a + n + m)) → with_callees sizes (kept a) (places_of nodes (f ∷ fs)) ≡ Some (kept (a + (n + m)))
  one_more f fs a n m i placed told rest =
      ap (λ (o : Option ℕ). with_callees sizes (kept a) (as_list o ++ places_of nodes fs)) placed
      ∙ (ap (option_and_then (λ n. with_callees sizes (kept (kept a + n)) (places_of nodes fs))) told
      ∙ (ap (λ n. with_callees sizes n (places_of nodes fs)) (kept_sum a n)
      ∙ (rest ∙ ap (λ n. Some (kept n)) (add_assoc a n m))))

  mutual
    told : (n : Node) (m : ℕ) → SizeIs nodes n m → (f : Name) (i : ℕ) → node_named nodes f ≡ Some n → slice_get nodes i ≡ Some n → known sizes i ≡ Some (kept m)
    told n m (of_text {n = total} are) f i named at = known_by f n i total named at (told_all (calls_of (Some n)) total are (length (expressions n)))

    told_all : (fs : List Name) (m : ℕ) → SizesAre nodes fs m → (a : ℕ) → with_callees sizes (kept a) (places_of nodes fs) ≡ Some (kept (a + m))
    told_all fs m no_call a = ap (λ n. Some (kept n)) (no_more a)
    told_all fs m (a_call {f = f} {fs = rest} {callee = g} {n = n} {m = k} named is are) a =
        let (i, placed, at) = place_of nodes f g named in
        one_more f rest a n k i placed (told g n is f i named at) (told_all rest k are (a + n))

-- ---- the graph's rows

map_map : {X Y Z : Type 0} (f : Y → Z) (g : X → Y) (xs : List X) → map f (map g xs) ≡ map (λ x. f (g x)) xs
map_map f g [] = refl
map_map f g (x ∷ xs) = ap (λ t. f (g x) ∷ t) (map_map f g xs)

pub made_of : (nodes : List Node) (counts : List ℕ) (rows : List Row) → counts ≡ map (λ n. kept (length (expressions n))) nodes → map row_in rows ≡ edges nodes → IsMadeFor nodes counts (map (λ r. r.callees.items) rows)
made_of nodes counts rows own are = record {
  own = own;
  called = sym (map_map (λ (e : Name × List ℕ). e.1) row_in rows) ∙ (ap (map (λ (e : Name × List ℕ). e.1)) are ∙ map_map (λ (e : Name × List ℕ). e.1) (edge_of nodes) nodes);
}

-- ---- the size of the node at a position

pub found_size : (p : Program) (nodes : List Node) (graph : CallGraph) (counts given : List ℕ) (sizes table : List (Option ℕ)) (k : ℕ) → IsTyped p → nodes ≡ p.nodes → IsGraphOf nodes graph
    → counts ≡ map (λ n. kept (length (expressions n))) nodes → given ≡ counts → IsSettled given (callee_lists graph) sizes → table ≡ sizes → k < length p.nodes
    → (n : ℕ) × HasSize p.nodes k n × (known table k ≡ Some (kept n))
found_size p nodes graph counts given sizes table k typed same is_graph are given_is settled filled within =
    let (m, (node, at, size)) = each_has_size p k typed within in
    let (placed, named) = is_place p.nodes (nodes_differ p typed) k node at in
    let own = given_is ∙ (are ∙ ap (map (λ (n : Node). kept (length (expressions n)))) same) in
    let made = made_of p.nodes given graph.rows.items own (is_graph.rows ∙ ap edges same) in
    (m, (node, at, size), ap (λ (t : List (Option ℕ)). known t k) filled ∙ told p.nodes given (callee_lists graph) sizes made settled node m size node.name k named at)

-- it is what was found
pub is_size : (p : Program) (k n : ℕ) (o : Option ℕ) → Some n ≡ o → (m : ℕ) × HasSize p.nodes k m × (o ≡ Some (kept m)) → (m : ℕ) × HasSize p.nodes k m × (n ≡ kept m)
is_size p k n o e (m, has, is) = (m, has, same_Some n (kept m) (e ∙ is))

pub no_size : (p : Program) (k : ℕ) (o : Option ℕ) → None ≡ o → (m : ℕ) × HasSize p.nodes k m × (o ≡ Some (kept m)) → ⊥
no_size p k o e (m, has, is) = none-some (kept m) (e ∙ is)
