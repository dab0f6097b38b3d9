-- Rounds of marks, and which nodes lead to which.
use Rattle.std.proofs.Common.{◌≡◌, ℕ, zero, suc, ◌+◌, ◌-◌, ◌<◌, ◌≤◌, get_or, Bool, true, false, ◌||◌, if◌then◌else◌, List, [], ◌∷◌, length, map, refl, sym, ◌∙◌, ap, arith}
use Rattle.std.specs.Prelude.{Option, None, Some}
use Rattle.std.specs.List.{find, flat_map, list_any}
use Rattle.std.specs.Option.{option_map}
use Rattle.std.proofs.lemmas.List.{length-map}
use Rattle.std.proofs.lemmas.List.Folds.{list_any-append}
use Rattle.std.proofs.lemmas.Slice.Eq.{bytes_eq-Decides}
use Rattle.hept_ast.specs.Faults.{calls_of, lead, node_named}
use Rattle.hept_ast.specs.Texts.{Name, is_in, same}
use Rattle.hept_ast.specs.declared.tree.Node.{Node}
use Rattle.call_graph.specs.CallGraph.{leading}
use Rattle.call_graph.specs.Graph.{as_list, edge_of, edges, is_marked, marks_after, next_marks, node_place, places_of, row_in}
use Rattle.call_graph.specs.declared.graph.Row.{Row}

-- ---- a round that changes nothing ends it

stable : (rows : List (Name × List ℕ)) (to : Name) (k : ℕ) → next_marks rows to (marks_after rows to k) ≡ marks_after rows to k → (d : ℕ) → marks_after rows to (d + k) ≡ marks_after rows to k
unfolding marks_after
stable rows to k e zero = let s : 0 + k ≡ k = omega arith in ap (marks_after rows to) s
stable rows to k e (suc d) = let s : suc d + k ≡ suc (d + k) = omega arith in ap (marks_after rows to) s ∙ (ap (next_marks rows to) (stable rows to k e d) ∙ e)

pub stays : (rows : List (Name × List ℕ)) (to : Name) (k n : ℕ) → k ≤ n → next_marks rows to (marks_after rows to k) ≡ marks_after rows to k → marks_after rows to n ≡ marks_after rows to k
stays rows to k n h e = let s : (n - k) + k ≡ n = omega arith in ap (marks_after rows to) (sym s) ∙ stable rows to k e (n - k)

pub one_round : (rows : List (Name × List ℕ)) (to : Name) (k : ℕ) → next_marks rows to (marks_after rows to k) ≡ marks_after rows to (suc k)
unfolding marks_after
one_round rows to k = refl

pub no_round : (rows : List (Name × List ℕ)) (to : Name) → map (λ r. same r.0 to) rows ≡ marks_after rows to zero
unfolding marks_after
no_round rows to = refl

-- ---- marks at positions are marks of names

or_no : (a : Bool) → a || false ≡ a
or_no true = refl
or_no false = refl

abbrev mark_named : (Node → Bool) → Option Node → Bool
mark_named f None = false
mark_named f (Some n) = f n

shifted : (m : Bool) (ms : List Bool) (q : Option ℕ) → list_any (is_marked (m ∷ ms)) (as_list (option_map suc q)) ≡ list_any (is_marked ms) (as_list q)
shifted m ms None = refl
shifted m ms (Some j) = refl

placed : (h : Name) (f : Node → Bool) (n : Node) (ns : List Node) (b : Bool) → list_any (is_marked (map f ns)) (as_list (node_place h ns)) ≡ mark_named f (find (λ n. same h n.name) ns)
    → list_any (is_marked (f n ∷ map f ns)) (as_list (if b then Some 0 else option_map suc (node_place h ns))) ≡ mark_named f (if b then Some n else find (λ n. same h n.name) ns)
placed h f n ns true e = or_no (f n)
placed h f n ns false e = shifted (f n) (map f ns) (node_place h ns) ∙ e

place_mark : (h : Name) (f : Node → Bool) (ns : List Node) → list_any (is_marked (map f ns)) (as_list (node_place h ns)) ≡ mark_named f (node_named ns h)
place_mark h f [] = refl
place_mark h f (n ∷ ns) = placed h f n ns (same h n.name) (place_mark h f ns)

-- ---- a name that is found, and one that is not

found_by : (h : Name) (m n : Node) (ns : List Node) (b : Bool) → same h m.name ≡ b → (if b then Some m else node_named ns h) ≡ Some n → (node_named ns h ≡ Some n → same h n.name ≡ true) → same h n.name ≡ true
found_by h m n ns true t g rest = let x : m ≡ n = cc in sym (ap (λ (k : Node). same h k.name) x) ∙ t
found_by h m n ns false t g rest = rest g

found_is : (h : Name) (ns : List Node) (n : Node) → node_named ns h ≡ Some n → same h n.name ≡ true
found_is h [] n e = absurd (let x : ⊥ = cc in x)
found_is h (m ∷ ns) n e = found_by h m n ns (same h m.name) refl e (found_is h ns n)

missed_by : (h : Name) (m : Node) (ns : List Node) (b : Bool) → (if b then Some m else node_named ns h) ≡ None → (node_named ns h ≡ None → is_in h (map (λ n. n.name) ns) ≡ false) → b || is_in h (map (λ n. n.name) ns) ≡ false
missed_by h m ns true g rest = absurd (let x : ⊥ = cc in x)
missed_by h m ns false g rest = rest g

not_found : (h : Name) (ns : List Node) → node_named ns h ≡ None → is_in h (map (λ n. n.name) ns) ≡ false
not_found h [] e = refl
not_found h (m ∷ ns) e = missed_by h m ns (same h m.name) e (not_found h ns)

not_same : (h to : Name) (ns : List Node) (b : Bool) → is_in to (map (λ n. n.name) ns) ≡ true → is_in h (map (λ n. n.name) ns) ≡ false → same h to ≡ b → same h to ≡ false
not_same h to ns false d e t = t
not_same h to ns true d e t =
    let x : h ≡ to = (bytes_eq-Decides h to).0 t in
    let y : true ≡ false = sym d ∙ (ap (λ k. is_in k (map (λ n. n.name) ns)) (sym x) ∙ e) in
    absurd (let z : ⊥ = cc in z)

-- ---- marks after rounds

none_leads : (nodes : List Node) (to h : Name) (k : ℕ) → is_in to (map (λ n. n.name) nodes) ≡ true → node_named nodes h ≡ None → false ≡ lead nodes k h to
none_leads nodes to h zero d e = sym (not_same h to nodes (same h to) d (not_found h nodes e) refl)
none_leads nodes to h (suc k) d e =
    sym (ap (λ b. b || list_any (λ g. lead nodes k g to) (calls_of (node_named nodes h))) (not_same h to nodes (same h to) d (not_found h nodes e) refl)
    ∙ ap (λ q. list_any (λ g. lead nodes k g to) (calls_of q)) e)

one_leads : (nodes : List Node) (to h : Name) (k : ℕ) (q : Option Node) → is_in to (map (λ n. n.name) nodes) ≡ true → node_named nodes h ≡ q → mark_named (λ n. lead nodes k n.name to) q ≡ lead nodes k h to
one_leads nodes to h k None d e = none_leads nodes to h k d e
one_leads nodes to h k (Some n) d e = ap (λ x. lead nodes k x to) (sym ((bytes_eq-Decides h n.name).0 (found_is h nodes n e)))

any_flat : {X Y : Type 0} (p : Y → Bool) (g : X → List Y) (xs : List X) → list_any p (flat_map g xs) ≡ list_any (λ x. list_any p (g x)) xs
any_flat p g [] = refl
any_flat p g (x ∷ xs) = list_any-append p (g x) (flat_map g xs) ∙ ap (λ b. list_any p (g x) || b) (any_flat p g xs)

any_same : {X : Type 0} (p q : X → Bool) (xs : List X) → ((x : X) → p x ≡ q x) → list_any p xs ≡ list_any q xs
any_same p q [] h = refl
any_same p q (x ∷ xs) h = ap (λ b. b || list_any p xs) (h x) ∙ ap (λ b. q x || b) (any_same p q xs h)

-- some of these names leads there, by the marks
pub any_leads : (nodes : List Node) (to : Name) (k : ℕ) (hs : List Name) → is_in to (map (λ n. n.name) nodes) ≡ true
    → list_any (is_marked (leading nodes k to)) (places_of nodes hs) ≡ list_any (λ h. lead nodes k h to) hs
any_leads nodes to k hs d =
    any_flat (is_marked (leading nodes k to)) (λ h. as_list (node_place h nodes)) hs
    ∙ any_same (λ h. list_any (is_marked (leading nodes k to)) (as_list (node_place h nodes))) (λ h. lead nodes k h to) hs
    (λ h. place_mark h (λ n. lead nodes k n.name to) nodes ∙ one_leads nodes to h k (node_named nodes h) d refl)

map_same : {X Y : Type 0} (f g : X → Y) (xs : List X) → ((x : X) → f x ≡ g x) → map f xs ≡ map g xs
map_same f g [] h = refl
map_same f g (x ∷ xs) h = ap (λ t. t ∷ map f xs) (h x) ∙ ap (λ t. g x ∷ t) (map_same f g xs h)

map_map : {X Y Z : Type 0} (f : Y → Z) (g : X → Y) (xs : List X) → map f (map g xs) ≡ map (λ x. f (g x)) xs
map_map f g [] = refl
map_map f g (x ∷ xs) = ap (λ t. f (g x) ∷ t) (map_map f g xs)

marks_are : (nodes : List Node) (to : Name) (k : ℕ) → is_in to (map (λ n. n.name) nodes) ≡ true → marks_after (edges nodes) to k ≡ leading nodes k to
unfolding marks_after
marks_are nodes to zero d = map_map (λ r. same r.0 to) (edge_of nodes) nodes
marks_are nodes to (suc k) d =
    ap (next_marks (edges nodes) to) (marks_are nodes to k d)
    ∙ (map_map (λ r. same r.0 to || list_any (is_marked (leading nodes k to)) r.1) (edge_of nodes) nodes
    ∙ map_same (λ n. same n.name to || list_any (is_marked (leading nodes k to)) (places_of nodes (calls_of (node_named nodes n.name)))) (λ n. lead nodes (suc k) n.name to) nodes
    (λ n. ap (λ b. same n.name to || b) (any_leads nodes to k (calls_of (node_named nodes n.name)) d)))

pub leads_are : (nodes : List Node) (rs : List Row) (to : Name) (leads : List Bool) → map row_in rs ≡ edges nodes → is_in to (map (λ n. n.name) nodes) ≡ true
    → leads ≡ marks_after (map row_in rs) to (length rs) → leads ≡ leading nodes (length nodes) to
leads_are nodes rs to leads e d h =
    let n : length rs ≡ length nodes = sym (length-map rs row_in) ∙ (ap length e ∙ length-map nodes (edge_of nodes)) in
    h ∙ (ap (λ k. marks_after (map row_in rs) to k) n ∙ (ap (λ t. marks_after t to (length nodes)) e ∙ marks_are nodes to (length nodes) d))

or_yes : (a b : Bool) → b ≡ true → a || b ≡ true
or_yes true b e = refl
or_yes false b e = e

-- a node of the list has its name among theirs
pub among : (nodes : List Node) (i : ℕ) (n : Node) → i < length nodes → n ≡ get_or nodes i n → is_in n.name (map (λ m. m.name) nodes) ≡ true
among [] i n h e = absurd (omega arith)
among (m ∷ ms) zero n h e =
    let s : same n.name m.name ≡ true = (bytes_eq-Decides n.name m.name).1 (ap (λ (k : Node). k.name) e) in
    ap (λ b. b || is_in n.name (map (λ m. m.name) ms)) s
among (m ∷ ms) (suc i) n h e = or_yes (same n.name m.name) (is_in n.name (map (λ m. m.name) ms)) (among ms i n (omega arith) e)
