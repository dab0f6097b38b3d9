-- Nodes that have one interface and call the same nodes: calls lead from node to node alike, and calls are judged alike.
use Rattle.std.proofs.Common.{◌≡◌, ℕ, zero, suc, Bool, true, false, ◌||◌, if◌then◌else◌, List, [], ◌∷◌, ◌++◌, length, map, refl, sym, ap, subst, ◌∙◌, Option, Some, None}
use Rattle.std.specs.List.{list_any}
use Rattle.hept_ast.specs.Texts.{Name, same}
use Rattle.hept_ast.specs.Types.{Fit, call_fit}
use Rattle.hept_ast.specs.Faults.{Fault, Judged, Judging, Recursive, async_nodes, call_judged, calls_lead, calls_of, fault, judged, lead, node_named}
use Rattle.hept_ast.specs.declared.tree.Decl.{Decl}
use Rattle.hept_ast.specs.declared.tree.CoreNode.{CoreNode}
use Rattle.hept_ast.specs.declared.tree.Node.{Node}
use Rattle.hept_ast.specs.declared.tree.Ty.{Ty}
use Rattle.hept_ast.specs.declared.tree.TypeDec.{TypeDec}
use Rattle.core_rules.specs.Cores.{as_interface}

-- ---- calls that lead from node to node

pub record AlikeNode (n m : Node) : Type 0 where
  pub name : m.name ≡ n.name
  pub inputs : m.inputs ≡ n.inputs
  pub outputs : m.outputs ≡ n.outputs
  pub calls : (p : Name → Bool) → list_any p (calls_of (Some m)) ≡ list_any p (calls_of (Some n))

pub data AlikeNodes : List Node → List Node → Type 0 where
  none : AlikeNodes [] []
  more : {n m : Node} {ns ms : List Node} → AlikeNode n m → AlikeNodes ns ms → AlikeNodes (n ∷ ns) (m ∷ ms)

pub data AlikeFound : Option Node → Option Node → Type 0 where
  neither : AlikeFound None None
  both_found : {n m : Node} → AlikeNode n m → AlikeFound (Some n) (Some m)

pub alike_itself : (n : Node) → AlikeNode n n
alike_itself n = record { name = refl; inputs = refl; outputs = refl; calls = λ p. refl }

all_alike : (ns : List Node) → AlikeNodes ns ns
all_alike [] = none
all_alike (n ∷ ns) = more (alike_itself n) (all_alike ns)

-- where one node of a core is another
pub alike_at : (h : CoreNode → Node) (front back : List CoreNode) (node moved : CoreNode) → AlikeNode (h node) (h moved) → AlikeNodes (map h (front ++ node ∷ back)) (map h (front ++ moved ∷ back))
alike_at h [] back node moved a = more a (all_alike (map h back))
alike_at h (n ∷ front) back node moved a = more (alike_itself (h n)) (alike_at h front back node moved a)

pub found_alike : (ns ms : List Node) → AlikeNodes ns ms → (f : Name) → AlikeFound (node_named ns f) (node_named ms f)
found_alike _ _ none f = neither
found_alike _ _ (more {n = n} {m = m} {ns = ns} {ms = ms} a rest) f =
    subst (λ (x : Name). AlikeFound (if same f n.name then Some n else node_named ns f) (if same f x then Some m else node_named ms f)) (sym a.name) (go (same f n.name) (found_alike ns ms rest f))
  where
    go : (b : Bool) → AlikeFound (node_named ns f) (node_named ms f) → AlikeFound (if b then Some n else node_named ns f) (if b then Some m else node_named ms f)
    go true k = both_found a
    go false k = k

calls_found : (p : Name → Bool) (o q : Option Node) → AlikeFound o q → list_any p (calls_of q) ≡ list_any p (calls_of o)
calls_found p _ _ neither = refl
calls_found p _ _ (both_found a) = a.calls p

any_same : (p q : Name → Bool) → ((x : Name) → p x ≡ q x) → (xs : List Name) → list_any p xs ≡ list_any q xs
any_same p q h [] = refl
any_same p q h (x ∷ xs) = let e : p x ≡ q x = h x in let f : list_any p xs ≡ list_any q xs = any_same p q h xs in cc

lead_alike : (ns ms : List Node) → AlikeNodes ns ms → (k : ℕ) (f g : Name) → lead ms k f g ≡ lead ns k f g
lead_alike ns ms h zero f g = refl
lead_alike ns ms h (suc k) f g =
    ap (λ b. same f g || b) (any_same (λ x. lead ms k x g) (λ x. lead ns k x g) (λ x. lead_alike ns ms h k x g) (calls_of (node_named ms f))
    ∙ calls_found (λ x. lead ns k x g) _ _ (found_alike ns ms h f))

length_alike : (ns ms : List Node) → AlikeNodes ns ms → length ms ≡ length ns
length_alike _ _ none = refl
length_alike _ _ (more a rest) = ap suc (length_alike _ _ rest)

pub calls_lead_alike : (ns ms : List Node) → AlikeNodes ns ms → (f g : Name) → calls_lead ms f g ≡ calls_lead ns f g
calls_lead_alike ns ms h f g = ap (λ k. lead ms k f g) (length_alike ns ms h) ∙ lead_alike ns ms h (length ns) f g

-- ---- by what expressions are judged

abbrev pub judging_in : List TypeDec → List Node → Node → List Decl → Judging
judging_in types nodes node seen = record { types = types; nodes = nodes; node = node; seen = seen; strong = false }

module _ (types : List TypeDec) (ns ms : List Node) (alike : AlikeNodes ns ms) (n m : Node) (name : m.name ≡ n.name) (ds es : List Decl) where
  abbrev w : Judging
  w = judging_in types ns n ds

  abbrev v : Judging
  v = judging_in types ms m es

  fit_alike : (g h : Node) → AlikeNode g h → (ts : List (List Ty)) → call_fit h ts ≡ call_fit g ts
  fit_alike g h a ts = rw a.inputs (rw a.outputs refl)

  recursive_alike : (p : ℕ) (g h : Node) → AlikeNode g h → fault p Recursive (calls_lead ms h.name m.name) ≡ fault p Recursive (calls_lead ns g.name n.name)
  recursive_alike p g h a = ap (fault p Recursive) (calls_lead_alike ns ms alike h.name m.name ∙ ap (λ (x : Name). calls_lead ns x m.name) a.name ∙ ap (λ (x : Name). calls_lead ns g.name x) name)

  call_alike : (p : ℕ) (o q : Option Node) (own : List Fault) (give : Fit → Fit) (args : Judged (List (List Ty))) → AlikeFound o q → call_judged v p q own give args ≡ call_judged w p o own give args
  call_alike p _ _ own give args neither = refl
  call_alike p _ _ own give args (both_found {n = g} {m = h} a) =
      ap (λ (fs : List Fault). judged p (fs ++ own) args (λ ts. give (call_fit h ts))) (recursive_alike p g h a)
      ∙ ap (λ (fit : List (List Ty) → Fit). judged p (fault p Recursive (calls_lead ns g.name n.name) ++ own) args (λ ts. give (fit ts))) (λ i. λ ts. fit_alike g h a ts i)

  pub called_alike : (p : ℕ) (f : Name) (own : List Fault) (give : Fit → Fit) (args : Judged (List (List Ty))) →
      call_judged v p (node_named ms f) own give args ≡ call_judged w p (node_named ns f) own give args
  called_alike p f own give args = call_alike p (node_named ns f) (node_named ms f) own give args (found_alike ns ms alike f)

-- ---- interfaces call nothing

pub no_async : (nodes : List CoreNode) → async_nodes (map as_interface nodes) ≡ []
no_async [] = refl
no_async (n ∷ ns) = no_async ns

pub interface_alike : (n m : CoreNode) → m.name ≡ n.name → m.inputs ≡ n.inputs → m.outputs ≡ n.outputs → AlikeNode (as_interface n) (as_interface m)
interface_alike n m a b c = record { name = a; inputs = b; outputs = c; calls = λ p. refl }
