-- Erasure keeps the limits: it takes away the sizes of queues, and nothing else that a limit speaks of.
use Rattle.std.proofs.Common.{◌≡◌, ℕ, zero, suc, List, [], ◌∷◌, ◌++◌, map, take, drop, length, refl, ap, ◌∙◌}
use Rattle.std.specs.List.{flat_map}
use Rattle.std.proofs.lemmas.List.{length-map}
use Rattle.hept_ast.specs.Faults.{Fault, Limit}
use Rattle.hept_ast.specs.Limits.{over, name_limit, queue_limit, state_limits, node_limits, type_limits}
use Rattle.hept_ast.specs.Parts.{Part, Block as Block_part, Plain, Switch as Switch_part, Reset as Reset_part, Automaton as Automaton_part, Transition, Placed, parts, variables, expressions}
use Rattle.hept_ast.specs.Erasure.{erased_expr, erased_branch, erased_decl, erased_node}
use Rattle.hept_ast.specs.ErasedParts.{erased_part, erased_placed}
use Rattle.hept_ast.specs.declared.tree.Decl.{Decl}
use Rattle.hept_ast.specs.declared.tree.Node.{Node}
use Rattle.hept_ast.proofs.ErasedPartsOf.{erased_keeps_parts}
use Rattle.hept_ast.proofs.QueueForms.{queue-Const, queue-Var, queue-Last, queue-Unary, queue-Binary, queue-If, queue-Fby, queue-Pre, queue-Arrow, queue-When, queue-Merge, queue-Call}
use Rattle.erased_rules.specs.ErasedLimits.{ErasedKeepsLimits}
use Rattle.erased_rules.proofs.Lists.{nil_left, nil_right, nil_both, flat_same, flat_nil}
use Rattle.erased_rules.proofs.Totals.{own_of, Step}
use Rattle.erased_rules.proofs.ErasedNodes.{variables_same, node_nil}

taken : {A : Type 0} (h : A → Fault) (f : A → A) (n : ℕ) (xs : List A) → map h (take 1 (drop n (map f xs))) ≡ map (λ x. h (f x)) (take 1 (drop n xs))
taken h f zero [] = refl
taken h f zero (x ∷ xs) = refl
taken h f (suc n) [] = refl
taken h f (suc n) (x ∷ xs) = taken h f n xs

-- as many things, at the same places
over_same : {A : Type 0} (limit : ℕ) (place : A → ℕ) (f : A → A) → ((x : A) → place (f x) ≡ place x) → (xs : List A) → over limit place (map f xs) ≡ over limit place xs
over_same {A} limit place f e xs =
    ap (λ (k : ℕ). map {B = Fault} (λ (x : A). record { place = place x; kind = Limit k limit }) (take 1 (drop limit (map f xs)))) (length-map xs f)
    ∙ taken (λ x. record { place = place x; kind = Limit (length xs) limit }) f limit xs
    ∙ go (take 1 (drop limit xs))
  where
    go : (ys : List A) → map {B = Fault} (λ (x : A). record { place = place (f x); kind = Limit (length xs) limit }) ys ≡ map {B = Fault} (λ (x : A). record { place = place x; kind = Limit (length xs) limit }) ys
    go [] = refl
    go (y ∷ ys) = let p = e y in let t = go ys in cc

queues_gone : Step queue_limit queue_limit
queues_gone = record {
  on_const = λ p k h. queue-Const p k;
  on_var = λ p x h. queue-Var p x;
  on_last = λ p x h. queue-Last p x;
  on_unary = λ p op a h. queue-Unary p op (erased_expr a);
  on_binary = λ p op a b h. queue-Binary p op (erased_expr a) (erased_expr b);
  on_if = λ p c a b h. queue-If p (erased_expr c) (erased_expr a) (erased_expr b);
  on_fby = λ p a b h. queue-Fby p (erased_expr a) (erased_expr b);
  on_pre = λ p a h. queue-Pre p (erased_expr a);
  on_arrow = λ p a b h. queue-Arrow p (erased_expr a) (erased_expr b);
  on_when = λ p a tag x h. queue-When p (erased_expr a) tag x;
  on_merge = λ p x bs h. queue-Merge p x (map erased_branch bs);
  on_call = λ p f args h. queue-Call p f (map erased_expr args);
  on_async = λ p q f args h. queue-Call p f (map erased_expr args);
  on_ready = λ p k h. queue-Const p k;
}

states_same : (q : Part) → state_limits (erased_part q) ≡ state_limits q
states_same (Block_part ds es) = refl
states_same (Plain p left right) = refl
states_same (Switch_part p on cs) = refl
states_same (Reset_part p every sets) = refl
states_same (Automaton_part p states) = refl
states_same (Transition strong states e) = refl

-- the limits of a node, by its variables, its expressions and its parts
abbrev listed : Node → List Decl → List Fault → List Placed → List Fault
listed n ds queues qs =
    name_limit n.place.0 n.name ++ over 64 (λ (d : Decl). d.place.0) n.inputs ++ over 64 (λ (d : Decl). d.place.0) n.outputs
    ++ over 4096 (λ (d : Decl). d.place.0) ds ++ flat_map (λ (d : Decl). name_limit d.place.0 d.name) ds ++ queues ++ flat_map (λ (q : Placed). state_limits q.part) qs

-- those but of queues
abbrev rest : Node → List Decl → List Fault
rest n ds =
    name_limit n.place.0 n.name ++ over 64 (λ (d : Decl). d.place.0) n.inputs ++ over 64 (λ (d : Decl). d.place.0) n.outputs
    ++ over 4096 (λ (d : Decl). d.place.0) ds ++ flat_map (λ (d : Decl). name_limit d.place.0 d.name) ds

rest_same : (n : Node) → rest (erased_node n) (variables (erased_node n)) ≡ rest n (variables n)
rest_same n =
    let a : over 64 (λ (d : Decl). d.place.0) (map erased_decl n.inputs) ≡ over 64 (λ (d : Decl). d.place.0) n.inputs = over_same 64 (λ (d : Decl). d.place.0) erased_decl (λ d. refl) n.inputs in
    let b : over 64 (λ (d : Decl). d.place.0) (map erased_decl n.outputs) ≡ over 64 (λ (d : Decl). d.place.0) n.outputs = over_same 64 (λ (d : Decl). d.place.0) erased_decl (λ d. refl) n.outputs in
    let c : over 4096 (λ (d : Decl). d.place.0) (map erased_decl (variables n)) ≡ over 4096 (λ (d : Decl). d.place.0) (variables n) = over_same 4096 (λ (d : Decl). d.place.0) erased_decl (λ d. refl) (variables n) in
    let e : flat_map (λ (d : Decl). name_limit d.place.0 d.name) (map erased_decl (variables n)) ≡ flat_map (λ (d : Decl). name_limit d.place.0 d.name) (variables n)
    = flat_same (λ (d : Decl). name_limit d.place.0 d.name) erased_decl (λ (d : Decl). name_limit d.place.0 d.name) (λ d. refl) (variables n) in
    let l = name_limit n.place.0 n.name in
    ap (λ (ds : List Decl). rest (erased_node n) ds) (variables_same n)
    ∙ ap (λ (x : List Fault). l ++ x ++ over 64 (λ (d : Decl). d.place.0) (map erased_decl n.outputs) ++ over 4096 (λ (d : Decl). d.place.0) (map erased_decl (variables n)) ++ flat_map (λ (d : Decl). name_limit d.place.0 d.name) (map erased_decl (variables n))) a
    ∙ ap (λ (x : List Fault). l ++ over 64 (λ (d : Decl). d.place.0) n.inputs ++ x ++ over 4096 (λ (d : Decl). d.place.0) (map erased_decl (variables n)) ++ flat_map (λ (d : Decl). name_limit d.place.0 d.name) (map erased_decl (variables n))) b
    ∙ ap (λ (x : List Fault). l ++ over 64 (λ (d : Decl). d.place.0) n.inputs ++ over 64 (λ (d : Decl). d.place.0) n.outputs ++ x ++ flat_map (λ (d : Decl). name_limit d.place.0 d.name) (map erased_decl (variables n))) c
    ∙ ap (λ (x : List Fault). l ++ over 64 (λ (d : Decl). d.place.0) n.inputs ++ over 64 (λ (d : Decl). d.place.0) n.outputs ++ over 4096 (λ (d : Decl). d.place.0) (variables n) ++ x) e

all_states : (n : Node) → flat_map (λ (q : Placed). state_limits q.part) (parts (erased_node n)) ≡ flat_map (λ (q : Placed). state_limits q.part) (parts n)
all_states n =
    ap (flat_map (λ (q : Placed). state_limits q.part)) (erased_keeps_parts n)
    ∙ flat_same (λ (q : Placed). state_limits q.part) erased_placed (λ (q : Placed). state_limits q.part) (λ q. states_same q.part) (parts n)

node_kept : (n : Node) → node_limits n ≡ [] → node_limits (erased_node n) ≡ []
node_kept n h =
    let r = rest n (variables n) in
    let q = flat_map (own_of queue_limit) (expressions n) in
    let s = flat_map (λ (p : Placed). state_limits p.part) (parts n) in
    let rq : r ++ q ≡ [] = nil_left (r ++ q) s h in
    nil_both (rest (erased_node n) (variables (erased_node n)) ++ flat_map (own_of queue_limit) (expressions (erased_node n))) (flat_map (λ (p : Placed). state_limits p.part) (parts (erased_node n)))
    (nil_both (rest (erased_node n) (variables (erased_node n))) (flat_map (own_of queue_limit) (expressions (erased_node n))) (rest_same n ∙ nil_left r q rq) (node_nil queue_limit queue_limit queues_gone n (nil_right r q rq)))
    (all_states n ∙ nil_right (r ++ q) s h)

pub erased_keeps_limits : ErasedKeepsLimits
erased_keeps_limits p h =
    let a = over 256 (λ t. t.place.0) p.types ++ flat_map type_limits p.types in
    let b = over 1024 (λ (n : Node). n.place.0) p.nodes in
    let c = flat_map node_limits p.nodes in
    nil_both (a ++ over 1024 (λ (n : Node). n.place.0) (map erased_node p.nodes)) (flat_map node_limits (map erased_node p.nodes))
    (ap (λ (l : List Fault). a ++ l) (over_same 1024 (λ (n : Node). n.place.0) erased_node (λ n. refl) p.nodes) ∙ nil_left (a ++ b) c h)
    (flat_nil node_limits erased_node node_limits node_kept p.nodes (nil_right (a ++ b) c h))
