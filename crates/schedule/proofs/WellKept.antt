-- A core with its equations in another order is well formed, and in normal form.
use Rattle.std.proofs.Common.{◌≡◌, ℕ, zero, suc, Bool, true, false, ◌||◌, List, [], ◌∷◌, ◌++◌, Some, length, map, All, refl, sym, ap, subst, arith, ◌∙◌}
use Rattle.std.specs.List.{flat_map, list_any}
use Rattle.std.specs.List.Sorted.{IsPermutation}
use Rattle.std.specs.Prelude.{cond}
use Rattle.std.proofs.lemmas.List.Sorted.{All-permutation, IsPermutation-map, IsPermutation-refl, list_any-IsPermutation}
use Rattle.hept_ast.specs.Texts.{Name, same, is_in, names}
use Rattle.hept_ast.specs.Scopes.{Clock}
use Rattle.hept_ast.specs.Meaning.{clock_of_equation}
use Rattle.hept_ast.specs.Parts.{expressions_of, inside, parts_of, Placed}
use Rattle.hept_ast.specs.Clocks.{Meets, clock, expression, term_of}
use Rattle.hept_ast.specs.Faults.{Judging, called, calls_lead, calls_of, judge_expr, lead, left_types, node_named, type_of_variable}
use Rattle.hept_ast.specs.Paths.{AllDiffer}
use Rattle.hept_ast.specs.declared.tree.Core.{Core}
use Rattle.hept_ast.specs.declared.tree.CoreNode.{CoreNode}
use Rattle.hept_ast.specs.declared.tree.CoreEquation.{CoreEquation}
use Rattle.hept_ast.specs.declared.tree.Decl.{Decl}
use Rattle.hept_ast.specs.declared.tree.Ty.TheVariants as ty
use Rattle.hept_ast.specs.declared.tree.Plain.TheVariants.{Bool as Truth_value}
use Rattle.hept_ast.specs.Reordering.{Reordered, ReorderedNodes, none, next, Reordering}
use Rattle.hept_ast.proofs.Reordering.{all_cons, all_head, all_tail, equation_same}
use Rattle.core_rules.specs.Cores.{as_equation, as_interface, as_node, core_clock, core_decls, core_judging, lefts_of}
use Rattle.core_rules.specs.WellFormed.{IsClockedEquation, IsTypedEquation, IsWellFormed, IsWellFormedNode}
use Rattle.core_naming.specs.Normal.{AreNormal, IsNormal, IsNormalRight}
use Rattle.schedule.specs.Order.{AreNodesInOrder, IsOrdered, IsOrderedNode, more_nodes, no_nodes}
use Rattle.schedule.proofs.Reordered.{nodes_reordered}
use Rattle.schedule.proofs.Permuted.{differ_permuted, flat_permuted}

-- ---- calls

node_calls : (n m : CoreNode) → Reordered n m → IsPermutation (calls_of (Some (as_node n))) (calls_of (Some (as_node m)))
node_calls n m h =
    flat_permuted (λ e. called e.form) _ _ (flat_permuted (λ (q : Placed). flat_map inside (expressions_of q.part)) _ _
    (flat_permuted (parts_of []) _ _ (IsPermutation-map as_equation n.equations m.equations h.equations)))

named_calls : (nodes others : List CoreNode) → ReorderedNodes nodes others → (f : Name) →
    IsPermutation (calls_of (node_named (map as_node nodes) f)) (calls_of (node_named (map as_node others) f))
named_calls _ _ none f = IsPermutation-refl []
named_calls _ _ (next {node = n} {other = m} {nodes = ns} {others = ms} h hs) f =
    subst (λ (x : Name). IsPermutation (calls_of (cond (same f n.name) (Some (as_node n)) (node_named (map as_node ns) f))) (calls_of (cond (same f x) (Some (as_node m)) (node_named (map as_node ms) f))))
    (sym h.name) (go (same f n.name) (named_calls ns ms hs f))
  where
    go : (b : Bool) → IsPermutation (calls_of (node_named (map as_node ns) f)) (calls_of (node_named (map as_node ms) f)) →
        IsPermutation (calls_of (cond b (Some (as_node n)) (node_named (map as_node ns) f))) (calls_of (cond b (Some (as_node m)) (node_named (map as_node ms) f)))
    go true k = node_calls n m h
    go false k = k

any_same : (p q : Name → Bool) → ((x : Name) → p x ≡ q x) → (xs : List Name) → list_any p xs ≡ list_any q xs
any_same p q h [] = refl
any_same p q h (x ∷ xs) = let e : p x ≡ q x = h x in let f : list_any p xs ≡ list_any q xs = any_same p q h xs in cc

lead_same : (nodes others : List CoreNode) → ReorderedNodes nodes others → (k : ℕ) (f g : Name) → lead (map as_node others) k f g ≡ lead (map as_node nodes) k f g
lead_same nodes others h zero f g = refl
lead_same nodes others h (suc k) f g =
    ap (λ b. same f g || b) (any_same (λ x. lead (map as_node others) k x g) (λ x. lead (map as_node nodes) k x g) (λ x. lead_same nodes others h k x g) (calls_of (node_named (map as_node others) f))
    ∙ sym (list_any-IsPermutation (λ x. lead (map as_node nodes) k x g) _ _ (named_calls nodes others h f)))

length_same : (nodes others : List CoreNode) → ReorderedNodes nodes others → length (map as_node others) ≡ length (map as_node nodes)
length_same _ _ none = refl
length_same _ _ (next h hs) = ap suc (length_same _ _ hs)

calls_lead_same : (nodes others : List CoreNode) → ReorderedNodes nodes others → (f g : Name) → calls_lead (map as_node others) f g ≡ calls_lead (map as_node nodes) f g
calls_lead_same nodes others h f g =
    ap (λ k. lead (map as_node others) k f g) (length_same nodes others h) ∙ lead_same nodes others h (length (map as_node nodes)) f g

-- ---- what right sides are judged by

interface_same : (n m : CoreNode) → Reordered n m → as_interface m ≡ as_interface n
interface_same n m h = rw h.name (rw h.inputs (rw h.outputs (rw h.locals refl)))

interfaces_same : (nodes others : List CoreNode) → ReorderedNodes nodes others → map as_interface others ≡ map as_interface nodes
interfaces_same _ _ none = refl
interfaces_same _ _ (next {node = n} {other = m} {nodes = ns} {others = ms} h hs) =
    let e : as_interface m ≡ as_interface n = interface_same n m h in
    let f : map as_interface ms ≡ map as_interface ns = interfaces_same ns ms hs in
    cc

decls_same : (n m : CoreNode) → Reordered n m → core_decls m ≡ core_decls n
decls_same n m h = rw h.inputs (rw h.outputs (rw h.locals refl))

judging_same : (core other : Core) (n m : CoreNode) → Reordering core other → Reordered n m → core_judging other m ≡ core_judging core n
judging_same core other n m h k =
    let a : other.types ≡ core.types = h.types in
    let b : map as_interface other.nodes ≡ map as_interface core.nodes = interfaces_same core.nodes other.nodes h.nodes in
    let c : as_interface m ≡ as_interface n = interface_same n m k in
    let d : core_decls m ≡ core_decls n = decls_same n m k in
    rw a (rw b (rw c (rw d refl)))

typed_kept : (core other : Core) (n m : CoreNode) (e : CoreEquation) → core_judging other m ≡ core_judging core n → IsTypedEquation core n e → IsTypedEquation other m e
typed_kept core other n m e j h = record {
  faults = subst (λ (w : Judging). (judge_expr w e.right).faults ≡ []) (sym j) h.faults;
  types = h.types;
  right = subst (λ (w : Judging). (judge_expr w e.right).types ≡ Some h.types) (sym j) h.right;
  left = subst (λ (w : Judging). left_types w e.left ≡ Some h.types) (sym j) h.left;
  last = h.last;
  resets = subst (λ (w : Judging). All (λ x. type_of_variable w x ≡ Some (ty.Plain Truth_value)) e.resets) (sym j) h.resets;
}

-- ---- clocks

clocks_same : (n m : CoreNode) → Reordered n m → core_clock m ≡ core_clock n
clocks_same n m h = λ i. λ x. ap clock_of_equation (equation_same n m h x) i

clocked_kept : (n m : CoreNode) (e : CoreEquation) → Reordered n m → IsClockedEquation n e → IsClockedEquation m e
clocked_kept n m e k h = record {
  numbers = h.numbers;
  right = subst (λ (ds : List Decl). clock (record { variable = core_clock m; expression = h.numbers }) (term_of (names ds) 0 e.right.form) ≡ e.clock.steps) (sym (decls_same n m k))
      (subst (λ (c : Name → Clock). clock (record { variable = c; expression = h.numbers }) (term_of (names (core_decls n)) 0 e.right.form) ≡ e.clock.steps) (sym (clocks_same n m k)) h.right);
  meets = subst (λ (ds : List Decl). Meets (record { variable = core_clock m; expression = h.numbers }) (expression (names ds) 0 e.right.place.0 e.right.form)) (sym (decls_same n m k))
      (subst (λ (c : Name → Clock). Meets (record { variable = c; expression = h.numbers }) (expression (names (core_decls n)) 0 e.right.place.0 e.right.form)) (sym (clocks_same n m k)) h.meets);
}

all_less : {X : Type 0} (P Q : X → Type 0) (xs : List X) → ((x : X) → P x → Q x) → All P xs → All Q xs
all_less P Q xs f h n d lt = f _ (h n d lt)

-- ---- nodes

pub node_kept : (core other : Core) (n m : CoreNode) → Reordering core other → Reordered n m → IsWellFormedNode core n → IsWellFormedNode other m
node_kept core other n m h k w = record {
  once = subst (λ (ds : List Decl). AllDiffer (names ds)) (sym (decls_same n m k)) w.once;
  one_left = differ_permuted (lefts_of n) (lefts_of m) lefts w.one_left;
  defined = λ x.
      sym (list_any-IsPermutation (same x) (lefts_of n) (lefts_of m) lefts) ∙ w.defined x
      ∙ subst (λ (ds : List Decl). is_in x (names (n.outputs ++ n.locals)) ≡ is_in x (names (m.outputs ++ ds))) (sym k.locals)
      (subst (λ (ds : List Decl). is_in x (names (n.outputs ++ n.locals)) ≡ is_in x (names (ds ++ n.locals))) (sym k.outputs) refl);
  calls = λ f e.
      calls_lead_same core.nodes other.nodes h.nodes f m.name
      ∙ subst (λ (x : Name). calls_lead (map as_node core.nodes) f x ≡ false) (sym k.name)
      (w.calls f (list_any-IsPermutation (same f) _ _ (node_calls n m k) ∙ e));
  typed = All-permutation (IsTypedEquation other m) n.equations m.equations k.equations
      (all_less (IsTypedEquation core n) (IsTypedEquation other m) n.equations (λ e t. typed_kept core other n m e (judging_same core other n m h k) t) w.typed);
  clocked = All-permutation (IsClockedEquation m) n.equations m.equations k.equations
      (all_less (IsClockedEquation n) (IsClockedEquation m) n.equations (λ e t. clocked_kept n m e k t) w.clocked);
  outputs = subst (λ (ds : List Decl). All (λ d. core_clock m d.name ≡ []) ds) (sym k.outputs)
      (all_less (λ d. core_clock n d.name ≡ []) (λ d. core_clock m d.name ≡ []) n.outputs (λ d t. ap clock_of_equation (equation_same n m k d.name) ∙ t) w.outputs);
}
  where
    lefts : IsPermutation (lefts_of n) (lefts_of m)
    lefts = flat_permuted (λ e. e.left) n.equations m.equations k.equations

well_all : (core other : Core) (nodes others : List CoreNode) → Reordering core other → ReorderedNodes nodes others → All (IsWellFormedNode core) nodes → All (IsWellFormedNode other) others
well_all core other _ _ h none w = λ k d lt. absurd (omega arith)
well_all core other _ _ h (next {node = n} {other = m} {nodes = ns} {others = ms} k ks) w =
    all_cons (IsWellFormedNode other) m ms (node_kept core other n m h k (all_head (IsWellFormedNode core) n ns w))
    (well_all core other ns ms h ks (all_tail (IsWellFormedNode core) n ns w))

pub well_formed_kept : (core other : Core) → Reordering core other → IsWellFormed core → IsWellFormed other
well_formed_kept core other h w = well_all core other core.nodes other.nodes h h.nodes w

-- ---- normal form, and the order

normal_all : (nodes others : List CoreNode) → ReorderedNodes nodes others → All (λ n. AreNormal n.equations) nodes → All (λ n. AreNormal n.equations) others
normal_all _ _ none w = w
normal_all _ _ (next {node = n} {other = m} {nodes = ns} {others = ms} k ks) w =
    all_cons (λ n. AreNormal n.equations) m ms
    (All-permutation (λ e. IsNormalRight e.right) n.equations m.equations k.equations (all_head (λ n. AreNormal n.equations) n ns w))
    (normal_all ns ms ks (all_tail (λ n. AreNormal n.equations) n ns w))

pub normal_kept : (core other : Core) → Reordering core other → IsNormal core → IsNormal other
normal_kept core other h w = normal_all core.nodes other.nodes h.nodes w

pub all_in_order : (nodes others : List CoreNode) → AreNodesInOrder nodes others → All IsOrderedNode others
all_in_order _ _ no_nodes = λ k d lt. absurd (omega arith)
all_in_order _ _ (more_nodes {node = n} {other = m} {nodes = ns} {others = ms} h hs) = all_cons IsOrderedNode m ms h.equations.order (all_in_order ns ms hs)

-- ---- the whole

pub core_reordered : (core other : Core) → IsWellFormed core → other.types ≡ core.types → AreNodesInOrder core.nodes other.nodes → Reordering core other
core_reordered core other w t h = record { types = t; nodes = nodes_reordered core core.nodes other.nodes w h }

pub core_ordered : (core other : Core) → IsWellFormed core → IsNormal core → other.types ≡ core.types → AreNodesInOrder core.nodes other.nodes → IsOrdered other
core_ordered core other w n t h =
    let r = core_reordered core other w t h in
    record { well_formed = well_formed_kept core other r w; normal = normal_kept core other r n; order = all_in_order core.nodes other.nodes h }
