-- What is called in a right side of a node is called by the node; and nodes by their names.
use Rattle.std.proofs.Common.{◌≡◌, ℕ, zero, suc, Bool, true, false, if◌then◌else◌, List, [], ◌∷◌, ◌++◌, map, refl, sym, ap, subst, ◌∙◌, append-nil, Option, Some, None, option_map}
use Rattle.std.specs.Prelude.{slice_get}
use Rattle.std.specs.List.{find, flat_map}
use Rattle.hept_ast.specs.Texts.{Name, is_in, same}
use Rattle.hept_ast.specs.Scopes.{Lowered}
use Rattle.hept_ast.specs.Parts.{expressions_of, inside, parts_of}
use Rattle.hept_ast.specs.Faults.{called, calls_of}
use Rattle.hept_ast.specs.declared.tree.Core.{Core}
use Rattle.hept_ast.specs.declared.tree.CoreEquation.{CoreEquation}
use Rattle.hept_ast.specs.declared.tree.CoreNode.{CoreNode}
use Rattle.hept_ast.specs.declared.tree.Expr.{Expr}
use Rattle.hept_ast.proofs.Unfolded.{static}
use Rattle.core_rules.specs.Cores.{as_equation, as_node}
use Rattle.core_fitting.specs.Sound.{IsNamed, expressions_in}
use Rattle.core_fitting.proofs.Lists.{same_some}
use Rattle.core_fitting.proofs.NamesRead.{in_left, in_right}
use Rattle.step_plans.specs.Memories.{nodes_of}
use Rattle.buildable_cores.proofs.Standing.{Stands, stands_first, stands_flat, stands_next}

-- ---- calls

core_expressions : (es : List CoreEquation) → flat_map (λ q. flat_map inside (expressions_of q.part)) (flat_map (parts_of []) (map as_equation es)) ≡ flat_map (λ e. inside e.right) es
unfolding static
core_expressions [] = refl
core_expressions (e ∷ es) =
    ap (λ (l : List Expr). l ++ flat_map (λ q. flat_map inside (expressions_of q.part)) (flat_map (parts_of []) (map as_equation es))) (append-nil (inside e.right))
    ∙ ap (λ (l : List Expr). inside e.right ++ l) (core_expressions es)

calls_are : (node : CoreNode) → calls_of (Some (as_node node)) ≡ flat_map (λ e. called e.form) (expressions_in node)
calls_are node = ap (λ (l : List Expr). flat_map (λ e. called e.form) l) (core_expressions node.equations)

in_flat : (f : Expr → List Name) (x : Name) (xs : List Expr) (k : ℕ) (a : Expr) → slice_get xs k ≡ Some a → is_in x (f a) ≡ true → is_in x (flat_map f xs) ≡ true
in_flat f x [] k a h i = absurd (cc)
in_flat f x (b ∷ xs) zero a h i = in_left x (f b) (flat_map f xs) (subst (λ (z : Expr). is_in x (f z) ≡ true) (sym (same_some b a h)) i)
in_flat f x (b ∷ xs) (suc k) a h i = in_right x (f b) (flat_map f xs) (in_flat f x xs k a h i)

pub calls_in : (node : CoreNode) (e : CoreEquation) (a : Expr) (f : Name) → Stands node.equations e → Stands (inside e.right) a → is_in f (called a.form) ≡ true → is_in f (calls_of (Some (as_node node))) ≡ true
calls_in node e a f at within i =
    let s = stands_flat (λ (d : CoreEquation). inside d.right) node.equations e a at within in
    ap (is_in f) (calls_are node) ∙ in_flat (λ (z : Expr). called z.form) f (expressions_in node) s.place a s.at i

-- ---- names

no_some : {A P : Type 0} (x : A) → None ≡ Some x → P
no_some x e = cc

-- a node that is found by its name is one of the core's
pub named_stands : (f : Name) (ns : List CoreNode) (node : CoreNode) → find (λ n. same f n.name) ns ≡ Some node → Stands ns node
named_stands f [] node e = no_some node e
named_stands f (n ∷ ns) node e = go (same f n.name) e (named_stands f ns node)
  where
    go : (b : Bool) → (if b then Some n else find (λ n. same f n.name) ns) ≡ Some node → (find (λ n. same f n.name) ns ≡ Some node → Stands ns node) → Stands (n ∷ ns) node
    go true h later = subst (λ (z : CoreNode). Stands (n ∷ ns) z) (same_some n node h) (stands_first n ns)
    go false h later = stands_next n ns node (later h)

lowered : (m node : CoreNode) → Some (Lowered m) ≡ Some (Lowered node) → m ≡ node
lowered m node e = cc

lowered_some : (o : Option CoreNode) (node : CoreNode) → option_map Lowered o ≡ Some (Lowered node) → o ≡ Some node
lowered_some None node e = no_some (Lowered node) e
lowered_some (Some m) node e = ap Some (lowered m node e)

-- the text that a name has is that of the node that is found by it
pub named_by : (core : Core) (f : Name) (node : CoreNode) → nodes_of core f ≡ Some (Lowered node) → IsNamed core f node
named_by core f node e = lowered_some (find (λ n. same f n.name) core.nodes) node e

pub named_text : (core : Core) (f : Name) (node : CoreNode) → IsNamed core f node → nodes_of core f ≡ Some (Lowered node)
named_text core f node e = ap (option_map Lowered) e
