-- The node that is run, and what it declares.
use Rattle.std.proofs.Common.{◌≡◌, ◌≢◌, ℕ, zero, suc, ◌+◌, ◌-◌, ◌<◌, Bool, true, false, ◌&&◌, not, List, [], ◌∷◌, ◌++◌, length, All, Some, None, map, refl, sym, ap, ◌∙◌, subst, arith}
use Rattle.std.specs.Prelude.{slice_get}
use Rattle.std.specs.List.{flat_map, list_all}
use Rattle.std.proofs.lemmas.Grind.{flat_map-append}
use Rattle.std.proofs.lemmas.Option.{get_or_from_slice_get, slice_get_within}
use Rattle.hept_ast.specs.Scopes.{Written}
use Rattle.hept_ast.specs.Types.{is_plain, type_is_known}
use Rattle.hept_ast.specs.Parts.{Placed, parts, variables, seen_at}
use Rattle.hept_ast.specs.Faults.{IsTyped, Judging, UnknownName, decl_faults, init_faults, judging, node_faults, part_faults, seconds}
use Rattle.hept_ast.specs.Texts.{same}
use Rattle.hept_ast.specs.declared.tree.Decl.{Decl}
use Rattle.hept_ast.specs.declared.tree.Node.{Node}
use Rattle.hept_ast.specs.declared.tree.Program.{Program}
use Rattle.sound_expressions.proofs.Lists.{nil_left, nil_right, none_of_each, no_fault}
use Rattle.served_programs.specs.Served.{IsPlainDecl, IsServed, IsServedNode}
use Rattle.step_objects.specs.Shapes.{is_declared_plain}
use Rattle.step_objects.specs.Interfaces.{last_text, main_text}

-- ---- the last node

pub record IsLast (n : ℕ) (nodes : List Node) (k : ℕ) : Type 0 where
  pub node : Node
  pub at : slice_get nodes k ≡ Some node
  pub main : last_text n nodes ≡ Some (Written (n + k) node)

last_from : (n k : ℕ) (node : Node) (nodes : List Node) → k ≡ length nodes → IsLast n (node ∷ nodes) k
last_from n k node [] e =
    let here : k ≡ 0 = e in
    let number : n ≡ n + k = omega (arith, e) in
    record { node = node; at = ap (slice_get (node ∷ [])) here; main = ap (λ (m : ℕ). Some (Written m node)) number }
last_from n zero node (next ∷ nodes) e = absurd (omega (arith, e))
last_from n (suc k) node (next ∷ nodes) e =
    let rest : IsLast (n + 1) (next ∷ nodes) k = last_from (n + 1) k next nodes (omega (arith, e)) in
    let number : (n + 1) + k ≡ n + suc k = omega arith in
    record { node = rest.node; at = rest.at; main = rest.main ∙ ap (λ (m : ℕ). Some (Written m rest.node)) number }

-- a program with nodes has a last one
pub last_node : (p : Program) (k : ℕ) → p.nodes ≢ [] → k ≡ length p.nodes - 1 → IsLast 0 p.nodes k
last_node p k some e = of p.nodes some e
  where
    of : (nodes : List Node) → nodes ≢ [] → k ≡ length nodes - 1 → IsLast 0 nodes k
    of [] some e = absurd (some refl)
    of (node ∷ nodes) some e = last_from 0 k node nodes (omega (arith, e))

-- the node that is run stands last
pub last_is : (p : Program) (number : ℕ) (node : Node) (k : ℕ) → main_text p ≡ Some (Written number node) → k ≡ length p.nodes - 1 → slice_get p.nodes k ≡ Some node
last_is p number node k main e =
    let l : IsLast 0 p.nodes k = last_node p k some e in
    let same : Some (Written (0 + k) l.node) ≡ Some (Written number node) = sym l.main ∙ main in
    let here : l.node ≡ node = cc in
    subst (λ (n : Node). slice_get p.nodes k ≡ Some n) here l.at
  where
    some : p.nodes ≢ []
    some none = let nothing : last_text 0 p.nodes ≡ None = ap (last_text 0) none in cc

pub some_nodes : (nodes : List Node) → nodes ≢ [] → 0 < length nodes
some_nodes [] some = absurd (some refl)
some_nodes (node ∷ nodes) some = omega arith

-- ---- declarations

affirmed : (b : Bool) → not b ≡ false → b ≡ true
affirmed true h = refl
affirmed false h = absurd (cc)

both : (a b c : Bool) → a ≡ true → b ≡ true → c ≡ true → ((a && b) && c) ≡ true
both true b c g h k = ap (λ x. x && c) h ∙ k
both false b c g h k = absurd (cc)

at_index : {X : Type 0} (P : X → Type 0) (xs : List X) (k : ℕ) (x : X) → All P xs → slice_get xs k ≡ Some x → P x
at_index P xs k x all at = subst P (get_or_from_slice_get xs k x x at) (all k x (slice_get_within xs k x at))

front : {X : Type 0} (P : X → Type 0) (xs ys : List X) → All P (xs ++ ys) → All P xs
front P [] ys h k d l = absurd (omega arith)
front P (x ∷ xs) ys h zero d l = h 0 d (omega arith)
front P (x ∷ xs) ys h (suc k) d l = front P xs ys (λ k d l. h (suc k) d (omega arith)) k d (omega arith)

back : {X : Type 0} (P : X → Type 0) (xs ys : List X) → All P (xs ++ ys) → All P ys
back P [] ys h = h
back P (x ∷ xs) ys h = back P xs ys (λ k d l. h (suc k) d (omega arith))

plain_declared : (w : Judging) (ds : List Decl) → flat_map (decl_faults w) ds ≡ [] → All IsPlainDecl ds → list_all (is_declared_plain w.types) ds ≡ true
plain_declared w [] h all = refl
plain_declared w (d ∷ ds) h all =
    both (is_plain d.ty) (type_is_known w.types d.ty) (list_all (is_declared_plain w.types) ds) (all 0 d (omega arith)).0
    (affirmed (type_is_known w.types d.ty) (no_fault d.place.0 UnknownName (not (type_is_known w.types d.ty)) (nil_left _ (init_faults w d d.init) (nil_left (decl_faults w d) _ h))))
    (plain_declared w ds (nil_right (decl_faults w d) _ h) (λ k x lt. all (suc k) x (omega arith)))

module _ (p : Program) (k : ℕ) (node : Node) (typed : IsTyped p) (served : IsServed p) (at : slice_get p.nodes k ≡ Some node) where
  abbrev inputs_judging : Judging
  inputs_judging = record { types = p.types; nodes = p.nodes; node = node; seen = []; strong = false }

  abbrev block_judging : Judging
  block_judging = record { types = p.types; nodes = p.nodes; node = node; seen = seen_at node []; strong = false }

  clean : node_faults p node ≡ []
  clean = at_index (λ (n : Node). node_faults p n ≡ []) p.nodes k node (none_of_each (node_faults p) p.nodes (nil_right _ (flat_map (node_faults p) p.nodes) typed)) at

  plain : All IsPlainDecl (variables node)
  plain = (at_index IsServedNode p.nodes k node served at).plain

  inputs_clean : flat_map (decl_faults inputs_judging) node.inputs ≡ []
  inputs_clean = nil_right (seconds same [] (map (λ (d : Decl). (d.place.0, d.name)) (variables node))) _ (nil_left _ _ (nil_left _ _ clean))

  own_clean : flat_map (decl_faults block_judging) (node.outputs ++ node.block.locals) ≡ []
  own_clean = nil_left _ _ (nil_left _ _ (nil_left _ _ (nil_right _ (flat_map (λ (q : Placed). part_faults (judging p node q) q.part) (parts node)) clean)))

  -- its inputs and outputs are of plain types that are declared
  pub plain_inputs : list_all (is_declared_plain p.types) node.inputs ≡ true
  plain_inputs = plain_declared inputs_judging node.inputs inputs_clean (front IsPlainDecl node.inputs _ plain)

  pub plain_outputs : list_all (is_declared_plain p.types) node.outputs ≡ true
  plain_outputs = plain_declared block_judging node.outputs outputs_clean (front IsPlainDecl node.outputs _ (front IsPlainDecl (node.outputs ++ node.block.locals) _ (back IsPlainDecl node.inputs _ plain)))
    where
      outputs_clean : flat_map (decl_faults block_judging) node.outputs ≡ []
      outputs_clean = nil_left _ (flat_map (decl_faults block_judging) node.block.locals) (sym (flat_map-append (decl_faults block_judging) node.outputs node.block.locals) ∙ own_clean)
