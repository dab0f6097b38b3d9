-- Nodes with their equations in order are the nodes rearranged.
use Rattle.std.proofs.Common.{◌≡◌, ℕ, zero, suc, List, [], ◌∷◌, ◌++◌, Some, slice_get, remove, All, refl, sym, ap, subst, ◌∙◌, append_assoc}
use Rattle.std.proofs.lemmas.List.Sorted.{IsPermutation-sym, sum_by-IsPermutation}
use Rattle.std.specs.Prelude.{◌≤◌, cond}
use Rattle.hept_ast.specs.Texts.{is_in}
use Rattle.hept_ast.specs.Scopes.{Scope, Text}
use Rattle.hept_ast.specs.Sites.{Site}
use Rattle.hept_ast.specs.Reordering.{Reordered, ReorderedNodes, none, next, Reordering, SameText, written, lowered, SameScope, top, called, branch, body, state, under, SameSite, same_site}
use Rattle.hept_ast.specs.declared.tree.Core.{Core}
use Rattle.hept_ast.specs.declared.tree.CoreNode.{CoreNode}
use Rattle.hept_ast.proofs.Reordering.{order_is_free, all_head, all_tail}
use Rattle.hept_ast.proofs.ReorderedSites.{order_keeps_sites, order_keeps_sent}
use Rattle.core_rules.specs.WellFormed.{IsWellFormedNode}
use Rattle.schedule.specs.Kept.{KeepsMeaning}
use Rattle.schedule.specs.Order.{AreNodesInOrder, Doing, HaveNoCycle, IsNodeInOrder, more_nodes, no_nodes}
use Rattle.schedule.proofs.Permuted.{one_left}

-- ---- the steps

nodes_last : (nodes others : List CoreNode) (node other : CoreNode) → AreNodesInOrder nodes others → IsNodeInOrder node other → AreNodesInOrder (nodes ++ node ∷ []) (others ++ other ∷ [])
nodes_last _ _ node other no_nodes k = more_nodes k no_nodes
nodes_last _ _ node other (more_nodes h hs) k = more_nodes h (nodes_last _ _ node other hs k)

pub doing_none : (nodes : List CoreNode) → All (λ node. HaveNoCycle node.equations) nodes → Doing nodes [] nodes
doing_none nodes h = record { front = []; all = refl; done_nodes = no_nodes; acyclic = h }

pub doing_one : (nodes done left : List CoreNode) (node other : CoreNode) → Doing nodes done left → slice_get left 0 ≡ Some node → IsNodeInOrder node other →
    Doing nodes (done ++ other ∷ []) (remove left 0)
doing_one nodes done [] node other h at k = cc
doing_one nodes done (n ∷ ns) node other h at k =
    let e : n ≡ node = cc in
    record {
      front = h.front ++ node ∷ [];
      all = h.all ∙ ap (λ (m : CoreNode). h.front ++ m ∷ ns) e ∙ sym (append_assoc h.front (node ∷ []) ns);
      done_nodes = nodes_last h.front done node other h.done_nodes k;
      acyclic = all_tail (λ m. HaveNoCycle m.equations) n ns h.acyclic;
    }

pub doing_step : (nodes done left longer rest : List CoreNode) (node other : CoreNode) → Doing nodes done left → slice_get left 0 ≡ Some node → IsNodeInOrder node other →
    longer ≡ done ++ other ∷ [] → rest ≡ remove left 0 → Doing nodes longer rest
doing_step nodes done left longer rest node other h at k a b =
    subst (λ (l : List CoreNode). Doing nodes l rest) (sym a) (subst (λ (l : List CoreNode). Doing nodes (done ++ other ∷ []) l) (sym b) (doing_one nodes done left node other h at k))

pub first_acyclic : (nodes done left : List CoreNode) (node : CoreNode) → Doing nodes done left → slice_get left 0 ≡ Some node → HaveNoCycle node.equations
first_acyclic nodes done [] node h at = cc
first_acyclic nodes done (n ∷ ns) node h at = let e : n ≡ node = cc in subst (λ (m : CoreNode). HaveNoCycle m.equations) e (all_head (λ m. HaveNoCycle m.equations) n ns h.acyclic)

-- ---- rearranged nodes

pub node_reordered : (core : Core) (node other : CoreNode) → IsWellFormedNode core node → IsNodeInOrder node other → Reordered node other
node_reordered core node other w h = record {
  name = h.name;
  inputs = h.inputs;
  outputs = h.outputs;
  locals = h.locals;
  equations = h.equations.moved;
  once = λ x. one_left x node.equations w.one_left;
}

pub nodes_reordered : (core : Core) (nodes others : List CoreNode) → All (IsWellFormedNode core) nodes → AreNodesInOrder nodes others → ReorderedNodes nodes others
nodes_reordered core _ _ w no_nodes = none
nodes_reordered core _ _ w (more_nodes {node = n} {other = m} {nodes = ns} {others = ms} h hs) =
    next (node_reordered core n m (all_head (IsWellFormedNode core) n ns w) h) (nodes_reordered core ns ms (all_tail (IsWellFormedNode core) n ns w) hs)

-- ---- the other way round

back : (node other : CoreNode) → Reordered node other → Reordered other node
back node other h = record {
  name = sym h.name;
  inputs = sym h.inputs;
  outputs = sym h.outputs;
  locals = sym h.locals;
  equations = IsPermutation-sym _ _ h.equations;
  once = λ x. subst (λ (n : ℕ). n ≤ 1) (sym (sum_by-IsPermutation (λ e. cond (is_in x e.left) 1 0) node.equations other.equations h.equations)) (h.once x);
}

nodes_back : (nodes others : List CoreNode) → ReorderedNodes nodes others → ReorderedNodes others nodes
nodes_back _ _ none = none
nodes_back _ _ (next h hs) = next (back _ _ h) (nodes_back _ _ hs)

core_back : (core other : Core) → Reordering core other → Reordering other core
core_back core other h = record { types = sym h.types; nodes = nodes_back core.nodes other.nodes h.nodes }

text_back : (a b : Text) → SameText a b → SameText b a
text_back _ _ written = written
text_back _ _ (lowered h) = lowered (back _ _ h)

scope_back : (s r : Scope) → SameScope s r → SameScope r s
scope_back _ _ (top h) = top (text_back _ _ h)
scope_back _ _ (called h k) = called (scope_back _ _ h) (text_back _ _ k)
scope_back _ _ (branch h) = branch (scope_back _ _ h)
scope_back _ _ (body h) = body (scope_back _ _ h)
scope_back _ _ (state h) = state (scope_back _ _ h)
scope_back _ _ (under h) = under (scope_back _ _ h)

site_back : (a b : Site) → SameSite a b → SameSite b a
site_back _ _ (same_site h k) = same_site (scope_back _ _ h) (text_back _ _ k)

-- ---- the meaning

other_at : (nodes others : List CoreNode) (k : ℕ) (node : CoreNode) → ReorderedNodes nodes others → slice_get nodes k ≡ Some node →
    (moved : CoreNode) × (slice_get others k ≡ Some moved) × Reordered node moved
other_at _ _ k node none e = cc
other_at _ _ zero node (next {node = n} {other = m} h hs) e = let f : n ≡ node = cc in (m, refl, subst (λ (o : CoreNode). Reordered o m) f h)
other_at _ _ (suc k) node (next h hs) e = other_at _ _ k node hs e

both_at : (nodes others : List CoreNode) (k : ℕ) (node moved : CoreNode) → ReorderedNodes nodes others → slice_get nodes k ≡ Some node → slice_get others k ≡ Some moved → Reordered node moved
both_at nodes others k node moved h e f =
    let o = other_at nodes others k node h e in
    let g = o.1 in
    let same : o.0 ≡ moved = cc in
    subst (λ (m : CoreNode). Reordered node m) same o.2

pub keeps_meaning : (core other : Core) → Reordering core other → KeepsMeaning core other
keeps_meaning core other h = record {
  node = λ k node e. other_at core.nodes other.nodes k node h.nodes e;
  outputs = λ marked replies k node moved rows outs e f.
      let r = both_at core.nodes other.nodes k node moved h.nodes e f in (
        (λ o. order_is_free core other marked replies node moved rows outs h r o),
        (λ o. order_is_free other core marked replies moved node rows outs (core_back core other h) (back node moved r) o),
      );
  sites = λ marked replies k node moved sites e f.
      let r = both_at core.nodes other.nodes k node moved h.nodes e f in (
        (λ s. order_keeps_sites core other marked replies node moved sites h r s),
        (λ s. order_keeps_sites other core marked replies moved node sites (core_back core other h) (back node moved r) s),
      );
  sent = λ marked replies site moved rows calls k. (
    (λ s. order_keeps_sent core other marked replies site moved rows calls h k s),
    (λ s. order_keeps_sent other core marked replies moved site rows calls (core_back core other h) (site_back site moved k) s),
  );
}
