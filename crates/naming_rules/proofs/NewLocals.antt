-- The nodes of a core and those of a core with more locals, by position and by name.
use Rattle.std.proofs.Common.{◌≡◌, ℕ, zero, suc, Bool, true, false, if◌then◌else◌, List, [], ◌∷◌, ◌++◌, Some, slice_get, refl, sym, ap, subst, ◌∙◌, append_assoc, append-nil}
use Rattle.std.specs.List.{find}
use Rattle.std.proofs.lemmas.List.Elements.{All-nil, All-push}
use Rattle.hept_ast.specs.Texts.{Name, same}
use Rattle.hept_ast.specs.Scopes.{Clock}
use Rattle.hept_ast.specs.declared.tree.Core.{Core}
use Rattle.hept_ast.specs.declared.tree.CoreNode.{CoreNode}
use Rattle.hept_ast.specs.declared.tree.Decl.{Decl}
use Rattle.hept_ast.specs.declared.tree.Expr.{Expr}
use Rattle.hept_ast.specs.declared.tree.Ty.{Ty}
use Rattle.core_naming.specs.Names.{IsNaming, IsNewName, NamesInNode, new_decl}
use Rattle.naming_rules.specs.Normalised.{HasNewLocals, HaveNewLocals, no_nodes, more_nodes}

-- the nodes that two lists have at one position
abbrev pub StandTogether : List CoreNode → List CoreNode → CoreNode → CoreNode → Type 0
StandTogether nodes others node other = (k : ℕ) × (slice_get nodes k ≡ Some node) × (slice_get others k ≡ Some other)

pub same_some : (a b : CoreNode) → Some a ≡ Some b → a ≡ b
same_some a b e = cc

module _ (core : Core) where
  -- ---- no naming, and one more

  same_locals : (node : CoreNode) → HasNewLocals core node node
  same_locals node = record {
    name = refl;
    inputs = refl;
    outputs = refl;
    added = [];
    locals = sym (append-nil node.locals);
    new = All-nil (λ d. IsNewName core d.name);
  }

  pub nodes_stay : (nodes : List CoreNode) → HaveNewLocals core nodes nodes
  nodes_stay [] = no_nodes
  nodes_stay (node ∷ nodes) = more_nodes (same_locals node) (nodes_stay nodes)

  one_more_local : (x : Name) (a : Expr) (d : Clock) (t : Ty) (node other last : CoreNode) → HasNewLocals core node other → NamesInNode x a d t other last → IsNewName core x → HasNewLocals core node last
  one_more_local x a d t node other last h n new = record {
    name = n.name ∙ h.name;
    inputs = n.inputs ∙ h.inputs;
    outputs = n.outputs ∙ h.outputs;
    added = h.added ++ new_decl x a t ∷ [];
    locals = n.locals ∙ ap (λ (ds : List Decl). ds ++ new_decl x a t ∷ []) h.locals ∙ append_assoc node.locals h.added (new_decl x a t ∷ []);
    new = All-push (λ d. IsNewName core d.name) h.added (new_decl x a t) h.new new;
  }

  module _ (x : Name) (a : Expr) (d : Clock) (t : Ty) (other last : CoreNode) (n : NamesInNode x a d t other last) (new : IsNewName core x) where
    middle_further : (nodes front back : List CoreNode) → HaveNewLocals core nodes (front ++ other ∷ back) → HaveNewLocals core nodes (front ++ last ∷ back)
    middle_further _ [] back (more_nodes {node = m} h hs) = more_nodes (one_more_local x a d t m other last h n new) hs
    middle_further _ (f ∷ front) back (more_nodes {nodes = ms} h hs) = more_nodes h (middle_further ms front back hs)

  pub nodes_further : (other last : Core) (n : IsNaming other last) (nodes : List CoreNode) → HaveNewLocals core nodes other.nodes → IsNewName core n.x → HaveNewLocals core nodes last.nodes
  nodes_further other last n nodes h new =
      subst (λ (ms : List CoreNode). HaveNewLocals core nodes ms) (sym n.others)
      (middle_further n.x n.a n.d n.t n.node n.moved n.step new nodes n.front n.back (subst (λ (ms : List CoreNode). HaveNewLocals core nodes ms) n.nodes h))

  -- ---- positions and names

  pub node_there : (nodes others : List CoreNode) (k : ℕ) (node : CoreNode) → HaveNewLocals core nodes others → slice_get nodes k ≡ Some node → (other : CoreNode) × (slice_get others k ≡ Some other)
  node_there _ _ k node no_nodes e = cc
  node_there _ _ zero node (more_nodes {other = o} h hs) e = (o, refl)
  node_there _ _ (suc k) node (more_nodes {nodes = ms} {others = os} h hs) e = node_there ms os k node hs e

  -- nodes at one position have one name
  pub name_stays : (nodes others : List CoreNode) (k : ℕ) (node other : CoreNode) → HaveNewLocals core nodes others → slice_get nodes k ≡ Some node → slice_get others k ≡ Some other → other.name ≡ node.name
  name_stays _ _ k node other no_nodes e f = cc
  name_stays _ _ zero node other (more_nodes {node = m} {other = o} h hs) e f =
      ap (λ (c : CoreNode). c.name) (sym (same_some o other f)) ∙ h.name ∙ ap (λ (c : CoreNode). c.name) (same_some m node e)
  name_stays _ _ (suc k) node other (more_nodes {nodes = ms} {others = os} h hs) e f = name_stays ms os k node other hs e f

  -- the first nodes of one name stand at one position
  pub found_together : (nodes others : List CoreNode) (x : Name) (node other : CoreNode) → HaveNewLocals core nodes others →
      find (λ m. same x m.name) nodes ≡ Some node → find (λ m. same x m.name) others ≡ Some other → StandTogether nodes others node other
  found_together _ _ x node other no_nodes e f = cc
  found_together _ _ x node other (more_nodes {node = m} {other = o} {nodes = ms} {others = os} h hs) e f =
      go (same x m.name) (same x o.name) (ap (same x) (sym h.name)) e f (found_together ms os x node other hs)
    where
      go : (b c : Bool) → b ≡ c → (if b then Some m else find (λ m. same x m.name) ms) ≡ Some node → (if c then Some o else find (λ m. same x m.name) os) ≡ Some other →
          (find (λ m. same x m.name) ms ≡ Some node → find (λ m. same x m.name) os ≡ Some other → StandTogether ms os node other) → StandTogether (m ∷ ms) (o ∷ os) node other
      go true true e p q later = (zero, p, q)
      go false false e p q later = let r = later p q in (suc r.0, r.1, r.2)
      go true false e p q later = cc
      go false true e p q later = cc
