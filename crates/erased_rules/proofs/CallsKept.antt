-- An erased node calls what the node calls, so calls lead from node to node as before.
use Rattle.std.proofs.Common.{◌≡◌, ℕ, zero, suc, Bool, ◌||◌, List, [], ◌∷◌, length, map, refl, sym, ap, ◌∙◌}
use Rattle.std.specs.Prelude.{Option, Some, None}
use Rattle.std.specs.List.{list_any}
use Rattle.std.specs.Option.{option_map}
use Rattle.std.proofs.lemmas.List.{length-map}
use Rattle.hept_ast.specs.Texts.{Name, same}
use Rattle.hept_ast.specs.Faults.{called, node_named, calls_of, lead, calls_lead}
use Rattle.hept_ast.specs.Erasure.{erased_expr, erased_branch, erased_node}
use Rattle.hept_ast.specs.declared.tree.Form.{Form}
use Rattle.hept_ast.specs.declared.tree.Node.{Node}
use Rattle.hept_ast.proofs.CalledForms.{called-Const, called-Unary, called-Binary, called-If, called-Fby, called-Pre, called-Arrow, called-When, called-Merge, called-Call, called-AsyncCall, called-AsyncConst, called-Get}
use Rattle.hept_ast.proofs.ErasedTexts.{find_map}
use Rattle.erased_rules.proofs.Totals.{Alike}
use Rattle.erased_rules.proofs.ErasedNodes.{node_same}

called_alike : Alike (λ (p : ℕ) (f : Form). called f)
called_alike = record {
  on_unary = λ p op a. called-Unary op (erased_expr a) ∙ sym (called-Unary op a);
  on_binary = λ p op a b. called-Binary op (erased_expr a) (erased_expr b) ∙ sym (called-Binary op a b);
  on_if = λ p c a b. called-If (erased_expr c) (erased_expr a) (erased_expr b) ∙ sym (called-If c a b);
  on_fby = λ p a b. called-Fby (erased_expr a) (erased_expr b) ∙ sym (called-Fby a b);
  on_pre = λ p a. called-Pre (erased_expr a) ∙ sym (called-Pre a);
  on_arrow = λ p a b. called-Arrow (erased_expr a) (erased_expr b) ∙ sym (called-Arrow a b);
  on_when = λ p a tag x. called-When (erased_expr a) tag x ∙ sym (called-When a tag x);
  on_merge = λ p x bs. called-Merge x (map erased_branch bs) ∙ sym (called-Merge x bs);
  on_call = λ p f args. called-Call f (map erased_expr args) ∙ sym (called-Call f args);
  on_async = λ p q f args. called-Call f (map erased_expr args) ∙ sym (called-AsyncCall q f args);
  on_ready = λ p k. called-Const k ∙ sym (called-AsyncConst k);
  on_get = λ p a. called-Get a;
}

pub named_same : (nodes : List Node) (f : Name) → node_named (map erased_node nodes) f ≡ option_map erased_node (node_named nodes f)
named_same nodes f = find_map erased_node (λ n. same f n.name) (λ n. same f n.name) (λ n. refl) nodes

calls_same : (n : Option Node) → calls_of (option_map erased_node n) ≡ calls_of n
calls_same None = refl
calls_same (Some n) = node_same (λ (p : ℕ) (f : Form). called f) called_alike n

any_same : (p q : Name → Bool) → ((x : Name) → p x ≡ q x) → (xs : List Name) → list_any p xs ≡ list_any q xs
any_same p q e [] = refl
any_same p q e (x ∷ xs) = let h = e x in let t = any_same p q e xs in cc

lead_same : (nodes : List Node) (k : ℕ) (f g : Name) → lead (map erased_node nodes) k f g ≡ lead nodes k f g
lead_same nodes zero f g = refl
lead_same nodes (suc k) f g =
    ap (λ (n : Option Node). same f g || list_any (λ h. lead (map erased_node nodes) k h g) (calls_of n)) (named_same nodes f)
    ∙ ap (λ (fs : List Name). same f g || list_any (λ h. lead (map erased_node nodes) k h g) fs) (calls_same (node_named nodes f))
    ∙ ap (λ (b : Bool). same f g || b) (any_same (λ h. lead (map erased_node nodes) k h g) (λ h. lead nodes k h g) (λ h. lead_same nodes k h g) (calls_of (node_named nodes f)))

pub calls_lead_same : (nodes : List Node) (f g : Name) → calls_lead (map erased_node nodes) f g ≡ calls_lead nodes f g
calls_lead_same nodes f g = ap (λ (k : ℕ). lead (map erased_node nodes) k f g) (length-map nodes erased_node) ∙ lead_same nodes (length nodes) f g
