-- What is found first in lists that stand one after another.
use Rattle.std.proofs.Common.{◌≡◌, Bool, true, false, cond, List, [], ◌∷◌, ◌++◌, map, Option, Some, None, refl, sym, ap, ◌∙◌}
use Rattle.std.specs.List.{find}
use Rattle.std.specs.Option.{option_map, option_or}
use Rattle.std.proofs.lemmas.List.Folds.{find-append}
use Rattle.hept_ast.specs.Texts.{Name, same}
use Rattle.hept_ast.specs.Faults.{node_named}
use Rattle.hept_ast.specs.declared.tree.CoreNode.{CoreNode}
use Rattle.hept_ast.specs.declared.tree.Decl.{Decl}
use Rattle.hept_ast.proofs.ErasedTexts.{find_map}
use Rattle.core_rules.specs.Cores.{as_interface}

pub ruleset declarations = (find-append)

-- ---- the node of a name, among those before, the node itself and those after

module _ (f : Name) (before after : List CoreNode) (node : CoreNode) where
  abbrev first : List CoreNode → Option CoreNode
  first nodes = find (λ (n : CoreNode). same f n.name) nodes

  named : node_named (map as_interface (before ++ node ∷ after)) f ≡ option_map as_interface (option_or (first before) (first (node ∷ after)))
  named =
      find_map as_interface (λ n. same f n.name) (λ (n : CoreNode). same f n.name) (λ n. refl) (before ++ node ∷ after)
      ∙ ap (option_map as_interface) (find-append (λ (n : CoreNode). same f n.name) before (node ∷ after))

  pub named_before : (m : CoreNode) → first before ≡ Some m → option_map as_interface (Some m) ≡ node_named (map as_interface (before ++ node ∷ after)) f
  named_before m h = sym (named ∙ ap (λ (o : Option CoreNode). option_map as_interface (option_or o (first (node ∷ after)))) h)

  pub named_here : first before ≡ None → same f node.name ≡ true → option_map as_interface (Some node) ≡ node_named (map as_interface (before ++ node ∷ after)) f
  named_here h s =
      sym (named ∙ ap (λ (o : Option CoreNode). option_map as_interface (option_or o (first (node ∷ after)))) h ∙ ap (λ (b : Bool). option_map as_interface (cond b (Some node) (first after))) s)

  pub named_after : first before ≡ None → same f node.name ≡ false → option_map as_interface (first after) ≡ node_named (map as_interface (before ++ node ∷ after)) f
  named_after h s =
      sym (named ∙ ap (λ (o : Option CoreNode). option_map as_interface (option_or o (first (node ∷ after)))) h ∙ ap (λ (b : Bool). option_map as_interface (cond b (Some node) (first after))) s)
