-- The passes keep the names of nodes.
use Rattle.std.proofs.Common.{◌≡◌, ℕ, List, [], ◌∷◌, map, refl, sym, ap, subst, ◌∙◌}
use Rattle.hept_ast.specs.Reordering.{ReorderedNodes}
use Rattle.hept_ast.specs.Reordering as reordering
use Rattle.hept_ast.specs.Scopes.{Clock}
use Rattle.hept_ast.specs.Texts.{Name}
use Rattle.hept_ast.specs.declared.tree.Core.{Core}
use Rattle.hept_ast.specs.declared.tree.CoreNode.{CoreNode}
use Rattle.hept_ast.specs.declared.tree.Node.{Node}
use Rattle.lowering_rules.specs.Lowering.{LowersNodes}
use Rattle.lowering_rules.specs.Lowering as lowering
use Rattle.naming_rules.specs.Normalised.{HaveNewLocals}
use Rattle.naming_rules.specs.Normalised as normalised
use Rattle.sound_expressions.specs.Demands.{NamesDiffer}
use Rattle.core_making.specs.Made.{names_of_nodes}

pub lowered_names : {clock : ℕ → Name → Clock} {j : ℕ} {nodes : List Node} {lows : List CoreNode} → LowersNodes clock j nodes lows → names_of_nodes lows ≡ map (λ (n : Node). n.name) nodes
lowered_names lowering.no_nodes = refl
lowered_names (lowering.more_nodes {node = node} {low = low} {nodes = nodes} {lows = lows} h hs) =
    ap (λ (x : Name). x ∷ names_of_nodes lows) h.name ∙ ap (λ (xs : List Name). node.name ∷ xs) (lowered_names hs)

normal_names : {core : Core} {nodes others : List CoreNode} → HaveNewLocals core nodes others → names_of_nodes others ≡ names_of_nodes nodes
normal_names normalised.no_nodes = refl
normal_names (normalised.more_nodes {node = node} {other = other} {nodes = nodes} {others = others} h hs) =
    ap (λ (x : Name). x ∷ names_of_nodes others) h.name ∙ ap (λ (xs : List Name). node.name ∷ xs) (normal_names hs)

ordered_names : {nodes others : List CoreNode} → ReorderedNodes nodes others → names_of_nodes others ≡ names_of_nodes nodes
ordered_names reordering.none = refl
ordered_names (reordering.next {node = node} {other = other} {nodes = nodes} {others = others} h hs) =
    ap (λ (x : Name). x ∷ names_of_nodes others) h.name ∙ ap (λ (xs : List Name). node.name ∷ xs) (ordered_names hs)

pub made_names : (core normal made : Core) → HaveNewLocals core core.nodes normal.nodes → ReorderedNodes normal.nodes made.nodes → NamesDiffer (names_of_nodes core.nodes) → NamesDiffer (names_of_nodes made.nodes)
made_names core normal made n r differ = subst NamesDiffer (sym (ordered_names r ∙ normal_names n)) differ
