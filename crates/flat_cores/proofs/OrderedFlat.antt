-- A flat core stays flat when its equations are put in another order.
use Rattle.std.proofs.Common.{List}
use Rattle.std.specs.Prelude.{All}
use Rattle.std.proofs.lemmas.List.Elements.{All-nil, All-cons, All-head, All-tail}
use Rattle.std.proofs.lemmas.List.Sorted.{All-permutation}
use Rattle.hept_ast.specs.Reordering.{ReorderedNodes}
use Rattle.hept_ast.specs.Reordering as reordering
use Rattle.hept_ast.specs.declared.tree.CoreNode.{CoreNode}
use Rattle.flat_cores.specs.Flat.{IsFlatEquation}
use Rattle.flat_cores.specs.FlatLaws.{OrderKeepsFlat}

abbrev IsFlatNode : CoreNode → Type 0
IsFlatNode node = All IsFlatEquation node.equations

nodes_flat : {nodes others : List CoreNode} → ReorderedNodes nodes others → All IsFlatNode nodes → All IsFlatNode others
nodes_flat reordering.none h = All-nil IsFlatNode
nodes_flat (reordering.next {node = node} {other = other} {nodes = nodes} {others = others} r rs) h =
    All-cons IsFlatNode other others (All-permutation IsFlatEquation node.equations other.equations r.equations (All-head IsFlatNode node nodes h)) (nodes_flat rs (All-tail IsFlatNode node nodes h))

pub order_keeps_flat : OrderKeepsFlat
order_keeps_flat core other r h = nodes_flat r.nodes h
