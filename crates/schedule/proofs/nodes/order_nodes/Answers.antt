use Rattle.std.proofs.Common.{List, sym, subst}
use Rattle.hept_ast.specs.declared.tree.CoreNode.{CoreNode}
use Rattle.schedule.specs.Order.{Doing}
use Rattle.schedule.proofs.Reordered.{doing_none, doing_step, first_acyclic}
use Rattle.schedule.proofs.nodes.order_nodes.Goals as goal

pub nodes-init : goal.nodes-init
nodes-init c =
    subst (λ (done : List CoreNode). Doing c.args.nodes done c.args.nodes) (sym c.new-done.ensures) (doing_none c.args.nodes c.requires)

pub order_node-requires : goal.order_node-requires
order_node-requires c = first_acyclic _ _ _ c.remove-node.result c.nodes.invariant c.remove-node.ensures.item

pub nodes-preserved : goal.nodes-preserved
nodes-preserved c =
    doing_step _ _ _ _ _ _ _ c.nodes.invariant c.remove-node.ensures.item c.in_ok-node.ensures c.in_ok-push.ensures.ok c.remove-node.ensures.rest
