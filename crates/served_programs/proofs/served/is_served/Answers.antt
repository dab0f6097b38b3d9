use Rattle.std.proofs.Common.{subst, List}
use Rattle.std.specs.Prelude.{◌↔◌, All, IsTrue, false, true}
use Rattle.hept_ast.specs.declared.tree.Node.{Node}
use Rattle.served_programs.specs.Served.{IsServedNode}
use Rattle.served_programs.proofs.Nodes.{not_this, and_next, to_the_end}
use Rattle.served_programs.proofs.served.is_served.Goals as goal

pub returns-then-not-branch : goal.returns-then-not-branch
returns-then-not-branch c =
    subst (λ (all : List Node). IsTrue false ↔ All IsServedNode all) c.as_slice-nodes.ensures
    (not_this IsServedNode c.as_slice-nodes.result.now c.loop-first.nodes.now c.in-Some.rest.now c.in-Some.first.now c.in_ok-is_served_node.field-0 c.loop-first.invariant c.in-Some.ensures.cases.0
    c.if-not-branch.true c.in_ok-is_served_node.ensures)

pub loop-first-preserved : goal.loop-first-preserved
loop-first-preserved c =
    and_next IsServedNode c.as_slice-nodes.result.now c.loop-first.nodes.now c.in-Some.rest.now c.in-Some.first.now c.in_ok-is_served_node.field-0 c.loop-first.invariant c.in-Some.ensures.cases.0
    c.if-not-branch.false c.in_ok-is_served_node.ensures

pub returns : goal.returns
returns c =
    subst (λ (all : List Node). IsTrue true ↔ All IsServedNode all) c.as_slice-nodes.ensures
    (to_the_end IsServedNode c.as_slice-nodes.result.now c.loop-first.nodes.now c.loop-first.invariant c.in_default.ensures.cases)
