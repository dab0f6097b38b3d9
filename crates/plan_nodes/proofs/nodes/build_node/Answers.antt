use Rattle.std.proofs.Common.{length, refl, subst}
use Rattle.step_plans.specs.declared.plan.NodePlan.{NodePlan}
use Rattle.plan_nodes.specs.Texts.{IsTextWithin}
use Rattle.plan_nodes.proofs.Planned.{IsMadeOf, is_plan, is_sound}
use Rattle.plan_nodes.proofs.nodes.build_node.Goals as goal

module _ (c : goal.After-new-3) where
  abbrev plan : NodePlan
  plan = record {
    inputs = c.len-count.result;
    actions = c.in_ok-text.text.draft.actions;
    stores = c.in_ok-text.text.cells.stores;
    future_stores = c.new.result;
    initial = c.in_ok-text.text.cells.initial;
    future_initial = c.new-2.result;
    offerings = c.new-3.result;
    outputs = c.in_ok-text.text.outputs;
    values = c.in_ok-text.text.draft.at;
    futures = c.len-count.result;
  }

  made : IsMadeOf c.args.node.now c.in_ok-text.text plan
  made = record {
    inputs = c.len-count.ensures;
    actions = refl;
    stores = refl;
    future_stores = c.new.ensures.items;
    initial = refl;
    future_initial = c.new-2.ensures.items;
    offerings = c.new-3.ensures.items;
    outputs = refl;
    values = refl;
    futures = c.len-count.ensures;
  }

  within : IsTextWithin (length c.args.node.now.inputs) c.in_ok-text.text
  within = subst (λ (n : _). IsTextWithin n c.in_ok-text.text) c.len-count.ensures c.in_ok-text.ensures.within

pub returns-clause-plan : goal.returns-clause-plan
returns-clause-plan c = is_plan c.args.core.now c.args.node.now c.in_ok-text.text (plan c) c.requires c.in_ok-text.ensures.builds (made c)

pub returns-clause-sound : goal.returns-clause-sound
returns-clause-sound c = is_sound c.args.node.now c.in_ok-text.text (plan c) (within c) (made c)
