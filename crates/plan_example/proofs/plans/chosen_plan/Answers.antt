use Rattle.std.proofs.Common.{refl}
use Rattle.plan_example.proofs.Planned.{chosen_has_plan}
use Rattle.plan_example.proofs.plans.chosen_plan.Goals as goal

pub returns-clause-plan : goal.returns-clause-plan
returns-clause-plan c =
    chosen_has_plan _ (record {
      has_inputs = refl;
      has_actions = c.in_ok-from_slice.ensures.items;
      has_stores = c.in_ok-from_slice-2.ensures.items;
      has_future_stores = c.new.ensures.items;
      has_initial = c.in_ok-from_slice-3.ensures.items;
      has_future_initial = c.new-2.ensures.items;
      has_offerings = c.new-3.ensures.items;
      has_outputs = c.in_ok-from_slice-4.ensures.items;
    })
