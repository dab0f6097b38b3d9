use Rattle.step_plans.proofs.Making.{one_action_more, one_meaning_more}
use Rattle.step_plans.proofs.laws.building_laws.Goals as goal

pub returns-clause-action : goal.returns-clause-action
returns-clause-action c = one_action_more

pub returns-clause-meaning : goal.returns-clause-meaning
returns-clause-meaning c = one_meaning_more
