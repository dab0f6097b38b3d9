use Rattle.step_plans.proofs.CallsMore.{new_stands_for_none, one_call_more}
use Rattle.step_plans.proofs.laws.memory_laws.Goals as goal

pub returns-clause-none : goal.returns-clause-none
returns-clause-none c = new_stands_for_none

pub returns-clause-more : goal.returns-clause-more
returns-clause-more c = one_call_more
