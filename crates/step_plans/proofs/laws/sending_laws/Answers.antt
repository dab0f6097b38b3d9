use Rattle.step_plans.proofs.SentOf.{one_instant_more, sent_up_to_now}
use Rattle.step_plans.proofs.laws.sending_laws.Goals as goal

pub returns-clause-one_more : goal.returns-clause-one_more
returns-clause-one_more c = one_instant_more

pub returns-clause-sent : goal.returns-clause-sent
returns-clause-sent c = sent_up_to_now
