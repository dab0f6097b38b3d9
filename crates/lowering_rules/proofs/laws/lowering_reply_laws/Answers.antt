use Rattle.lowering_rules.proofs.PathsOfCalls.{core_replies_agree, lowering_keeps_own_replied, lowering_keeps_own_sent, program_replies_agree, site_replies_agree}
use Rattle.lowering_rules.proofs.laws.lowering_reply_laws.Goals as goal

pub returns-clause-core_replies : goal.returns-clause-core_replies
returns-clause-core_replies c = core_replies_agree

pub returns-clause-program_replies : goal.returns-clause-program_replies
returns-clause-program_replies c = program_replies_agree

pub returns-clause-site_replies : goal.returns-clause-site_replies
returns-clause-site_replies c = site_replies_agree

pub returns-clause-own_outputs : goal.returns-clause-own_outputs
returns-clause-own_outputs c = lowering_keeps_own_replied

pub returns-clause-own_sent : goal.returns-clause-own_sent
returns-clause-own_sent c = lowering_keeps_own_sent
