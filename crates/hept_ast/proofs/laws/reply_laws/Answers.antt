use Rattle.hept_ast.proofs.MarksUnderReplies.{outputs_from_mark_replied, sent_from_mark_replied}
use Rattle.hept_ast.proofs.OwnReplies.{own_replies_keep_outputs, own_replies_keep_sent}
use Rattle.hept_ast.proofs.laws.reply_laws.Goals as goal

pub returns-clause-own_replies : goal.returns-clause-own_replies
returns-clause-own_replies c = own_replies_keep_outputs

pub returns-clause-own_replies_sent : goal.returns-clause-own_replies_sent
returns-clause-own_replies_sent c = own_replies_keep_sent

pub returns-clause-outputs_from_mark : goal.returns-clause-outputs_from_mark
returns-clause-outputs_from_mark c = outputs_from_mark_replied

pub returns-clause-sent_from_mark : goal.returns-clause-sent_from_mark
returns-clause-sent_from_mark c = sent_from_mark_replied
