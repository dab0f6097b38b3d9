use Rattle.accepted_meaning.proofs.StaticReplies.{outputs_are_replied, sent_is_replied}
use Rattle.accepted_meaning.proofs.replies.own_reply_laws.Goals as goal

pub returns : goal.returns
returns c = record { outputs = outputs_are_replied; sent = sent_is_replied }
