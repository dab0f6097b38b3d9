use Rattle.accepted_meaning.proofs.StaticNodes.{accepted_is_sound}
use Rattle.accepted_meaning.proofs.KnownLaw.{accepted_has_outputs}
use Rattle.accepted_meaning.proofs.SentLaw.{accepted_has_sent, accepted_call_is_alone}
use Rattle.accepted_meaning.proofs.TextClocks.{scoped_clocks}
use Rattle.accepted_meaning.proofs.laws.accepted_laws.Goals as goal

pub returns : goal.returns
returns c = record { sound = accepted_is_sound; outputs = accepted_has_outputs; sent = accepted_has_sent; alone = accepted_call_is_alone; reached = scoped_clocks }
