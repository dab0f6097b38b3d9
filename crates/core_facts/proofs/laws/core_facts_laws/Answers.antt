use Rattle.core_facts.proofs.Reordered.{order_keeps_static}
use Rattle.core_facts.proofs.SumCore.{sum_is_static}
use Rattle.core_facts.proofs.laws.core_facts_laws.Goals as goal

pub returns : goal.returns
returns c = record { order = order_keeps_static; sum = sum_is_static }
