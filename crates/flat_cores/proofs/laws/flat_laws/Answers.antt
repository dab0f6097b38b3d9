use Rattle.flat_cores.proofs.LoweredFlat.{lowering_is_flat}
use Rattle.flat_cores.proofs.NamedFlat.{naming_keeps_flat}
use Rattle.flat_cores.proofs.OrderedFlat.{order_keeps_flat}
use Rattle.flat_cores.proofs.ServedNodes.{served_is_plain}
use Rattle.flat_cores.proofs.laws.flat_laws.Goals as goal

pub returns-clause-plain : goal.returns-clause-plain
returns-clause-plain c = served_is_plain

pub returns-clause-lowered : goal.returns-clause-lowered
returns-clause-lowered c = lowering_is_flat

pub returns-clause-named : goal.returns-clause-named
returns-clause-named c = naming_keeps_flat

pub returns-clause-ordered : goal.returns-clause-ordered
returns-clause-ordered c = order_keeps_flat
