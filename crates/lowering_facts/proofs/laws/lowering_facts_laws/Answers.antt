use Rattle.lowering_facts.proofs.LoweredPlaces.{lowering_numbers_calls}
use Rattle.lowering_facts.proofs.LoweredReads.{lowering_makes_no_cycle}
use Rattle.lowering_facts.proofs.laws.lowering_facts_laws.Goals as goal

pub returns-clause-acyclic : goal.returns-clause-acyclic
returns-clause-acyclic c = lowering_makes_no_cycle

pub returns-clause-numbers : goal.returns-clause-numbers
returns-clause-numbers c = lowering_numbers_calls
