use Rattle.core_naming.proofs.KeptOutputs.{naming_keeps_outputs}
use Rattle.core_naming.proofs.KeptSites.{naming_keeps_sites}
use Rattle.naming_rules.proofs.CyclesMoved.{naming_makes_no_cycle}
use Rattle.naming_rules.proofs.Namings.{namings_normalise}
use Rattle.naming_rules.proofs.WellNamed.{naming_keeps_well_formed}
use Rattle.naming_rules.proofs.laws.naming_rules_laws.Goals as goal

pub returns-clause-well_formed : goal.returns-clause-well_formed
returns-clause-well_formed c = naming_keeps_well_formed

pub returns-clause-acyclic : goal.returns-clause-acyclic
returns-clause-acyclic c = naming_makes_no_cycle

pub returns-clause-normalised : goal.returns-clause-normalised
returns-clause-normalised c = namings_normalise naming_keeps_outputs naming_keeps_sites naming_keeps_well_formed naming_makes_no_cycle
