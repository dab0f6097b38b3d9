use Rattle.lowering_rules.proofs.KeptOutputs.{lowering_keeps_outputs, lowering_keeps_replied}
use Rattle.lowering_rules.proofs.KeptSites.{lowered_sites_stand, lowering_keeps_sites}
use Rattle.lowering_rules.proofs.laws.lowering_laws.Goals as goal

pub returns-clause-outputs : goal.returns-clause-outputs
returns-clause-outputs c = lowering_keeps_outputs

pub returns-clause-replied : goal.returns-clause-replied
returns-clause-replied c = lowering_keeps_replied

pub returns-clause-sites : goal.returns-clause-sites
returns-clause-sites c = lowering_keeps_sites

pub returns-clause-own_sites : goal.returns-clause-own_sites
returns-clause-own_sites c = lowered_sites_stand
