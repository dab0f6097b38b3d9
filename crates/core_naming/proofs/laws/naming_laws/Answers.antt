use Rattle.core_naming.proofs.KeptOutputs.{naming_keeps_outputs}
use Rattle.core_naming.proofs.KeptSent.{naming_keeps_sent}
use Rattle.core_naming.proofs.KeptSites.{naming_keeps_sites}
use Rattle.core_naming.proofs.laws.naming_laws.Goals as goal

pub returns-clause-outputs : goal.returns-clause-outputs
returns-clause-outputs c = naming_keeps_outputs

pub returns-clause-sent : goal.returns-clause-sent
returns-clause-sent c = naming_keeps_sent

pub returns-clause-sites : goal.returns-clause-sites
returns-clause-sites c = naming_keeps_sites
