use Rattle.expanded_size.proofs.Agreeing.{sizes_agree}
use Rattle.expanded_size.proofs.Existing.{each_has_size, one_size}
use Rattle.expanded_size.proofs.laws.size_laws.Goals as goal

pub returns-clause-one : goal.returns-clause-one
returns-clause-one c = one_size

pub returns-clause-each : goal.returns-clause-each
returns-clause-each c = each_has_size

pub returns-clause-agree : goal.returns-clause-agree
returns-clause-agree c = sizes_agree
