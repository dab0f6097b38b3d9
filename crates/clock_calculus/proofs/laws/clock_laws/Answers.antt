use Rattle.clock_calculus.proofs.Agreeing.{least_agree, maps_agree}
use Rattle.clock_calculus.proofs.laws.clock_laws.Goals as goal

pub returns-clause-node : goal.returns-clause-node
returns-clause-node c = least_agree

pub returns-clause-program : goal.returns-clause-program
returns-clause-program c = maps_agree
