use Rattle.buildable_cores.proofs.Built.{flat_is_buildable}
use Rattle.buildable_cores.proofs.laws.buildable_law.Goals as goal

pub returns : goal.returns
returns c = flat_is_buildable c.call_depth_laws.ensures.bounded
