use Rattle.call_depths.proofs.Bounded.{calls_are_bounded}
use Rattle.call_depths.proofs.laws.call_depth_laws.Goals as goal

pub returns : goal.returns
returns c = record { bounded = calls_are_bounded }
