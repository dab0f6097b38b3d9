use Rattle.step_plans.proofs.KeptOf.{previous_is_kept}
use Rattle.step_plans.proofs.laws.kept_laws.Goals as goal

pub returns : goal.returns
returns c = record { previous = previous_is_kept }
