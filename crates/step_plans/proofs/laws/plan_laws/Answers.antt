use Rattle.step_plans.proofs.Making.{makes_holds, means_holds}
use Rattle.step_plans.proofs.Keeping.{keeps_holds}
use Rattle.step_plans.proofs.laws.plan_laws.Goals as goal

pub returns-clause-makes : goal.returns-clause-makes
returns-clause-makes c = makes_holds

pub returns-clause-means : goal.returns-clause-means
returns-clause-means c = means_holds

pub returns-clause-keeps : goal.returns-clause-keeps
returns-clause-keeps c = keeps_holds
