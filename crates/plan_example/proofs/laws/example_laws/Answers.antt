use Rattle.plan_example.proofs.Planned.{sum_has_plan, chosen_has_plan}
use Rattle.plan_example.proofs.Ready.{sum_is_ready}
use Rattle.plan_example.proofs.laws.example_laws.Goals as goal

pub returns-clause-sum : goal.returns-clause-sum
returns-clause-sum c = sum_has_plan

pub returns-clause-chosen : goal.returns-clause-chosen
returns-clause-chosen c = chosen_has_plan

pub returns-clause-ready : goal.returns-clause-ready
returns-clause-ready c = sum_is_ready
