use Rattle.run_checks.proofs.FewNodes.{few_nodes}
use Rattle.run_checks.proofs.Refusing.{choice_end}
use Rattle.run_checks.proofs.checks.check_main.Goals as goal

pub choose-requires : goal.choose-requires
choose-requires c = few_nodes c.args.typed.now c.requires

pub returns-in-Ok-clause-few : goal.returns-in-Ok-clause-few
returns-in-Ok-clause-few c = few_nodes c.args.typed.now c.requires

pub returns-in-Err-clause-few : goal.returns-in-Err-clause-few
returns-in-Err-clause-few c = few_nodes c.args.typed.now c.requires

pub returns-in-Err-clause-ends : goal.returns-in-Err-clause-ends
returns-in-Err-clause-ends c = choice_end c.args.typed.now c.in-Err.fault c.end_of_choice.result c.requires c.in-Err.ensures c.end_of_choice.ensures
