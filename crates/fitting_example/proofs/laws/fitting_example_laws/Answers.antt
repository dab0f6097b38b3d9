use Rattle.fitting_example.proofs.ExampleCore.{example_is_fit, example_is_static}
use Rattle.fitting_example.proofs.Refused.{loose_is_not_sound, torn_is_undefined}
use Rattle.fitting_example.proofs.laws.fitting_example_laws.Goals as goal

pub returns-clause-example : goal.returns-clause-example
returns-clause-example c = example_is_fit

pub returns-clause-loose : goal.returns-clause-loose
returns-clause-loose c = loose_is_not_sound

pub returns-clause-torn : goal.returns-clause-torn
returns-clause-torn c = torn_is_undefined

pub returns-clause-static_facts : goal.returns-clause-static_facts
returns-clause-static_facts c = example_is_static
