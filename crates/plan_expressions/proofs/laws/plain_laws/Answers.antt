use Rattle.plan_expressions.proofs.PlainOnes.{plain_emits, plain_keeps}
use Rattle.plan_expressions.proofs.laws.plain_laws.Goals as goal

pub returns-clause-emits : goal.returns-clause-emits
returns-clause-emits c = plain_emits

pub returns-clause-keeps : goal.returns-clause-keeps
returns-clause-keeps c = plain_keeps
