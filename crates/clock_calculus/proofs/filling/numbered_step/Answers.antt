use Rattle.clock_calculus.specs.Numbering.{step_of}
use Rattle.clock_calculus.proofs.FilledOf.{step_past}
use Rattle.clock_calculus.proofs.filling.numbered_step.Goals as goal

pub returns-in_ok-of-in-None : goal.returns-in_ok-of-in-None
returns-in_ok-of-in-None c = step_past step_of c.args.steps.now c.args.number c.in_ok-of-in-None.field-0 (c.in-None.ensures {u = tt}) (c.in_ok-of-in-None.ensures {u = tt})
