use Rattle.clock_calculus.proofs.FilledOf.{unbound_read}
use Rattle.clock_calculus.proofs.filling.steps_bound.Goals as goal

pub returns-in-None : goal.returns-in-None
returns-in-None c = unbound_read c.args.bindings.now c.args.u (c.in-None.ensures {u = tt})
