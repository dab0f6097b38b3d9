use Rattle.hepasync_top.proofs.top.prepare.Goals as goal

pub returns-in-Ok-new-clause-complete : goal.returns-in-Ok-new-clause-complete
returns-in-Ok-new-clause-complete c = λ p spelled runs. (_, c.in-Ok.ensures.complete p spelled runs, c.in-Ok-new.ensures.done)
