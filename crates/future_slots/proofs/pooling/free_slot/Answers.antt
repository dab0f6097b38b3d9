use Rattle.station_rule.proofs.Pooled.{is_unnamed}
use Rattle.future_slots.proofs.pooling.free_slot.Goals as goal

pub returns-clause-unfinished : goal.returns-clause-unfinished
returns-clause-unfinished c v is = is_unnamed v c.args.pool.now is c.free-slot.result c.free-slot.ensures.unnamed
