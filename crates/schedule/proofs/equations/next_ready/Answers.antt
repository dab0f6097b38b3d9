use Rattle.schedule.proofs.Cycles.{not_all_wait}
use Rattle.schedule.proofs.equations.next_ready.Goals as goal

pub unreachable-requires : goal.unreachable-requires
unreachable-requires c = not_all_wait c.args.left.now c.requires.some c.requires.acyclic c.in-None.ensures
