use Rattle.node_memory.specs.Standing.{no_calls}
use Rattle.plan_example.proofs.tests.sums_up_to_a_restart.Goals as goal

pub step_node-requires-3-clause-alone : goal.step_node-requires-3-clause-alone
step_node-requires-3-clause-alone g c = c.restart.ensures.named no_calls c.step_node-2.ensures.alone
