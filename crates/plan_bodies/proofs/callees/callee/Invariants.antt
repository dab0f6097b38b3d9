use Rattle.std.proofs.Common.{◌≡◌, drop}
use Rattle.step_plans.specs.Memories.{nodes_of}
use Rattle.plan_bodies.proofs.Named.{node_among}
use Rattle.plan_bodies.proofs.callees.callee.Given as goal

abbrev pub invariant-loop-node : goal.invariant-loop-node
invariant-loop-node l = nodes_of l.core l.name ≡ node_among l.name (drop l.node-index l.core.nodes)
