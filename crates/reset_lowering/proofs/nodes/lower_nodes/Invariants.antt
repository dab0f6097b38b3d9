use Rattle.std.proofs.Common.{◌≡◌, take}
use Rattle.hept_ast.specs.ClockMaps.{clock_in}
use Rattle.lowering_rules.specs.Lowering.{LowersNodes}
use Rattle.reset_lowering.proofs.nodes.lower_nodes.Given as goal

abbrev pub invariant-loop-node : goal.invariant-loop-node
invariant-loop-node l = (l.position ≡ l.node-index) × LowersNodes (clock_in l.accepted.clocks) 0 (take l.node-index l.nodes) l.all
