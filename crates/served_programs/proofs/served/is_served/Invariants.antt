use Rattle.std.proofs.Common.{length}
use Rattle.std.specs.Prelude.{◌↔◌, All}
use Rattle.served_programs.specs.Served.{IsServedNode}
use Rattle.served_programs.proofs.served.is_served.Given as goal

abbrev pub invariant-loop-first : goal.invariant-loop-first
invariant-loop-first l = All IsServedNode l.nodes ↔ All IsServedNode l.initial.nodes

abbrev pub decreases-loop-first : goal.decreases-loop-first
decreases-loop-first l = length l.nodes
