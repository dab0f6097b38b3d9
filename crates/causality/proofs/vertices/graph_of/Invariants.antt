use Rattle.std.proofs.Common.{◌≡◌, ◌++◌, map, take}
use Rattle.causality.specs.Flows.{flow_of}
use Rattle.hept_ast.specs.ClockMaps.{clock_in}
use Rattle.causality.specs.Vertices.{numbers, flow_reads, clock_reads}
use Rattle.causality.proofs.vertices.graph_of.Given as goal

abbrev pub invariant-loop-x : goal.invariant-loop-x
invariant-loop-x l = l.graph.items ≡ map (λ x. numbers (map (λ r. r.now) l.vertices) (flow_reads (map flow_of l.flows) x ++ clock_reads (clock_in l.clocked.clocks l.node.0) x)) (map (λ r. r.now) (take l.x-index l.vertices))
