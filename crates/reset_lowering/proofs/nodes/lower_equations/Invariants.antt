use Rattle.std.proofs.Common.{take}
use Rattle.hept_ast.specs.ClockMaps.{clock_in}
use Rattle.lowering_rules.specs.Lowering.{LowersEquations, node_frame}
use Rattle.reset_lowering.proofs.nodes.lower_equations.Given as goal

abbrev pub invariant-loop-equation : goal.invariant-loop-equation
invariant-loop-equation l = LowersEquations node_frame (clock_in l.accepted.clocks l.node.0) 0 (take l.equation-index l.equations) l.all l.next
