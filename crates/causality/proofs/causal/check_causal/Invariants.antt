use Rattle.hept_ast.specs.ClockMaps.{clock_in}
use Rattle.causality.specs.Cycles.{HaveNoCycle}
use Rattle.causality.proofs.causal.check_causal.Given as goal

abbrev pub invariant-loop-index : goal.invariant-loop-index
invariant-loop-index l = HaveNoCycle l.clocked.program.nodes (clock_in l.clocked.clocks) l.index
