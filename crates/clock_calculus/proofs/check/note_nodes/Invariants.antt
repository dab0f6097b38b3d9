use Rattle.clock_calculus.specs.Noted.{IsProgress}
use Rattle.clock_calculus.proofs.check.note_nodes.Given as goal

abbrev pub invariant-loop-index : goal.invariant-loop-index
invariant-loop-index l = IsProgress l.nodes l.index l.clocks l.first
