use Rattle.std.proofs.Common.{◌≡◌, drop, max}
use Rattle.trace_io.specs.OutputText.{longest}
use Rattle.trace_io.proofs.output_text.longest.Given as goal

abbrev pub invariant-loop-name : goal.invariant-loop-name
invariant-loop-name l = max l.most (longest (drop l.name-index l.names)) ≡ longest l.names
