use Rattle.std.proofs.Common.{List, ℕ, subst}
use Rattle.run_messages.specs.Lines.{Writes}
use Rattle.run_messages.proofs.Writing.{stopped_line}
use Rattle.run_messages.proofs.line.write_line.Goals as goal

pub returns-in_default-clause-line : goal.returns-in_default-clause-line
returns-in_default-clause-line g c =
    subst (λ (text : List ℕ). Writes c.write_text.result (g.E.Sink.held c.args.sink.now) (g.E.Sink.held c.write_text.new.sink) text) (stopped_line c.args.end.now c.in_default.not-Ended) c.write_text.ensures.text
