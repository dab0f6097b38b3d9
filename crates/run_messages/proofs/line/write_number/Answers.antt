use Rattle.std.proofs.Common.{decimal, subst, ◌∙◌, List, ℕ}
use Rattle.run_messages.specs.Lines.{Writes}
use Rattle.run_messages.proofs.Writing.{then_writes}
use Rattle.run_messages.proofs.line.write_number.Goals as goal

pub returns-clause-text : goal.returns-clause-text
returns-clause-text g c =
    then_writes _ (g.E.Sink.held c.put.new.sink) _ c.args.words.now (decimal c.args.number) c.put-2.result c.in_ok-put.ensures.text
    (subst (λ (text : List ℕ). Writes c.put-2.result (g.E.Sink.held c.put.new.sink) (g.E.Sink.held c.put-2.new.sink) text) (c.as_bytes.ensures.value ∙ c.format.ensures.text) c.put-2.ensures.text)
