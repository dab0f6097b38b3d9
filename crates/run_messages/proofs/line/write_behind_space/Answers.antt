use Rattle.std.proofs.Common.{[], ◌∷◌, subst, List, ℕ}
use Rattle.run_messages.specs.Lines.{Writes}
use Rattle.run_messages.proofs.Writing.{then_writes}
use Rattle.run_messages.proofs.line.write_behind_space.Goals as goal

pub returns-clause-text : goal.returns-clause-text
returns-clause-text g c =
    then_writes _ (g.E.Sink.held c.put.new.sink) _ (32 ∷ []) c.args.name.now c.put-2.result c.in_ok-put.ensures.text
    (subst (λ (text : List ℕ). Writes c.put-2.result (g.E.Sink.held c.put.new.sink) (g.E.Sink.held c.put-2.new.sink) text) c.bytes.ensures c.put-2.ensures.text)
