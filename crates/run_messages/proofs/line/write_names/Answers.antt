use Rattle.std.proofs.Common.{subst}
use Rattle.std.specs.Io.KnownBytes.{Appends}
use Rattle.run_messages.proofs.Writing.{first_written}
use Rattle.run_messages.proofs.line.write_names.Goals as goal

pub returns-in_ok-put-in-len1-up-clause-text : goal.returns-in_ok-put-in-len1-up-clause-text
returns-in_ok-put-in-len1-up-clause-text g c =
    first_written c.args.names.now c.first-item.result _ (g.E.Sink.held c.put.new.sink) _ c.write_others.result c.in-len1-up.len_at_least c.first-item.is
    (subst (Appends (g.E.Sink.held c.args.sink.now) (g.E.Sink.held c.put.new.sink)) c.bytes.ensures c.in_ok-put-in-len1-up.ensures.text) c.write_others.ensures.text
