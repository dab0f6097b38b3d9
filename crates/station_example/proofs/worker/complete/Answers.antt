use Rattle.std.proofs.Common.{◌≡◌, ◌++◌, ◌∷◌, [], ap, sym, ◌∙◌, ◌%◌, ◌^◌}
use Rattle.std.specs.Prelude.{slice_index}
use Rattle.station_rule.specs.declared.view.Work.{Work}
use Rattle.station_rule.specs.Book.{sents}
use Rattle.station_rule.specs.Steps.{job_of, last_job}
use Rattle.station_example.specs.Total.{total_of}
use Rattle.station_example.proofs.worker.complete.Goals as goal

pub fill-requires-clause-value : goal.fill-requires-clause-value
fill-requires-clause-value g c =
    let x : Work = job_of c.args.server.now.seat.me.0 in
    let same : job_of c.input_value-value.new.server.seat.me.0 ≡ x = ap last_job c.input_value-value.ensures.seat.1 in
    let now = c.step.ensures x.call.sent (sym c.input_value-value.ensures.value) c.args.job.instance (sents x.before) (c.memory-memory.ensures.value ∙ c.requires.memory.0) in
    (c.requires.server.4, c.total-total.ensures ∙ now ∙ ap (λ l. slice_index l 0) (sym c.requires.memory.1) ∙ ap (λ (w : Work). slice_index w.call.outs 0) (sym same))

pub finish-requires-clause-memory : goal.finish-requires-clause-memory
finish-requires-clause-memory g c =
    let x : Work = job_of c.args.server.now.seat.me.0 in
    let same : job_of c.input_value-value.new.server.seat.me.0 ≡ x = ap last_job c.input_value-value.ensures.seat.1 in
    let now = c.step.ensures x.call.sent (sym c.input_value-value.ensures.value) c.args.job.instance (sents x.before) (c.memory-memory.ensures.value ∙ c.requires.memory.0) in
    let filled = ap (λ m. job_of m.0) c.fill.ensures.2 in
    now ∙ ap (λ (w : Work). total_of (sents w.before ++ w.call.sent ∷ []) % 2 ^ 32) (sym (filled ∙ ap (λ (w : Work). record w { filled = w.filled ++ 0 ∷ [] }) same))
