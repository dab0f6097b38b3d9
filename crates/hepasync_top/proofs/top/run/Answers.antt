use Rattle.std.proofs.Common.{ap, sym, subst, ◌∙◌}
use Rattle.hepasync_top.proofs.Statuses.{ended_at, says_line, untouched, usage_at, written_at_end}
use Rattle.run_messages.specs.Ends.{status_of}
use Rattle.hepasync_top.specs.Run.{IsBefore}
use Rattle.hepasync_top.proofs.Completeness.{ends_whole}
use Rattle.hepasync_top.proofs.top.run.Goals as goal

pub returns-clause-written : goal.returns-clause-written
returns-clause-written g c = λ e. written_at_end 4294967294 _ _ _ _ _ c.line_laws.ensures.none c.run_to_end-end.ensures.ends (ended_at _ (sym c.status.ensures ∙ e))

pub returns-clause-ends : goal.returns-clause-ends
returns-clause-ends g c = record {
  end = c.run_to_end-end.result;
  status_is = c.status.ensures;
  ends = c.run_to_end-end.ensures.ends;
  says = says_line _ c.write_line.result _ c.write_line.ensures.line c.write_line.ensures.cause;
}

pub returns-clause-usage : goal.returns-clause-usage
returns-clause-usage g c = (
  λ e. c.run_to_end-end.ensures.usage.0 (usage_at _ (sym c.status.ensures ∙ e)),
  λ none. c.status.ensures ∙ ap status_of (c.run_to_end-end.ensures.usage.1 none),
)

pub returns-clause-untouched : goal.returns-clause-untouched
returns-clause-untouched g c = untouched 4294967294 _ _ _ _ _ c.run_to_end-end.ensures.ends (λ before. ap g.K.Sink.held (c.run_to_end-end.ensures.stopped before).1)

pub returns-clause-stopped : goal.returns-clause-stopped
returns-clause-stopped g c = λ before. c.run_to_end-end.ensures.stopped (subst IsBefore c.status.ensures before)

pub returns-clause-complete : goal.returns-clause-complete
returns-clause-complete g c = ends_whole c.line_laws.ensures.none 4294967294 _ _ _ _ _ _ c.status.ensures c.run_to_end-end.ensures.ends c.run_to_end-end.ensures.read_fault c.run_to_end-end.ensures.write_fault
