use Rattle.std.proofs.Common.{inl, inr, subst, Option, List, ℕ}
use Rattle.hept_ast.specs.declared.tree.Program.{Program}
use Rattle.hept_io.specs.Lines.{to_come}
use Rattle.hepasync_top.specs.Turns.{RunEnds}
use Rattle.hepasync_top.proofs.FileTexts.{not_for_words}
use Rattle.hepasync_top.proofs.Statuses.{at_start, not_usage, runs_after}
use Rattle.hepasync_top.proofs.Lines.{follows_trace}
use Rattle.hepasync_top.proofs.top.run_text.Goals as goal

pub returns-in-Ok-clause-ends : goal.returns-in-Ok-clause-ends
returns-in-Ok-clause-ends g c =
    let r = c.in-Ok.ensures.ready in
    let ends = subst (λ (coming : Option (List ℕ)). RunEnds r.accepted.program 4294967294 coming (g.K.Sink.held c.args.out.now) (g.S.Source.left c.turns.new.trace) (g.K.Sink.held c.turns.new.out) c.turns.result)
    (at_start c.in-Ok.machine.reader (g.S.Source.left c.args.trace.now) r.pending) (c.turns.ensures.ends r.accepted r.done) in
    inl (record {
      program = r.accepted.program;
      spelled = r.spelled;
      runs = r.done.runs;
      ends = ends;
      follows = follows_trace c.line_laws.ensures.none r.accepted.program 4294967294 (g.S.Source.left c.args.trace.now) (g.K.Sink.held c.args.out.now) (g.S.Source.left c.turns.new.trace) (g.K.Sink.held c.turns.new.out) c.turns.result ends;
    })

pub returns-in-Ok-clause-refuses_text : goal.returns-in-Ok-clause-refuses_text
returns-in-Ok-clause-refuses_text g c = λ r h. absurd (c.in-Ok.ensures.exactly r h)

pub returns-in-Ok-clause-refuses : goal.returns-in-Ok-clause-refuses
returns-in-Ok-clause-refuses g c = λ r h. absurd (c.in-Ok.ensures.refused r h)

pub returns-in-Ok-clause-serves : goal.returns-in-Ok-clause-serves
returns-in-Ok-clause-serves g c = λ p spelled runs.
    let begun = c.in-Ok.ensures.complete p spelled runs in
    inl (subst (λ (coming : Option (List ℕ)). RunEnds p 4294967294 coming (g.K.Sink.held c.args.out.now) (g.S.Source.left c.turns.new.trace) (g.K.Sink.held c.turns.new.out) c.turns.result)
    (at_start c.in-Ok.machine.reader (g.S.Source.left c.args.trace.now) c.in-Ok.ensures.ready.pending)
    (subst (λ (q : Program). RunEnds q 4294967294 (to_come c.in-Ok.machine.reader (g.S.Source.left c.args.trace.now)) (g.K.Sink.held c.args.out.now) (g.S.Source.left c.turns.new.trace) (g.K.Sink.held c.turns.new.out) c.turns.result)
    begun.1 (c.turns.ensures.ends begun.0 begun.2)))

pub returns-in-Ok-clause-stopped : goal.returns-in-Ok-clause-stopped
returns-in-Ok-clause-stopped g c = λ before. let r = c.in-Ok.ensures.ready in absurd (runs_after r.accepted.program 4294967294 _ _ _ _ c.turns.result (c.turns.ensures.ends r.accepted r.done) before)

pub returns-in-Ok-clause-usage : goal.returns-in-Ok-clause-usage
returns-in-Ok-clause-usage g c = λ e. let r = c.in-Ok.ensures.ready in not_usage r.accepted.program 4294967294 _ _ _ _ c.turns.result (c.turns.ensures.ends r.accepted r.done) e

pub returns-in-Err-clause-ends : goal.returns-in-Err-clause-ends
returns-in-Err-clause-ends g c = inr c.in-Err.ensures.ends

pub returns-in-Err-clause-refuses_text : goal.returns-in-Err-clause-refuses_text
returns-in-Err-clause-refuses_text g c = c.in-Err.ensures.exactly

pub returns-in-Err-clause-refuses : goal.returns-in-Err-clause-refuses
returns-in-Err-clause-refuses g c = c.in-Err.ensures.refused

pub returns-in-Err-clause-serves : goal.returns-in-Err-clause-serves
returns-in-Err-clause-serves g c = λ p spelled runs. inr (c.in-Err.ensures.complete p spelled runs)

pub returns-in-Err-clause-usage : goal.returns-in-Err-clause-usage
returns-in-Err-clause-usage g c = not_for_words c.args.text.now c.in-Err.end c.in-Err.ensures.ends
