use Rattle.std.proofs.Common.{sym, ◌∙◌}
use Rattle.schedule.proofs.ReadsOf.{by_clock, by_resets}
use Rattle.schedule.proofs.waits.waits.Goals as goal

pub returns-then-clock_reads_left : goal.returns-then-clock_reads_left
returns-then-clock_reads_left c =
    c.if-clock_reads_left.true ∙ sym (by_clock c.args.e.now c.args.left.now (sym c.clock_reads_left.ensures ∙ c.if-clock_reads_left.true))

pub returns-else-clock_reads_left : goal.returns-else-clock_reads_left
returns-else-clock_reads_left c =
    c.resets_left.ensures
    ∙ sym (by_resets c.args.e.now c.args.left.now (sym c.reads_left.ensures ∙ c.if-reads_left.false) (sym c.clock_reads_left.ensures ∙ c.if-clock_reads_left.false))
