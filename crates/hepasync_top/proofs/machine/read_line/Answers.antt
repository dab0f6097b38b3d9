use Rattle.std.proofs.Common.{ap, refl, ◌∙◌, Ok}
use Rattle.hepasync_top.proofs.LineSteps.{given, loses_read, next_is_bad, ahead_of_line, short_line}
use Rattle.hepasync_top.proofs.machine.read_line.Goals as goal

pub returns-in-Ok-clause-row : goal.returns-in-Ok-clause-row
returns-in-Ok-clause-row g c =
    let h = given _ _ _ c.in-Ok-Some.line _ _ (c.in-Ok-Some.is ∙ ap Ok c.in-Ok-Some.field-0-is) c.next.follows.holds-at-none in
    (h.goes_on, h.few, loses_read _ _ _ _ _ h.loses (short_line _ _ c.in-Ok-Some.field-0-is c.in-Ok-Some.ensures.line) c.in-Ok.ensures.row)

pub returns-in-Err-clause-row : goal.returns-in-Err-clause-row
returns-in-Err-clause-row g c =
    let h = given _ _ _ c.in-Ok-Some.line _ _ (c.in-Ok-Some.is ∙ ap Ok c.in-Ok-Some.field-0-is) c.next.follows.holds-at-none in
    (refl, next_is_bad _ _ _ _ _ h.loses (short_line _ _ c.in-Ok-Some.field-0-is c.in-Ok-Some.ensures.line) c.in-Err.ensures.row, ahead_of_line _ _ _ _ h.loses (short_line _ _ c.in-Ok-Some.field-0-is c.in-Ok-Some.ensures.line) h.few)
