use Rattle.std.proofs.Common.{ap, refl, ◌∙◌, Ok}
use Rattle.hepasync_top.proofs.LineSteps.{ahead_of_line, given, next_is_there, short_line}
use Rattle.hepasync_top.proofs.machine.end_of_trace.Goals as goal

pub returns-in-Ok-Some-clause-ends : goal.returns-in-Ok-Some-clause-ends
returns-in-Ok-Some-clause-ends g c =
    let h = given _ _ _ c.in-Ok-Some._line _ _ (c.in-Ok-Some.is ∙ ap Ok c.in-Ok-Some.field-0-is) c.next.follows.holds-at-none in
    (refl, next_is_there _ _ _ h.loses, ahead_of_line _ _ _ _ h.loses (short_line _ _ c.in-Ok-Some.field-0-is c.in-Ok-Some.ensures.line) h.few)
