use Rattle.erased_meaning.proofs.PresentOf.{present_through}
use Rattle.erased_meaning.proofs.presence.present.Goals as goal

pub returns : goal.returns
returns c =
    present_through c.args.answers.now c.args.path.now c.args.t c.in_ok-scope.scope.items c.as_slice.result.now c.in_ok-expression.field-0.now c.in_ok-clock.clock.items c.as_slice-2.result.now
    c.present_on.result c.in_ok-expression.ensures c.in_ok-scope.ensures c.in_ok-clock.ensures c.as_slice.ensures.value c.as_slice-2.ensures.value c.present_on.ensures
