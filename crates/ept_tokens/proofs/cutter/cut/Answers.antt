use Rattle.std.proofs.Common.{arith, ap, subst, length, take, drop, length-drop, ◌-◌, ◌∙◌}
use Rattle.std.specs.Result.{IfErr}
use Rattle.ept_tokens.specs.Cutting.{IsNext, IsNotCut, AnswersCut}
use Rattle.ept_tokens.proofs.Exits.{at_err}
use Rattle.ept_tokens.proofs.Cuts.{rest_is, all_cut, nothing_left, refused_at, blank_at, token_at_place, exactly_cut, exactly_not}
use Rattle.ept_tokens.proofs.cutter.cut.Goals as goal
use Rattle.ept_tokens.proofs.cutter.cut.Goals.{in-Some+in_ok-push, in_default}

pub returns-in_err-length-clause-refused : goal.returns-in_err-length-clause-refused
returns-in_err-length-clause-refused c =
    at_err (λ r. IfErr r (λ f. IsNotCut c.args.bytes.now f)) _ c.in_err-length.field-0.0 c.from_residual.ensures.1 (refused_at _ c.loop-at.invariant.so_far c.in_err-length.ensures.next)

pub returns-in_err-length-clause-exactly : goal.returns-in_err-length-clause-exactly
returns-in_err-length-clause-exactly c = λ ts f d.
    at_err (λ r. AnswersCut ts f r) _ c.in_err-length.field-0.0 c.from_residual.ensures.1 (exactly_not _ (refused_at _ c.loop-at.invariant.so_far c.in_err-length.ensures.next) ts f d)

pub loop-at-preserved : goal.loop-at-preserved
loop-at-preserved c = record {
  so_far = elim c.match-token.branch [
    | in-Some+in_ok-push w ↦ token_at_place _ _ _ c.loop-at.invariant.so_far
        (subst (λ o. IsNext (take (length c.args.bytes.now - c.loop-at.at) (drop c.loop-at.at c.args.bytes.now)) c.loop-at.at (c.in_ok-length.length, o)) w.in-Some.is c.in_ok-length.ensures.next) (w.tokens-is ∙ w.in_ok-push.ensures.ok)
    | in_default w ↦ blank_at _ _ c.loop-at.invariant.so_far
        (subst (λ o. IsNext (take (length c.args.bytes.now - c.loop-at.at) (drop c.loop-at.at c.args.bytes.now)) c.loop-at.at (c.in_ok-length.length, o)) w.in_default.is c.in_ok-length.ensures.next) w.tokens-is
  ];
  within = omega (arith, c.in_ok-length.ensures.within, ap length (rest_is c.args.bytes.now c.loop-at.at), length-drop c.loop-at.at c.args.bytes.now);
}

pub returns-clause-tokens : goal.returns-clause-tokens
returns-clause-tokens c = all_cut c.loop-at.invariant.so_far (nothing_left _ _ c.loop-at-test.false)

pub returns-clause-exactly : goal.returns-clause-exactly
returns-clause-exactly c = exactly_cut (all_cut c.loop-at.invariant.so_far (nothing_left _ _ c.loop-at-test.false))
