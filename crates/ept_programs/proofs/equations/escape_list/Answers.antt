use Rattle.std.proofs.Common.{refl, ap, append-nil, arith, length}
use Rattle.ept_grammar.specs.Grammar.{here, there}
use Rattle.ept_grammar.proofs.Steps.{nest, same_gives, at_exit, begun_word, begun_sole, begun_empty, fails_part, past, past_part}
use Rattle.ept_grammar.proofs.Words.{more_escapes_first}
use Rattle.ept_steps.proofs.Lists.{one_more, first_one}
use Rattle.ept_programs.proofs.equations.escape_list.Goals as goal

pub returns-in_err-first-clause-reads : goal.returns-in_err-first-clause-reads
returns-in_err-first-clause-reads c =
    at_exit _ _ _ c.in_err-first.field-0.0 c.from_residual.ensures.1 (fails_part (begun_sole _ refl) _ c.in_err-first.ensures.reads)

pub more-init : goal.more-init
more-init c = record {
  so_far = same_gives _ _ (λ us. first_one _ _ _ us.0 c.new-all.ensures c.in_ok-push.ensures.ok) (past_part (begun_sole _ refl) c.in_ok-first.ensures.reads);
  shorter = omega (arith, c.in_ok-first.ensures.shorter);
}

pub returns-in_err-next-clause-reads : goal.returns-in_err-next-clause-reads
returns-in_err-next-clause-reads c =
    at_exit _ _ _ c.in_err-next.field-0.0 c.from_residual-in_err-next.ensures.1 (fails_part c.more.invariant.so_far _ (fails_part (past (begun_word (there here) refl c.in-Some.ensures) c.in-Some.ensures (refl, c.fresh.ensures)) _ c.in_err-next.ensures.reads))

pub more-preserved : goal.more-preserved
more-preserved c = record {
  so_far = same_gives _ _ (λ us. one_more _ _ _ us.0 c.in_ok-push-2.ensures.ok) (nest c.more.invariant.so_far (past_part (past (begun_word (there here) refl c.in-Some.ensures) c.in-Some.ensures (refl, c.fresh.ensures)) c.in_ok-next.ensures.reads));
  shorter = omega (arith, c.in_ok-next.ensures.shorter, c.more.invariant.shorter, ap length c.in-Some.ensures.0);
}

pub returns-clause-reads : goal.returns-clause-reads
returns-clause-reads c =
    same_gives _ _ (λ us. append-nil c.more.all) (nest c.more.invariant.so_far (begun_empty here refl (more_escapes_first _ c.in_default.ensures)))
