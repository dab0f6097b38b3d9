use Rattle.std.proofs.Common.{refl, sym, ap, append-nil, arith, length, ◌∙◌, ◌++◌, ◌∷◌}
use Rattle.ept_grammar.specs.Grammar.{here, there}
use Rattle.ept_grammar.proofs.Steps.{nest, same_gives, at_exit, begun_word, begun_sole, begun_empty, fails_part, fails_word, past_word}
use Rattle.ept_grammar.proofs.Words.{constructors_first}
use Rattle.ept_steps.proofs.Lists.{one_more, first_one}
use Rattle.ept_programs.proofs.programs.constructors.Goals as goal

pub returns-in_err-first-clause-reads : goal.returns-in_err-first-clause-reads
returns-in_err-first-clause-reads c =
    at_exit _ _ _ c.in_err-first.field-0.0 c.from_residual.ensures.1 (fails_word (begun_sole _ refl) c.in_err-first.ensures)

pub more-init : goal.more-init
more-init c = record {
  so_far = same_gives _ _ (λ us. ap (λ x. x ∷ us.0) (sym c.in_ok-copy_name.ensures) ∙ first_one _ _ _ us.0 c.new-all.ensures c.in_ok-push.ensures.ok) (past_word (begun_sole _ refl) c.in_ok-first.ensures);
  shorter = omega (arith, ap length c.in_ok-first.ensures.0);
}

pub returns-in_err-next-clause-reads : goal.returns-in_err-next-clause-reads
returns-in_err-next-clause-reads c =
    at_exit _ _ _ c.in_err-next.field-0.0 c.from_residual-in_err-next.ensures.1 (fails_part c.more.invariant.so_far _ (fails_word (past_word (begun_word (there here) refl c.in-Some.ensures) c.in-Some.ensures) c.in_err-next.ensures))

pub more-preserved : goal.more-preserved
more-preserved c = record {
  so_far = same_gives _ _ (λ us. ap (λ x. c.more.all ++ x ∷ us.0) (sym c.in_ok-copy_name-2.ensures) ∙ one_more _ _ _ us.0 c.in_ok-push-2.ensures.ok) (nest c.more.invariant.so_far (past_word (past_word (begun_word (there here) refl c.in-Some.ensures) c.in-Some.ensures) c.in_ok-next.ensures));
  shorter = omega (arith, c.more.invariant.shorter, ap length c.in-Some.ensures.0, ap length c.in_ok-next.ensures.0);
}

pub returns-clause-reads : goal.returns-clause-reads
returns-clause-reads c =
    same_gives _ _ (λ us. append-nil c.more.all) (nest c.more.invariant.so_far (begun_empty here refl (constructors_first _ c.in_default.ensures)))
