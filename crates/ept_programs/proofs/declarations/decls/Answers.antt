use Rattle.std.proofs.Common.{refl, sym, ap, append-nil, arith, length, ◌∙◌}
use Rattle.ept_grammar.specs.Grammar.{here, there}
use Rattle.ept_grammar.proofs.Steps.{nest, same_gives, at_exit, begun_word, begun_sole, begun_empty, fails_part, past_part, past_word}
use Rattle.ept_grammar.proofs.Words.{more_decls_first, last_decls_begun, last_decls_first}
use Rattle.ept_steps.proofs.Lists.{some_more}
use Rattle.ept_programs.proofs.declarations.decls.Goals as goal

pub returns-in_err-all-clause-reads : goal.returns-in_err-all-clause-reads
returns-in_err-all-clause-reads c =
    at_exit _ _ _ c.in_err-all.field-0.0 c.from_residual.ensures.1 (fails_part (begun_sole _ refl) _ c.in_err-all.ensures.reads)

pub decls-init : goal.decls-init
decls-init c = record { so_far = past_part (begun_sole _ refl) c.in_ok-all.ensures.reads; shorter = omega (arith, c.in_ok-all.ensures.shorter) }

pub returns-then-not-starts_declaration-clause-reads : goal.returns-then-not-starts_declaration-clause-reads
returns-then-not-starts_declaration-clause-reads c =
    same_gives _ _ (λ us. append-nil c.decls.all) (nest c.decls.invariant.so_far (past_part (past_word (begun_word (there here) refl c.in-Some.ensures) c.in-Some.ensures) (begun_empty here refl (last_decls_first _ (sym c.starts_declaration.ensures ∙ c.if-not-starts_declaration.true)))))

pub returns-in_err-next-clause-reads : goal.returns-in_err-next-clause-reads
returns-in_err-next-clause-reads c =
    at_exit _ _ _ c.in_err-next.field-0.0 c.from_residual-in_err-next.ensures.1 (fails_part c.decls.invariant.so_far _ (fails_part (past_word (begun_word (there here) refl c.in-Some.ensures) c.in-Some.ensures) _ (fails_part (last_decls_begun (sym c.starts_declaration.ensures ∙ c.if-not-starts_declaration.false)) _ c.in_err-next.ensures.reads)))

pub decls-preserved : goal.decls-preserved
decls-preserved c = record {
  so_far = same_gives _ _ (λ us. some_more _ _ _ us.0 c.in_ok-append.ensures) (nest c.decls.invariant.so_far (nest (past_word (begun_word (there here) refl c.in-Some.ensures) c.in-Some.ensures) (past_part (last_decls_begun (sym c.starts_declaration.ensures ∙ c.if-not-starts_declaration.false)) c.in_ok-next.ensures.reads)));
  shorter = omega (arith, c.in_ok-next.ensures.shorter, c.decls.invariant.shorter, ap length c.in-Some.ensures.0);
}

pub returns-clause-reads : goal.returns-clause-reads
returns-clause-reads c =
    same_gives _ _ (λ us. append-nil c.decls.all) (nest c.decls.invariant.so_far (begun_empty here refl (more_decls_first _ c.in_default.ensures)))
