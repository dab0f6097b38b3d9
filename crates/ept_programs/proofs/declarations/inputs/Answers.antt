use Rattle.std.proofs.Common.{refl, sym, ap, append-nil, arith, length, ◌∙◌, ◌++◌}
use Rattle.ept_grammar.specs.Grammar.{here, there}
use Rattle.ept_grammar.proofs.Steps.{nest, same_gives, at_exit, begun_word, begun_empty, fails_part, past_part, past_word}
use Rattle.ept_grammar.proofs.Words.{more_inputs_first, inputs_first, input_begins}
use Rattle.ept_steps.proofs.Lists.{some_more}
use Rattle.ept_programs.proofs.declarations.inputs.Goals as goal

pub returns-in_err-next-clause-reads : goal.returns-in_err-next-clause-reads
returns-in_err-next-clause-reads c =
    at_exit _ _ _ c.in_err-next.field-0.0 c.from_residual.ensures.1 (fails_part c.inputs.invariant.so_far _ (fails_part (begun_word (there here) input_begins c.in-Some.ensures) _ c.in_err-next.ensures.reads))

pub returns-in-None-clause-reads : goal.returns-in-None-clause-reads
returns-in-None-clause-reads c =
    same_gives _ _ (λ us. ap (λ ds. c.inputs.all ++ ds) (append-nil c.in_ok-next.next) ∙ sym c.in_ok-append.ensures) (nest c.inputs.invariant.so_far (past_part (past_part (begun_word (there here) input_begins c.in-Some.ensures) c.in_ok-next.ensures.reads) (begun_empty here refl (more_inputs_first _ c.in-None.ensures))))

pub inputs-preserved : goal.inputs-preserved
inputs-preserved c = record {
  so_far = same_gives _ _ (λ us. some_more _ _ _ us.0 c.in_ok-append.ensures) (nest c.inputs.invariant.so_far (nest (past_part (begun_word (there here) input_begins c.in-Some.ensures) c.in_ok-next.ensures.reads) (past_word (begun_word (there here) refl c.in-Some-take.ensures) c.in-Some-take.ensures)));
  shorter = omega (arith, c.in_ok-next.ensures.shorter, c.inputs.invariant.shorter, ap length c.in-Some-take.ensures.0);
}

pub returns-clause-reads : goal.returns-clause-reads
returns-clause-reads c =
    same_gives _ _ (λ us. append-nil c.inputs.all) (nest c.inputs.invariant.so_far (begun_empty here refl (inputs_first _ c.in_default.ensures)))
