use Rattle.std.proofs.Common.{refl, sym, ap, append-nil, arith, ◌∙◌, [], ◌∷◌, ◌++◌}
use Rattle.hept_ast.specs.declared.tree.Form.TheVariants as form
use Rattle.ept_grammar.specs.Grammar.{here, at}
use Rattle.ept_grammar.proofs.Steps.{at_exit, nest, same_gives, begun_empty, fails_part, past_part}
use Rattle.ept_grammar.proofs.Words.{samples_begun, samples_first}
use Rattle.ept_steps.proofs.Lists.{one_more}
use Rattle.ept_expressions.proofs.Sampling.{no_samples, sampled_more}
use Rattle.ept_expressions.proofs.expressions.samples.Goals as goal

pub samples-init : goal.samples-init
samples-init c = record { so_far = ([], no_samples _ _, refl); shorter = omega arith }

pub returns-in_err-next-clause-reads : goal.returns-in_err-next-clause-reads
returns-in_err-next-clause-reads c =
    at_exit _ _ _ c.in_err-next.field-0.0 c.from_residual.ensures.1 (fails_part c.samples.invariant.so_far.1 _ (fails_part (samples_begun (sym c.starts_sample.ensures ∙ c.samples-test.true)) _ c.in_err-next.ensures.reads))

pub samples-preserved : goal.samples-preserved
samples-preserved c = record {
  so_far = (
    c.samples.invariant.so_far.0 ++ c.in_ok-next.next ∷ [],
    same_gives _ _ (λ us. one_more c.samples.invariant.so_far.0 c.in_ok-next.next _ us.0 refl) (nest c.samples.invariant.so_far.1 (past_part (samples_begun (sym c.starts_sample.ensures ∙ c.samples-test.true)) c.in_ok-next.ensures.reads)),
    c.in_ok-left.ensures ∙ ap (λ x. at c.in_ok-next.next.place (form.When x c.in_ok-next.next.tag c.in_ok-next.next.name)) c.samples.invariant.so_far.2 ∙ sym (sampled_more _ c.samples.invariant.so_far.0 c.in_ok-next.next),
  );
  shorter = omega (arith, c.in_ok-next.ensures.shorter, c.samples.invariant.shorter);
}

pub returns-clause-reads : goal.returns-clause-reads
returns-clause-reads c = (
  c.samples.invariant.so_far.0,
  same_gives _ _ (λ us. append-nil c.samples.invariant.so_far.0) (nest c.samples.invariant.so_far.1 (begun_empty here refl (samples_first _ (sym c.starts_sample.ensures ∙ c.samples-test.false)))),
  c.samples.invariant.so_far.2,
)
