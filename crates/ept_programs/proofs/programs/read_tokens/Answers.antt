use Rattle.ept_grammar.specs.Grammar.{Whole}
use Rattle.ept_grammar.proofs.Steps.{at_exit}
use Rattle.ept_programs.proofs.Wholes.{nothing_left, something_left}
use Rattle.ept_grammar.proofs.Places.{refused, refused_more, read_whole, only_text}
use Rattle.ept_grammar.proofs.Refusals.{text_refused, one_refusal, exact_err, exact_ok}
use Rattle.ept_programs.proofs.programs.read_tokens.Goals as goal

pub returns-in_err-whole-clause-only : goal.returns-in_err-whole-clause-only
returns-in_err-whole-clause-only c = λ p a. at_exit _ _ _ c.in_err-whole.field-0.0 c.from_residual.ensures.1 (text_refused Whole _ p _ a (refused Whole _ _ c.in_err-whole.ensures))

pub returns-in_err-whole-clause-refused : goal.returns-in_err-whole-clause-refused
returns-in_err-whole-clause-refused c = at_exit _ _ _ c.in_err-whole.field-0.0 c.from_residual.ensures.1 (refused Whole _ _ c.in_err-whole.ensures)

pub returns-in_err-whole-clause-exactly : goal.returns-in_err-whole-clause-exactly
returns-in_err-whole-clause-exactly c = exact_err Whole _ _ _ c.from_residual.ensures.1 (refused Whole _ _ c.in_err-whole.ensures)

pub returns-then-is_empty-clause-text : goal.returns-then-is_empty-clause-text
returns-then-is_empty-clause-text c = read_whole c.in_ok-whole.ensures (nothing_left _ c.if-is_empty.ensures)

pub returns-then-is_empty-clause-only : goal.returns-then-is_empty-clause-only
returns-then-is_empty-clause-only c = λ p a. only_text {n = Whole} _ p (read_whole c.in_ok-whole.ensures (nothing_left _ c.if-is_empty.ensures)) a

pub returns-then-is_empty-clause-exactly : goal.returns-then-is_empty-clause-exactly
returns-then-is_empty-clause-exactly c = exact_ok Whole _ _ (read_whole c.in_ok-whole.ensures (nothing_left _ c.if-is_empty.ensures))

pub returns-else-is_empty-clause-only : goal.returns-else-is_empty-clause-only
returns-else-is_empty-clause-only c = λ p a. text_refused Whole _ p _ a (refused_more c.in_ok-whole.ensures (something_left _ c.if-is_empty.ensures))

pub returns-else-is_empty-clause-refused : goal.returns-else-is_empty-clause-refused
returns-else-is_empty-clause-refused c = refused_more c.in_ok-whole.ensures (something_left _ c.if-is_empty.ensures)

pub returns-else-is_empty-clause-exactly : goal.returns-else-is_empty-clause-exactly
returns-else-is_empty-clause-exactly c = λ f m b. one_refusal Whole _ f _ b (refused_more c.in_ok-whole.ensures (something_left _ c.if-is_empty.ensures)) m
