use Rattle.std.proofs.Common.{◌≡◌, ◌+◌, suc, None, Some, refl, sym, ap, append-nil, arith, length, ◌∙◌}
use Rattle.hept_ast.specs.declared.tree.Form.TheVariants as form
use Rattle.hept_ast.specs.declared.tree.Const.TheVariants as const
use Rattle.hept_ast.specs.declared.tree.UnaryOp.TheVariants as unary
use Rattle.ept_grammar.specs.declared.parts.Fault.TheVariants.{TooDeep}
use Rattle.ept_grammar.specs.Grammar.{Sampled, here, there, at, named, negated}
use Rattle.ept_grammar.specs.Reading.{Reads}
use Rattle.ept_grammar.proofs.Steps.{placed, passed_on, nest, same_gives, at_exit, begun_word, begun_first, begun_sole, begun_empty, fails_over, fails_part, fails_word, past, past_part, past_word}
use Rattle.ept_grammar.proofs.Words.{arrow_tail_first, fby_tail_first, call_tail_first, more_args_first, merge_branches_first, expression_front, signed_front, atom_front, async_tail_front, prefix_signed, after_minus_signed, args_begun, prefix_atom, after_minus_atom, args_first, called_begins, merge_branch_begins}
use Rattle.ept_steps.proofs.Lists.{one_more, first_one}
use Rattle.ept_expressions.proofs.Levels.{level_begun, level_ends, level_fails, level_more, level_over}
use Rattle.std.proofs.Common.{inl, inr}
use Rattle.ept_expressions.proofs.expressions.+exprs.Goals as goal

pub expression-returns-in-Some-clause-reads : goal.expression-returns-in-Some-clause-reads
expression-returns-in-Some-clause-reads t c =
    rw c.in-Some.ensures.0 c.conditional.ensures.reads

pub expression-returns-in_err-left-clause-reads : goal.expression-returns-in_err-left-clause-reads
expression-returns-in_err-left-clause-reads t c =
    at_exit _ _ _ c.in_err-left.field-0.0 c.from_residual.ensures.1 (fails_part (begun_first refl refl (expression_front _ c.in_default.ensures)) _ (fails_part (begun_sole _ refl) _ c.in_err-left.ensures.reads))

pub expression-returns-clause-reads : goal.expression-returns-clause-reads
expression-returns-clause-reads t c =
    passed_on c.arrow_tail.result c.arrow_tail.ensures.reads (λ x d. rw d.2 (past_part (begun_first refl refl (expression_front _ c.in_default.ensures)) (past_part (past_part (begun_sole _ refl) c.in_ok-left.ensures.reads) d.1))) (λ e d. fails_part (begun_first refl refl (expression_front _ c.in_default.ensures)) e (fails_part (past_part (begun_sole _ refl) c.in_ok-left.ensures.reads) e d))

pub conditional-returns-in_err-counts-clause-reads : goal.conditional-returns-in_err-counts-clause-reads
conditional-returns-in_err-counts-clause-reads t c =
    let one : 1 + length c.args.tokens.now ≡ suc (length c.args.tokens.now) = omega arith in
    at_exit _ _ _ c.in_err-counts.field-0.0 c.from_residual.ensures.1 (fails_over (begun_word (there here) refl (refl, c.requires)) (refl, c.requires) (c.in_err-counts.ensures.0, c.in_err-counts.ensures.1 ∙ ap (λ n. TooDeep n) one))

pub conditional-returns-in_err-form-clause-reads : goal.conditional-returns-in_err-form-clause-reads
conditional-returns-in_err-form-clause-reads t c =
    at_exit _ _ _ c.in_err-form.field-0.0 c.from_residual-in_err-form.ensures.1 (fails_part (past (begun_word (there here) refl (refl, c.requires)) (refl, c.requires) c.in_ok-counts.ensures) _ c.in_err-form.ensures.reads)

pub conditional-returns-clause-reads : goal.conditional-returns-clause-reads
conditional-returns-clause-reads t c =
    placed (λ p. at p c.in_ok-form.form) _ (refl, c.requires) c.placed.ensures (past_part (past (begun_word (there here) refl (refl, c.requires)) (refl, c.requires) c.in_ok-counts.ensures) c.in_ok-form.ensures.reads)

pub arrow_tail-returns-in_default-clause-reads : goal.arrow_tail-returns-in_default-clause-reads
arrow_tail-returns-in_default-clause-reads t c =
    (None, begun_empty here refl (arrow_tail_first _ c.in_default.ensures), refl)

pub arrow_tail-returns-in_err-counts-clause-reads : goal.arrow_tail-returns-in_err-counts-clause-reads
arrow_tail-returns-in_err-counts-clause-reads t c =
    at_exit _ _ _ c.in_err-counts.field-0.0 c.from_residual.ensures.1 (fails_over (begun_word (there here) refl c.in-Some.ensures) c.in-Some.ensures c.in_err-counts.ensures)

pub arrow_tail-returns-in_err-right-clause-reads : goal.arrow_tail-returns-in_err-right-clause-reads
arrow_tail-returns-in_err-right-clause-reads t c =
    at_exit _ _ _ c.in_err-right.field-0.0 c.from_residual-in_err-right.ensures.1 (fails_part (past (begun_word (there here) refl c.in-Some.ensures) c.in-Some.ensures c.in_ok-counts.ensures) _ c.in_err-right.ensures.reads)

pub arrow_tail-returns-clause-reads : goal.arrow_tail-returns-clause-reads
arrow_tail-returns-clause-reads t c =
    (Some (c.in-Some.sign.now, c.in_ok-right.right), past_part (past (begun_word (there here) refl c.in-Some.ensures) c.in-Some.ensures c.in_ok-counts.ensures) c.in_ok-right.ensures.reads, c.in_ok-arrow.ensures)

pub fbys-returns-in_err-left-clause-reads : goal.fbys-returns-in_err-left-clause-reads
fbys-returns-in_err-left-clause-reads t c =
    at_exit _ _ _ c.in_err-left.field-0.0 c.from_residual.ensures.1 (fails_part (begun_sole _ refl) _ (fails_part (begun_sole _ refl) _ c.in_err-left.ensures.reads))

pub fbys-returns-in_err-left-2-clause-reads : goal.fbys-returns-in_err-left-2-clause-reads
fbys-returns-in_err-left-2-clause-reads t c =
    at_exit _ _ _ c.in_err-left-2.field-0.0 c.from_residual-in_err-left-2.ensures.1 (fails_part (begun_sole _ refl) _ (fails_part (past_part (begun_sole _ refl) c.in_ok-left.ensures.reads) _ c.in_err-left-2.ensures.reads))

pub fbys-returns-clause-reads : goal.fbys-returns-clause-reads
fbys-returns-clause-reads t c =
    let read : Reads Sampled c.args.tokens.now c.args.counts c.in_ok-left-2.left c.in_ok-left-2.rest.now c.in_ok-left-2.counts =
    rw c.in_ok-left-2.ensures.reads.2 (past_part (past_part (begun_sole _ refl) c.in_ok-left.ensures.reads) c.in_ok-left-2.ensures.reads.1) in
    passed_on c.fby_tail.result c.fby_tail.ensures.reads (λ x d. rw d.2 (past_part (past_part (begun_sole _ refl) read) d.1)) (λ e d. fails_part (past_part (begun_sole _ refl) read) e d)

pub fby_tail-returns-in_default-clause-reads : goal.fby_tail-returns-in_default-clause-reads
fby_tail-returns-in_default-clause-reads t c =
    (None, begun_empty here refl (fby_tail_first _ c.in_default.ensures), refl)

pub fby_tail-returns-in_err-counts-clause-reads : goal.fby_tail-returns-in_err-counts-clause-reads
fby_tail-returns-in_err-counts-clause-reads t c =
    at_exit _ _ _ c.in_err-counts.field-0.0 c.from_residual.ensures.1 (fails_over (begun_word (there here) refl c.in-Some.ensures) c.in-Some.ensures c.in_err-counts.ensures)

pub fby_tail-returns-in_err-right-clause-reads : goal.fby_tail-returns-in_err-right-clause-reads
fby_tail-returns-in_err-right-clause-reads t c =
    at_exit _ _ _ c.in_err-right.field-0.0 c.from_residual-in_err-right.ensures.1 (fails_part (past (begun_word (there here) refl c.in-Some.ensures) c.in-Some.ensures c.in_ok-counts.ensures) _ c.in_err-right.ensures.reads)

pub fby_tail-returns-clause-reads : goal.fby_tail-returns-clause-reads
fby_tail-returns-clause-reads t c =
    (Some (c.in-Some.sign.now, c.in_ok-right.right), past_part (past (begun_word (there here) refl c.in-Some.ensures) c.in-Some.ensures c.in_ok-counts.ensures) c.in_ok-right.ensures.reads, c.in_ok-fby.ensures)

pub level-returns-in_err-left-clause-reads : goal.level-returns-in_err-left-clause-reads
level-returns-in_err-left-clause-reads t c =
    at_exit _ _ _ c.in_err-left.field-0.0 c.from_residual.ensures.1 (fails_part (level_begun _) _ c.in_err-left.ensures.reads)

pub level-signs-init : goal.level-signs-init
level-signs-init t c =
    record { so_far = rw c.levels_to-levels.ensures (past_part (level_begun _) c.in_ok-left.ensures.reads); shorter = omega (arith, c.in_ok-left.ensures.shorter) }

pub level-returns-in_err-now-clause-reads : goal.level-returns-in_err-now-clause-reads
level-returns-in_err-now-clause-reads t c =
    at_exit _ _ _ c.in_err-now.field-0.0 c.from_residual-in_err-now.ensures.1 (level_over c.signs.levels.now c.signs.left c.signs.invariant.so_far c.in-Some.ensures c.in_err-now.ensures)

pub level-returns-in_err-left-2-clause-reads : goal.level-returns-in_err-left-2-clause-reads
level-returns-in_err-left-2-clause-reads t c =
    at_exit _ _ _ c.in_err-left-2.field-0.0 c.from_residual-in_err-left-2.ensures.1 (level_fails c.signs.levels.now c.signs.left _ c.signs.invariant.so_far c.in-Some.ensures c.in_ok-now.ensures c.in_err-left-2.ensures.reads)

pub level-signs-preserved : goal.level-signs-preserved
level-signs-preserved t c =
    record {
      so_far = level_more c.signs.levels.now c.signs.left _ _ c.signs.invariant.so_far c.in-Some.ensures c.in_ok-now.ensures c.in_ok-left-2.ensures.reads.1 c.in_ok-left-2.ensures.reads.2;
      shorter = omega (arith, c.in_ok-left-2.ensures.shorter, c.signs.invariant.shorter, ap length c.in-Some.ensures.0);
    }

pub level-returns-clause-reads : goal.level-returns-clause-reads
level-returns-clause-reads t c =
    level_ends c.signs.levels.now c.signs.left _ c.in_default.ensures c.signs.invariant.so_far

pub with_operand-returns-in_err-right-clause-reads : goal.with_operand-returns-in_err-right-clause-reads
with_operand-returns-in_err-right-clause-reads t c =
    at_exit _ _ _ c.in_err-right.field-0.0 c.from_residual.ensures.1 c.in_err-right.ensures.reads

pub with_operand-returns-clause-reads : goal.with_operand-returns-clause-reads
with_operand-returns-clause-reads t c =
    (c.in_ok-right.right, c.in_ok-right.ensures.reads, c.in_ok-whole.ensures)

pub atom-returns-in-Some-clause-reads : goal.atom-returns-in-Some-clause-reads
atom-returns-in-Some-clause-reads t c =
    rw c.in-Some.ensures.0 c.variable.ensures.reads

pub atom-returns-in-Some-take-clause-reads : goal.atom-returns-in-Some-take-clause-reads
atom-returns-in-Some-take-clause-reads t c =
    rw c.in-Some-take.ensures.0 c.parenthesised.ensures.reads

pub atom-returns-in-Some-take-2-clause-reads : goal.atom-returns-in-Some-take-2-clause-reads
atom-returns-in-Some-take-2-clause-reads t c =
    rw c.in-Some-take-2.ensures.0 c.merged.ensures.reads

pub atom-returns-in-Some-take-3-clause-reads : goal.atom-returns-in-Some-take-3-clause-reads
atom-returns-in-Some-take-3-clause-reads t c =
    rw c.in-Some-take-3.ensures.0 c.asynchronous.ensures.reads

pub atom-returns-clause-reads : goal.atom-returns-clause-reads
atom-returns-clause-reads t c =
    passed_on c.literal.result c.literal.ensures.reads (λ x d. past_part (begun_first refl refl (atom_front _ c.in_default.ensures c.in_default-take.ensures c.in_default-take-2.ensures c.in_default-take-3.ensures)) d) (λ e d. fails_part (begun_first refl refl (atom_front _ c.in_default.ensures c.in_default-take.ensures c.in_default-take-2.ensures c.in_default-take-3.ensures)) e d)

pub variable-returns-in_err-args-clause-reads : goal.variable-returns-in_err-args-clause-reads
variable-returns-in_err-args-clause-reads t c =
    at_exit _ _ _ c.in_err-args.field-0.0 c.from_residual.ensures.1 (fails_part (past_word (begun_word (there here) refl (refl, c.requires)) (refl, c.requires)) _ c.in_err-args.ensures.reads)

pub variable-returns-clause-reads : goal.variable-returns-clause-reads
variable-returns-clause-reads t c =
    placed (λ p. at p (named c.args.name.now.name c.in_ok-args.args)) _ (refl, c.requires) c.in_ok-named.ensures (past_part (past_word (begun_word (there here) refl (refl, c.requires)) (refl, c.requires)) c.in_ok-args.ensures.reads)

pub parenthesised-returns-in_err-counts-clause-reads : goal.parenthesised-returns-in_err-counts-clause-reads
parenthesised-returns-in_err-counts-clause-reads t c =
    let one : 1 + length c.args.tokens.now ≡ suc (length c.args.tokens.now) = omega arith in
    at_exit _ _ _ c.in_err-counts.field-0.0 c.from_residual.ensures.1 (fails_over (begun_word (there (there here)) refl (refl, c.requires)) (refl, c.requires) (c.in_err-counts.ensures.0, c.in_err-counts.ensures.1 ∙ ap (λ n. TooDeep n) one))

pub parenthesised-returns-in_err-inner-clause-reads : goal.parenthesised-returns-in_err-inner-clause-reads
parenthesised-returns-in_err-inner-clause-reads t c =
    at_exit _ _ _ c.in_err-inner.field-0.0 c.from_residual-in_err-inner.ensures.1 (fails_part (past (begun_word (there (there here)) refl (refl, c.requires)) (refl, c.requires) c.in_ok-counts.ensures) _ c.in_err-inner.ensures.reads)

pub parenthesised-returns-in_err-rest-clause-reads : goal.parenthesised-returns-in_err-rest-clause-reads
parenthesised-returns-in_err-rest-clause-reads t c =
    at_exit _ _ _ c.in_err-rest.field-0.0 c.from_residual-in_err-rest.ensures.1 (fails_word (past_part (past (begun_word (there (there here)) refl (refl, c.requires)) (refl, c.requires) c.in_ok-counts.ensures) c.in_ok-inner.ensures.reads) c.in_err-rest.ensures)

pub parenthesised-returns-clause-reads : goal.parenthesised-returns-clause-reads
parenthesised-returns-clause-reads t c =
    past_word (past_part (past (begun_word (there (there here)) refl (refl, c.requires)) (refl, c.requires) c.in_ok-counts.ensures) c.in_ok-inner.ensures.reads) c.in_ok-rest.ensures

pub merged-returns-in_err-counts-clause-reads : goal.merged-returns-in_err-counts-clause-reads
merged-returns-in_err-counts-clause-reads t c =
    let one : 1 + length c.args.tokens.now ≡ suc (length c.args.tokens.now) = omega arith in
    at_exit _ _ _ c.in_err-counts.field-0.0 c.from_residual.ensures.1 (fails_over (begun_word (there (there (there here))) refl (refl, c.requires)) (refl, c.requires) (c.in_err-counts.ensures.0, c.in_err-counts.ensures.1 ∙ ap (λ n. TooDeep n) one))

pub merged-returns-in_err-form-clause-reads : goal.merged-returns-in_err-form-clause-reads
merged-returns-in_err-form-clause-reads t c =
    at_exit _ _ _ c.in_err-form.field-0.0 c.from_residual-in_err-form.ensures.1 (fails_part (past (begun_word (there (there (there here))) refl (refl, c.requires)) (refl, c.requires) c.in_ok-counts.ensures) _ c.in_err-form.ensures.reads)

pub merged-returns-clause-reads : goal.merged-returns-clause-reads
merged-returns-clause-reads t c =
    placed (λ p. at p c.in_ok-form.form) _ (refl, c.requires) c.placed.ensures (past_part (past (begun_word (there (there (there here))) refl (refl, c.requires)) (refl, c.requires) c.in_ok-counts.ensures) c.in_ok-form.ensures.reads)

pub asynchronous-returns-in_err-counts-clause-reads : goal.asynchronous-returns-in_err-counts-clause-reads
asynchronous-returns-in_err-counts-clause-reads t c =
    let one : 1 + length c.args.tokens.now ≡ suc (length c.args.tokens.now) = omega arith in
    at_exit _ _ _ c.in_err-counts.field-0.0 c.from_residual.ensures.1 (fails_over (begun_word (there (there (there (there here)))) refl (refl, c.requires)) (refl, c.requires) (c.in_err-counts.ensures.0, c.in_err-counts.ensures.1 ∙ ap (λ n. TooDeep n) one))

pub asynchronous-returns-in_err-form-clause-reads : goal.asynchronous-returns-in_err-form-clause-reads
asynchronous-returns-in_err-form-clause-reads t c =
    at_exit _ _ _ c.in_err-form.field-0.0 c.from_residual-in_err-form.ensures.1 (fails_part (past (begun_word (there (there (there (there here)))) refl (refl, c.requires)) (refl, c.requires) c.in_ok-counts.ensures) _ c.in_err-form.ensures.reads)

pub asynchronous-returns-clause-reads : goal.asynchronous-returns-clause-reads
asynchronous-returns-clause-reads t c =
    placed (λ p. at p c.in_ok-form.form) _ (refl, c.requires) c.placed.ensures (past_part (past (begun_word (there (there (there (there here)))) refl (refl, c.requires)) (refl, c.requires) c.in_ok-counts.ensures) c.in_ok-form.ensures.reads)

pub choosing-returns-in_err-condition-clause-reads : goal.choosing-returns-in_err-condition-clause-reads
choosing-returns-in_err-condition-clause-reads t c =
    at_exit _ _ _ c.in_err-condition.field-0.0 c.from_residual.ensures.1 (fails_part (begun_sole _ refl) _ c.in_err-condition.ensures.reads)

pub choosing-returns-in_err-yes-clause-reads : goal.choosing-returns-in_err-yes-clause-reads
choosing-returns-in_err-yes-clause-reads t c =
    at_exit _ _ _ c.in_err-yes.field-0.0 c.from_residual-in_err-yes.ensures.1 (fails_part (past_part (begun_sole _ refl) c.in_ok-condition.ensures.reads) _ c.in_err-yes.ensures.reads)

pub choosing-returns-in_err-no-clause-reads : goal.choosing-returns-in_err-no-clause-reads
choosing-returns-in_err-no-clause-reads t c =
    at_exit _ _ _ c.in_err-no.field-0.0 c.from_residual-in_err-no.ensures.1 (fails_part (past_part (past_part (begun_sole _ refl) c.in_ok-condition.ensures.reads) c.in_ok-yes.ensures.reads) _ c.in_err-no.ensures.reads)

pub choosing-returns-clause-reads : goal.choosing-returns-clause-reads
choosing-returns-clause-reads t c =
    rw c.in_ok-choice.ensures (past_part (past_part (past_part (begun_sole _ refl) c.in_ok-condition.ensures.reads) c.in_ok-yes.ensures.reads) c.in_ok-no.ensures.reads)

pub then_part-returns-in_err-rest-clause-reads : goal.then_part-returns-in_err-rest-clause-reads
then_part-returns-in_err-rest-clause-reads t c =
    at_exit _ _ _ c.in_err-rest.field-0.0 c.from_residual.ensures.1 (fails_word (begun_sole _ refl) c.in_err-rest.ensures)

pub then_part-returns-clause-reads : goal.then_part-returns-clause-reads
then_part-returns-clause-reads t c =
    passed_on c.expression.result c.expression.ensures.reads (λ x d. past_part (past_word (begun_sole _ refl) c.in_ok-rest.ensures) d) (λ e d. fails_part (past_word (begun_sole _ refl) c.in_ok-rest.ensures) e d)

pub else_part-returns-in_err-rest-clause-reads : goal.else_part-returns-in_err-rest-clause-reads
else_part-returns-in_err-rest-clause-reads t c =
    at_exit _ _ _ c.in_err-rest.field-0.0 c.from_residual.ensures.1 (fails_word (begun_sole _ refl) c.in_err-rest.ensures)

pub else_part-returns-clause-reads : goal.else_part-returns-clause-reads
else_part-returns-clause-reads t c =
    passed_on c.expression.result c.expression.ensures.reads (λ x d. past_part (past_word (begun_sole _ refl) c.in_ok-rest.ensures) d) (λ e d. fails_part (past_word (begun_sole _ refl) c.in_ok-rest.ensures) e d)

pub operand-returns-in-Or-clause-reads : goal.operand-returns-in-Or-clause-reads
operand-returns-in-Or-clause-reads t c =
    rw c.in-Or.is (passed_on c.level.result c.level.ensures.reads (λ x d. past_part (begun_sole _ refl) d) (λ e d. fails_part (begun_sole _ refl) e d))

pub operand-returns-in-And-clause-reads : goal.operand-returns-in-And-clause-reads
operand-returns-in-And-clause-reads t c =
    rw c.in-And.is (passed_on c.level-in-And.result c.level-in-And.ensures.reads (λ x d. past_part (begun_sole _ refl) d) (λ e d. fails_part (begun_sole _ refl) e d))

pub operand-returns-in-Comparison-clause-reads : goal.operand-returns-in-Comparison-clause-reads
operand-returns-in-Comparison-clause-reads t c =
    rw c.in-Comparison.is (passed_on c.level-in-Comparison.result c.level-in-Comparison.ensures.reads (λ x d. past_part (begun_sole _ refl) d) (λ e d. fails_part (begun_sole _ refl) e d))

pub operand-returns-in-Sum-clause-reads : goal.operand-returns-in-Sum-clause-reads
operand-returns-in-Sum-clause-reads t c =
    rw c.in-Sum.is (passed_on c.level-in-Sum.result c.level-in-Sum.ensures.reads (λ x d. past_part (begun_sole _ refl) d) (λ e d. fails_part (begun_sole _ refl) e d))

pub operand-returns-in-Product-clause-reads : goal.operand-returns-in-Product-clause-reads
operand-returns-in-Product-clause-reads t c =
    rw c.in-Product.is (passed_on c.prefix.result c.prefix.ensures.reads (λ x d. past_part (begun_sole _ refl) d) (λ e d. fails_part (begun_sole _ refl) e d))

pub prefix-returns-in-Some-clause-reads : goal.prefix-returns-in-Some-clause-reads
prefix-returns-in-Some-clause-reads t c =
    placed (λ p. at p (form.Const (const.Number c.in-Some.number.now.number))) _ c.in-Some.ensures c.constant.ensures (past_word (begun_word (there here) refl c.in-Some.ensures) c.in-Some.ensures)

pub prefix-returns-then-starts_signed-clause-reads : goal.prefix-returns-then-starts_signed-clause-reads
prefix-returns-then-starts_signed-clause-reads t c =
    passed_on c.signed.result c.signed.ensures.reads (λ x d. past_part (prefix_signed (sym c.starts_signed.ensures ∙ c.if-starts_signed.true)) d) (λ e d. fails_part (prefix_signed (sym c.starts_signed.ensures ∙ c.if-starts_signed.true)) e d)

pub prefix-returns-clause-reads : goal.prefix-returns-clause-reads
prefix-returns-clause-reads t c =
    passed_on c.atom.result c.atom.ensures.reads (λ x d. past_part (prefix_atom c.in_default.ensures (sym c.starts_signed.ensures ∙ c.if-starts_signed.false)) d) (λ e d. fails_part (prefix_atom c.in_default.ensures (sym c.starts_signed.ensures ∙ c.if-starts_signed.false)) e d)

pub signed-returns-in_err-counts-clause-reads : goal.signed-returns-in_err-counts-clause-reads
signed-returns-in_err-counts-clause-reads t c =
    at_exit _ _ _ c.in_err-counts.field-0.0 c.from_residual.ensures.1 (fails_over (begun_word (there here) refl c.in-Some.ensures) c.in-Some.ensures c.in_err-counts.ensures)

pub signed-returns-in_err-operand-clause-reads : goal.signed-returns-in_err-operand-clause-reads
signed-returns-in_err-operand-clause-reads t c =
    at_exit _ _ _ c.in_err-operand.field-0.0 c.from_residual-in_err-operand.ensures.1 (fails_part (past (begun_word (there here) refl c.in-Some.ensures) c.in-Some.ensures c.in_ok-counts.ensures) _ c.in_err-operand.ensures.reads)

pub signed-returns-in-Some-clause-reads : goal.signed-returns-in-Some-clause-reads
signed-returns-in-Some-clause-reads t c =
    placed (λ p. at p (form.Unary unary.Not c.in_ok-operand.operand)) _ c.in-Some.ensures c.in_ok-whole.ensures (past_part (past (begun_word (there here) refl c.in-Some.ensures) c.in-Some.ensures c.in_ok-counts.ensures) c.in_ok-operand.ensures.reads)

pub signed-returns-in_err-counts-2-clause-reads : goal.signed-returns-in_err-counts-2-clause-reads
signed-returns-in_err-counts-2-clause-reads t c =
    at_exit _ _ _ c.in_err-counts-2.field-0.0 c.from_residual-in_err-counts-2.ensures.1 (fails_over (begun_word (there (there here)) refl c.in-Some-take.ensures) c.in-Some-take.ensures c.in_err-counts-2.ensures)

pub signed-returns-in_err-operand-2-clause-reads : goal.signed-returns-in_err-operand-2-clause-reads
signed-returns-in_err-operand-2-clause-reads t c =
    at_exit _ _ _ c.in_err-operand-2.field-0.0 c.from_residual-in_err-operand-2.ensures.1 (fails_part (past (begun_word (there (there here)) refl c.in-Some-take.ensures) c.in-Some-take.ensures c.in_ok-counts-2.ensures) _ c.in_err-operand-2.ensures.reads)

pub signed-returns-in-Some-take-clause-reads : goal.signed-returns-in-Some-take-clause-reads
signed-returns-in-Some-take-clause-reads t c =
    placed (λ p. at p (form.Pre c.in_ok-operand-2.operand)) _ c.in-Some-take.ensures c.in_ok-pre.ensures (past_part (past (begun_word (there (there here)) refl c.in-Some-take.ensures) c.in-Some-take.ensures c.in_ok-counts-2.ensures) c.in_ok-operand-2.ensures.reads)

pub signed-returns-in_err-counts-3-clause-reads : goal.signed-returns-in_err-counts-3-clause-reads
signed-returns-in_err-counts-3-clause-reads t c =
    at_exit _ _ _ c.in_err-counts-3.field-0.0 c.from_residual-in_err-counts-3.ensures.1 (fails_over (begun_word (there (there (there here))) refl c.in-Some-take-2.ensures) c.in-Some-take-2.ensures c.in_err-counts-3.ensures)

pub signed-returns-in_err-operand-3-clause-reads : goal.signed-returns-in_err-operand-3-clause-reads
signed-returns-in_err-operand-3-clause-reads t c =
    at_exit _ _ _ c.in_err-operand-3.field-0.0 c.from_residual-in_err-operand-3.ensures.1 (fails_part (past (begun_word (there (there (there here))) refl c.in-Some-take-2.ensures) c.in-Some-take-2.ensures c.in_ok-counts-3.ensures) _ c.in_err-operand-3.ensures.reads)

pub signed-returns-in-Some-take-2-clause-reads : goal.signed-returns-in-Some-take-2-clause-reads
signed-returns-in-Some-take-2-clause-reads t c =
    placed (λ p. at p (form.Get c.in_ok-operand-3.operand)) _ c.in-Some-take-2.ensures c.in_ok-get.ensures (past_part (past (begun_word (there (there (there here))) refl c.in-Some-take-2.ensures) c.in-Some-take-2.ensures c.in_ok-counts-3.ensures) c.in_ok-operand-3.ensures.reads)

pub signed-returns-in_err-minus-clause-reads : goal.signed-returns-in_err-minus-clause-reads
signed-returns-in_err-minus-clause-reads t c =
    at_exit _ _ _ c.in_err-minus.field-0.0 c.from_residual-in_err-minus.ensures.1 (fails_word (begun_first refl refl (signed_front _ c.in_default.ensures c.in_default-take.ensures c.in_default-take-2.ensures)) c.in_err-minus.ensures)

pub signed-returns-in_err-counts-4-clause-reads : goal.signed-returns-in_err-counts-4-clause-reads
signed-returns-in_err-counts-4-clause-reads t c =
    at_exit _ _ _ c.in_err-counts-4.field-0.0 c.from_residual-in_err-counts-4.ensures.1 (fails_over (begun_first refl refl (signed_front _ c.in_default.ensures c.in_default-take.ensures c.in_default-take-2.ensures)) c.in_ok-minus.ensures c.in_err-counts-4.ensures)

pub signed-returns-clause-reads : goal.signed-returns-clause-reads
signed-returns-clause-reads t c =
    passed_on c.after_minus.result c.after_minus.ensures.reads (λ x d. placed (λ p. negated p d.0) _ c.in_ok-minus.ensures d.2 (past_part (past (begun_first refl refl (signed_front _ c.in_default.ensures c.in_default-take.ensures c.in_default-take-2.ensures)) c.in_ok-minus.ensures c.in_ok-counts-4.ensures) d.1)) (λ e d. fails_part (past (begun_first refl refl (signed_front _ c.in_default.ensures c.in_default-take.ensures c.in_default-take-2.ensures)) c.in_ok-minus.ensures c.in_ok-counts-4.ensures) e d)

pub after_minus-returns-in-Some-clause-reads : goal.after_minus-returns-in-Some-clause-reads
after_minus-returns-in-Some-clause-reads t c =
    (inl c.in-Some.number.now.number, past_word (begun_word (there here) refl c.in-Some.ensures) c.in-Some.ensures, c.negative.ensures)

pub after_minus-returns-in_err-operand-clause-reads : goal.after_minus-returns-in_err-operand-clause-reads
after_minus-returns-in_err-operand-clause-reads t c =
    at_exit _ _ _ c.in_err-operand.field-0.0 c.from_residual.ensures.1 (fails_part (after_minus_signed (sym c.starts_signed.ensures ∙ c.if-starts_signed.true)) _ c.in_err-operand.ensures.reads)

pub after_minus-returns-then-starts_signed-clause-reads : goal.after_minus-returns-then-starts_signed-clause-reads
after_minus-returns-then-starts_signed-clause-reads t c =
    (inr c.in_ok-operand.operand, past_part (after_minus_signed (sym c.starts_signed.ensures ∙ c.if-starts_signed.true)) c.in_ok-operand.ensures.reads, c.in_ok-whole.ensures)

pub after_minus-returns-in_err-operand-2-clause-reads : goal.after_minus-returns-in_err-operand-2-clause-reads
after_minus-returns-in_err-operand-2-clause-reads t c =
    at_exit _ _ _ c.in_err-operand-2.field-0.0 c.from_residual-in_err-operand-2.ensures.1 (fails_part (after_minus_atom c.in_default.ensures (sym c.starts_signed.ensures ∙ c.if-starts_signed.false)) _ c.in_err-operand-2.ensures.reads)

pub after_minus-returns-clause-reads : goal.after_minus-returns-clause-reads
after_minus-returns-clause-reads t c =
    (inr c.in_ok-operand-2.operand, past_part (after_minus_atom c.in_default.ensures (sym c.starts_signed.ensures ∙ c.if-starts_signed.false)) c.in_ok-operand-2.ensures.reads, c.in_ok-unary.ensures)

pub call_tail-returns-in-None-clause-reads : goal.call_tail-returns-in-None-clause-reads
call_tail-returns-in-None-clause-reads t c =
    begun_empty here refl (call_tail_first _ c.in-None.ensures)

pub call_tail-returns-in_err-args-in-Some-clause-reads : goal.call_tail-returns-in_err-args-in-Some-clause-reads
call_tail-returns-in_err-args-in-Some-clause-reads t c =
    at_exit _ _ _ c.in_err-args-in-Some.field-0.0 c.from_residual.ensures.1 (fails_part (begun_word (there here) called_begins c.in-Some.ensures) _ c.in_err-args-in-Some.ensures.reads)

pub call_tail-returns-in_ok-args-in-Some-clause-reads : goal.call_tail-returns-in_ok-args-in-Some-clause-reads
call_tail-returns-in_ok-args-in-Some-clause-reads t c =
    past_part (begun_word (there here) called_begins c.in-Some.ensures) c.in_ok-args-in-Some.ensures.reads

pub args-returns-then-not-starts_expression-clause-reads : goal.args-returns-then-not-starts_expression-clause-reads
args-returns-then-not-starts_expression-clause-reads t c =
    rw c.new-all.ensures (begun_empty here refl (args_first _ (sym c.starts_expression.ensures ∙ c.if-not-starts_expression.true)))

pub args-returns-in_err-first-clause-reads : goal.args-returns-in_err-first-clause-reads
args-returns-in_err-first-clause-reads t c =
    at_exit _ _ _ c.in_err-first.field-0.0 c.from_residual.ensures.1 (fails_part (args_begun (sym c.starts_expression.ensures ∙ c.if-not-starts_expression.false)) _ c.in_err-first.ensures.reads)

pub args-more-init : goal.args-more-init
args-more-init t c = record {
  so_far = same_gives _ _ (λ us. first_one _ _ _ us.0 c.new-all.ensures c.in_ok-push.ensures.ok) (past_part (args_begun (sym c.starts_expression.ensures ∙ c.if-not-starts_expression.false)) c.in_ok-first.ensures.reads);
  shorter = omega (arith, c.in_ok-first.ensures.shorter);
}

pub args-returns-in_err-next-clause-reads : goal.args-returns-in_err-next-clause-reads
args-returns-in_err-next-clause-reads t c =
    at_exit _ _ _ c.in_err-next.field-0.0 c.from_residual-in_err-next.ensures.1 (fails_part c.more.invariant.so_far _ (fails_part (past_word (begun_word (there here) refl c.in-Some.ensures) c.in-Some.ensures) _ c.in_err-next.ensures.reads))

pub args-more-preserved : goal.args-more-preserved
args-more-preserved t c = record {
  so_far = same_gives _ _ (λ us. one_more _ _ _ us.0 c.in_ok-push-2.ensures.ok) (nest c.more.invariant.so_far (past_part (past_word (begun_word (there here) refl c.in-Some.ensures) c.in-Some.ensures) c.in_ok-next.ensures.reads));
  shorter = omega (arith, c.in_ok-next.ensures.shorter, c.more.invariant.shorter, ap length c.in-Some.ensures.0);
}

pub args-returns-clause-reads : goal.args-returns-clause-reads
args-returns-clause-reads t c =
    same_gives _ _ (λ us. append-nil c.more.all) (nest c.more.invariant.so_far (begun_empty here refl (more_args_first _ c.in_default.ensures)))

pub merging-returns-in_err-token-clause-reads : goal.merging-returns-in_err-token-clause-reads
merging-returns-in_err-token-clause-reads t c =
    at_exit _ _ _ c.in_err-token.field-0.0 c.from_residual.ensures.1 (fails_word (begun_sole _ refl) c.in_err-token.ensures)

pub merging-returns-in_err-branches-clause-reads : goal.merging-returns-in_err-branches-clause-reads
merging-returns-in_err-branches-clause-reads t c =
    at_exit _ _ _ c.in_err-branches.field-0.0 c.from_residual-in_err-branches.ensures.1 (fails_part (past_word (begun_sole _ refl) c.in_ok-token.ensures) _ c.in_err-branches.ensures.reads)

pub merging-returns-clause-reads : goal.merging-returns-clause-reads
merging-returns-clause-reads t c =
    rw c.in_ok-merge.ensures (past_part (past_word (begun_sole _ refl) c.in_ok-token.ensures) c.in_ok-branches.ensures.reads)

pub merge_list-returns-in_err-first-clause-reads : goal.merge_list-returns-in_err-first-clause-reads
merge_list-returns-in_err-first-clause-reads t c =
    at_exit _ _ _ c.in_err-first.field-0.0 c.from_residual.ensures.1 (fails_part (begun_sole _ refl) _ c.in_err-first.ensures.reads)

pub merge_list-branches-init : goal.merge_list-branches-init
merge_list-branches-init t c = record {
  so_far = same_gives _ _ (λ us. first_one _ _ _ us.0 c.new-all.ensures c.in_ok-push.ensures.ok) (past_part (begun_sole _ refl) c.in_ok-first.ensures.reads);
  shorter = omega (arith, c.in_ok-first.ensures.shorter);
}

pub merge_list-returns-in_err-next-clause-reads : goal.merge_list-returns-in_err-next-clause-reads
merge_list-returns-in_err-next-clause-reads t c =
    at_exit _ _ _ c.in_err-next.field-0.0 c.from_residual-in_err-next.ensures.1 (fails_part c.branches.invariant.so_far _ (fails_part (begun_word (there here) merge_branch_begins c.in-Some.ensures) _ c.in_err-next.ensures.reads))

pub merge_list-branches-preserved : goal.merge_list-branches-preserved
merge_list-branches-preserved t c = record {
  so_far = same_gives _ _ (λ us. one_more _ _ _ us.0 c.in_ok-push-2.ensures.ok) (nest c.branches.invariant.so_far (past_part (begun_word (there here) merge_branch_begins c.in-Some.ensures) c.in_ok-next.ensures.reads));
  shorter = omega (arith, c.in_ok-next.ensures.shorter, c.branches.invariant.shorter);
}

pub merge_list-returns-clause-reads : goal.merge_list-returns-clause-reads
merge_list-returns-clause-reads t c =
    same_gives _ _ (λ us. append-nil c.branches.all) (nest c.branches.invariant.so_far (begun_empty here refl (merge_branches_first _ c.in_default.ensures)))

pub merge_branch-returns-in_err-open-clause-reads : goal.merge_branch-returns-in_err-open-clause-reads
merge_branch-returns-in_err-open-clause-reads t c =
    at_exit _ _ _ c.in_err-open.field-0.0 c.from_residual.ensures.1 (fails_word (begun_sole _ refl) c.in_err-open.ensures)

pub merge_branch-returns-in_err-counts-clause-reads : goal.merge_branch-returns-in_err-counts-clause-reads
merge_branch-returns-in_err-counts-clause-reads t c =
    at_exit _ _ _ c.in_err-counts.field-0.0 c.from_residual-in_err-counts.ensures.1 (fails_over (begun_sole _ refl) c.in_ok-open.ensures c.in_err-counts.ensures)

pub merge_branch-returns-in_err-tag-clause-reads : goal.merge_branch-returns-in_err-tag-clause-reads
merge_branch-returns-in_err-tag-clause-reads t c =
    at_exit _ _ _ c.in_err-tag.field-0.0 c.from_residual-in_err-tag.ensures.1 (fails_part (past (begun_sole _ refl) c.in_ok-open.ensures c.in_ok-counts.ensures) _ c.in_err-tag.ensures.reads)

pub merge_branch-returns-in_err-after-clause-reads : goal.merge_branch-returns-in_err-after-clause-reads
merge_branch-returns-in_err-after-clause-reads t c =
    at_exit _ _ _ c.in_err-after.field-0.0 c.from_residual-in_err-after.ensures.1 (fails_word (past_part (past (begun_sole _ refl) c.in_ok-open.ensures c.in_ok-counts.ensures) c.in_ok-tag.ensures.reads) c.in_err-after.ensures)

pub merge_branch-returns-in_err-value-clause-reads : goal.merge_branch-returns-in_err-value-clause-reads
merge_branch-returns-in_err-value-clause-reads t c =
    at_exit _ _ _ c.in_err-value.field-0.0 c.from_residual-in_err-value.ensures.1 (fails_part (past_word (past_part (past (begun_sole _ refl) c.in_ok-open.ensures c.in_ok-counts.ensures) c.in_ok-tag.ensures.reads) c.in_ok-after.ensures) _ c.in_err-value.ensures.reads)

pub merge_branch-returns-in_err-rest-clause-reads : goal.merge_branch-returns-in_err-rest-clause-reads
merge_branch-returns-in_err-rest-clause-reads t c =
    at_exit _ _ _ c.in_err-rest.field-0.0 c.from_residual-in_err-rest.ensures.1 (fails_word (past_part (past_word (past_part (past (begun_sole _ refl) c.in_ok-open.ensures c.in_ok-counts.ensures) c.in_ok-tag.ensures.reads) c.in_ok-after.ensures) c.in_ok-value.ensures.reads) c.in_err-rest.ensures)

pub merge_branch-returns-clause-reads : goal.merge_branch-returns-clause-reads
merge_branch-returns-clause-reads t c =
    placed (λ p. record { place = p; tag = c.in_ok-tag.tag; value = c.in_ok-value.value }) _ c.in_ok-open.ensures refl (past_word (past_part (past_word (past_part (past (begun_sole _ refl) c.in_ok-open.ensures c.in_ok-counts.ensures) c.in_ok-tag.ensures.reads) c.in_ok-after.ensures) c.in_ok-value.ensures.reads) c.in_ok-rest.ensures)

pub async_tail-returns-in_err-args-clause-reads : goal.async_tail-returns-in_err-args-clause-reads
async_tail-returns-in_err-args-clause-reads t c =
    at_exit _ _ _ c.in_err-args.field-0.0 c.from_residual.ensures.1 (fails_part (past_word (begun_word (there here) refl c.in-Some.ensures) c.in-Some.ensures) _ c.in_err-args.ensures.reads)

pub async_tail-returns-in-Some-clause-reads : goal.async_tail-returns-in-Some-clause-reads
async_tail-returns-in-Some-clause-reads t c =
    rw c.in_ok-async_call.ensures (past_part (past_word (begun_word (there here) refl c.in-Some.ensures) c.in-Some.ensures) c.in_ok-args.ensures.reads)

pub async_tail-returns-in_err-number-clause-reads : goal.async_tail-returns-in_err-number-clause-reads
async_tail-returns-in_err-number-clause-reads t c =
    at_exit _ _ _ c.in_err-number.field-0.0 c.from_residual-in_err-number.ensures.1 (fails_word (past_word (begun_word (there (there here)) refl c.in-Some-take.ensures) c.in-Some-take.ensures) c.in_err-number.ensures)

pub async_tail-returns-in_err-rest-clause-reads : goal.async_tail-returns-in_err-rest-clause-reads
async_tail-returns-in_err-rest-clause-reads t c =
    at_exit _ _ _ c.in_err-rest.field-0.0 c.from_residual-in_err-rest.ensures.1 (fails_word (past_word (past_word (begun_word (there (there here)) refl c.in-Some-take.ensures) c.in-Some-take.ensures) c.in_ok-number.ensures) c.in_err-rest.ensures)

pub async_tail-returns-in_err-name-clause-reads : goal.async_tail-returns-in_err-name-clause-reads
async_tail-returns-in_err-name-clause-reads t c =
    at_exit _ _ _ c.in_err-name.field-0.0 c.from_residual-in_err-name.ensures.1 (fails_word (past_word (past_word (past_word (begun_word (there (there here)) refl c.in-Some-take.ensures) c.in-Some-take.ensures) c.in_ok-number.ensures) c.in_ok-rest.ensures) c.in_err-name.ensures)

pub async_tail-returns-in_err-args-2-clause-reads : goal.async_tail-returns-in_err-args-2-clause-reads
async_tail-returns-in_err-args-2-clause-reads t c =
    at_exit _ _ _ c.in_err-args-2.field-0.0 c.from_residual-in_err-args-2.ensures.1 (fails_part (past_word (past_word (past_word (past_word (begun_word (there (there here)) refl c.in-Some-take.ensures) c.in-Some-take.ensures) c.in_ok-number.ensures) c.in_ok-rest.ensures) c.in_ok-name.ensures) _ c.in_err-args-2.ensures.reads)

pub async_tail-returns-in-Some-take-clause-reads : goal.async_tail-returns-in-Some-take-clause-reads
async_tail-returns-in-Some-take-clause-reads t c =
    rw c.in_ok-queued_call.ensures (past_part (past_word (past_word (past_word (past_word (begun_word (there (there here)) refl c.in-Some-take.ensures) c.in-Some-take.ensures) c.in_ok-number.ensures) c.in_ok-rest.ensures) c.in_ok-name.ensures) c.in_ok-args-2.ensures.reads)

pub async_tail-returns-in_err-value-clause-reads : goal.async_tail-returns-in_err-value-clause-reads
async_tail-returns-in_err-value-clause-reads t c =
    at_exit _ _ _ c.in_err-value.field-0.0 c.from_residual-in_err-value.ensures.1 (fails_part (begun_first refl refl (async_tail_front _ c.in_default.ensures c.in_default-take.ensures)) _ c.in_err-value.ensures.reads)

pub async_tail-returns-clause-reads : goal.async_tail-returns-clause-reads
async_tail-returns-clause-reads t c =
    past_part (begun_first refl refl (async_tail_front _ c.in_default.ensures c.in_default-take.ensures)) c.in_ok-value.ensures.reads

pub called-returns-in_err-inside-clause-reads : goal.called-returns-in_err-inside-clause-reads
called-returns-in_err-inside-clause-reads t c =
    at_exit _ _ _ c.in_err-inside.field-0.0 c.from_residual.ensures.1 (fails_word (begun_sole _ refl) c.in_err-inside.ensures)

pub called-returns-in_err-counts-clause-reads : goal.called-returns-in_err-counts-clause-reads
called-returns-in_err-counts-clause-reads t c =
    at_exit _ _ _ c.in_err-counts.field-0.0 c.from_residual-in_err-counts.ensures.1 (fails_over (begun_sole _ refl) c.in_ok-inside.ensures c.in_err-counts.ensures)

pub called-returns-in_err-args-clause-reads : goal.called-returns-in_err-args-clause-reads
called-returns-in_err-args-clause-reads t c =
    at_exit _ _ _ c.in_err-args.field-0.0 c.from_residual-in_err-args.ensures.1 (fails_part (past (begun_sole _ refl) c.in_ok-inside.ensures c.in_ok-counts.ensures) _ c.in_err-args.ensures.reads)

pub called-returns-in_err-rest-clause-reads : goal.called-returns-in_err-rest-clause-reads
called-returns-in_err-rest-clause-reads t c =
    at_exit _ _ _ c.in_err-rest.field-0.0 c.from_residual-in_err-rest.ensures.1 (fails_word (past_part (past (begun_sole _ refl) c.in_ok-inside.ensures c.in_ok-counts.ensures) c.in_ok-args.ensures.reads) c.in_err-rest.ensures)

pub called-returns-clause-reads : goal.called-returns-clause-reads
called-returns-clause-reads t c =
    past_word (past_part (past (begun_sole _ refl) c.in_ok-inside.ensures c.in_ok-counts.ensures) c.in_ok-args.ensures.reads) c.in_ok-rest.ensures
