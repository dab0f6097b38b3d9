use Rattle.std.proofs.Common.{refl, sym, ap, append-nil, arith, length, ◌∙◌, ◌∷◌, []}
use Rattle.hept_ast.specs.declared.tree.Equation as equation
use Rattle.ept_grammar.specs.Grammar.{here, there}
use Rattle.ept_grammar.proofs.Steps.{placed, nest, same_gives, at_exit, begun_word, begun_first, begun_sole, begun_empty, fails_over, fails_part, fails_word, past, past_part, past_word}
use Rattle.ept_grammar.proofs.Words.{branches_first, states_first, more_eqs_first, eq_front, eqs_begun, eqs_first, branch_begins, state_begins}
use Rattle.ept_steps.proofs.Lists.{one_more, first_one}
use Rattle.ept_programs.proofs.equations.+eqs.Goals as goal

pub equations-returns-in_err-next-clause-reads : goal.equations-returns-in_err-next-clause-reads
equations-returns-in_err-next-clause-reads t c =
    at_exit _ _ _ c.in_err-next.field-0.0 c.from_residual.ensures.1 (fails_part c.equations.invariant.so_far _ (fails_part (eqs_begun (sym c.starts_equation.ensures ∙ c.equations-test.true)) _ c.in_err-next.ensures.reads))

pub equations-returns-in-None-clause-reads : goal.equations-returns-in-None-clause-reads
equations-returns-in-None-clause-reads t c =
    same_gives _ _ (λ us. sym c.in_ok-push.ensures.ok) (nest c.equations.invariant.so_far (past_part (past_part (eqs_begun (sym c.starts_equation.ensures ∙ c.equations-test.true)) c.in_ok-next.ensures.reads) (begun_empty here refl (more_eqs_first _ c.in-None.ensures))))

pub equations-equations-preserved : goal.equations-equations-preserved
equations-equations-preserved t c = record {
  so_far = same_gives _ _ (λ us. one_more _ _ _ us.0 c.in_ok-push.ensures.ok) (nest c.equations.invariant.so_far (nest (past_part (eqs_begun (sym c.starts_equation.ensures ∙ c.equations-test.true)) c.in_ok-next.ensures.reads) (past_word (begun_word (there here) refl c.in-Some.ensures) c.in-Some.ensures)));
  shorter = omega (arith, c.in_ok-next.ensures.shorter, c.equations.invariant.shorter, ap length c.in-Some.ensures.0);
}

pub equations-returns-clause-reads : goal.equations-returns-clause-reads
equations-returns-clause-reads t c =
    same_gives _ _ (λ us. append-nil c.equations.all) (nest c.equations.invariant.so_far (begun_empty here refl (eqs_first _ (sym c.starts_equation.ensures ∙ c.equations-test.false))))

pub equation-returns-in_err-left-clause-reads : goal.equation-returns-in_err-left-clause-reads
equation-returns-in_err-left-clause-reads t c =
    at_exit _ _ _ c.in_err-left.field-0.0 c.from_residual.ensures.1 (fails_part (past_word (begun_word (there here) refl c.in-Some.ensures) c.in-Some.ensures) _ c.in_err-left.ensures.reads)

pub equation-returns-in-Some-clause-reads : goal.equation-returns-in-Some-clause-reads
equation-returns-in-Some-clause-reads t c =
    placed (λ p. equation.Define p c.in_ok-left.left c.in_ok-left.right) _ c.in-Some.ensures refl (past_part (past_word (begun_word (there here) refl c.in-Some.ensures) c.in-Some.ensures) c.in_ok-left.ensures.reads)

pub equation-returns-in_err-counts-clause-reads : goal.equation-returns-in_err-counts-clause-reads
equation-returns-in_err-counts-clause-reads t c =
    at_exit _ _ _ c.in_err-counts.field-0.0 c.from_residual-in_err-counts.ensures.1 (fails_over (begun_word (there (there here)) refl c.in-Some-take.ensures) c.in-Some-take.ensures c.in_err-counts.ensures)

pub equation-returns-in_err-on-clause-reads : goal.equation-returns-in_err-on-clause-reads
equation-returns-in_err-on-clause-reads t c =
    at_exit _ _ _ c.in_err-on.field-0.0 c.from_residual-in_err-on.ensures.1 (fails_part (past (begun_word (there (there here)) refl c.in-Some-take.ensures) c.in-Some-take.ensures c.in_ok-counts.ensures) _ c.in_err-on.ensures.reads)

pub equation-returns-in-Some-take-clause-reads : goal.equation-returns-in-Some-take-clause-reads
equation-returns-in-Some-take-clause-reads t c =
    placed (λ p. equation.Switch p c.in_ok-on.on c.in_ok-on.branches) _ c.in-Some-take.ensures refl (past_part (past (begun_word (there (there here)) refl c.in-Some-take.ensures) c.in-Some-take.ensures c.in_ok-counts.ensures) c.in_ok-on.ensures.reads)

pub equation-returns-in_err-counts-2-clause-reads : goal.equation-returns-in_err-counts-2-clause-reads
equation-returns-in_err-counts-2-clause-reads t c =
    at_exit _ _ _ c.in_err-counts-2.field-0.0 c.from_residual-in_err-counts-2.ensures.1 (fails_over (begun_word (there (there (there here))) refl c.in-Some-take-2.ensures) c.in-Some-take-2.ensures c.in_err-counts-2.ensures)

pub equation-returns-in_err-block-clause-reads : goal.equation-returns-in_err-block-clause-reads
equation-returns-in_err-block-clause-reads t c =
    at_exit _ _ _ c.in_err-block.field-0.0 c.from_residual-in_err-block.ensures.1 (fails_part (past (begun_word (there (there (there here))) refl c.in-Some-take-2.ensures) c.in-Some-take-2.ensures c.in_ok-counts-2.ensures) _ c.in_err-block.ensures.reads)

pub equation-returns-in-Some-take-2-clause-reads : goal.equation-returns-in-Some-take-2-clause-reads
equation-returns-in-Some-take-2-clause-reads t c =
    placed (λ p. equation.Reset p c.in_ok-block.block c.in_ok-block.every) _ c.in-Some-take-2.ensures (ap (λ b. equation.Reset c.in-Some-take-2.word.now.place b c.in_ok-block.every) c.in_ok-block-2.ensures) (past_part (past (begun_word (there (there (there here))) refl c.in-Some-take-2.ensures) c.in-Some-take-2.ensures c.in_ok-counts-2.ensures) c.in_ok-block.ensures.reads)

pub equation-returns-in_err-counts-3-clause-reads : goal.equation-returns-in_err-counts-3-clause-reads
equation-returns-in_err-counts-3-clause-reads t c =
    at_exit _ _ _ c.in_err-counts-3.field-0.0 c.from_residual-in_err-counts-3.ensures.1 (fails_over (begun_word (there (there (there (there here)))) refl c.in-Some-take-3.ensures) c.in-Some-take-3.ensures c.in_err-counts-3.ensures)

pub equation-returns-in_err-states-clause-reads : goal.equation-returns-in_err-states-clause-reads
equation-returns-in_err-states-clause-reads t c =
    at_exit _ _ _ c.in_err-states.field-0.0 c.from_residual-in_err-states.ensures.1 (fails_part (past (begun_word (there (there (there (there here)))) refl c.in-Some-take-3.ensures) c.in-Some-take-3.ensures c.in_ok-counts-3.ensures) _ c.in_err-states.ensures.reads)

pub equation-returns-in_err-end-clause-reads : goal.equation-returns-in_err-end-clause-reads
equation-returns-in_err-end-clause-reads t c =
    at_exit _ _ _ c.in_err-end.field-0.0 c.from_residual-in_err-end.ensures.1 (fails_word (past_part (past (begun_word (there (there (there (there here)))) refl c.in-Some-take-3.ensures) c.in-Some-take-3.ensures c.in_ok-counts-3.ensures) c.in_ok-states.ensures.reads) c.in_err-end.ensures)

pub equation-returns-in-Some-take-3-clause-reads : goal.equation-returns-in-Some-take-3-clause-reads
equation-returns-in-Some-take-3-clause-reads t c =
    placed (λ p. equation.Automaton p c.in_ok-states.states) _ c.in-Some-take-3.ensures refl (past (past_part (past (begun_word (there (there (there (there here)))) refl c.in-Some-take-3.ensures) c.in-Some-take-3.ensures c.in_ok-counts-3.ensures) c.in_ok-states.ensures.reads) c.in_ok-end.ensures (refl, c.closed.ensures))

pub equation-returns-in_err-name-clause-reads : goal.equation-returns-in_err-name-clause-reads
equation-returns-in_err-name-clause-reads t c =
    at_exit _ _ _ c.in_err-name.field-0.0 c.from_residual-in_err-name.ensures.1 (fails_word (begun_first refl refl (eq_front _ c.in_default.ensures c.in_default-take.ensures c.in_default-take-2.ensures c.in_default-take-3.ensures)) c.in_err-name.ensures)

pub equation-returns-in_err-after-clause-reads : goal.equation-returns-in_err-after-clause-reads
equation-returns-in_err-after-clause-reads t c =
    at_exit _ _ _ c.in_err-after.field-0.0 c.from_residual-in_err-after.ensures.1 (fails_word (past_word (begun_first refl refl (eq_front _ c.in_default.ensures c.in_default-take.ensures c.in_default-take-2.ensures c.in_default-take-3.ensures)) c.in_ok-name.ensures) c.in_err-after.ensures)

pub equation-returns-in_err-right-clause-reads : goal.equation-returns-in_err-right-clause-reads
equation-returns-in_err-right-clause-reads t c =
    at_exit _ _ _ c.in_err-right.field-0.0 c.from_residual-in_err-right.ensures.1 (fails_part (past (past_word (begun_first refl refl (eq_front _ c.in_default.ensures c.in_default-take.ensures c.in_default-take-2.ensures c.in_default-take-3.ensures)) c.in_ok-name.ensures) c.in_ok-after.ensures (refl, c.fresh.ensures)) _ c.in_err-right.ensures.reads)

pub equation-returns-clause-reads : goal.equation-returns-clause-reads
equation-returns-clause-reads t c =
    placed (λ p. equation.Define p (c.in_ok-name.name.now.name ∷ []) c.in_ok-right.right) _ c.in_ok-name.ensures (ap (λ x. equation.Define c.in_ok-name.name.now.place x c.in_ok-right.right) c.in_ok-left-2.ensures) (past_part (past (past_word (begun_first refl refl (eq_front _ c.in_default.ensures c.in_default-take.ensures c.in_default-take-2.ensures c.in_default-take-3.ensures)) c.in_ok-name.ensures) c.in_ok-after.ensures (refl, c.fresh.ensures)) c.in_ok-right.ensures.reads)

pub switching-returns-in_err-on-clause-reads : goal.switching-returns-in_err-on-clause-reads
switching-returns-in_err-on-clause-reads t c =
    at_exit _ _ _ c.in_err-on.field-0.0 c.from_residual.ensures.1 (fails_part (begun_sole _ refl) _ c.in_err-on.ensures.reads)

pub switching-returns-in_err-branches-clause-reads : goal.switching-returns-in_err-branches-clause-reads
switching-returns-in_err-branches-clause-reads t c =
    at_exit _ _ _ c.in_err-branches.field-0.0 c.from_residual-in_err-branches.ensures.1 (fails_part (past_part (begun_sole _ refl) c.in_ok-on.ensures.reads) _ c.in_err-branches.ensures.reads)

pub switching-returns-in_err-end-clause-reads : goal.switching-returns-in_err-end-clause-reads
switching-returns-in_err-end-clause-reads t c =
    at_exit _ _ _ c.in_err-end.field-0.0 c.from_residual-in_err-end.ensures.1 (fails_word (past_part (past_part (begun_sole _ refl) c.in_ok-on.ensures.reads) c.in_ok-branches.ensures.reads) c.in_err-end.ensures)

pub switching-returns-clause-reads : goal.switching-returns-clause-reads
switching-returns-clause-reads t c =
    past (past_part (past_part (begun_sole _ refl) c.in_ok-on.ensures.reads) c.in_ok-branches.ensures.reads) c.in_ok-end.ensures (refl, c.closed.ensures)

pub branch_list-returns-in_err-first-clause-reads : goal.branch_list-returns-in_err-first-clause-reads
branch_list-returns-in_err-first-clause-reads t c =
    at_exit _ _ _ c.in_err-first.field-0.0 c.from_residual.ensures.1 (fails_part (begun_sole _ refl) _ c.in_err-first.ensures.reads)

pub branch_list-branches-init : goal.branch_list-branches-init
branch_list-branches-init t c = record {
  so_far = same_gives _ _ (λ us. first_one _ _ _ us.0 c.new-all.ensures c.in_ok-push.ensures.ok) (past_part (begun_sole _ refl) c.in_ok-first.ensures.reads);
  shorter = omega (arith, c.in_ok-first.ensures.shorter);
}

pub branch_list-returns-in_err-next-clause-reads : goal.branch_list-returns-in_err-next-clause-reads
branch_list-returns-in_err-next-clause-reads t c =
    at_exit _ _ _ c.in_err-next.field-0.0 c.from_residual-in_err-next.ensures.1 (fails_part c.branches.invariant.so_far _ (fails_part (begun_word (there here) branch_begins c.in-Some.ensures) _ c.in_err-next.ensures.reads))

pub branch_list-branches-preserved : goal.branch_list-branches-preserved
branch_list-branches-preserved t c = record {
  so_far = same_gives _ _ (λ us. one_more _ _ _ us.0 c.in_ok-push-2.ensures.ok) (nest c.branches.invariant.so_far (past_part (begun_word (there here) branch_begins c.in-Some.ensures) c.in_ok-next.ensures.reads));
  shorter = omega (arith, c.in_ok-next.ensures.shorter, c.branches.invariant.shorter);
}

pub branch_list-returns-clause-reads : goal.branch_list-returns-clause-reads
branch_list-returns-clause-reads t c =
    same_gives _ _ (λ us. append-nil c.branches.all) (nest c.branches.invariant.so_far (begun_empty here refl (branches_first _ c.in_default.ensures)))

pub branch-returns-in_err-bar-clause-reads : goal.branch-returns-in_err-bar-clause-reads
branch-returns-in_err-bar-clause-reads t c =
    at_exit _ _ _ c.in_err-bar.field-0.0 c.from_residual.ensures.1 (fails_word (begun_sole _ refl) c.in_err-bar.ensures)

pub branch-returns-in_err-tag-clause-reads : goal.branch-returns-in_err-tag-clause-reads
branch-returns-in_err-tag-clause-reads t c =
    at_exit _ _ _ c.in_err-tag.field-0.0 c.from_residual-in_err-tag.ensures.1 (fails_part (past_word (begun_sole _ refl) c.in_ok-bar.ensures) _ c.in_err-tag.ensures.reads)

pub branch-returns-in_err-after-clause-reads : goal.branch-returns-in_err-after-clause-reads
branch-returns-in_err-after-clause-reads t c =
    at_exit _ _ _ c.in_err-after.field-0.0 c.from_residual-in_err-after.ensures.1 (fails_word (past_part (past_word (begun_sole _ refl) c.in_ok-bar.ensures) c.in_ok-tag.ensures.reads) c.in_err-after.ensures)

pub branch-returns-in_err-block-clause-reads : goal.branch-returns-in_err-block-clause-reads
branch-returns-in_err-block-clause-reads t c =
    at_exit _ _ _ c.in_err-block.field-0.0 c.from_residual-in_err-block.ensures.1 (fails_part (past_word (past_part (past_word (begun_sole _ refl) c.in_ok-bar.ensures) c.in_ok-tag.ensures.reads) c.in_ok-after.ensures) _ c.in_err-block.ensures.reads)

pub branch-returns-clause-reads : goal.branch-returns-clause-reads
branch-returns-clause-reads t c =
    placed (λ p. record { place = p; tag = c.in_ok-tag.tag; block = c.in_ok-block.block }) _ c.in_ok-bar.ensures refl (past_part (past_word (past_part (past_word (begun_sole _ refl) c.in_ok-bar.ensures) c.in_ok-tag.ensures.reads) c.in_ok-after.ensures) c.in_ok-block.ensures.reads)

pub block-returns-in_err-locals-clause-reads : goal.block-returns-in_err-locals-clause-reads
block-returns-in_err-locals-clause-reads t c =
    at_exit _ _ _ c.in_err-locals.field-0.0 c.from_residual.ensures.1 (fails_part (begun_sole _ refl) _ c.in_err-locals.ensures.reads)

pub block-returns-in_err-body-clause-reads : goal.block-returns-in_err-body-clause-reads
block-returns-in_err-body-clause-reads t c =
    at_exit _ _ _ c.in_err-body.field-0.0 c.from_residual-in_err-body.ensures.1 (fails_part (past_part (begun_sole _ refl) c.in_ok-locals.ensures.reads) _ c.in_err-body.ensures.reads)

pub block-returns-clause-reads : goal.block-returns-clause-reads
block-returns-clause-reads t c =
    past_part (past_part (begun_sole _ refl) c.in_ok-locals.ensures.reads) c.in_ok-body.ensures.reads

pub resetting-returns-in_err-block-clause-reads : goal.resetting-returns-in_err-block-clause-reads
resetting-returns-in_err-block-clause-reads t c =
    at_exit _ _ _ c.in_err-block.field-0.0 c.from_residual.ensures.1 (fails_part (begun_sole _ refl) _ c.in_err-block.ensures.reads)

pub resetting-returns-in_err-after-clause-reads : goal.resetting-returns-in_err-after-clause-reads
resetting-returns-in_err-after-clause-reads t c =
    at_exit _ _ _ c.in_err-after.field-0.0 c.from_residual-in_err-after.ensures.1 (fails_word (past_part (begun_sole _ refl) c.in_ok-block.ensures.reads) c.in_err-after.ensures)

pub resetting-returns-in_err-every-clause-reads : goal.resetting-returns-in_err-every-clause-reads
resetting-returns-in_err-every-clause-reads t c =
    at_exit _ _ _ c.in_err-every.field-0.0 c.from_residual-in_err-every.ensures.1 (fails_part (past (past_part (begun_sole _ refl) c.in_ok-block.ensures.reads) c.in_ok-after.ensures (refl, c.closed_fresh.ensures)) _ c.in_err-every.ensures.reads)

pub resetting-returns-clause-reads : goal.resetting-returns-clause-reads
resetting-returns-clause-reads t c =
    past_part (past (past_part (begun_sole _ refl) c.in_ok-block.ensures.reads) c.in_ok-after.ensures (refl, c.closed_fresh.ensures)) c.in_ok-every.ensures.reads

pub state_list-returns-in_err-first-clause-reads : goal.state_list-returns-in_err-first-clause-reads
state_list-returns-in_err-first-clause-reads t c =
    at_exit _ _ _ c.in_err-first.field-0.0 c.from_residual.ensures.1 (fails_part (begun_sole _ refl) _ c.in_err-first.ensures.reads)

pub state_list-states-init : goal.state_list-states-init
state_list-states-init t c = record {
  so_far = same_gives _ _ (λ us. first_one _ _ _ us.0 c.new-all.ensures c.in_ok-push.ensures.ok) (past_part (begun_sole _ refl) c.in_ok-first.ensures.reads);
  shorter = omega (arith, c.in_ok-first.ensures.shorter);
}

pub state_list-returns-in_err-next-clause-reads : goal.state_list-returns-in_err-next-clause-reads
state_list-returns-in_err-next-clause-reads t c =
    at_exit _ _ _ c.in_err-next.field-0.0 c.from_residual-in_err-next.ensures.1 (fails_part c.states.invariant.so_far _ (fails_part (begun_word (there here) state_begins c.in-Some.ensures) _ c.in_err-next.ensures.reads))

pub state_list-states-preserved : goal.state_list-states-preserved
state_list-states-preserved t c = record {
  so_far = same_gives _ _ (λ us. one_more _ _ _ us.0 c.in_ok-push-2.ensures.ok) (nest c.states.invariant.so_far (past_part (begun_word (there here) state_begins c.in-Some.ensures) c.in_ok-next.ensures.reads));
  shorter = omega (arith, c.in_ok-next.ensures.shorter, c.states.invariant.shorter);
}

pub state_list-returns-clause-reads : goal.state_list-returns-clause-reads
state_list-returns-clause-reads t c =
    same_gives _ _ (λ us. append-nil c.states.all) (nest c.states.invariant.so_far (begun_empty here refl (states_first _ c.in_default.ensures)))

pub state-returns-in_err-word-clause-reads : goal.state-returns-in_err-word-clause-reads
state-returns-in_err-word-clause-reads t c =
    at_exit _ _ _ c.in_err-word.field-0.0 c.from_residual.ensures.1 (fails_word (begun_sole _ refl) c.in_err-word.ensures)

pub state-returns-in_err-title-clause-reads : goal.state-returns-in_err-title-clause-reads
state-returns-in_err-title-clause-reads t c =
    at_exit _ _ _ c.in_err-title.field-0.0 c.from_residual-in_err-title.ensures.1 (fails_word (past_word (begun_sole _ refl) c.in_ok-word.ensures) c.in_err-title.ensures)

pub state-returns-in_err-after-clause-reads : goal.state-returns-in_err-after-clause-reads
state-returns-in_err-after-clause-reads t c =
    at_exit _ _ _ c.in_err-after.field-0.0 c.from_residual-in_err-after.ensures.1 (fails_word (past_word (past_word (begun_sole _ refl) c.in_ok-word.ensures) c.in_ok-title.ensures) c.in_err-after.ensures)

pub state-returns-in_err-block-clause-reads : goal.state-returns-in_err-block-clause-reads
state-returns-in_err-block-clause-reads t c =
    at_exit _ _ _ c.in_err-block.field-0.0 c.from_residual-in_err-block.ensures.1 (fails_part (past_word (past_word (past_word (begun_sole _ refl) c.in_ok-word.ensures) c.in_ok-title.ensures) c.in_ok-after.ensures) _ c.in_err-block.ensures.reads)

pub state-returns-in_err-weak-clause-reads : goal.state-returns-in_err-weak-clause-reads
state-returns-in_err-weak-clause-reads t c =
    at_exit _ _ _ c.in_err-weak.field-0.0 c.from_residual-in_err-weak.ensures.1 (fails_part (past_part (past_word (past_word (past_word (begun_sole _ refl) c.in_ok-word.ensures) c.in_ok-title.ensures) c.in_ok-after.ensures) c.in_ok-block.ensures.reads) _ c.in_err-weak.ensures.reads)

pub state-returns-clause-reads : goal.state-returns-clause-reads
state-returns-clause-reads t c =
    placed (λ p. record { place = p; name = c.in_ok-name.name; block = c.in_ok-block.block; weak = c.in_ok-weak.weak; strong = c.in_ok-weak.strong }) _ c.in_ok-word.ensures refl (rw c.in_ok-name.ensures (past_part (past_part (past_word (past_word (past_word (begun_sole _ refl) c.in_ok-word.ensures) c.in_ok-title.ensures) c.in_ok-after.ensures) c.in_ok-block.ensures.reads) c.in_ok-weak.ensures.reads))
