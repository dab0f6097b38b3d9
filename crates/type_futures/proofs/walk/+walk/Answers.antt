use Rattle.std.proofs.Common.{◌∙◌, ap, map, Bor, List}
use Rattle.hept_ast.specs.Limits.{earlier_of, earliest}
use Rattle.hept_ast.specs.Parts as part
use Rattle.hept_ast.specs.Parts.{equation_case}
use Rattle.hept_ast.specs.declared.tree.Decl.{Decl}
use Rattle.type_futures.specs.Walk.{around_judging, branch_faults, equation_faults, faults_at, state_faults}
use Rattle.earliest_fault.proofs.Noting.{noted_step, noted_whole}
use Rattle.type_futures.proofs.Walks.{inner_noted}
use Rattle.type_futures.proofs.walk.+walk.Goals as goal

pub note_branches-loop-branch-preserved : goal.note_branches-loop-branch-preserved
unfolding branch_faults
note_branches-loop-branch-preserved t c =
    noted_step (branch_faults (around_judging c.args.around.now) (map (λ r. r.now) c.args.seen.now)) _ _ c.branch-item.result c.branch-item.result _ _ _ c.loop-branch-test.true c.loop-branch.invariant c.branch-item.is c.in_ok-note_inner.ensures

pub note_states-loop-state-preserved : goal.note_states-loop-state-preserved
note_states-loop-state-preserved t c =
    noted_step (state_faults (around_judging c.args.around.now) (map (λ r. r.now) c.args.seen.now) c.args.states.now) _ _ c.state-item.result c.state-item.result _ _ _ c.loop-state-test.true c.loop-state.invariant c.state-item.is c.in_ok-note_state.ensures

pub note_inner-loop-equation-preserved : goal.note_inner-loop-equation-preserved
note_inner-loop-equation-preserved t c =
    let w = around_judging c.args.around.now in
    noted_step (equation_faults w (map (λ r. r.now) c.in_ok-inside.inside.items)) _ _ c.equation-item.result c.equation-item.result _ _ _ c.loop-equation-test.true c.loop-equation.invariant c.equation-item.is
    (c.in_ok-note_equation.ensures ∙ ap (λ (rs : List (Bor Decl)). earlier_of c.loop-equation.found (earliest (equation_faults w (map (λ r. r.now) rs) c.equation-item.result))) c.deref-in-loop-equation.ensures.value)

pub note_inner-returns : goal.note_inner-returns
note_inner-returns t c =
    let w = around_judging c.args.around.now in
    inner_noted w (map (λ r. r.now) c.args.seen.now) (map (λ r. r.now) c.in_ok-inside.inside.items) c.args.block.now c.as_slice.result.now c.as_slice-2.result.now c.as_slice-equation-items.result.now _ _ _
    c.in_ok-inside.ensures c.as_slice.ensures c.as_slice-2.ensures c.as_slice-equation-items.ensures
    (c.in_ok-note_own_block.ensures ∙ ap (λ (rs : List (Bor Decl)). earlier_of c.args.found.now (earliest (faults_at w (map (λ r. r.now) rs) (part.Block c.as_slice.result.now (map equation_case c.as_slice-2.result.now))))) c.deref.ensures.value)
    (noted_whole (equation_faults w (map (λ r. r.now) c.in_ok-inside.inside.items)) _ _ _ _ c.loop-equation-test.false c.loop-equation.invariant)
