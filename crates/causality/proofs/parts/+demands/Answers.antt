use Rattle.std.proofs.Common.{◌≡◌, ◌++◌, List, ℕ, ◌∙◌, OnOk, ap, map, subst, sym}
use Rattle.std.specs.List.{flat_map}
use Rattle.hept_ast.specs.Initial.{unmet_expr, unmet_outside}
use Rattle.hept_ast.specs.Parts.{block_sets}
use Rattle.hept_ast.specs.declared.tree.Block.{Block}
use Rattle.hept_ast.specs.declared.tree.Branch.{Branch}
use Rattle.hept_ast.specs.declared.tree.Escape.{Escape}
use Rattle.hept_ast.specs.declared.tree.State.{State}
use Rattle.causality.specs.Demands.{grades_from, unmet_last, unmet_in_block, unmet_in_equation, unmet_in_state}
use Rattle.causality.specs.Lowest.{lower, lowest}
use Rattle.causality.proofs.LowestOf.{lowest_step, lowest_both, lowest_joined, lowest-nil, lower-none}
use Rattle.causality.proofs.SeenDemands.{demand-Define, demand-Switch, demand-Reset, demand-Automaton, demand-block, demand-state}
use Rattle.causality.proofs.parts.+demands.Goals as goal

pub note_body-loop-equation-preserved : goal.note_body-loop-equation-preserved
note_body-loop-equation-preserved t c =
    lowest_step (unmet_in_equation (grades_from (map (λ r. r.now) c.args.nil.now)) (map (λ r. r.now) c.args.own.now) (map (λ r. r.now) c.args.inner.now))
    _ _ c.equation-item.result c.equation-item.result _ _ _ c.loop-equation-test.true c.loop-equation.invariant c.equation-item.is c.in_ok-note_equation.ensures

pub note_branches-loop-branch-preserved : goal.note_branches-loop-branch-preserved
note_branches-loop-branch-preserved t c =
    lowest_step (λ (b : Branch). unmet_in_block (grades_from (map (λ r. r.now) c.args.nil.now)) (map (λ r. r.now) c.args.own.now) (map (λ r. r.now) c.args.inner.now) b.block)
    _ _ c.branch-item.result c.branch-item.result _ _ _ c.loop-branch-test.true c.loop-branch.invariant c.branch-item.is c.in_ok-note_block.ensures

pub note_states-loop-state-preserved : goal.note_states-loop-state-preserved
note_states-loop-state-preserved t c =
    lowest_step (unmet_in_state (grades_from (map (λ r. r.now) c.args.nil.now)) (map (λ r. r.now) c.args.own.now) (map (λ r. r.now) c.args.inner.now) c.args.states.now)
    _ _ c.state-item.result c.state-item.result _ _ _ c.loop-state-test.true c.loop-state.invariant c.state-item.is c.in_ok-note_state.ensures

pub note_equation-returns-in-Define : goal.note_equation-returns-in-Define
note_equation-returns-in-Define t c = rw (c.in-Define.is, demand-Define, lowest-nil) (sym (lower-none _))

pub note_equation-returns-in_ok-note_branch_sets-in-Switch : goal.note_equation-returns-in_ok-note_branch_sets-in-Switch
note_equation-returns-in_ok-note_branch_sets-in-Switch t c =
    let g = grades_from (map (λ r. r.now) c.args.nil.now) in
    let own : _ = map (λ r. r.now) c.args.own.now in
    let inner : _ = map (λ r. r.now) c.args.inner.now in
    let sets : List Branch → List (List ℕ) = flat_map (λ (b : Branch). block_sets b.block) in
    rw (c.in-Switch.is, demand-Switch)
    (subst (λ t. OnOk c.note_branches.result (c.note_branches.new.found ≡ t))
    (lowest_joined (unmet_expr g c.in-Switch.on ++ unmet_outside g (inner ++ own) (sets c.in-Switch.branches)) (flat_map (λ (b : Branch). unmet_in_block g own inner b.block) c.in-Switch.branches)
    c.args.found.now c.note_branch_sets.new.found
    (lowest_both (unmet_expr g c.in-Switch.on) (unmet_outside g (inner ++ own) (sets c.in-Switch.branches)) _ _ _ c.note_expr.ensures
    (subst (λ bs. c.note_branch_sets.new.found ≡ lower c.note_expr.new.found (lowest (unmet_outside g (inner ++ own) (sets bs)))) c.as_slice.ensures c.in_ok-note_branch_sets-in-Switch.ensures)))
    (subst (λ bs. OnOk c.note_branches.result (c.note_branches.new.found ≡ lower c.note_branch_sets.new.found (lowest (flat_map (λ (b : Branch). unmet_in_block g own inner b.block) bs)))) c.as_slice-in-Switch.ensures c.note_branches.ensures))

pub note_equation-returns-in_ok-note_block_sets-in-Reset : goal.note_equation-returns-in_ok-note_block_sets-in-Reset
note_equation-returns-in_ok-note_block_sets-in-Reset t c =
    let g = grades_from (map (λ r. r.now) c.args.nil.now) in
    let own : _ = map (λ r. r.now) c.args.own.now in
    let inner : _ = map (λ r. r.now) c.args.inner.now in
    rw (c.in-Reset.is, demand-Reset)
    (subst (λ t. OnOk c.note_block.result (c.note_block.new.found ≡ t))
    (lowest_joined (unmet_expr g c.in-Reset.every ++ unmet_outside g (inner ++ own) (block_sets c.in-Reset.block)) (unmet_in_block g own inner c.in-Reset.block)
    c.args.found.now c.note_block_sets.new.found
    (lowest_both (unmet_expr g c.in-Reset.every) (unmet_outside g (inner ++ own) (block_sets c.in-Reset.block)) _ _ _ c.note_expr-in-Reset.ensures
    (subst (λ (b : Block). c.note_block_sets.new.found ≡ lower c.note_expr-in-Reset.new.found (lowest (unmet_outside g (inner ++ own) (block_sets b)))) c.get.ensures c.in_ok-note_block_sets-in-Reset.ensures)))
    (subst (λ (b : Block). OnOk c.note_block.result (c.note_block.new.found ≡ lower c.note_block_sets.new.found (lowest (unmet_in_block g own inner b)))) c.get-in-Reset.ensures c.note_block.ensures))

pub note_equation-returns-in_ok-note_state_sets-in-Automaton : goal.note_equation-returns-in_ok-note_state_sets-in-Automaton
note_equation-returns-in_ok-note_state_sets-in-Automaton t c =
    let g = grades_from (map (λ r. r.now) c.args.nil.now) in
    let own : _ = map (λ r. r.now) c.args.own.now in
    let inner : _ = map (λ r. r.now) c.args.inner.now in
    let sets : List State → List (List ℕ) = flat_map (λ (q : State). block_sets q.block) in
    rw (c.in-Automaton.is, demand-Automaton)
    (subst (λ t. OnOk c.note_states.result (c.note_states.new.found ≡ t))
    (lowest_joined (unmet_outside g (inner ++ own) (sets c.in-Automaton.states)) (flat_map (unmet_in_state g own inner c.in-Automaton.states) c.in-Automaton.states)
    c.args.found.now c.note_state_sets.new.found
    (subst (λ qs. c.note_state_sets.new.found ≡ lower c.args.found.now (lowest (unmet_outside g (inner ++ own) (sets qs)))) c.as_slice-in-Automaton.ensures c.in_ok-note_state_sets-in-Automaton.ensures))
    (subst (λ qs. OnOk c.note_states.result (c.note_states.new.found ≡ lower c.note_state_sets.new.found (lowest (flat_map (unmet_in_state g own inner qs) qs)))) c.as_slice-in-Automaton-2.ensures c.note_states.ensures))

pub note_block-returns : goal.note_block-returns
note_block-returns t c =
    let g = grades_from (map (λ r. r.now) c.args.nil.now) in
    let own : _ = map (λ r. r.now) c.args.own.now in
    let inner : _ = map (λ r. r.now) c.args.inner.now in
    let block = c.args.block.now in
    subst (λ t. OnOk c.note_body.result (c.note_body.new.found ≡ lower c.args.found.now (lowest t))) (sym (demand-block g own inner block))
    (subst (λ t. OnOk c.note_body.result (c.note_body.new.found ≡ t))
    (lowest_joined (flat_map (unmet_last g) block.locals) (flat_map (unmet_in_equation g own (block.locals ++ inner)) block.body) c.args.found.now c.note_lasts.new.found
    (subst (λ ds. c.note_lasts.new.found ≡ lower c.args.found.now (lowest (flat_map (unmet_last g) ds))) c.as_slice.ensures c.note_lasts.ensures))
    (subst (λ ds. OnOk c.note_body.result (c.note_body.new.found ≡ lower c.note_lasts.new.found (lowest (flat_map (unmet_in_equation g own ds) block.body))))
    (ap (map (λ r. r.now)) c.as_slice-3.ensures.value ∙ (c.in_ok-inside.ensures ∙ ap (λ ls. ls ++ inner) c.as_slice-2.ensures))
    (subst (λ es. OnOk c.note_body.result (c.note_body.new.found ≡ lower c.note_lasts.new.found (lowest (flat_map (unmet_in_equation g own (map (λ r. r.now) c.as_slice-3.result.now)) es)))) c.as_slice-4.ensures c.note_body.ensures)))

pub note_state-returns : goal.note_state-returns
note_state-returns t c =
    let g = grades_from (map (λ r. r.now) c.args.nil.now) in
    let own : _ = map (λ r. r.now) c.args.own.now in
    let inner : _ = map (λ r. r.now) c.args.inner.now in
    let q = c.args.state.now in
    let demands : List Escape → List ℕ = flat_map (λ (e : Escape). unmet_expr g e.condition) in
    subst (λ t. c.note_escapes-2.new.found ≡ lower c.args.found.now (lowest t)) (sym (demand-state g own inner c.args.states.now q))
    (lowest_both (unmet_in_block g own inner q.block ++ demands q.weak) (demands q.strong) _ _ _
    (lowest_both (unmet_in_block g own inner q.block) (demands q.weak) _ _ _ c.in_ok-note_block.ensures
    (subst (λ es. c.note_escapes.new.found ≡ lower c.note_block.new.found (lowest (demands es))) c.as_slice.ensures c.note_escapes.ensures))
    (subst (λ es. c.note_escapes-2.new.found ≡ lower c.note_escapes.new.found (lowest (demands es))) c.as_slice-2.ensures c.note_escapes-2.ensures))
