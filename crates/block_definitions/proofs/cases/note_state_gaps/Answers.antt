use Rattle.std.proofs.Common.{◌≡◌, ◌++◌, ◌∙◌, ap, map, subst}
use Rattle.std.specs.Prelude.{OnOk}
use Rattle.std.specs.List.{flat_map}
use Rattle.hept_ast.specs.Limits.{earlier_of, earliest}
use Rattle.hept_ast.specs.Parts.{block_sets}
use Rattle.hept_ast.specs.declared.tree.State.{State}
use Rattle.block_definitions.proofs.CaseLists.{gaps_of_states}
use Rattle.block_definitions.proofs.cases.note_state_gaps.Goals as goal

pub returns : goal.returns
returns c =
    let e = gaps_of_states (map (λ r. r.now) c.args.seen.now) (map (λ r. r.now) c.as_slice.result.now) c.args.states.now
    (ap (map (λ r. r.now)) c.as_slice.ensures.value ∙ (c.in_ok-push_state_sets.ensures ∙ ap (λ t. map (λ r. r.now) t ++ flat_map (λ (q : State). block_sets q.block) c.args.states.now) c.new-all.ensures.items)) in
    subst (λ t. OnOk c.note_each_state.result (c.note_each_state.new.found ≡ earlier_of c.args.found.now (earliest t))) e c.note_each_state.ensures
