use Rattle.std.proofs.Common.{[], ap, map, true, ◌∙◌, ◌++◌, sym, false}
use Rattle.std.specs.List.{flat_map}
use Rattle.std.specs.Option.{option_map, option_map_or}
use Rattle.hept_ast.specs.Faults.{can_branch, demanded, gap_faults, judge_expr, labels, lack_faults, one_type, seconds, tag_faults}
use Rattle.hept_ast.specs.Parts.{branch_case}
use Rattle.hept_ast.specs.Types.{same_tag}
use Rattle.type_futures.specs.Walk.{around_judging, faults_at, judging_at}
use Rattle.declared_types.specs.Tags.{branch_tag_faults, lack_fault}
use Rattle.declared_types.specs.Types.{types_in}
use Rattle.block_definitions.proofs.CaseLists.{branch_labels}
use Rattle.type_futures.proofs.Demands.{can_branch-is, demand_noted, lack_is, only_of-is, tags_are}
use Rattle.earliest_fault.proofs.Noting.{also_noted, noted_then}
use Rattle.type_futures.proofs.parts.note_switch.Goals as goal

pub returns : goal.returns
unfolding faults_at
returns c =
    let w = judging_at (around_judging c.args.around.now) (map (λ r. r.now) c.args.seen.now) false in
    let p = c.args.place.0 in
    let bs = c.args.branches.now in
    let cases = map branch_case bs in
    let j = judge_expr w c.args.on.now in
    let type = one_type w j.types in
    let held = c.only_type-held.ensures ∙ (only_of-is w (option_map types_in c.judge_expr-types.result) ∙ ap (one_type w) c.judge_expr-types.ensures.types) in
    let asked = demanded w p (can_branch w) j in
    let tags = flat_map (λ k. tag_faults w k.place k.label type) cases in
    let twice = seconds same_tag [] (labels cases) in
    let lacks = lack_faults w p (map (λ k. k.label) cases) type in
    also_noted (asked ++ tags ++ twice ++ lacks) (gap_faults w cases) _ _ _ c.note_branch_gaps.result
    (noted_then (asked ++ tags ++ twice) lacks _ _ _ _ (ap (lack_fault w.types p bs) held ∙ lack_is w p bs type)
    (noted_then (asked ++ tags) twice _ _ _ _ (ap (seconds same_tag []) (sym (branch_labels bs)))
    (noted_then asked tags _ _ _ _ (ap (λ t. branch_tag_faults w.types t bs) held ∙ tags_are w bs type)
    (demand_noted w p (can_branch w) j c.has_branches-fits.result _ _ _ c.judge_expr-types.ensures.noted
    (c.has_branches-fits.ensures ∙ (can_branch-is w (option_map types_in c.judge_expr-types.result) ∙ ap (λ r. option_map_or (can_branch w) r true) c.judge_expr-types.ensures.types))
    c.note_if.ensures)
    c.note_tags.ensures) c.note_second_tags.ensures) c.note_lacking.ensures)
    c.note_branch_gaps.ensures
