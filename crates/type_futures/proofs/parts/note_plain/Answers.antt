use Rattle.std.proofs.Common.{List, [], ap, map, true, ◌∙◌, ◌++◌, false}
use Rattle.std.specs.List.{flat_map}
use Rattle.std.specs.Option.{option_map, option_map_or}
use Rattle.hept_ast.specs.Faults.{demanded, fits_left, judge_expr, left_faults, left_types, seconds}
use Rattle.hept_ast.specs.Limits.{earlier_of, earliest}
use Rattle.hept_ast.specs.Texts.{same}
use Rattle.hept_ast.specs.declared.tree.Decl.{Decl}
use Rattle.block_definitions.specs.Defined.{left_faults_by}
use Rattle.earliest_fault.specs.Labels.{names_at}
use Rattle.type_futures.specs.Walk.{around_judging, faults_at, judging_at}
use Rattle.declared_types.specs.Types.{types_in}
use Rattle.type_futures.proofs.Demands.{demand_noted, fits_left-is}
use Rattle.earliest_fault.proofs.Noting.{noted_both}
use Rattle.type_futures.proofs.parts.note_plain.Goals as goal

pub returns : goal.returns
unfolding faults_at
returns c =
    let w = judging_at (around_judging c.args.around.now) (map (λ r. r.now) c.args.seen.now) false in
    let p = c.args.place.0 in
    let left = c.args.left.now in
    let j = judge_expr w c.args.right.now in
    noted_both (flat_map (left_faults w p) left ++ seconds same [] (names_at p left)) (demanded w p (fits_left w (left_types w left)) j) _ _ _
    (noted_both (flat_map (left_faults w p) left) (seconds same [] (names_at p left)) _ _ _
    (c.note_left_side.ensures ∙ ap (λ (ds : List Decl). earlier_of c.args.found.now (earliest (flat_map (left_faults_by ds w.seen p) left))) c.as_slice.ensures)
    c.in_ok-note_second_names.ensures)
    (demand_noted w p (fits_left w (left_types w left)) j c.fit_names-fits.result _ _ _ c.judge_expr-types.ensures.noted
    (c.fit_names-fits.ensures ∙ (fits_left-is w left (option_map types_in c.judge_expr-types.result) ∙ ap (λ r. option_map_or (fits_left w (left_types w left)) r true) c.judge_expr-types.ensures.types))
    c.note_if.ensures)
