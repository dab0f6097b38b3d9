use Rattle.hept_ast.specs.Faults.{is_bool, judge_expr}
use Rattle.std.proofs.Common.{ap, true, ◌∙◌, map}
use Rattle.std.specs.Option.{option_map_or}
use Rattle.type_futures.specs.Walk.{around_judging, faults_at, judging_at}
use Rattle.type_futures.proofs.Demands.{demand_noted}
use Rattle.earliest_fault.proofs.Noting.{noted_both}
use Rattle.type_futures.proofs.parts.note_transition.Goals as goal

pub returns : goal.returns
unfolding faults_at
returns c =
    let w = judging_at (around_judging c.args.around.now) (map (λ r. r.now) c.args.seen.now) c.args.strong in
    noted_both _ _ _ _ _
    (demand_noted w c.args.escape.now.place.0 (is_bool w) (judge_expr w c.args.escape.now.condition) c.is_condition-fits.result _ _ _ c.judge_expr-types.ensures.noted
    (c.is_condition-fits.ensures ∙ ap (λ r. option_map_or (is_bool w) r true) c.judge_expr-types.ensures.types) c.note_if.ensures)
    c.note_target.ensures
