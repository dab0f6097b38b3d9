use Rattle.std.proofs.Common.{◌≡◌, ◌++◌, ◌∙◌, OnOk, [], ap, map, subst}
use Rattle.std.specs.List.{flat_map}
use Rattle.causality.specs.Demands.{grades_from, unmet_last, unmet_in_equation}
use Rattle.causality.specs.Lowest.{lower, lowest}
use Rattle.causality.proofs.LowestOf.{lowest_both, lowest_joined}
use Rattle.causality.proofs.initial.note_parts.Goals as goal

pub returns : goal.returns
returns c =
    let g = grades_from (map (λ r. r.now) c.args.nil.now) in
    let node = c.args.node.now in
    let own = node.block.locals ++ node.outputs ++ node.inputs in
    subst (λ t. OnOk c.note_body.result (c.note_body.new.found ≡ t))
    (lowest_joined (flat_map (unmet_last g) node.outputs ++ flat_map (unmet_last g) node.block.locals) (flat_map (unmet_in_equation g own []) node.block.body) c.args.found.now c.note_lasts-2.new.found
    (lowest_both (flat_map (unmet_last g) node.outputs) (flat_map (unmet_last g) node.block.locals) _ _ _
    (subst (λ ds. c.note_lasts.new.found ≡ lower c.args.found.now (lowest (flat_map (unmet_last g) ds))) c.as_slice.ensures c.note_lasts.ensures)
    (subst (λ ds. c.note_lasts-2.new.found ≡ lower c.note_lasts.new.found (lowest (flat_map (unmet_last g) ds))) c.as_slice-2.ensures c.note_lasts-2.ensures)))
    (subst (λ ds. OnOk c.note_body.result (c.note_body.new.found ≡ lower c.note_lasts-2.new.found (lowest (flat_map (unmet_in_equation g ds []) node.block.body))))
    (ap (map (λ r. r.now)) c.as_slice-3.ensures.value ∙ c.in_ok-own.ensures)
    (subst (λ es. OnOk c.note_body.result (c.note_body.new.found ≡ lower c.note_lasts-2.new.found (lowest (flat_map (unmet_in_equation g (map (λ r. r.now) c.as_slice-3.result.now) []) es)))) c.as_slice-4.ensures c.note_body.ensures))
