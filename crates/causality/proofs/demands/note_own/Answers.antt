use Rattle.hept_ast.specs.Initial.{unmet, unmet_expr}
use Rattle.hept_ast.specs.declared.tree.MergeBranch.{MergeBranch}
use Rattle.std.proofs.Common.{◌≡◌, map, subst}
use Rattle.std.specs.List.{flat_map}
use Rattle.causality.specs.Demands.{grades_from}
use Rattle.causality.specs.Lowest.{lower, lowest}
use Rattle.causality.proofs.LowestOf.{lowest_both}
use Rattle.causality.proofs.DemandsOf.{unmet-Fby, unmet-Pre, unmet-Merge, unmet-Call, unmet-AsyncCall}
use Rattle.causality.proofs.demands.note_own.Goals as goal

pub returns-in-Fby : goal.returns-in-Fby
returns-in-Fby c = rw (c.in-Fby.is, unmet-Fby, ← c.get.ensures) c.note_expr.ensures

pub returns-in-Pre : goal.returns-in-Pre
returns-in-Pre c = rw (c.in-Pre.is, unmet-Pre, ← c.get-in-Pre.ensures) c.note_expr-in-Pre.ensures

pub returns-in-Merge : goal.returns-in-Merge
returns-in-Merge c =
    let g = grades_from (map (λ r. r.now) c.args.nil.now) in
    rw (c.in-Merge.is, unmet-Merge)
    (lowest_both (unmet c.args.e.now.place.0 (g c.in-Merge.x)) (flat_map (λ (b : MergeBranch). unmet_expr g b.value) c.in-Merge.branches) _ _ _ c.note_name-in-Merge.ensures
    (subst (λ bs. c.note_merged.new.found ≡ lower c.note_name-in-Merge.new.found (lowest (flat_map (λ (b : MergeBranch). unmet_expr g b.value) bs))) c.as_slice.ensures c.note_merged.ensures))

pub returns-in-Call : goal.returns-in-Call
returns-in-Call c = rw (c.in-Call.is, unmet-Call, ← c.as_slice-in-Call.ensures) c.note_each.ensures

pub returns-in-AsyncCall : goal.returns-in-AsyncCall
returns-in-AsyncCall c = rw (c.in-AsyncCall.is, unmet-AsyncCall, ← c.as_slice-in-AsyncCall.ensures) c.note_each-in-AsyncCall.ensures
