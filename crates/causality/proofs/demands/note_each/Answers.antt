use Rattle.std.proofs.Common.{map}
use Rattle.hept_ast.specs.Initial.{unmet_expr}
use Rattle.causality.specs.Demands.{grades_from}
use Rattle.causality.proofs.LowestOf.{lowest_step}
use Rattle.causality.proofs.demands.note_each.Goals as goal

pub loop-e-preserved : goal.loop-e-preserved
loop-e-preserved c = lowest_step (unmet_expr (grades_from (map (λ r. r.now) c.args.nil.now))) _ _ c.e-item.result c.e-item.result _ _ _ c.loop-e-test.true c.loop-e.invariant c.e-item.is c.note_expr.ensures
