use Rattle.std.proofs.Common.{map}
use Rattle.hept_ast.specs.Initial.{unmet_expr}
use Rattle.hept_ast.specs.declared.tree.Escape.{Escape}
use Rattle.causality.specs.Demands.{grades_from}
use Rattle.causality.proofs.LowestOf.{lowest_step}
use Rattle.causality.proofs.parts.note_escapes.Goals as goal

pub loop-escape-preserved : goal.loop-escape-preserved
loop-escape-preserved c =
    lowest_step (λ (e : Escape). unmet_expr (grades_from (map (λ r. r.now) c.args.nil.now)) e.condition) _ _ c.escape-item.result c.escape-item.result _ _ _ c.loop-escape-test.true c.loop-escape.invariant
    c.escape-item.is c.note_expr.ensures
