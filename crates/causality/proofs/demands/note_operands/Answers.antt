use Rattle.std.proofs.Common.{map}
use Rattle.hept_ast.specs.Initial.{unmet_by}
use Rattle.hept_ast.specs.declared.tree.Expr.{Expr}
use Rattle.causality.specs.Demands.{grades_from}
use Rattle.causality.proofs.LowestOf.{lowest_mapped}
use Rattle.causality.proofs.demands.note_operands.Goals as goal

pub loop-e-preserved : goal.loop-e-preserved
loop-e-preserved c = lowest_mapped (λ (e : Expr). unmet_by (grades_from (map (λ r. r.now) c.args.nil.now)) e.place.0 e.form) (λ r. r.now) _ _ c.e-item.result c.e-item.result _ _ _ c.loop-e-test.true c.loop-e.invariant c.e-item.is c.note_own.ensures
