use Rattle.std.proofs.Common.{map}
use Rattle.hept_ast.specs.Initial.{unmet_expr}
use Rattle.hept_ast.specs.declared.tree.MergeBranch.{MergeBranch}
use Rattle.causality.specs.Demands.{grades_from}
use Rattle.causality.proofs.LowestOf.{lowest_step}
use Rattle.causality.proofs.demands.note_merged.Goals as goal

pub loop-branch-preserved : goal.loop-branch-preserved
loop-branch-preserved c = lowest_step (λ (b : MergeBranch). unmet_expr (grades_from (map (λ r. r.now) c.args.nil.now)) b.value) _ _ c.branch-item.result c.branch-item.result _ _ _ c.loop-branch-test.true c.loop-branch.invariant c.branch-item.is c.note_expr.ensures
