use Rattle.std.proofs.Common.{map}
use Rattle.hept_ast.specs.Initial.{unmet_decl}
use Rattle.causality.specs.Demands.{grades_from}
use Rattle.causality.proofs.LowestOf.{lowest_step}
use Rattle.causality.proofs.demands.note_decls.Goals as goal

pub loop-decl-preserved : goal.loop-decl-preserved
loop-decl-preserved c = lowest_step (unmet_decl (grades_from (map (λ r. r.now) c.args.nil.now))) _ _ c.decl-item.result c.decl-item.result _ _ _ c.loop-decl-test.true c.loop-decl.invariant c.decl-item.is c.note_decl.ensures
