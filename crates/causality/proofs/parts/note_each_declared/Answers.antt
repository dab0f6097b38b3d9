use Rattle.std.proofs.Common.{◌++◌, map}
use Rattle.hept_ast.specs.Parts.{declaration}
use Rattle.causality.specs.Demands.{grades_from, unmet_declared}
use Rattle.causality.proofs.LowestOf.{lowest_mapped}
use Rattle.causality.proofs.parts.note_each_declared.Goals as goal

pub loop-name-preserved : goal.loop-name-preserved
loop-name-preserved c =
    lowest_mapped (λ x. unmet_declared (grades_from (map (λ r. r.now) c.args.nil.now)) (declaration (map (λ r. r.now) c.args.inner.now ++ map (λ r. r.now) c.args.own.now) x)) (λ r. r.now)
    _ _ c.name-item.result c.name-item.result _ _ _ c.loop-name-test.true c.loop-name.invariant c.name-item.is c.note_declared.ensures
