use Rattle.hept_ast.specs.Limits.{name_limit}
use Rattle.hept_ast.specs.declared.tree.Decl.{Decl}
use Rattle.earliest_fault.proofs.Noting.{noted_mapped}
use Rattle.text_limits.proofs.limits.note_all_long.Goals as goal

pub loop-decl-preserved : goal.loop-decl-preserved
loop-decl-preserved c = noted_mapped (λ (d : Decl). name_limit d.place.0 d.name) (λ r. r.now) _ _ c.decl-item.result c.decl-item.result _ _ _ c.loop-decl-test.true c.loop-decl.invariant c.decl-item.is c.note_long.ensures
