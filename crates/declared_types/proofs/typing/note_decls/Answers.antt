use Rattle.declared_types.specs.Typing.{decl_faults_by}
use Rattle.earliest_fault.proofs.Noting.{noted_step}
use Rattle.declared_types.proofs.typing.note_decls.Goals as goal

pub loop-decl-preserved : goal.loop-decl-preserved
loop-decl-preserved c = noted_step (decl_faults_by c.args.types.now) _ _ c.decl-item.result c.decl-item.result _ _ _ c.loop-decl-test.true c.loop-decl.invariant c.decl-item.is c.note_decl.ensures
