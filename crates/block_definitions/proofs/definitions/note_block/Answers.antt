use Rattle.std.proofs.Common.{◌++◌, [], map, refl}
use Rattle.std.specs.List.{flat_map}
use Rattle.hept_ast.specs.Faults.{second_definitions}
use Rattle.hept_ast.specs.Parts.{equation_case, sets_of}
use Rattle.block_definitions.specs.Defined.{undefined_fault}
use Rattle.declared_types.specs.Typing.{decl_faults_by}
use Rattle.block_definitions.proofs.Again.{undefined_same}
use Rattle.earliest_fault.proofs.Noting.{noted_then}
use Rattle.block_definitions.proofs.definitions.note_block.Goals as goal

pub returns : goal.returns
returns c =
    let ds = c.args.decls.now in
    let declared = flat_map (decl_faults_by c.args.types.now) ds in
    let undefined = flat_map (undefined_fault (flat_map sets_of c.args.body.now)) ds in
    noted_then (declared ++ undefined) (second_definitions [] (map equation_case c.args.body.now)) _ _ _ _ refl
    (noted_then declared undefined _ _ _ _ (undefined_same (map (λ r. r.now) c.in_ok-sets.sets.keys) (flat_map sets_of c.args.body.now) ds c.in_ok-sets.ensures) c.note_decls.ensures c.note_undefined.ensures)
    c.in_ok-note_second_definitions.ensures
