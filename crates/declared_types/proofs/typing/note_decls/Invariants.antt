use Rattle.std.proofs.Common.{◌≡◌, take}
use Rattle.std.specs.List.{flat_map}
use Rattle.hept_ast.specs.Limits.{earlier_of, earliest}
use Rattle.declared_types.specs.Typing.{decl_faults_by}
use Rattle.declared_types.proofs.typing.note_decls.Given as goal

abbrev pub invariant-loop-decl : goal.invariant-loop-decl
invariant-loop-decl l = l.found ≡ earlier_of l.initial.found (earliest (flat_map (decl_faults_by l.types) (take l.decl-index l.decls)))
