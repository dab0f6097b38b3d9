use Rattle.std.proofs.Common.{◌≡◌, [], map, take}
use Rattle.std.specs.List.{flat_map}
use Rattle.hept_ast.specs.Faults.{second_definitions}
use Rattle.hept_ast.specs.Limits.{earlier_of, earliest}
use Rattle.hept_ast.specs.Parts.{equation_case, sets_of}
use Rattle.hept_ast.specs.Texts.{Name, is_in}
use Rattle.block_definitions.proofs.definitions.note_second_definitions.Given as goal

abbrev pub invariant-loop-equation : goal.invariant-loop-equation
invariant-loop-equation l = record {
  noted : l.found ≡ earlier_of l.initial.found (earliest (second_definitions [] (map equation_case (take l.equation-index l.body))));
  earlier : (x : Name) → is_in x (map (λ r. r.now) l.earlier.keys) ≡ is_in x (flat_map sets_of (take l.equation-index l.body));
}
