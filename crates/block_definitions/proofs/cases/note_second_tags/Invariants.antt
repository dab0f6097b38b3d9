use Rattle.std.proofs.Common.{◌≡◌, [], map, take}
use Rattle.hept_ast.specs.Faults.{seconds}
use Rattle.hept_ast.specs.Limits.{earlier_of, earliest}
use Rattle.hept_ast.specs.Types.{same_tag}
use Rattle.block_definitions.specs.Defined.{tag_label}
use Rattle.block_definitions.proofs.cases.note_second_tags.Given as goal

abbrev pub invariant-loop-index : goal.invariant-loop-index
invariant-loop-index l = l.found ≡ earlier_of l.initial.found (earliest (seconds same_tag [] (map tag_label (take l.index l.branches))))
