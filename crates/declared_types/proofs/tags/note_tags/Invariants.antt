use Rattle.std.proofs.Common.{◌≡◌, take}
use Rattle.std.specs.Option.{option_map}
use Rattle.hept_ast.specs.Limits.{earlier_of, earliest}
use Rattle.declared_types.specs.Tags.{branch_tag_faults}
use Rattle.declared_types.specs.Types.{type_in}
use Rattle.declared_types.proofs.tags.note_tags.Given as goal

abbrev pub invariant-loop-branch : goal.invariant-loop-branch
invariant-loop-branch l = l.found ≡ earlier_of l.initial.found (earliest (branch_tag_faults l.types (option_map type_in l.on) (take l.branch-index l.branches)))
