use Rattle.std.proofs.Common.{◌≡◌, ◌==◌, drop}
use Rattle.std.specs.List.{find}
use Rattle.hept_ast.specs.Texts.{tag_value}
use Rattle.erased_meaning.proofs.values.merge_branch.Given as goal

abbrev pub invariant-loop-position : goal.invariant-loop-position
invariant-loop-position l = find (λ b. tag_value l.types b.tag == l.value) l.branches ≡ find (λ b. tag_value l.types b.tag == l.value) (drop l.position l.branches)
