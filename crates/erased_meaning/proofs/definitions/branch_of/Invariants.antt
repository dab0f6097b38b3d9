use Rattle.std.proofs.Common.{◌≡◌, drop}
use Rattle.hept_ast.specs.Texts.{branch_of}
use Rattle.erased_meaning.proofs.definitions.branch_of.Given as goal

abbrev pub invariant-loop-position : goal.invariant-loop-position
invariant-loop-position l = branch_of l.types l.value l.branches ≡ branch_of l.types l.value (drop l.position l.branches)
