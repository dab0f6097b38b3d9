use Rattle.std.proofs.Common.{◌≡◌, take, false, map}
use Rattle.std.specs.List.{list_any}
use Rattle.hept_ast.specs.Texts.{is_in}
use Rattle.hept_ast.specs.Initial.{grade}
use Rattle.causality.proofs.grades.+may_be_nil.Given as goal

abbrev pub invariant-loop-branch : goal.invariant-loop-branch
invariant-loop-branch l = list_any (λ b. grade (λ x. is_in x (map (λ r. r.now) l.nil)) b.value.form) (take l.branch-index l.branch-items) ≡ false
