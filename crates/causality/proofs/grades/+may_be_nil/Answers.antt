use Rattle.std.proofs.Common.{sym, ◌∙◌, List, ℕ, map}
use Rattle.hept_ast.specs.declared.tree.MergeBranch.{MergeBranch}
use Rattle.std.proofs.lemmas.List.Folds.{list_any_at}
use Rattle.hept_ast.specs.Texts.{is_in}
use Rattle.hept_ast.specs.Initial.{grade}
use Rattle.hept_ast.proofs.FormsOf.{grade-Merge}
use Rattle.causality.proofs.grades.+may_be_nil.Goals as goal

pub returns-then-may_be_nil-4 : goal.returns-then-may_be_nil-4
returns-then-may_be_nil-4 t c =
    let g = λ (x : List ℕ). is_in x (map (λ r. r.now) c.args.nil.now) in
    let i = c.loop-branch.branch-index in
    rw (c.in-Merge.is, grade-Merge, ← c.as_slice-branch-items.ensures)
    (sym (list_any_at (λ (b : MergeBranch). grade g b.value.form) c.as_slice-branch-items.result.now i c.branch-item.result c.loop-branch-test.true
    (rw (← c.branch-item.is) (sym c.may_be_nil-in-loop-branch.ensures ∙ c.if-may_be_nil-4.true))))
