-- The forms of `when` and merges, and those that their rules go by.
use Rattle.std.proofs.Common.{◌≡◌, List, ap, sym, ◌∙◌}
use Rattle.hept_ast.specs.Texts.{Name}
use Rattle.hept_ast.specs.declared.tree.Expr.{Expr}
use Rattle.hept_ast.specs.declared.tree.MergeBranch.{MergeBranch}
use Rattle.hept_ast.specs.declared.tree.Tag.{Tag}
use Rattle.hept_ast.specs.declared.tree.Form.TheVariants as form
use Rattle.hept_ast.specs.declared.tree.Form.{out-Form, out-roll-Form}
use Rattle.hept_ast.specs.declared.tree.Form.TheOpen.{Form-F}
use Rattle.hept_ast.proofs.Unfolded.{tree}

pub when_form : (e a : Expr) (tag : Tag) (x : Name) → e.form ≡ form.When a tag x → out-Form e.form ≡ Form-F.When a tag x
unfolding tree out-Form denote.Hole.Carrier.out denote.Hole.Carrier.shown
when_form e a tag x h = ap out-Form h

pub merge_form : (e : Expr) (x : Name) (branches : List MergeBranch) → e.form ≡ form.Merge x branches → out-Form e.form ≡ Form-F.Merge x branches
merge_form e x branches h = ap out-Form (h ∙ sym (form.rolls-Merge x branches)) ∙ out-roll-Form _
