-- The form that a memory operator has, and the one that its rule goes by.
use Rattle.std.proofs.Common.{◌≡◌, ap}
use Rattle.hept_ast.specs.declared.tree.Expr.{Expr}
use Rattle.hept_ast.specs.declared.tree.Form.TheVariants as form
use Rattle.hept_ast.specs.declared.tree.Form.{out-Form}
use Rattle.hept_ast.specs.declared.tree.Form.TheOpen.{Form-F}
use Rattle.hept_ast.proofs.Unfolded.{tree}

pub pre_form : (e a : Expr) → e.form ≡ form.Pre a → out-Form e.form ≡ Form-F.Pre a
unfolding tree out-Form denote.Hole.Carrier.out denote.Hole.Carrier.shown
pre_form e a h = ap out-Form h

pub arrow_form : (e a b : Expr) → e.form ≡ form.Arrow a b → out-Form e.form ≡ Form-F.Arrow a b
unfolding tree out-Form denote.Hole.Carrier.out denote.Hole.Carrier.shown
arrow_form e a b h = ap out-Form h
