-- How many subexpressions are neither variables nor constants.
use Rattle.std.specs.Prelude.{◌≡◌, ◌+◌, ℕ, false, not, List, count_by}
use Rattle.hept_ast.specs.Texts.{Name}
use Rattle.hept_ast.specs.Scopes.{Clock}
use Rattle.hept_ast.specs.Parts.{below}
use Rattle.hept_ast.specs.declared.tree.Expr.{Expr}
use Rattle.hept_ast.specs.declared.tree.Form.{out-Form}
use Rattle.core_naming.specs.Names.{Names}
use Rattle.core_naming.specs.Normal.{is_simple}

unfoldable pub large_count : List Expr → ℕ
large_count es = count_by (λ e. not (is_simple (out-Form e.form))) es

-- of those inside an expression, itself left out
abbrev pub large_inside : Expr → ℕ
large_inside e = large_count (below e.form)

-- naming one that is not the whole takes it and those inside it away
abbrev pub NamingShrinks : Type 0
NamingShrinks = (x : Name) (a : Expr) (d c : Clock) (e r : Expr) → Names x a d c e r → is_simple (out-Form a.form) ≡ false → is_simple (out-Form r.form) ≡ false →
    large_inside r + large_inside a + 1 ≡ large_inside e
