-- How many subexpressions there are, by which taking one out ends.
use Rattle.std.proofs.Common.{◌≡◌, ◌+◌, ◌≤◌, ℕ, List, [], ◌∷◌, ◌++◌, length, remove, slice_get, Some, refl, ap, subst, sym, ◌∙◌, arith, length-append}
use Rattle.std.specs.List.{flat_map}
use Rattle.hept_ast.specs.Texts.{Name}
use Rattle.hept_ast.specs.Parts.{below, inside}
use Rattle.hept_ast.specs.declared.tree.Tag.{Tag}
use Rattle.hept_ast.specs.declared.tree.UnaryOp.{UnaryOp}
use Rattle.hept_ast.specs.declared.tree.BinaryOp.{BinaryOp}
use Rattle.hept_ast.specs.declared.tree.Expr.{Expr}
use Rattle.hept_ast.specs.declared.tree.MergeBranch.{MergeBranch}
use Rattle.hept_ast.specs.declared.tree.Form.{Form}
use Rattle.hept_ast.specs.declared.tree.Form.TheVariants as form
use Rattle.hept_ast.proofs.FormsOf.{below-Unary, below-Binary, below-If, below-When, below-Merge}
use Rattle.normal_form.proofs.CutSteps.{Passed, first_removed}

unfoldable pub weight : Expr → ℕ
weight e = length (inside e)

unfoldable pub branches_weight : List MergeBranch → ℕ
branches_weight bs = length (flat_map (λ b. inside b.value) bs)

weight_of : (e : Expr) (f : Form) (es : List Expr) → e.form ≡ f → below f ≡ es → weight e ≡ 1 + length es
unfolding weight
weight_of e f es h b = let p : length (below e.form) ≡ length es = ap (λ (g : Form). length (below g)) h ∙ ap length b in omega (arith, p)

pub weight_unary : (e : Expr) (op : UnaryOp) (a : Expr) → e.form ≡ form.Unary op a → weight e ≡ 1 + weight a
unfolding weight
weight_unary e op a h = weight_of e (form.Unary op a) (inside a) h (below-Unary op a)

pub weight_binary : (e : Expr) (op : BinaryOp) (a b : Expr) → e.form ≡ form.Binary op a b → weight e ≡ 1 + (weight a + weight b)
unfolding weight
weight_binary e op a b h =
    let p = weight_of e (form.Binary op a b) (inside a ++ inside b) h (below-Binary op a b) in
    let q = length-append (inside a) (inside b) in
    omega (arith, p, q)

pub weight_if : (e i a b : Expr) → e.form ≡ form.If i a b → weight e ≡ 1 + (weight i + weight a + weight b)
unfolding weight
weight_if e i a b h =
    let p = weight_of e (form.If i a b) (inside i ++ inside a ++ inside b) h (below-If i a b) in
    let q = length-append (inside i ++ inside a) (inside b) in
    let r = length-append (inside i) (inside a) in
    omega (arith, p, q, r)

pub weight_when : (e a : Expr) (tag : Tag) (y : Name) → e.form ≡ form.When a tag y → weight e ≡ 1 + weight a
unfolding weight
weight_when e a tag y h = weight_of e (form.When a tag y) (inside a) h (below-When a tag y)

pub weight_merge : (e : Expr) (y : Name) (bs : List MergeBranch) → e.form ≡ form.Merge y bs → weight e ≡ 1 + branches_weight bs
unfolding weight branches_weight
weight_merge e y bs h = weight_of e (form.Merge y bs) (flat_map (λ b. inside b.value) bs) h (below-Merge y bs)

branch_weighs : (done rest : List MergeBranch) (b : MergeBranch) → weight b.value ≤ branches_weight (done ++ b ∷ rest)
unfolding weight branches_weight
branch_weighs [] rest b = let q = length-append (inside b.value) (flat_map (λ d. inside d.value) rest) in omega (arith, q)
branch_weighs (d ∷ done) rest b =
    let q = length-append (inside d.value) (flat_map (λ d. inside d.value) (done ++ b ∷ rest)) in
    let r = branch_weighs done rest b in
    omega (arith, q, r)

-- a branch that is left weighs no more than all
pub branch_lighter : (bs done left : List MergeBranch) (b : MergeBranch) → Passed bs done left → slice_get left 0 ≡ Some b → weight b.value ≤ branches_weight bs
branch_lighter bs done left b p h =
    let all : bs ≡ done ++ b ∷ remove left 0 = p.all ∙ ap (λ (l : List MergeBranch). done ++ l) (first_removed left (remove left 0) b h refl) in
    subst (λ (l : List MergeBranch). weight b.value ≤ branches_weight l) (sym all) (branch_weighs done (remove left 0) b)
