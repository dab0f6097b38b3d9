-- How many subexpressions there are, by which the recursion over an expression ends.
use Rattle.std.proofs.Common.{◌≡◌, ◌+◌, ◌<◌, ◌≤◌, ℕ, zero, suc, List, [], ◌∷◌, ◌++◌, length, get_or, ap, subst, sym, ◌∙◌, arith, length-append}
use Rattle.std.specs.List.{flat_map}
use Rattle.hept_ast.specs.Texts.{Name}
use Rattle.hept_ast.specs.Parts.{below, inside}
use Rattle.hept_ast.specs.declared.tree.Tag.{Tag}
use Rattle.hept_ast.specs.declared.tree.UnaryOp.{UnaryOp}
use Rattle.hept_ast.specs.declared.tree.BinaryOp.{BinaryOp}
use Rattle.hept_ast.specs.declared.tree.Expr.{Expr}
use Rattle.hept_ast.specs.declared.tree.MergeBranch.{MergeBranch}
use Rattle.hept_ast.specs.declared.tree.Form.{Form}
use Rattle.hept_ast.specs.declared.tree.Form.TheVariants as form
use Rattle.hept_ast.proofs.FormsOf.{below-Unary, below-Binary, below-If, below-When, below-Merge}

unfoldable pub weight : Expr → ℕ
weight e = length (inside e)

unfoldable pub branches_weight : List MergeBranch → ℕ
branches_weight bs = length (flat_map (λ b. inside b.value) bs)

weight_of : (e : Expr) (f : Form) (es : List Expr) → e.form ≡ f → below f ≡ es → weight e ≡ 1 + length es
unfolding weight
weight_of e f es h b = let p : length (below e.form) ≡ length es = ap (λ (g : Form). length (below g)) h ∙ ap length b in omega (arith, p)

same_weight : (a l : Expr) → l ≡ a → weight l ≡ weight a
same_weight a l same = ap weight same

pub unary_lighter : (e a l : Expr) (op : UnaryOp) → e.form ≡ form.Unary op a → l ≡ a → weight l < weight e
unfolding weight
unary_lighter e a l op h same = let p = weight_of e (form.Unary op a) (inside a) h (below-Unary op a) in omega (arith, p, same_weight a l same)

binary_weight : (e a b : Expr) (op : BinaryOp) → e.form ≡ form.Binary op a b → weight e ≡ 1 + (weight a + weight b)
unfolding weight
binary_weight e a b op h =
    let p = weight_of e (form.Binary op a b) (inside a ++ inside b) h (below-Binary op a b) in
    let q = length-append (inside a) (inside b) in
    omega (arith, p, q)

pub left_lighter : (e a b l : Expr) (op : BinaryOp) → e.form ≡ form.Binary op a b → l ≡ a → weight l < weight e
left_lighter e a b l op h same = omega (arith, binary_weight e a b op h, same_weight a l same)

pub right_lighter : (e a b l : Expr) (op : BinaryOp) → e.form ≡ form.Binary op a b → l ≡ b → weight l < weight e
right_lighter e a b l op h same = omega (arith, binary_weight e a b op h, same_weight b l same)

if_weight : (e i a b : Expr) → e.form ≡ form.If i a b → weight e ≡ 1 + (weight i + weight a + weight b)
unfolding weight
if_weight e i a b h =
    let p = weight_of e (form.If i a b) (inside i ++ inside a ++ inside b) h (below-If i a b) in
    let q = length-append (inside i ++ inside a) (inside b) in
    let r = length-append (inside i) (inside a) in
    omega (arith, p, q, r)

pub condition_lighter : (e i a b l : Expr) → e.form ≡ form.If i a b → l ≡ i → weight l < weight e
condition_lighter e i a b l h same = omega (arith, if_weight e i a b h, same_weight i l same)

pub then_lighter : (e i a b l : Expr) → e.form ≡ form.If i a b → l ≡ a → weight l < weight e
then_lighter e i a b l h same = omega (arith, if_weight e i a b h, same_weight a l same)

pub otherwise_lighter : (e i a b l : Expr) → e.form ≡ form.If i a b → l ≡ b → weight l < weight e
otherwise_lighter e i a b l h same = omega (arith, if_weight e i a b h, same_weight b l same)

pub when_lighter : (e a l : Expr) (tag : Tag) (x : Name) → e.form ≡ form.When a tag x → l ≡ a → weight l < weight e
unfolding weight
when_lighter e a l tag x h same = let p = weight_of e (form.When a tag x) (inside a) h (below-When a tag x) in omega (arith, p, same_weight a l same)

pub merge_lighter : (e : Expr) (x : Name) (branches all : List MergeBranch) → e.form ≡ form.Merge x branches → all ≡ branches → branches_weight all < weight e
unfolding weight branches_weight
merge_lighter e x branches all h same =
    let p = weight_of e (form.Merge x branches) (flat_map (λ b. inside b.value) branches) h (below-Merge x branches) in
    omega (arith, p, ap branches_weight same)

lighter_at : (branches : List MergeBranch) (k : ℕ) (d : MergeBranch) → k < length branches → weight (get_or branches k d).value ≤ branches_weight branches
unfolding weight branches_weight
lighter_at [] k d lt = absurd (omega arith)
lighter_at (b ∷ bs) zero d lt = let q = length-append (inside b.value) (flat_map (λ m. inside m.value) bs) in omega (arith, q)
lighter_at (b ∷ bs) (suc k) d lt =
    let q = length-append (inside b.value) (flat_map (λ m. inside m.value) bs) in
    let r = lighter_at bs k d (omega arith) in
    omega (arith, q, r)

pub branch_lighter : (branches : List MergeBranch) (k : ℕ) (d : MergeBranch) → k < length branches → d ≡ get_or branches k d → weight d.value ≤ branches_weight branches
branch_lighter branches k d lt is = subst (λ (b : MergeBranch). weight b.value ≤ branches_weight branches) (sym is) (lighter_at branches k d lt)
