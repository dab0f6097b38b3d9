-- The conditions of clocks that each form gives.
use Rattle.std.proofs.Common.{◌≡◌, ℕ, ◌+◌, List, [], ◌∷◌, ◌++◌, length, refl, ◌∙◌, ap, arith, append-nil}
use Rattle.hept_ast.specs.Texts.{Name}
use Rattle.hept_ast.specs.Parts.{inside, below}
use Rattle.hept_ast.specs.Clocks.{Term, Inner, On, Condition, equal, read_clock, outer_read, term_of, reading, expression, operands, branches}
use Rattle.hept_ast.specs.declared.tree.Const.{Const}
use Rattle.hept_ast.specs.declared.tree.Expr.{Expr}
use Rattle.hept_ast.specs.declared.tree.MergeBranch.{MergeBranch}
use Rattle.hept_ast.specs.declared.tree.Tag.{Tag}
use Rattle.hept_ast.specs.declared.tree.UnaryOp.{UnaryOp}
use Rattle.hept_ast.specs.declared.tree.BinaryOp.{BinaryOp}
use Rattle.hept_ast.specs.declared.tree.Form.TheVariants as form
use Rattle.hept_ast.specs.declared.tree.Form.TheBlock.{hidden-the_row-Expr-2, hidden-the_row-MergeBranch-1}
use Rattle.hept_ast.proofs.Unfolded.{static}

-- operand e, which has number m and has to be on a clock, of a construct at p
abbrev pub operand : List Name → ℕ → Term → ℕ → Expr → List Condition
operand own p on m e = equal p (term_of own m e.form) on ++ expression own m e.place.0 e.form

abbrev pub operand_list : List Name → ℕ → Term → ℕ → List Expr → List Condition
operand_list own p on m [] = []
operand_list own p on m (e ∷ es) = operand own p on m e ++ operand_list own p on (m + length (inside e)) es

abbrev pub branch_list : List Name → ℕ → Name → ℕ → List MergeBranch → List Condition
branch_list own p x m [] = []
branch_list own p x m (b ∷ bs) = operand own p (On (read_clock own x) b.tag x) m b.value ++ branch_list own p x (m + length (inside b.value)) bs

-- operands in rows of one
two : (own : List Name) (p : ℕ) (on : Term) (m : ℕ) (a b : Expr)
    → (operand own p on m a ++ []) ++ (operand own p on (m + length (inside a ++ [])) b ++ []) ≡ operand own p on m a ++ operand own p on (m + length (inside a)) b
two own p on m a b =
    ap (λ t. t ++ (operand own p on (m + length (inside a ++ [])) b ++ [])) (append-nil (operand own p on m a))
    ∙ ap (λ t. operand own p on m a ++ t) (append-nil (operand own p on (m + length (inside a ++ [])) b))
    ∙ ap (λ t. operand own p on m a ++ operand own p on (m + length t) b) (append-nil (inside a))

three : (own : List Name) (p : ℕ) (on : Term) (m : ℕ) (c a b : Expr)
    → (operand own p on m c ++ []) ++ (operand own p on (m + length (inside c ++ [])) a ++ []) ++ (operand own p on (m + length (inside c ++ []) + length (inside a ++ [])) b ++ [])
    ≡ operand own p on m c ++ operand own p on (m + length (inside c)) a ++ operand own p on (m + length (inside c) + length (inside a)) b
three own p on m c a b =
    ap (λ t. t ++ (operand own p on (m + length (inside c ++ []) + length (inside a ++ [])) b ++ [])) (two own p on m c a)
    ∙ ap (λ t. operand own p on m c ++ operand own p on (m + length (inside c)) a ++ t) (append-nil (operand own p on (m + length (inside c ++ []) + length (inside a ++ [])) b))
    ∙ ap (λ t. operand own p on m c ++ operand own p on (m + length (inside c)) a ++ operand own p on (m + length t + length (inside a ++ [])) b) (append-nil (inside c))
    ∙ ap (λ t. operand own p on m c ++ operand own p on (m + length (inside c)) a ++ operand own p on (m + length (inside c) + length t) b) (append-nil (inside a))

pub conditions-Const : (own : List Name) (n p : ℕ) (k : Const) → expression own n p (form.Const k) ≡ []
unfolding static
conditions-Const own n p k = refl

pub conditions-Var : (own : List Name) (n p : ℕ) (x : List ℕ) → expression own n p (form.Var x) ≡ reading own p n x
unfolding static
conditions-Var own n p x = refl

pub conditions-Last : (own : List Name) (n p : ℕ) (x : List ℕ) → expression own n p (form.Last x) ≡ reading own p n x
unfolding static
conditions-Last own n p x = refl

pub conditions-AsyncConst : (own : List Name) (n p : ℕ) (k : Const) → expression own n p (form.AsyncConst k) ≡ []
unfolding static
conditions-AsyncConst own n p k = refl

pub conditions-Unary : (own : List Name) (n p : ℕ) (op : UnaryOp) (a : Expr) → expression own n p (form.Unary op a) ≡ operand own p (Inner n) (n + 1) a
unfolding static
conditions-Unary own n p op a = append-nil (operand own p (Inner n) (n + 1) a)

pub conditions-Binary : (own : List Name) (n p : ℕ) (op : BinaryOp) (a b : Expr)
    → expression own n p (form.Binary op a b) ≡ operand own p (Inner n) (n + 1) a ++ operand own p (Inner n) (n + 1 + length (inside a)) b
unfolding static
conditions-Binary own n p op a b = two own p (Inner n) (n + 1) a b

pub conditions-If : (own : List Name) (n p : ℕ) (c a b : Expr)
    → expression own n p (form.If c a b) ≡ operand own p (Inner n) (n + 1) c ++ operand own p (Inner n) (n + 1 + length (inside c)) a ++ operand own p (Inner n) (n + 1 + length (inside c) + length (inside a)) b
unfolding static
conditions-If own n p c a b = three own p (Inner n) (n + 1) c a b

pub conditions-Fby : (own : List Name) (n p : ℕ) (a b : Expr)
    → expression own n p (form.Fby a b) ≡ operand own p (Inner n) (n + 1) a ++ operand own p (Inner n) (n + 1 + length (inside a)) b
unfolding static
conditions-Fby own n p a b = two own p (Inner n) (n + 1) a b

pub conditions-Pre : (own : List Name) (n p : ℕ) (a : Expr) → expression own n p (form.Pre a) ≡ operand own p (Inner n) (n + 1) a
unfolding static
conditions-Pre own n p a = append-nil (operand own p (Inner n) (n + 1) a)

pub conditions-Arrow : (own : List Name) (n p : ℕ) (a b : Expr)
    → expression own n p (form.Arrow a b) ≡ operand own p (Inner n) (n + 1) a ++ operand own p (Inner n) (n + 1 + length (inside a)) b
unfolding static
conditions-Arrow own n p a b = two own p (Inner n) (n + 1) a b

pub conditions-When : (own : List Name) (n p : ℕ) (a : Expr) (tag : Tag) (x : List ℕ)
    → expression own n p (form.When a tag x) ≡ operand own p (read_clock own x) (n + 1) a ++ equal p (Inner n) (On (read_clock own x) tag x) ++ outer_read own p x
unfolding static
conditions-When own n p a tag x = ap (λ t. t ++ equal p (Inner n) (On (read_clock own x) tag x) ++ outer_read own p x) (append-nil (operand own p (read_clock own x) (n + 1) a))

pub conditions-Get : (own : List Name) (n p : ℕ) (a : Expr) → expression own n p (form.Get a) ≡ operand own p (Inner n) (n + 1) a
unfolding static
conditions-Get own n p a = append-nil (operand own p (Inner n) (n + 1) a)

-- the number after an expression
next_number : (m : ℕ) (e : Expr) → m + 1 + length (below e.form) ≡ m + length (inside e)
next_number m e = omega arith

row_is : (own : List Name) (p : ℕ) (on : Term) (m : ℕ) (es : List Expr) → operands own p on m (hidden-the_row-Expr-2 es) ≡ operand_list own p on m es
unfolding static
row_is own p on m [] = refl
row_is own p on m (e ∷ es) =
    ap (λ t. operand own p on m e ++ t) (row_is own p on (m + 1 + length (below e.form)) es) ∙ ap (λ t. operand own p on m e ++ operand_list own p on t es) (next_number m e)

branches_are : (own : List Name) (p : ℕ) (x : Name) (m : ℕ) (bs : List MergeBranch) → branches own p x m (hidden-the_row-MergeBranch-1 bs) ≡ branch_list own p x m bs
unfolding static
branches_are own p x m [] = refl
branches_are own p x m (b ∷ bs) =
    ap (λ t. operand own p (On (read_clock own x) b.tag x) m b.value ++ t) (branches_are own p x (m + 1 + length (below b.value.form)) bs)
    ∙ ap (λ t. operand own p (On (read_clock own x) b.tag x) m b.value ++ branch_list own p x t bs) (next_number m b.value)

pub conditions-Merge : (own : List Name) (n p : ℕ) (x : List ℕ) (bs : List MergeBranch)
    → expression own n p (form.Merge x bs) ≡ equal p (Inner n) (read_clock own x) ++ outer_read own p x ++ branch_list own p x (n + 1) bs
unfolding static
conditions-Merge own n p x bs = ap (λ t. equal p (Inner n) (read_clock own x) ++ outer_read own p x ++ t) (branches_are own p x (n + 1) bs)

pub conditions-Call : (own : List Name) (n p : ℕ) (f : List ℕ) (args : List Expr) → expression own n p (form.Call f args) ≡ operand_list own p (Inner n) (n + 1) args
unfolding static
conditions-Call own n p f args = row_is own p (Inner n) (n + 1) args

pub conditions-AsyncCall : (own : List Name) (n p : ℕ) (q : ℕ) (f : List ℕ) (args : List Expr)
    → expression own n p (form.AsyncCall q f args) ≡ operand_list own p (Inner n) (n + 1) args
unfolding static
conditions-AsyncCall own n p q f args = row_is own p (Inner n) (n + 1) args

pub ruleset conditions_of_forms = (conditions-Const, conditions-Var, conditions-Last, conditions-Unary, conditions-Binary, conditions-If, conditions-Fby, conditions-Pre, conditions-Arrow, conditions-When, conditions-Merge, conditions-Call, conditions-AsyncCall, conditions-AsyncConst, conditions-Get)
