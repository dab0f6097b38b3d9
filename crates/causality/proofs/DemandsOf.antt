-- What `unmet_by` gives of each form.
use Rattle.std.proofs.Common.{◌≡◌, ℕ, List, [], ◌∷◌, ◌++◌, refl, ap, append-nil, append_assoc}
use Rattle.std.specs.List.{flat_map}
use Rattle.std.proofs.lemmas.List.{take_all}
use Rattle.hept_ast.specs.Initial.{Grades, unmet, unmet_by, unmet_expr, unmet_branches}
use Rattle.hept_ast.specs.declared.tree.Const.{Const}
use Rattle.hept_ast.specs.declared.tree.Expr.{Expr}
use Rattle.hept_ast.specs.declared.tree.MergeBranch.{MergeBranch}
use Rattle.hept_ast.specs.declared.tree.Tag.{Tag}
use Rattle.hept_ast.specs.declared.tree.UnaryOp.{UnaryOp}
use Rattle.hept_ast.specs.declared.tree.BinaryOp.{BinaryOp}
use Rattle.hept_ast.specs.declared.tree.Form.TheVariants as form
use Rattle.hept_ast.specs.declared.tree.Form.TheBlock.{hidden-the_row-MergeBranch-1}
use Rattle.hept_ast.proofs.Unfolded.{static}

pub unmet-Const : (g : Grades) (p : ℕ) (k : Const) → unmet_by g p (form.Const k) ≡ []
unfolding static
unmet-Const g p k = refl

pub unmet-Var : (g : Grades) (p : ℕ) (x : List ℕ) → unmet_by g p (form.Var x) ≡ []
unfolding static
unmet-Var g p x = refl

pub unmet-Last : (g : Grades) (p : ℕ) (x : List ℕ) → unmet_by g p (form.Last x) ≡ []
unfolding static
unmet-Last g p x = refl

pub unmet-Unary : (g : Grades) (p : ℕ) (op : UnaryOp) (a : Expr) → unmet_by g p (form.Unary op a) ≡ []
unfolding static
unmet-Unary g p op a = refl

pub unmet-Binary : (g : Grades) (p : ℕ) (op : BinaryOp) (a b : Expr) → unmet_by g p (form.Binary op a b) ≡ []
unfolding static
unmet-Binary g p op a b = refl

pub unmet-If : (g : Grades) (p : ℕ) (c a b : Expr) → unmet_by g p (form.If c a b) ≡ []
unfolding static
unmet-If g p c a b = refl

pub unmet-Fby : (g : Grades) (p : ℕ) (a b : Expr) → unmet_by g p (form.Fby a b) ≡ unmet_expr g b
unfolding static
unmet-Fby g p a b = simp append-nil refl

pub unmet-Pre : (g : Grades) (p : ℕ) (a : Expr) → unmet_by g p (form.Pre a) ≡ unmet_expr g a
unfolding static
unmet-Pre g p a = simp append-nil refl

pub unmet-Arrow : (g : Grades) (p : ℕ) (a b : Expr) → unmet_by g p (form.Arrow a b) ≡ []
unfolding static
unmet-Arrow g p a b = refl

pub unmet-When : (g : Grades) (p : ℕ) (a : Expr) (tag : Tag) (x : List ℕ) → unmet_by g p (form.When a tag x) ≡ unmet p (g x)
unfolding static
unmet-When g p a tag x = refl

branches_are : (g : Grades) (bs : List MergeBranch) → unmet_branches g (hidden-the_row-MergeBranch-1 bs) ≡ flat_map (λ b. unmet_expr g b.value) bs
unfolding static
branches_are g [] = refl
branches_are g (b ∷ bs) = ap (λ t. unmet_expr g b.value ++ t) (branches_are g bs)

pub unmet-Merge : (g : Grades) (p : ℕ) (x : List ℕ) (bs : List MergeBranch) → unmet_by g p (form.Merge x bs) ≡ unmet p (g x) ++ flat_map (λ b. unmet_expr g b.value) bs
unfolding static
unmet-Merge g p x bs = ap (λ t. unmet p (g x) ++ t) (branches_are g bs)

pub unmet-Call : (g : Grades) (p : ℕ) (f : List ℕ) (args : List Expr) → unmet_by g p (form.Call f args) ≡ flat_map (unmet_expr g) args
unfolding static
unmet-Call g p f [] = refl
unmet-Call g p f (e ∷ es) = ap (λ t. unmet_expr g e ++ t) (unmet-Call g p f es)

pub unmet-AsyncCall : (g : Grades) (p : ℕ) (q : ℕ) (f : List ℕ) (args : List Expr) → unmet_by g p (form.AsyncCall q f args) ≡ flat_map (unmet_expr g) args
unfolding static
unmet-AsyncCall g p q f [] = refl
unmet-AsyncCall g p q f (e ∷ es) = ap (λ t. unmet_expr g e ++ t) (unmet-AsyncCall g p q f es)

pub unmet-AsyncConst : (g : Grades) (p : ℕ) (k : Const) → unmet_by g p (form.AsyncConst k) ≡ []
unfolding static
unmet-AsyncConst g p k = refl

pub unmet-Get : (g : Grades) (p : ℕ) (a : Expr) → unmet_by g p (form.Get a) ≡ []
unfolding static
unmet-Get g p a = refl

pub ruleset demands_of = (unmet-Const, unmet-Var, unmet-Last, unmet-Unary, unmet-Binary, unmet-If, unmet-Fby, unmet-Pre, unmet-Arrow, unmet-When, unmet-Merge, unmet-Call, unmet-AsyncCall, unmet-AsyncConst, unmet-Get, append_assoc, append-nil, take_all)
