-- What an expression of each form mentions.
use Rattle.std.proofs.Common.{◌≡◌, ℕ, List, [], ◌∷◌, ◌++◌, ap, ◌∙◌}
use Rattle.std.specs.List.{flat_map}
use Rattle.hept_ast.specs.Texts.{Name}
use Rattle.hept_ast.specs.Parts.{below, inside}
use Rattle.hept_ast.specs.declared.name.Place.{Place}
use Rattle.hept_ast.specs.declared.tree.Const.{Const}
use Rattle.hept_ast.specs.declared.tree.Tag.{Tag}
use Rattle.hept_ast.specs.declared.tree.UnaryOp.{UnaryOp}
use Rattle.hept_ast.specs.declared.tree.BinaryOp.{BinaryOp}
use Rattle.hept_ast.specs.declared.tree.Expr.{Expr}
use Rattle.hept_ast.specs.declared.tree.MergeBranch.{MergeBranch}
use Rattle.hept_ast.specs.declared.tree.Form.{Form, out-Form}
use Rattle.hept_ast.specs.declared.tree.Form.TheOpen.{Form-F}
use Rattle.hept_ast.specs.declared.tree.Form.TheVariants as form
use Rattle.hept_ast.proofs.FormsOf.{below-Const, below-Var, below-Last, below-Unary, below-Binary, below-If, below-Fby, below-Pre, below-Arrow, below-When, below-Merge, below-Call, below-AsyncCall, below-AsyncConst, below-Get}
use Rattle.core_naming.specs.Ties.{form_names, mentions}
use Rattle.naming_rules.proofs.Shapes.{at, out_Const, out_Var, out_Last, out_Unary, out_Binary, out_If, out_Fby, out_Pre, out_Arrow, out_When, out_Merge, out_Call, out_AsyncCall, out_AsyncConst, out_Get}
use Rattle.naming_rules.proofs.Names.{flat_append, flat_flat}

-- the variables that an expression names itself
abbrev pub own_mentions : Expr → List Name
own_mentions b = form_names (out-Form b.form)

mentions_by : (p : Place) (f : Form) (v : Form-F Form Expr MergeBranch) (es : List Expr) → out-Form f ≡ v → below f ≡ es → mentions (at p f) ≡ form_names v ++ flat_map own_mentions es
mentions_by p f v es o b = ap (λ (z : Form-F Form Expr MergeBranch). form_names z ++ flat_map own_mentions (below f)) o ∙ ap (λ (z : List Expr). form_names v ++ flat_map own_mentions z) b

of_two : (a b : Expr) → flat_map own_mentions (inside a ++ inside b) ≡ mentions a ++ mentions b
of_two a b = flat_append own_mentions (inside a) (inside b)

pub mentions_Const : (p : Place) (k : Const) → mentions (at p (form.Const k)) ≡ []
mentions_Const p k = mentions_by p _ _ [] (out_Const k) (below-Const k)

pub mentions_Var : (p : Place) (x : Name) → mentions (at p (form.Var x)) ≡ x ∷ []
mentions_Var p x = mentions_by p _ _ [] (out_Var x) (below-Var x)

pub mentions_Last : (p : Place) (x : Name) → mentions (at p (form.Last x)) ≡ x ∷ []
mentions_Last p x = mentions_by p _ _ [] (out_Last x) (below-Last x)

pub mentions_Unary : (p : Place) (op : UnaryOp) (a : Expr) → mentions (at p (form.Unary op a)) ≡ mentions a
mentions_Unary p op a = mentions_by p _ _ (inside a) (out_Unary op a) (below-Unary op a)

pub mentions_Binary : (p : Place) (op : BinaryOp) (a b : Expr) → mentions (at p (form.Binary op a b)) ≡ mentions a ++ mentions b
mentions_Binary p op a b = mentions_by p _ _ (inside a ++ inside b) (out_Binary op a b) (below-Binary op a b) ∙ of_two a b

pub mentions_If : (p : Place) (c a b : Expr) → mentions (at p (form.If c a b)) ≡ mentions c ++ mentions a ++ mentions b
mentions_If p c a b =
    mentions_by p _ _ (inside c ++ inside a ++ inside b) (out_If c a b) (below-If c a b)
    ∙ flat_append own_mentions (inside c ++ inside a) (inside b)
    ∙ ap (λ (l : List Name). l ++ mentions b) (of_two c a)

pub mentions_Fby : (p : Place) (a b : Expr) → mentions (at p (form.Fby a b)) ≡ mentions a ++ mentions b
mentions_Fby p a b = mentions_by p _ _ (inside a ++ inside b) (out_Fby a b) (below-Fby a b) ∙ of_two a b

pub mentions_Pre : (p : Place) (a : Expr) → mentions (at p (form.Pre a)) ≡ mentions a
mentions_Pre p a = mentions_by p _ _ (inside a) (out_Pre a) (below-Pre a)

pub mentions_Arrow : (p : Place) (a b : Expr) → mentions (at p (form.Arrow a b)) ≡ mentions a ++ mentions b
mentions_Arrow p a b = mentions_by p _ _ (inside a ++ inside b) (out_Arrow a b) (below-Arrow a b) ∙ of_two a b

pub mentions_When : (p : Place) (a : Expr) (tag : Tag) (x : Name) → mentions (at p (form.When a tag x)) ≡ x ∷ mentions a
mentions_When p a tag x = mentions_by p _ _ (inside a) (out_When a tag x) (below-When a tag x)

pub mentions_Merge : (p : Place) (x : Name) (bs : List MergeBranch) → mentions (at p (form.Merge x bs)) ≡ x ∷ flat_map (λ b. mentions b.value) bs
mentions_Merge p x bs =
    mentions_by p _ _ (flat_map (λ b. inside b.value) bs) (out_Merge x bs) (below-Merge x bs)
    ∙ ap (λ (l : List Name). x ∷ l) (flat_flat own_mentions (λ b. inside b.value) bs)

pub mentions_Call : (p : Place) (f : Name) (args : List Expr) → mentions (at p (form.Call f args)) ≡ flat_map mentions args
mentions_Call p f args = mentions_by p _ _ (flat_map inside args) (out_Call f args) (below-Call f args) ∙ flat_flat own_mentions inside args

pub mentions_AsyncCall : (p : Place) (q : ℕ) (f : Name) (args : List Expr) → mentions (at p (form.AsyncCall q f args)) ≡ flat_map mentions args
mentions_AsyncCall p q f args = mentions_by p _ _ (flat_map inside args) (out_AsyncCall q f args) (below-AsyncCall q f args) ∙ flat_flat own_mentions inside args

pub mentions_AsyncConst : (p : Place) (k : Const) → mentions (at p (form.AsyncConst k)) ≡ []
mentions_AsyncConst p k = mentions_by p _ _ [] (out_AsyncConst k) (below-AsyncConst k)

pub mentions_Get : (p : Place) (a : Expr) → mentions (at p (form.Get a)) ≡ mentions a
mentions_Get p a = mentions_by p _ _ (inside a) (out_Get a) (below-Get a)
