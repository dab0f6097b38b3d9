-- Expressions of served forms, form by form.
use Rattle.std.proofs.Common.{◌≡◌, ℕ, true, false, List, [], ◌∷◌, ◌++◌, refl, sym, ap, subst, ◌∙◌}
use Rattle.std.specs.Prelude.{All, IsTrue}
use Rattle.std.specs.List.{flat_map}
use Rattle.std.proofs.lemmas.List.Elements.{All-nil, All-cons, All-head, All-tail, All-append}
use Rattle.hept_ast.specs.Texts.{Name}
use Rattle.hept_ast.specs.Parts.{below, inside}
use Rattle.hept_ast.specs.declared.name.Place.{Place}
use Rattle.hept_ast.specs.declared.tree.Const.{Const}
use Rattle.hept_ast.specs.declared.tree.Tag.{Tag}
use Rattle.hept_ast.specs.declared.tree.UnaryOp.{UnaryOp}
use Rattle.hept_ast.specs.declared.tree.BinaryOp.{BinaryOp}
use Rattle.hept_ast.specs.declared.tree.Expr.{Expr}
use Rattle.hept_ast.specs.declared.tree.MergeBranch.{MergeBranch}
use Rattle.hept_ast.specs.declared.tree.Form.{Form, out-Form}
use Rattle.hept_ast.specs.declared.tree.Form.TheOpen.{Form-F}
use Rattle.hept_ast.specs.declared.tree.Form.TheVariants as form
use Rattle.hept_ast.proofs.FormsOf.{below-Var, below-Unary, below-Binary, below-If, below-Fby, below-Pre, below-Arrow, below-When, below-Merge, below-Call}
use Rattle.naming_rules.proofs.Shapes.{at, out_Last, out_Unary, out_Binary, out_If, out_Fby, out_Pre, out_Arrow, out_When, out_Merge, out_Call, out_AsyncCall, out_AsyncConst, out_Get, out_Var}
use Rattle.served_programs.specs.Served.{is_served_form}
use Rattle.sound_expressions.proofs.Expressions.{all_left, all_right}

abbrev pub HasServedForm : Expr → Type 0
HasServedForm e = IsTrue (is_served_form (out-Form e.form))

-- all of an expression is of served forms
abbrev pub Served : Expr → Type 0
Served e = All HasServedForm (inside e)

-- ---- from the operands to the whole

served_of : (p : Place) (f : Form) (v : Form-F Form Expr MergeBranch) (es : List Expr) → out-Form f ≡ v → is_served_form v ≡ true → below f ≡ es → All HasServedForm es → Served (at p f)
served_of p f v es o s b h = All-cons HasServedForm (at p f) (below f) (ap is_served_form o ∙ s) (subst (All HasServedForm) (sym b) h)

pub served_unary : (p : Place) (op : UnaryOp) (a : Expr) → Served a → Served (at p (form.Unary op a))
served_unary p op a h = served_of p (form.Unary op a) (Form-F.Unary op a) (inside a) (out_Unary op a) refl (below-Unary op a) h

pub served_binary : (p : Place) (op : BinaryOp) (a b : Expr) → Served a → Served b → Served (at p (form.Binary op a b))
served_binary p op a b h k = served_of p (form.Binary op a b) (Form-F.Binary op a b) (inside a ++ inside b) (out_Binary op a b) refl (below-Binary op a b) (All-append HasServedForm (inside a) (inside b) h k)

pub served_if : (p : Place) (i a b : Expr) → Served i → Served a → Served b → Served (at p (form.If i a b))
served_if p i a b g h k =
    served_of p (form.If i a b) (Form-F.If i a b) (inside i ++ inside a ++ inside b) (out_If i a b) refl (below-If i a b)
    (All-append HasServedForm (inside i ++ inside a) (inside b) (All-append HasServedForm (inside i) (inside a) g h) k)

pub served_fby : (p : Place) (a b : Expr) → Served a → Served b → Served (at p (form.Fby a b))
served_fby p a b h k = served_of p (form.Fby a b) (Form-F.Fby a b) (inside a ++ inside b) (out_Fby a b) refl (below-Fby a b) (All-append HasServedForm (inside a) (inside b) h k)

pub served_pre : (p : Place) (a : Expr) → Served a → Served (at p (form.Pre a))
served_pre p a h = served_of p (form.Pre a) (Form-F.Pre a) (inside a) (out_Pre a) refl (below-Pre a) h

pub served_arrow : (p : Place) (a b : Expr) → Served a → Served b → Served (at p (form.Arrow a b))
served_arrow p a b h k = served_of p (form.Arrow a b) (Form-F.Arrow a b) (inside a ++ inside b) (out_Arrow a b) refl (below-Arrow a b) (All-append HasServedForm (inside a) (inside b) h k)

pub served_var : (p : Place) (x : Name) → Served (at p (form.Var x))
served_var p x = served_of p (form.Var x) (Form-F.Var x) [] (out_Var x) refl (below-Var x) (All-nil HasServedForm)

pub served_when : (p : Place) (a : Expr) (tag : Tag) (x : Name) → Served a → Served (at p (form.When a tag x))
served_when p a tag x h = served_of p (form.When a tag x) (Form-F.When a tag x) (inside a) (out_When a tag x) refl (below-When a tag x) h

-- the values of a merge's branches
abbrev pub ServedBranches : List MergeBranch → Type 0
ServedBranches bs = All HasServedForm (flat_map (λ b. inside b.value) bs)

pub served_merge : (p : Place) (x : Name) (bs : List MergeBranch) → ServedBranches bs → Served (at p (form.Merge x bs))
served_merge p x bs h = served_of p (form.Merge x bs) (Form-F.Merge x bs) (flat_map (λ b. inside b.value) bs) (out_Merge x bs) refl (below-Merge x bs) h

pub served_branch : (b : MergeBranch) (bs : List MergeBranch) → Served b.value → ServedBranches bs → ServedBranches (b ∷ bs)
served_branch b bs h k = All-append HasServedForm (inside b.value) (flat_map (λ b. inside b.value) bs) h k

-- all of the arguments of a call
abbrev pub ServedArguments : List Expr → Type 0
ServedArguments es = All HasServedForm (flat_map inside es)

pub served_call : (p : Place) (f : Name) (es : List Expr) → ServedArguments es → Served (at p (form.Call f es))
served_call p f es h = served_of p (form.Call f es) (Form-F.Call f es) (flat_map inside es) (out_Call f es) refl (below-Call f es) h

pub served_argument : (e : Expr) (es : List Expr) → Served e → ServedArguments es → ServedArguments (e ∷ es)
served_argument e es h k = All-append HasServedForm (inside e) (flat_map inside es) h k

-- ---- and back

operands_of : (p : Place) (f : Form) (es : List Expr) → below f ≡ es → Served (at p f) → All HasServedForm es
operands_of p f es b h = subst (All HasServedForm) b (All-tail HasServedForm (at p f) (below f) h)

pub of_unary : (p : Place) (op : UnaryOp) (a : Expr) → Served (at p (form.Unary op a)) → Served a
of_unary p op a h = operands_of p (form.Unary op a) (inside a) (below-Unary op a) h

two_of : (a b : Expr) → All HasServedForm (inside a ++ inside b) → Served a × Served b
two_of a b h = (all_left HasServedForm (inside a) (inside b) h, all_right HasServedForm (inside a) (inside b) h)

pub of_binary : (p : Place) (op : BinaryOp) (a b : Expr) → Served (at p (form.Binary op a b)) → Served a × Served b
of_binary p op a b h = two_of a b (operands_of p (form.Binary op a b) (inside a ++ inside b) (below-Binary op a b) h)

pub of_if : (p : Place) (i a b : Expr) → Served (at p (form.If i a b)) → Served i × Served a × Served b
of_if p i a b h =
    let all = operands_of p (form.If i a b) (inside i ++ inside a ++ inside b) (below-If i a b) h in
    let first = two_of i a (all_left HasServedForm (inside i ++ inside a) (inside b) all) in
    (first.0, first.1, all_right HasServedForm (inside i ++ inside a) (inside b) all)

pub of_fby : (p : Place) (a b : Expr) → Served (at p (form.Fby a b)) → Served a × Served b
of_fby p a b h = two_of a b (operands_of p (form.Fby a b) (inside a ++ inside b) (below-Fby a b) h)

pub of_pre : (p : Place) (a : Expr) → Served (at p (form.Pre a)) → Served a
of_pre p a h = operands_of p (form.Pre a) (inside a) (below-Pre a) h

pub of_arrow : (p : Place) (a b : Expr) → Served (at p (form.Arrow a b)) → Served a × Served b
of_arrow p a b h = two_of a b (operands_of p (form.Arrow a b) (inside a ++ inside b) (below-Arrow a b) h)

pub of_when : (p : Place) (a : Expr) (tag : Tag) (x : Name) → Served (at p (form.When a tag x)) → Served a
of_when p a tag x h = operands_of p (form.When a tag x) (inside a) (below-When a tag x) h

pub of_merge : (p : Place) (x : Name) (bs : List MergeBranch) → Served (at p (form.Merge x bs)) → ServedBranches bs
of_merge p x bs h = operands_of p (form.Merge x bs) (flat_map (λ b. inside b.value) bs) (below-Merge x bs) h

pub of_branch : (b : MergeBranch) (bs : List MergeBranch) → ServedBranches (b ∷ bs) → Served b.value × ServedBranches bs
of_branch b bs h = (all_left HasServedForm (inside b.value) (flat_map (λ b. inside b.value) bs) h, all_right HasServedForm (inside b.value) (flat_map (λ b. inside b.value) bs) h)

pub of_call : (p : Place) (f : Name) (es : List Expr) → Served (at p (form.Call f es)) → ServedArguments es
of_call p f es h = operands_of p (form.Call f es) (flat_map inside es) (below-Call f es) h

pub of_argument : (e : Expr) (es : List Expr) → ServedArguments (e ∷ es) → Served e × ServedArguments es
of_argument e es h = (all_left HasServedForm (inside e) (flat_map inside es) h, all_right HasServedForm (inside e) (flat_map inside es) h)

-- ---- forms that are not served

not_served : (p : Place) (f : Form) (v : Form-F Form Expr MergeBranch) → out-Form f ≡ v → is_served_form v ≡ false → Served (at p f) → ⊥
not_served p f v o n h =
    let t : is_served_form (out-Form f) ≡ true = All-head HasServedForm (at p f) (below f) h in
    let e : is_served_form (out-Form f) ≡ false = ap is_served_form o ∙ n in
    absurd (cc)

pub no_last : (p : Place) (x : Name) → Served (at p (form.Last x)) → ⊥
no_last p x h = not_served p (form.Last x) (Form-F.Last x) (out_Last x) refl h

pub no_async : (p : Place) (q : ℕ) (f : Name) (args : List Expr) → Served (at p (form.AsyncCall q f args)) → ⊥
no_async p q f args h = not_served p (form.AsyncCall q f args) (Form-F.AsyncCall q f args) (out_AsyncCall q f args) refl h

pub no_ready : (p : Place) (k : Const) → Served (at p (form.AsyncConst k)) → ⊥
no_ready p k h = not_served p (form.AsyncConst k) (Form-F.AsyncConst k) (out_AsyncConst k) refl h

pub no_get : (p : Place) (a : Expr) → Served (at p (form.Get a)) → ⊥
no_get p a h = not_served p (form.Get a) (Form-F.Get a) (out_Get a) refl h
