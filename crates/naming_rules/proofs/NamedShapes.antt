-- Induction on where a subexpression is named.
use Rattle.std.proofs.Common.{◌≡◌, ℕ, List, [], ◌∷◌, ◌++◌, ◌-◌, length, take, sym, subst}
use Rattle.hept_ast.specs.Texts.{Name}
use Rattle.hept_ast.specs.Scopes.{Clock}
use Rattle.hept_ast.specs.declared.name.Place.{Place}
use Rattle.hept_ast.specs.declared.tree.Tag.{Tag}
use Rattle.hept_ast.specs.declared.tree.UnaryOp.{UnaryOp}
use Rattle.hept_ast.specs.declared.tree.BinaryOp.{BinaryOp}
use Rattle.hept_ast.specs.declared.tree.Expr.{Expr}
use Rattle.hept_ast.specs.declared.tree.MergeBranch.{MergeBranch}
use Rattle.hept_ast.specs.declared.tree.Form.{Form}
use Rattle.hept_ast.specs.declared.tree.Form.TheVariants as form
use Rattle.core_naming.specs.Names.{Names, NamesArgument, NamesBranch, variable_at, whole, in_unary, in_left, in_right, in_condition, in_then, in_else, in_fby_first, in_fby_next, in_pre, in_arrow_first, in_arrow_next, in_when, in_merge, in_call, in_async_call, in_get, this_argument, later_argument, this_branch, later_branch}
use Rattle.naming_rules.proofs.Shapes.{at, by_view}

-- a branch with a value, at a place
abbrev pub branch_at : Place → Tag → Expr → MergeBranch
branch_at p tag e = record { place = p; tag = tag; value = e }

-- the clock of a branch
abbrev pub branch_clock : Clock → Tag → Name → Clock
branch_clock c tag y = c ++ record { tag = tag; name = y } ∷ []

module _ (x : Name) (a : Expr) (d : Clock) where
  -- what holds of each form in one of whose parts it holds, and of such arguments and branches
  pub record NamedCases (Q : Clock → Expr → Expr → Type 0) (QA : Clock → List Expr → List Expr → Type 0) (QB : Name → Clock → List MergeBranch → List MergeBranch → Type 0) : Type 0 where
    pub at_whole : Q d a (variable_at a.place x)
    pub at_unary : (c : Clock) (p : Place) (op : UnaryOp) (b m : Expr) → Q c b m → Q c (at p (form.Unary op b)) (at p (form.Unary op m))
    pub at_left : (c : Clock) (p : Place) (op : BinaryOp) (b f m : Expr) → Q c b m → Q c (at p (form.Binary op b f)) (at p (form.Binary op m f))
    pub at_right : (c : Clock) (p : Place) (op : BinaryOp) (b f m : Expr) → Names x a d c f m → Q c f m → Q c (at p (form.Binary op b f)) (at p (form.Binary op b m))
    pub at_condition : (c : Clock) (p : Place) (i b f m : Expr) → Q c i m → Q c (at p (form.If i b f)) (at p (form.If m b f))
    pub at_then : (c : Clock) (p : Place) (i b f m : Expr) → Q c b m → Q c (at p (form.If i b f)) (at p (form.If i m f))
    pub at_else : (c : Clock) (p : Place) (i b f m : Expr) → Q c f m → Q c (at p (form.If i b f)) (at p (form.If i b m))
    pub at_fby_first : (c : Clock) (p : Place) (b f m : Expr) → Q c b m → Q c (at p (form.Fby b f)) (at p (form.Fby m f))
    pub at_fby_next : (c : Clock) (p : Place) (b f m : Expr) → Q c f m → Q c (at p (form.Fby b f)) (at p (form.Fby b m))
    pub at_pre : (c : Clock) (p : Place) (b m : Expr) → Q c b m → Q c (at p (form.Pre b)) (at p (form.Pre m))
    pub at_arrow_first : (c : Clock) (p : Place) (b f m : Expr) → Q c b m → Q c (at p (form.Arrow b f)) (at p (form.Arrow m f))
    pub at_arrow_next : (c : Clock) (p : Place) (b f m : Expr) → Q c f m → Q c (at p (form.Arrow b f)) (at p (form.Arrow b m))
    pub at_when : (c : Clock) (p : Place) (b m : Expr) (tag : Tag) (y : Name) → Q (take (length c - 1) c) b m → Q c (at p (form.When b tag y)) (at p (form.When m tag y))
    pub at_merge : (c : Clock) (p : Place) (y : Name) (bs ms : List MergeBranch) → QB y c bs ms → Q c (at p (form.Merge y bs)) (at p (form.Merge y ms))
    pub at_call : (c : Clock) (p : Place) (f : Name) (es ms : List Expr) → QA c es ms → Q c (at p (form.Call f es)) (at p (form.Call f ms))
    pub at_async : (c : Clock) (p : Place) (q : ℕ) (f : Name) (es ms : List Expr) → QA c es ms → Q c (at p (form.AsyncCall q f es)) (at p (form.AsyncCall q f ms))
    pub at_get : (c : Clock) (p : Place) (b m : Expr) → Q c b m → Q c (at p (form.Get b)) (at p (form.Get m))
    pub this_one : (c : Clock) (e m : Expr) (es : List Expr) → Q c e m → QA c (e ∷ es) (m ∷ es)
    pub later_one : (c : Clock) (e : Expr) (es ms : List Expr) → QA c es ms → QA c (e ∷ es) (e ∷ ms)
    pub this_value : (y : Name) (c : Clock) (p : Place) (tag : Tag) (e m : Expr) (bs : List MergeBranch) → Q (branch_clock c tag y) e m → QB y c (branch_at p tag e ∷ bs) (branch_at p tag m ∷ bs)
    pub later_value : (y : Name) (c : Clock) (b : MergeBranch) (bs ms : List MergeBranch) → QB y c bs ms → QB y c (b ∷ bs) (b ∷ ms)

  module _ (Q : Clock → Expr → Expr → Type 0) (QA : Clock → List Expr → List Expr → Type 0) (QB : Name → Clock → List MergeBranch → List MergeBranch → Type 0) (k : NamedCases Q QA QB) where
    moved : (c : Clock) (e r : Expr) (f g : Form) → r.place ≡ e.place → e.form ≡ f → r.form ≡ g → Q c (at e.place f) (at e.place g) → Q c e r
    moved c e r f g p i j h =
        subst (λ (z : Form). Q c (at e.place z) r) (sym i)
        (subst (λ (q : Place). Q c (at e.place f) (at q r.form)) (sym p) (subst (λ (z : Form). Q c (at e.place f) (at e.place z)) (sym j) h))

    moved_branch : (y : Name) (c : Clock) (b m : MergeBranch) (bs : List MergeBranch) → m.place ≡ b.place → m.tag ≡ b.tag →
        QB y c (b ∷ bs) (branch_at b.place b.tag m.value ∷ bs) → QB y c (b ∷ bs) (m ∷ bs)
    moved_branch y c b m bs p t h =
        subst (λ (q : Place). QB y c (b ∷ bs) (branch_at q m.tag m.value ∷ bs)) (sym p) (subst (λ (z : Tag). QB y c (b ∷ bs) (branch_at b.place z m.value ∷ bs)) (sym t) h)

    mutual
      pub by_names : (c : Clock) (e r : Expr) → Names x a d c e r → Q c e r
      by_names c e r whole = k.at_whole
      by_names c e r (in_unary {b = b} {m = m} {op = op} p i j h) =
          moved c e r (form.Unary op b) (form.Unary op m) p (by_view _ _ _ i (form.rolls-Unary op b)) (by_view _ _ _ j (form.rolls-Unary op m)) (k.at_unary c e.place op b m (by_names c b m h))
      by_names c e r (in_left {b = b} {f = f} {m = m} {op = op} p i j h) =
          moved c e r (form.Binary op b f) (form.Binary op m f) p (by_view _ _ _ i (form.rolls-Binary op b f)) (by_view _ _ _ j (form.rolls-Binary op m f)) (k.at_left c e.place op b f m (by_names c b m h))
      by_names c e r (in_right {b = b} {f = f} {m = m} {op = op} p i j h) =
          moved c e r (form.Binary op b f) (form.Binary op b m) p (by_view _ _ _ i (form.rolls-Binary op b f)) (by_view _ _ _ j (form.rolls-Binary op b m)) (k.at_right c e.place op b f m h (by_names c f m h))
      by_names c e r (in_condition {i = t} {b = b} {f = f} {m = m} p i j h) =
          moved c e r (form.If t b f) (form.If m b f) p (by_view _ _ _ i (form.rolls-If t b f)) (by_view _ _ _ j (form.rolls-If m b f)) (k.at_condition c e.place t b f m (by_names c t m h))
      by_names c e r (in_then {i = t} {b = b} {f = f} {m = m} p i j h) =
          moved c e r (form.If t b f) (form.If t m f) p (by_view _ _ _ i (form.rolls-If t b f)) (by_view _ _ _ j (form.rolls-If t m f)) (k.at_then c e.place t b f m (by_names c b m h))
      by_names c e r (in_else {i = t} {b = b} {f = f} {m = m} p i j h) =
          moved c e r (form.If t b f) (form.If t b m) p (by_view _ _ _ i (form.rolls-If t b f)) (by_view _ _ _ j (form.rolls-If t b m)) (k.at_else c e.place t b f m (by_names c f m h))
      by_names c e r (in_fby_first {b = b} {f = f} {m = m} p i j h) =
          moved c e r (form.Fby b f) (form.Fby m f) p (by_view _ _ _ i (form.rolls-Fby b f)) (by_view _ _ _ j (form.rolls-Fby m f)) (k.at_fby_first c e.place b f m (by_names c b m h))
      by_names c e r (in_fby_next {b = b} {f = f} {m = m} p i j h) =
          moved c e r (form.Fby b f) (form.Fby b m) p (by_view _ _ _ i (form.rolls-Fby b f)) (by_view _ _ _ j (form.rolls-Fby b m)) (k.at_fby_next c e.place b f m (by_names c f m h))
      by_names c e r (in_pre {b = b} {m = m} p i j h) =
          moved c e r (form.Pre b) (form.Pre m) p (by_view _ _ _ i (form.rolls-Pre b)) (by_view _ _ _ j (form.rolls-Pre m)) (k.at_pre c e.place b m (by_names c b m h))
      by_names c e r (in_arrow_first {b = b} {f = f} {m = m} p i j h) =
          moved c e r (form.Arrow b f) (form.Arrow m f) p (by_view _ _ _ i (form.rolls-Arrow b f)) (by_view _ _ _ j (form.rolls-Arrow m f)) (k.at_arrow_first c e.place b f m (by_names c b m h))
      by_names c e r (in_arrow_next {b = b} {f = f} {m = m} p i j h) =
          moved c e r (form.Arrow b f) (form.Arrow b m) p (by_view _ _ _ i (form.rolls-Arrow b f)) (by_view _ _ _ j (form.rolls-Arrow b m)) (k.at_arrow_next c e.place b f m (by_names c f m h))
      by_names c e r (in_when {b = b} {m = m} {tag = tag} {y = y} p i j h) =
          moved c e r (form.When b tag y) (form.When m tag y) p (by_view _ _ _ i (form.rolls-When b tag y)) (by_view _ _ _ j (form.rolls-When m tag y))
          (k.at_when c e.place b m tag y (by_names (take (length c - 1) c) b m h))
      by_names c e r (in_merge {y = y} {bs = bs} {ms = ms} p i j h) =
          moved c e r (form.Merge y bs) (form.Merge y ms) p (by_view _ _ _ i (form.rolls-Merge y bs)) (by_view _ _ _ j (form.rolls-Merge y ms)) (k.at_merge c e.place y bs ms (by_branches y c bs ms h))
      by_names c e r (in_call {f = f} {es = es} {ms = ms} p i j h) =
          moved c e r (form.Call f es) (form.Call f ms) p (by_view _ _ _ i (form.rolls-Call f es)) (by_view _ _ _ j (form.rolls-Call f ms)) (k.at_call c e.place f es ms (by_arguments c es ms h))
      by_names c e r (in_async_call {q = q} {f = f} {es = es} {ms = ms} p i j h) =
          moved c e r (form.AsyncCall q f es) (form.AsyncCall q f ms) p (by_view _ _ _ i (form.rolls-AsyncCall q f es)) (by_view _ _ _ j (form.rolls-AsyncCall q f ms))
          (k.at_async c e.place q f es ms (by_arguments c es ms h))
      by_names c e r (in_get {b = b} {m = m} p i j h) =
          moved c e r (form.Get b) (form.Get m) p (by_view _ _ _ i (form.rolls-Get b)) (by_view _ _ _ j (form.rolls-Get m)) (k.at_get c e.place b m (by_names c b m h))

      by_arguments : (c : Clock) (es ms : List Expr) → NamesArgument x a d c es ms → QA c es ms
      by_arguments c es ms (this_argument {e = e} {m = m} {es = rest} h) = k.this_one c e m rest (by_names c e m h)
      by_arguments c es ms (later_argument {e = e} {es = rest} {ms = others} h) = k.later_one c e rest others (by_arguments c rest others h)

      by_branches : (y : Name) (c : Clock) (bs ms : List MergeBranch) → NamesBranch x a d y c bs ms → QB y c bs ms
      by_branches y c bs ms (this_branch {b = b} {m = m} {bs = rest} p t h) = moved_branch y c b m rest p t (k.this_value y c b.place b.tag b.value m.value rest (by_names (branch_clock c b.tag y) b.value m.value h))
      by_branches y c bs ms (later_branch {b = b} {bs = rest} {ms = others} h) = k.later_value y c b rest others (by_branches y c rest others h)
