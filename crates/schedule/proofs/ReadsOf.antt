-- Whether one of the reads of each form passes a test.
use Rattle.std.proofs.Common.{◌≡◌, ℕ, Bool, true, false, ◌||◌, List, [], ◌∷◌, ◌++◌, take, map, length, get_or, ◌<◌, refl, sym, ap, ◌∙◌}
use Rattle.std.specs.List.{flat_map, list_any}
use Rattle.std.proofs.lemmas.List.{take_all}
use Rattle.std.proofs.lemmas.List.Folds.{list_any-append, list_any_at}
use Rattle.hept_ast.specs.Texts.{Name}
use Rattle.hept_ast.specs.Causal.{reads}
use Rattle.hept_ast.specs.declared.tree.ClockStep.{ClockStep}
use Rattle.hept_ast.specs.declared.tree.CoreEquation.{CoreEquation}
use Rattle.hept_ast.specs.declared.tree.Const.{Const}
use Rattle.hept_ast.specs.declared.tree.Expr.{Expr}
use Rattle.hept_ast.specs.declared.tree.MergeBranch.{MergeBranch}
use Rattle.hept_ast.specs.declared.tree.Tag.{Tag}
use Rattle.hept_ast.specs.declared.tree.UnaryOp.{UnaryOp}
use Rattle.hept_ast.specs.declared.tree.BinaryOp.{BinaryOp}
use Rattle.hept_ast.specs.declared.tree.Form.TheVariants as form
use Rattle.schedule.specs.Order.{is_left, waits}
use Rattle.hept_ast.proofs.ReadsOf.{reads-Const, reads-Var, reads-Last, reads-Pre, reads-AsyncConst, reads-Unary, reads-Binary, reads-If, reads-Fby, reads-Arrow, reads-When, reads-Get, reads-Merge, reads-Call, reads-AsyncCall}

or_false : (b : Bool) → b || false ≡ b
or_false true = refl
or_false false = refl

or_assoc : (a b c : Bool) → (a || b) || c ≡ a || (b || c)
or_assoc true b c = refl
or_assoc false b c = refl

pub any_flat : {X : Type 0} (p : Name → Bool) (f : X → List Name) (xs : List X) → list_any p (flat_map f xs) ≡ list_any (λ x. list_any p (f x)) xs
any_flat p f [] = refl
any_flat p f (x ∷ xs) = list_any-append p (f x) (flat_map f xs) ∙ ap (λ b. list_any p (f x) || b) (any_flat p f xs)

pub any-Const : (p : Name → Bool) (k : Const) → list_any p (reads (form.Const k)) ≡ false
any-Const p k = ap (list_any p) (reads-Const k)

pub any-Var : (p : Name → Bool) (x : List ℕ) → list_any p (reads (form.Var x)) ≡ p x
any-Var p x = ap (list_any p) (reads-Var x) ∙ or_false (p x)

pub any-Last : (p : Name → Bool) (x : List ℕ) → list_any p (reads (form.Last x)) ≡ false
any-Last p x = ap (list_any p) (reads-Last x)

pub any-Pre : (p : Name → Bool) (a : Expr) → list_any p (reads (form.Pre a)) ≡ false
any-Pre p a = ap (list_any p) (reads-Pre a)

pub any-AsyncConst : (p : Name → Bool) (k : Const) → list_any p (reads (form.AsyncConst k)) ≡ false
any-AsyncConst p k = ap (list_any p) (reads-AsyncConst k)

pub any-Unary : (p : Name → Bool) (op : UnaryOp) (a : Expr) → list_any p (reads (form.Unary op a)) ≡ list_any p (reads a.form)
any-Unary p op a = ap (list_any p) (reads-Unary op a)

pub any-Binary : (p : Name → Bool) (op : BinaryOp) (a b : Expr) → list_any p (reads (form.Binary op a b)) ≡ list_any p (reads a.form) || list_any p (reads b.form)
any-Binary p op a b = ap (list_any p) (reads-Binary op a b) ∙ list_any-append p (reads a.form) (reads b.form)

pub any-If : (p : Name → Bool) (c a b : Expr) → list_any p (reads (form.If c a b)) ≡ list_any p (reads c.form) || (list_any p (reads a.form) || list_any p (reads b.form))
any-If p c a b =
    ap (list_any p) (reads-If c a b) ∙ list_any-append p (reads c.form ++ reads a.form) (reads b.form)
    ∙ ap (λ t. t || list_any p (reads b.form)) (list_any-append p (reads c.form) (reads a.form))
    ∙ or_assoc (list_any p (reads c.form)) (list_any p (reads a.form)) (list_any p (reads b.form))

pub any-Fby : (p : Name → Bool) (a b : Expr) → list_any p (reads (form.Fby a b)) ≡ list_any p (reads a.form)
any-Fby p a b = ap (list_any p) (reads-Fby a b)

pub any-Arrow : (p : Name → Bool) (a b : Expr) → list_any p (reads (form.Arrow a b)) ≡ list_any p (reads a.form) || list_any p (reads b.form)
any-Arrow p a b = ap (list_any p) (reads-Arrow a b) ∙ list_any-append p (reads a.form) (reads b.form)

pub any-When : (p : Name → Bool) (a : Expr) (tag : Tag) (x : List ℕ) → list_any p (reads (form.When a tag x)) ≡ list_any p (reads a.form) || p x
any-When p a tag x = ap (list_any p) (reads-When a tag x) ∙ list_any-append p (reads a.form) (x ∷ []) ∙ ap (λ t. list_any p (reads a.form) || t) (or_false (p x))

pub any-Get : (p : Name → Bool) (a : Expr) → list_any p (reads (form.Get a)) ≡ list_any p (reads a.form)
any-Get p a = ap (list_any p) (reads-Get a)

pub any-Merge : (p : Name → Bool) (x : List ℕ) (bs : List MergeBranch) → list_any p (reads (form.Merge x bs)) ≡ p x || list_any (λ b. list_any p (reads b.value.form)) bs
any-Merge p x bs = ap (list_any p) (reads-Merge x bs) ∙ ap (λ t. p x || t) (any_flat p (λ b. reads b.value.form) bs)

pub any-Call : (p : Name → Bool) (f : List ℕ) (args : List Expr) → list_any p (reads (form.Call f args)) ≡ list_any (λ e. list_any p (reads e.form)) args
any-Call p f args = ap (list_any p) (reads-Call f args) ∙ any_flat p (λ e. reads e.form) args

pub any-AsyncCall : (p : Name → Bool) (q : ℕ) (f : List ℕ) (args : List Expr) → list_any p (reads (form.AsyncCall q f args)) ≡ list_any (λ e. list_any p (reads e.form)) args
any-AsyncCall p q f args = ap (list_any p) (reads-AsyncCall q f args) ∙ any_flat p (λ e. reads e.form) args

-- where one of the branches or arguments has such a read, the whole has
or_right : (b c : Bool) → c ≡ true → b || c ≡ true
or_right true c e = refl
or_right false c e = e

pub one_branch : (p : Name → Bool) (x : List ℕ) (bs : List MergeBranch) (i : ℕ) (d : MergeBranch) → i < length bs → list_any p (reads (get_or bs i d).value.form) ≡ true →
    list_any p (reads (form.Merge x bs)) ≡ true
one_branch p x bs i d lt e = any-Merge p x bs ∙ or_right (p x) _ (list_any_at (λ (b : MergeBranch). list_any p (reads b.value.form)) bs i d lt e)

pub one_arg : (p : Name → Bool) (f : List ℕ) (args : List Expr) (i : ℕ) (d : Expr) → i < length args → list_any p (reads (get_or args i d).form) ≡ true →
    list_any p (reads (form.Call f args)) ≡ true
one_arg p f args i d lt e = any-Call p f args ∙ list_any_at (λ (a : Expr). list_any p (reads a.form)) args i d lt e

pub one_async_arg : (p : Name → Bool) (q : ℕ) (f : List ℕ) (args : List Expr) (i : ℕ) (d : Expr) → i < length args → list_any p (reads (get_or args i d).form) ≡ true →
    list_any p (reads (form.AsyncCall q f args)) ≡ true
one_async_arg p q f args i d lt e = any-AsyncCall p q f args ∙ list_any_at (λ (a : Expr). list_any p (reads a.form)) args i d lt e

-- what an equation reads: its right side, its clock, its resets
any_steps : (p : Name → Bool) (steps : List ClockStep) → list_any p (map (λ s. s.name) steps) ≡ list_any (λ s. p s.name) steps
any_steps p [] = refl
any_steps p (s ∷ steps) = ap (λ b. p s.name || b) (any_steps p steps)

pub waits_by : (e : CoreEquation) (left : List CoreEquation) →
    waits e left ≡ list_any (is_left left) (reads e.right.form) || (list_any (λ s. is_left left s.name) e.clock.steps || list_any (is_left left) e.resets)
waits_by e left =
    list_any-append (is_left left) (reads e.right.form ++ map (λ s. s.name) e.clock.steps) e.resets
    ∙ ap (λ b. b || list_any (is_left left) e.resets) (list_any-append (is_left left) (reads e.right.form) (map (λ s. s.name) e.clock.steps))
    ∙ or_assoc (list_any (is_left left) (reads e.right.form)) (list_any (is_left left) (map (λ s. s.name) e.clock.steps)) (list_any (is_left left) e.resets)
    ∙ ap (λ b. list_any (is_left left) (reads e.right.form) || (b || list_any (is_left left) e.resets)) (any_steps (is_left left) e.clock.steps)

pub by_clock : (e : CoreEquation) (left : List CoreEquation) → list_any (λ s. is_left left s.name) e.clock.steps ≡ true → waits e left ≡ true
by_clock e left h =
    waits_by e left ∙ ap (λ b. list_any (is_left left) (reads e.right.form) || (b || list_any (is_left left) e.resets)) h
    ∙ or_right (list_any (is_left left) (reads e.right.form)) true refl

pub by_resets : (e : CoreEquation) (left : List CoreEquation) → list_any (is_left left) (reads e.right.form) ≡ false → list_any (λ s. is_left left s.name) e.clock.steps ≡ false →
    waits e left ≡ list_any (is_left left) e.resets
by_resets e left h k =
    waits_by e left ∙ ap (λ b. b || (list_any (λ s. is_left left s.name) e.clock.steps || list_any (is_left left) e.resets)) h
    ∙ ap (λ b. b || list_any (is_left left) e.resets) k

pub ruleset reads_any = (take_all, any-Const, any-Var, any-Last, any-Pre, any-AsyncConst, any-Unary, any-Binary, any-If, any-Fby, any-Arrow, any-When, any-Get, any-Merge, any-Call, any-AsyncCall)
