-- In normal form a call stands at the top of a right side alone.
use Rattle.std.proofs.Common.{◌≡◌, Bool, true, false, if◌then◌else◌, List, [], ◌∷◌, ◌++◌, Some, refl, sym, subst, ap, ◌∙◌}
use Rattle.std.proofs.lemmas.Bool.{false≢true}
use Rattle.std.specs.Prelude.{All, Contains, IsTrue}
use Rattle.std.specs.List.{find, flat_map}
use Rattle.std.proofs.lemmas.List.Elements.{All-append, All-cons, All-contains, All-head, All-nil, All-tail, All-weaker}
use Rattle.hept_ast.specs.Parts.{below, inside}
use Rattle.hept_ast.specs.declared.tree.CoreNode.{CoreNode}
use Rattle.hept_ast.specs.declared.tree.CoreEquation.{CoreEquation}
use Rattle.hept_ast.specs.declared.tree.Expr.{Expr}
use Rattle.hept_ast.specs.declared.tree.MergeBranch.{MergeBranch}
use Rattle.hept_ast.specs.declared.tree.Form.{Form, out-Form, roll-Form}
use Rattle.hept_ast.specs.declared.tree.Form.TheOpen.{Form-F}
use Rattle.hept_ast.specs.declared.tree.Form.TheViews.{roll-out-Form}
use Rattle.hept_ast.specs.declared.tree.Form.TheVariants as form
use Rattle.hept_ast.proofs.FormsOf.{below-Const, below-Var, below-Fby, below-Pre, below-Arrow, below-Call, below-AsyncCall, below-AsyncConst, below-Get}
use Rattle.core_naming.specs.Normal.{AreNormal, IsNormalRight, is_simple, is_step, operands, plain, step}
use Rattle.core_facts.specs.Undefined.{Among, first, next}
use Rattle.core_fitting.specs.Sound.{expressions_in}
use Rattle.ready_nodes.proofs.Elements.{all_flat}

all_below : (P : Expr → Type 0) (e : Expr) (v : Form-F Form Expr MergeBranch) (g : Form) (xs : List Expr) → out-Form e.form ≡ v → roll-Form v ≡ g → below g ≡ xs → All P xs → All P (below e.form)
all_below P e v g xs h i j all = subst (All P) (sym (ap below (sym (roll-out-Form e.form) ∙ ap roll-Form h) ∙ ap below i ∙ j)) all

abbrev IsNoStep : Expr → Type 0
IsNoStep a = is_step (out-Form a.form) ≡ false

abbrev IsSimple : Expr → Type 0
IsSimple a = IsTrue (is_simple (out-Form a.form))

not_simple : {P : Type 0} (a : Expr) (v : Form-F Form Expr MergeBranch) → out-Form a.form ≡ v → is_simple v ≡ false → IsSimple a → P
not_simple a v eq none_is h = let t : is_simple (out-Form a.form) ≡ true = h in absurd (false≢true (sym (ap is_simple eq ∙ none_is) ∙ t))

-- below a variable or a constant there is nothing
alone : (a : Expr) (v : Form-F Form Expr MergeBranch) → out-Form a.form ≡ v → IsSimple a → All IsNoStep (inside a)
alone a (Form-F.Const k) eq h = All-cons IsNoStep a (below a.form) (ap is_step eq) (all_below IsNoStep a _ _ _ eq (form.rolls-Const k) (below-Const k) (All-nil IsNoStep))
alone a (Form-F.Var x) eq h = All-cons IsNoStep a (below a.form) (ap is_step eq) (all_below IsNoStep a _ _ _ eq (form.rolls-Var x) (below-Var x) (All-nil IsNoStep))
alone a (Form-F.AsyncConst k) eq h = All-cons IsNoStep a (below a.form) (ap is_step eq) (all_below IsNoStep a _ _ _ eq (form.rolls-AsyncConst k) (below-AsyncConst k) (All-nil IsNoStep))
alone a (Form-F.Last x) eq h = not_simple a _ eq refl h
alone a (Form-F.Unary op b) eq h = not_simple a _ eq refl h
alone a (Form-F.Binary op b c) eq h = not_simple a _ eq refl h
alone a (Form-F.If i b c) eq h = not_simple a _ eq refl h
alone a (Form-F.Fby b c) eq h = not_simple a _ eq refl h
alone a (Form-F.Pre b) eq h = not_simple a _ eq refl h
alone a (Form-F.Arrow b c) eq h = not_simple a _ eq refl h
alone a (Form-F.When b tag x) eq h = not_simple a _ eq refl h
alone a (Form-F.Merge x bs) eq h = not_simple a _ eq refl h
alone a (Form-F.Call f args) eq h = not_simple a _ eq refl h
alone a (Form-F.AsyncCall q f args) eq h = not_simple a _ eq refl h
alone a (Form-F.Get b) eq h = not_simple a _ eq refl h

simple_part : (a : Expr) → IsSimple a → All IsNoStep (inside a)
simple_part a h = alone a (out-Form a.form) refl h

simple_parts : (args : List Expr) → All IsSimple args → All IsNoStep (flat_map inside args)
simple_parts args h = all_flat IsNoStep inside args (All-weaker IsSimple (λ a. All IsNoStep (inside a)) simple_part args h)

both : (a b : Expr) → All IsSimple (a ∷ b ∷ []) → All IsNoStep (inside a ++ inside b)
both a b h = All-append IsNoStep (inside a) (inside b) (simple_part a (All-head IsSimple a (b ∷ []) h)) (simple_part b (All-head IsSimple b [] (All-tail IsSimple a (b ∷ []) h)))

no_step_below : (e : Expr) (v : Form-F Form Expr MergeBranch) → out-Form e.form ≡ v → is_step v ≡ true → All IsSimple (operands v) → All IsNoStep (below e.form)
no_step_below e (Form-F.Const k) eq is_one h = absurd (false≢true is_one)
no_step_below e (Form-F.Var x) eq is_one h = absurd (false≢true is_one)
no_step_below e (Form-F.AsyncConst k) eq is_one h = absurd (false≢true is_one)
no_step_below e (Form-F.Last x) eq is_one h = absurd (false≢true is_one)
no_step_below e (Form-F.Unary op b) eq is_one h = absurd (false≢true is_one)
no_step_below e (Form-F.Binary op b c) eq is_one h = absurd (false≢true is_one)
no_step_below e (Form-F.If i b c) eq is_one h = absurd (false≢true is_one)
no_step_below e (Form-F.When b tag x) eq is_one h = absurd (false≢true is_one)
no_step_below e (Form-F.Merge x bs) eq is_one h = absurd (false≢true is_one)
no_step_below e (Form-F.Fby a b) eq is_one h = all_below IsNoStep e _ _ _ eq (form.rolls-Fby a b) (below-Fby a b) (both a b h)
no_step_below e (Form-F.Pre a) eq is_one h = all_below IsNoStep e _ _ _ eq (form.rolls-Pre a) (below-Pre a) (simple_part a (All-head IsSimple a [] h))
no_step_below e (Form-F.Arrow a b) eq is_one h = all_below IsNoStep e _ _ _ eq (form.rolls-Arrow a b) (below-Arrow a b) (both a b h)
no_step_below e (Form-F.Call f args) eq is_one h = all_below IsNoStep e _ _ _ eq (form.rolls-Call f args) (below-Call f args) (simple_parts args h)
no_step_below e (Form-F.AsyncCall q f args) eq is_one h = all_below IsNoStep e _ _ _ eq (form.rolls-AsyncCall q f args) (below-AsyncCall q f args) (simple_parts args h)
no_step_below e (Form-F.Get a) eq is_one h = all_below IsNoStep e _ _ _ eq (form.rolls-Get a) (below-Get a) (simple_part a (All-head IsSimple a [] h))

abbrev IsTop : Expr → Expr → Type 0
IsTop e x = is_step (out-Form x.form) ≡ true → x ≡ e

no_step_is_top : (e x : Expr) → IsNoStep x → IsTop e x
no_step_is_top e x none_is is_one = absurd (false≢true (sym none_is ∙ is_one))

all_on_top : (e : Expr) → IsNormalRight e → All (IsTop e) (inside e)
all_on_top e (plain none) = All-weaker IsNoStep (IsTop e) (no_step_is_top e) (inside e) none
all_on_top e (step is simple) =
    All-cons (IsTop e) e (below e.form) (λ is_one. refl)
    (All-weaker IsNoStep (IsTop e) (no_step_is_top e) (below e.form) (no_step_below e (out-Form e.form) refl is simple))

-- the equation whose right side a step is
pub record IsRightOf (es : List CoreEquation) (x : Expr) : Type 0 where
  pub equation : CoreEquation
  pub there : Among equation es
  pub same : x ≡ equation.right

abbrev StandsTop : List CoreEquation → Expr → Type 0
StandsTop es x = is_step (out-Form x.form) ≡ true → IsRightOf es x

later : (e : CoreEquation) (es : List CoreEquation) (x : Expr) → StandsTop es x → StandsTop (e ∷ es) x
later e es x h is_one = let r = h is_one in record { equation = r.equation; there = next r.there; same = r.same }

all_stand : (es : List CoreEquation) → AreNormal es → All (StandsTop es) (flat_map (λ e. inside e.right) es)
all_stand [] h = All-nil (StandsTop [])
all_stand (e ∷ es) h = All-append (StandsTop (e ∷ es)) (inside e.right) (flat_map (λ e. inside e.right) es)
    (All-weaker (IsTop e.right) (StandsTop (e ∷ es)) (λ x top is_one. record { equation = e; there = first; same = top is_one }) (inside e.right) (all_on_top e.right (All-head (λ (d : CoreEquation). IsNormalRight d.right) e es h)))
    (All-weaker (StandsTop es) (StandsTop (e ∷ es)) (λ x. later e es x) (flat_map (λ e. inside e.right) es) (all_stand es (All-tail (λ (d : CoreEquation). IsNormalRight d.right) e es h)))

pub step_on_top : (node : CoreNode) → AreNormal node.equations → (x : Expr) → Contains (expressions_in node) x → is_step (out-Form x.form) ≡ true → IsRightOf node.equations x
step_on_top node normal x stands is_one = All-contains (StandsTop node.equations) (expressions_in node) x (all_stand node.equations normal) stands is_one

-- ---- what is found

pub all_found : {A : Type 0} (P : A → Type 0) (q : A → Bool) (xs : List A) (x : A) → All P xs → find q xs ≡ Some x → P x
all_found P q [] x h e = cc
all_found P q (y ∷ ys) x h e = go (q y) (all_found P q ys x (All-tail P y ys h)) e
  where
    go : (b : Bool) → (find q ys ≡ Some x → P x) → (if b then Some y else find q ys) ≡ Some x → P x
    go true rest i = let same : y ≡ x = cc in subst P same (All-head P y ys h)
    go false rest i = rest i
