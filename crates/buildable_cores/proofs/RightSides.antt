-- Right sides in normal form: what they compute at the instant, and what they take for the next one.
use Rattle.std.proofs.Common.{◌≡◌, ℕ, suc, length, Bool, true, false, List, [], ◌∷◌, ◌++◌, refl, sym, ap, subst, ◌∙◌}
use Rattle.std.specs.Prelude.{All, IsTrue}
use Rattle.std.proofs.lemmas.Bool.{false≢true}
use Rattle.std.proofs.lemmas.List.Elements.{All-nil, All-cons, All-head, All-tail}
use Rattle.hept_ast.specs.Texts.{Name, is_in, names}
use Rattle.hept_ast.specs.Scopes.{Clock}
use Rattle.hept_ast.specs.Parts.{below, inside}
use Rattle.hept_ast.specs.Causal.{reads}
use Rattle.hept_ast.specs.declared.tree.Const.{Const}
use Rattle.hept_ast.specs.declared.tree.Core.{Core}
use Rattle.hept_ast.specs.declared.tree.CoreNode.{CoreNode}
use Rattle.hept_ast.specs.declared.tree.Expr.{Expr}
use Rattle.hept_ast.specs.declared.tree.MergeBranch.{MergeBranch}
use Rattle.hept_ast.specs.declared.tree.Ty.{Ty}
use Rattle.hept_ast.specs.declared.tree.Form.{Form, out-Form}
use Rattle.hept_ast.specs.declared.tree.Form.TheOpen.{Form-F}
use Rattle.hept_ast.specs.declared.tree.Form.TheVariants as form
use Rattle.hept_ast.proofs.FormsOf.{below-Fby, below-Pre, below-Arrow}
use Rattle.core_rules.specs.Cores.{core_decls}
use Rattle.core_facts.specs.Undefined.{Grades, may}
use Rattle.core_facts.specs.Static.{HasBranch}
use Rattle.core_naming.specs.Normal.{IsNormalRight, is_simple, is_step, operands, plain, step}
use Rattle.sound_expressions.specs.Sound.{Sound, Within, is_constant, is_async_constant, is_variable, is_last, is_unary, is_binary, is_if, is_fby, is_pre, is_arrow, is_when, is_merge, is_call, is_async_call, is_get}
use Rattle.sound_expressions.proofs.Expressions.{all_left, all_right}
use Rattle.core_fitting.proofs.StandIn.{program_within}
use Rattle.core_fitting.proofs.Converted.{declared_in_names}
use Rattle.core_fitting.proofs.NamesRead.{in_first, reads_arrow, reads_fby, reads_variable}
use Rattle.flat_cores.proofs.ServedForms.{HasServedForm, Served}
use Rattle.plan_expressions.specs.Computable.{Computable, constant, variable}
use Rattle.plan_equations.specs.Rights.{IsRight, arrow, expression, from_constant, from_variable, previous}
use Rattle.plan_bodies.specs.Buildable.{IsKeepable, KeepsComputable}
use Rattle.buildable_cores.proofs.Divisors.{form_by}
use Rattle.buildable_cores.proofs.Computing.{IsOperation, ReadsKnown, all_below, computable, is_a_step, known_by, known_left, known_right, not_served}

-- a synchronous call
abbrev pub is_sync_call : Form-F Form Expr MergeBranch → Bool
is_sync_call (Form-F.Call f args) = true
is_sync_call _ = false

pub no_call : {P : Type 0} (e : Expr) (v : Form-F Form Expr MergeBranch) → out-Form e.form ≡ v → is_sync_call v ≡ true → is_sync_call (out-Form e.form) ≡ false → P
no_call e v eq h n = absurd (false≢true (sym n ∙ (ap is_sync_call eq ∙ h)))

abbrev pub IsSimpleForm : Expr → Type 0
IsSimpleForm a = IsTrue (is_simple (out-Form a.form))

not_simple : {P : Type 0} (e : Expr) (v : Form-F Form Expr MergeBranch) → out-Form e.form ≡ v → is_simple v ≡ false → IsSimpleForm e → P
not_simple e v eq n h = let t : is_simple (out-Form e.form) ≡ true = h in absurd (false≢true (sym (ap is_simple eq ∙ n) ∙ t))

abbrev pub HasBranches : Expr → Type 0
HasBranches e = All (λ a. HasBranch (out-Form a.form)) (inside e)

operations : (xs : List Expr) → All HasServedForm xs → All (λ a. is_step (out-Form a.form) ≡ false) xs → All (λ a. HasBranch (out-Form a.form)) xs → All IsOperation xs
operations [] h k b = All-nil IsOperation
operations (x ∷ xs) h k b =
    All-cons IsOperation x xs
    (record { served = All-head HasServedForm x xs h; no_step = All-head (λ (a : Expr). is_step (out-Form a.form) ≡ false) x xs k; branch = All-head (λ (a : Expr). HasBranch (out-Form a.form)) x xs b })
    (operations xs (All-tail HasServedForm x xs h) (All-tail (λ (a : Expr). is_step (out-Form a.form) ≡ false) x xs k) (All-tail (λ (a : Expr). HasBranch (out-Form a.form)) x xs b))

-- what a step is over is simple
pub simple_operands : (e : Expr) (v : Form-F Form Expr MergeBranch) → out-Form e.form ≡ v → is_step v ≡ true → IsNormalRight e → All IsSimpleForm (operands v)
simple_operands e v eq h (step is simple) = subst (λ (w : Form-F Form Expr MergeBranch). All IsSimpleForm (operands w)) eq simple
simple_operands e v eq h (plain none) = is_a_step e v eq h (All-head (λ (a : Expr). is_step (out-Form a.form) ≡ false) e (below e.form) none)

-- a form that is no step stands in a right side without any
no_steps : (e : Expr) (v : Form-F Form Expr MergeBranch) → out-Form e.form ≡ v → is_step v ≡ false → IsNormalRight e → All (λ a. is_step (out-Form a.form) ≡ false) (inside e)
no_steps e v eq h (plain none) = none
no_steps e v eq h (step is simple) = let t : is_step (out-Form e.form) ≡ true = is in absurd (false≢true (sym (ap is_step eq ∙ h) ∙ t))

-- a right side that is no step, part by part
pub plain_operations : (e : Expr) (v : Form-F Form Expr MergeBranch) → out-Form e.form ≡ v → is_step v ≡ false → Served e → HasBranches e → IsNormalRight e → All IsOperation (inside e)
plain_operations e v eq h served branches n = operations (inside e) served (no_steps e v eq h n) branches

-- a constant, or a variable that is declared
pub data Simple (node : CoreNode) (a : Expr) : Type 0 where
  a_constant : (k : Const) → a.form ≡ form.Const k → Simple node a
  a_variable : (x : Name) → a.form ≡ form.Var x → reads a.form ≡ x ∷ [] → is_in x (names (core_decls node)) ≡ true → Simple node a

module _ (core : Core) (node : CoreNode) (g : Grades) where
  abbrev k : Within
  k = program_within core node (may g)

  pub simple : (a : Expr) (c : Clock) (ts : List Ty) → Sound k [] a c ts → IsSimpleForm a → HasServedForm a → Simple node a
  simple a c _ (is_constant {v = v} eq type fits) h s = a_constant v (form_by a.form (Form-F.Const v) _ eq (form.rolls-Const v))
  simple a c _ (is_async_constant {v = v} eq type fits) h s = not_served a (Form-F.AsyncConst v) eq refl s
  simple a c _ (is_variable {x = x} {d = d} eq sees) h s = a_variable x (form_by a.form (Form-F.Var x) _ eq (form.rolls-Var x)) (reads_variable a x eq) (declared_in_names (core_decls node) x d sees.declared)
  simple a c _ (is_last {x = x} eq sees init) h s = not_served a (Form-F.Last x) eq refl s
  simple e c ts (is_unary {a = a} {op = op} eq u fit) h s = not_simple e (Form-F.Unary op a) eq refl h
  simple e c ts (is_binary {a = a} {b = b} {op = op} eq u v fit nonzero) h s = not_simple e (Form-F.Binary op a b) eq refl h
  simple e c ts (is_if {i = i} {a = a} {b = b} eq q u v fit) h s = not_simple e (Form-F.If i a b) eq refl h
  simple e c ts (is_fby {a = a} {b = b} eq u v fit never) h s = not_simple e (Form-F.Fby a b) eq refl h
  simple e c ts (is_pre {a = a} eq u fit never) h s = not_simple e (Form-F.Pre a) eq refl h
  simple e c ts (is_arrow {a = a} {b = b} eq u v fit) h s = not_simple e (Form-F.Arrow a b) eq refl h
  simple e _ ts (is_when {a = a} {tag = tag} {x = x} eq sees u tag_of tags fit never) h s = not_simple e (Form-F.When a tag x) eq refl h
  simple e c ts (is_merge {x = x} {bs = bs} eq sees tags never values all fit) h s = not_simple e (Form-F.Merge x bs) eq refl h
  simple e c ts (is_call {f = f} {args = args} eq named given fit leads made) h s = not_simple e (Form-F.Call f args) eq refl h
  simple e c ts (is_async_call {q = q} {f = f} {args = args} eq named given fit leads made) h s = not_simple e (Form-F.AsyncCall q f args) eq refl h
  simple e c ts (is_get {a = a} eq u fit) h s = not_simple e (Form-F.Get a) eq refl h

  simple_computable : {n : ℕ} (known : List Name) (a : Expr) → Simple node a → ReadsKnown node known (reads a.form) → Computable core.types known n a
  simple_computable known a (a_constant v is) r = constant v is
  simple_computable known a (a_variable x is read declared) r = variable x is (r x (subst (λ (l : List Name). is_in x l ≡ true) (sym read) (in_first x [])) declared)

  pub served_first : (a : Expr) → All HasServedForm (inside a) → HasServedForm a
  served_first a h = All-head HasServedForm a (below a.form) h

  -- the operands of a step that has one or two
  pub one_of : (e a : Expr) → out-Form e.form ≡ Form-F.Pre a → IsNormalRight e → IsSimpleForm a
  one_of e a eq n = All-head IsSimpleForm a [] (simple_operands e (Form-F.Pre a) eq refl n)

  pub first_of : (e a b : Expr) (v : Form-F Form Expr MergeBranch) → out-Form e.form ≡ v → is_step v ≡ true → operands v ≡ a ∷ b ∷ [] → IsNormalRight e → IsSimpleForm a
  first_of e a b v eq h two n = All-head IsSimpleForm a (b ∷ []) (subst (All IsSimpleForm) two (simple_operands e v eq h n))

  pub second_of : (e a b : Expr) (v : Form-F Form Expr MergeBranch) → out-Form e.form ≡ v → is_step v ≡ true → operands v ≡ a ∷ b ∷ [] → IsNormalRight e → IsSimpleForm b
  second_of e a b v eq h two n = All-head IsSimpleForm b [] (All-tail IsSimpleForm a (b ∷ []) (subst (All IsSimpleForm) two (simple_operands e v eq h n)))

  pub fby_parts : (e a b : Expr) → out-Form e.form ≡ Form-F.Fby a b → Served e → All HasServedForm (inside a) × All HasServedForm (inside b)
  fby_parts e a b eq h =
      let all = all_below HasServedForm e (Form-F.Fby a b) _ (inside a ++ inside b) eq (form.rolls-Fby a b) (below-Fby a b) h in
      (all_left HasServedForm (inside a) (inside b) all, all_right HasServedForm (inside a) (inside b) all)

  pub arrow_parts : (e a b : Expr) → out-Form e.form ≡ Form-F.Arrow a b → Served e → All HasServedForm (inside a) × All HasServedForm (inside b)
  arrow_parts e a b eq h =
      let all = all_below HasServedForm e (Form-F.Arrow a b) _ (inside a ++ inside b) eq (form.rolls-Arrow a b) (below-Arrow a b) h in
      (all_left HasServedForm (inside a) (inside b) all, all_right HasServedForm (inside a) (inside b) all)

  first_known : {n : ℕ} (known : List Name) (e a b : Expr) → e.form ≡ form.Fby a b → Simple node a → ReadsKnown node known (reads a.form) → IsRight core.types known n e
  first_known known e a b is (a_constant v const) r = from_constant a b v is const
  first_known known e a b is (a_variable x var read declared) r = from_variable a b x is var (r x (subst (λ (l : List Name). is_in x l ≡ true) (sym read) (in_first x [])) declared)

  module _ (known : List Name) where
    plain_right : (e : Expr) (c : Clock) (ts : List Ty) (v : Form-F Form Expr MergeBranch) → Sound k [] e c ts → out-Form e.form ≡ v → is_step v ≡ false → Served e → HasBranches e → IsNormalRight e → ReadsKnown node known (reads e.form) → IsRight core.types known (suc (length c)) e
    plain_right e c ts v s eq h served branches n r = expression (computable core node g known e c ts (suc (length c)) refl s (plain_operations e v eq h served branches n) r)

    -- one that is no call
    pub right : (e : Expr) (c : Clock) (ts : List Ty) → Sound k [] e c ts → is_sync_call (out-Form e.form) ≡ false → Served e → HasBranches e → IsNormalRight e → ReadsKnown node known (reads e.form) → IsRight core.types known (suc (length c)) e
    right e c ts (is_fby {a = a} {b = b} {us = us} eq s u fit never) o h m n r =
        let parts = fby_parts e a b eq h in
        first_known known e a b (form_by e.form (Form-F.Fby a b) _ eq (form.rolls-Fby a b)) (simple a c us s (first_of e a b (Form-F.Fby a b) eq refl refl n) (served_first a parts.0))
        (known_by node known (reads e.form) (reads a.form) (reads_fby e a b eq) r)
    right e c ts (is_pre {a = a} eq s fit never) o h m n r = previous a (form_by e.form (Form-F.Pre a) _ eq (form.rolls-Pre a))
    right e c ts (is_arrow {a = a} {b = b} {us = us} {vs = vs} eq s u fit) o h m n r =
        let parts = arrow_parts e a b eq h in
        let both = known_by node known (reads e.form) (reads a.form ++ reads b.form) (reads_arrow e a b eq) r in
        arrow a b (form_by e.form (Form-F.Arrow a b) _ eq (form.rolls-Arrow a b))
        (simple_computable known a (simple a c us s (first_of e a b (Form-F.Arrow a b) eq refl refl n) (served_first a parts.0)) (known_left node known (reads a.form) (reads b.form) both))
        (simple_computable known b (simple b c vs u (second_of e a b (Form-F.Arrow a b) eq refl refl n) (served_first b parts.1)) (known_right node known (reads a.form) (reads b.form) both))
    right e c _ (is_constant {v = v} eq type fits) o h m n r = expression (constant v (form_by e.form (Form-F.Const v) _ eq (form.rolls-Const v)))
    right e c _ (is_async_constant {v = v} eq type fits) o h m n r = not_served e (Form-F.AsyncConst v) eq refl (served_first e h)
    right e c _ (is_variable {x = x} eq sees) o h m n r = plain_right e c _ (Form-F.Var x) (is_variable eq sees) eq refl h m n r
    right e c _ (is_last {x = x} eq sees init) o h m n r = not_served e (Form-F.Last x) eq refl (served_first e h)
    right e c ts (is_unary {a = a} {op = op} eq s fit) o h m n r = plain_right e c ts (Form-F.Unary op a) (is_unary eq s fit) eq refl h m n r
    right e c ts (is_binary {a = a} {b = b} {op = op} eq s u fit nonzero) o h m n r = plain_right e c ts (Form-F.Binary op a b) (is_binary eq s u fit nonzero) eq refl h m n r
    right e c ts (is_if {i = i} {a = a} {b = b} eq q s u fit) o h m n r = plain_right e c ts (Form-F.If i a b) (is_if eq q s u fit) eq refl h m n r
    right e _ ts (is_when {a = a} {tag = tag} {x = x} eq sees s tag_of tags fit never) o h m n r = plain_right e _ ts (Form-F.When a tag x) (is_when eq sees s tag_of tags fit never) eq refl h m n r
    right e c ts (is_merge {x = x} {bs = bs} eq sees tags never values all fit) o h m n r = plain_right e c ts (Form-F.Merge x bs) (is_merge eq sees tags never values all fit) eq refl h m n r
    right e c ts (is_call {f = f} {args = args} eq named given fit leads made) o h m n r = no_call e (Form-F.Call f args) eq refl o
    right e c ts (is_async_call {q = q} {f = f} {args = args} eq named given fit leads made) o h m n r = not_served e (Form-F.AsyncCall q f args) eq refl (served_first e h)
    right e c ts (is_get {a = a} eq s fit) o h m n r = not_served e (Form-F.Get a) eq refl (served_first e h)

    -- ---- for the next instant

    by_form : (e : Expr) (v : Form-F Form Expr MergeBranch) → out-Form e.form ≡ v → KeepsComputable core.types known v → IsKeepable core.types known e
    by_form e v eq h = subst (KeepsComputable core.types known) (sym eq) h

    pub keepable : (e : Expr) (c : Clock) (ts : List Ty) → Sound k [] e c ts → Served e → IsNormalRight e → ((y : Name) → is_in y (names (core_decls node)) ≡ true → is_in y known ≡ true) → IsKeepable core.types known e
    keepable e c ts (is_fby {a = a} {b = b} {vs = vs} eq s u fit never) h n all =
        by_form e (Form-F.Fby a b) eq (simple_computable known b (simple b c vs u (second_of e a b (Form-F.Fby a b) eq refl refl n) (served_first b (fby_parts e a b eq h).1)) (λ y i d. all y d))
    keepable e c ts (is_pre {a = a} {us = us} eq s fit never) h n all =
        by_form e (Form-F.Pre a) eq (simple_computable known a (simple a c us s (one_of e a eq n) (served_first a (all_below HasServedForm e (Form-F.Pre a) _ (inside a) eq (form.rolls-Pre a) (below-Pre a) h))) (λ y i d. all y d))
    keepable e c ts (is_arrow {a = a} {b = b} eq s u fit) h n all = by_form e (Form-F.Arrow a b) eq tt
    keepable e c _ (is_constant {v = v} eq type fits) h n all = by_form e (Form-F.Const v) eq tt
    keepable e c _ (is_async_constant {v = v} eq type fits) h n all = by_form e (Form-F.AsyncConst v) eq tt
    keepable e c _ (is_variable {x = x} eq sees) h n all = by_form e (Form-F.Var x) eq tt
    keepable e c _ (is_last {x = x} eq sees init) h n all = by_form e (Form-F.Last x) eq tt
    keepable e c ts (is_unary {a = a} {op = op} eq s fit) h n all = by_form e (Form-F.Unary op a) eq tt
    keepable e c ts (is_binary {a = a} {b = b} {op = op} eq s u fit nonzero) h n all = by_form e (Form-F.Binary op a b) eq tt
    keepable e c ts (is_if {i = i} {a = a} {b = b} eq q s u fit) h n all = by_form e (Form-F.If i a b) eq tt
    keepable e _ ts (is_when {a = a} {tag = tag} {x = x} eq sees s tag_of tags fit never) h n all = by_form e (Form-F.When a tag x) eq tt
    keepable e c ts (is_merge {x = x} {bs = bs} eq sees tags never values every fit) h n all = by_form e (Form-F.Merge x bs) eq tt
    keepable e c ts (is_call {f = f} {args = args} eq named given fit leads made) h n all = by_form e (Form-F.Call f args) eq tt
    keepable e c ts (is_async_call {q = q} {f = f} {args = args} eq named given fit leads made) h n all = by_form e (Form-F.AsyncCall q f args) eq tt
    keepable e c ts (is_get {a = a} eq s fit) h n all = by_form e (Form-F.Get a) eq tt
