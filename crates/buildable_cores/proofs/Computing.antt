-- Expressions without memory operators are computed from what they read.
use Rattle.std.proofs.Common.{◌≡◌, inl, inr, ℕ, suc, ◌+◌, ◌-◌, true, false, List, [], ◌∷◌, ◌++◌, length, refl, sym, ap, subst, ◌∙◌, arith}
use Rattle.std.specs.Prelude.{All, IsTrue}
use Rattle.std.specs.List.{flat_map}
use Rattle.std.proofs.lemmas.List.{length_push}
use Rattle.std.proofs.lemmas.Bool.{false≢true}
use Rattle.std.proofs.lemmas.List.Elements.{All-head, All-tail}
use Rattle.hept_ast.specs.Texts.{Name, is_in, names}
use Rattle.hept_ast.specs.Scopes.{Clock}
use Rattle.hept_ast.specs.Parts.{below, inside}
use Rattle.hept_ast.specs.Causal.{reads}
use Rattle.hept_ast.specs.declared.tree.Core.{Core}
use Rattle.hept_ast.specs.declared.tree.CoreNode.{CoreNode}
use Rattle.hept_ast.specs.declared.tree.Expr.{Expr}
use Rattle.hept_ast.specs.declared.tree.ClockStep.{ClockStep}
use Rattle.hept_ast.specs.declared.tree.MergeBranch.{MergeBranch}
use Rattle.hept_ast.specs.declared.tree.Ty.{Ty}
use Rattle.hept_ast.specs.declared.tree.Form.{Form, out-Form, roll-Form}
use Rattle.hept_ast.specs.declared.tree.Form.TheOpen.{Form-F}
use Rattle.hept_ast.specs.declared.tree.Form.TheVariants as form
use Rattle.hept_ast.proofs.FormsOf.{below-Unary, below-Binary, below-If, below-When, below-Merge}
use Rattle.core_rules.specs.Cores.{core_decls}
use Rattle.core_facts.specs.Undefined.{Grades, may}
use Rattle.core_facts.specs.Static.{HasBranch}
use Rattle.core_naming.specs.Normal.{is_step}
use Rattle.served_programs.specs.Served.{is_served_form}
use Rattle.sound_expressions.specs.Sound.{Sound, Within, is_constant, is_async_constant, is_variable, is_last, is_unary, is_binary, is_if, is_fby, is_pre, is_arrow, is_when, is_merge, is_call, is_async_call, is_get, SoundBranches, no_branches, a_branch}
use Rattle.sound_expressions.proofs.Expressions.{all_left, all_right}
use Rattle.core_fitting.proofs.StandIn.{program_within}
use Rattle.core_fitting.proofs.Converted.{declared_in_names}
use Rattle.core_fitting.proofs.NamesRead.{in_first, in_left, in_more, in_right, reads_variable, reads_unary, reads_binary, reads_if, reads_when, reads_merge}
use Rattle.plan_expressions.specs.Computable.{AreComputable, Computable, binary, conditional, constant, divided, merged, more, one, sampled, unary, variable}
use Rattle.buildable_cores.proofs.Divisors.{division_or_not, form_by, has_divisor}

-- a constant, a variable, an operator, `if`, `when`, or a merge with a branch
pub record IsOperation (a : Expr) : Type 0 where
  pub served : IsTrue (is_served_form (out-Form a.form))
  pub no_step : is_step (out-Form a.form) ≡ false
  pub branch : HasBranch (out-Form a.form)

abbrev pub Operations : Expr → Type 0
Operations e = All IsOperation (inside e)

pub not_served : {P : Type 0} (e : Expr) (v : Form-F Form Expr MergeBranch) → out-Form e.form ≡ v → is_served_form v ≡ false → IsTrue (is_served_form (out-Form e.form)) → P
not_served e v eq n h = let t : is_served_form (out-Form e.form) ≡ true = h in absurd (false≢true (sym (ap is_served_form eq ∙ n) ∙ t))

pub is_a_step : {P : Type 0} (e : Expr) (v : Form-F Form Expr MergeBranch) → out-Form e.form ≡ v → is_step v ≡ true → is_step (out-Form e.form) ≡ false → P
is_a_step e v eq n h = absurd (false≢true (sym h ∙ (ap is_step eq ∙ n)))

pub all_below : (P : Expr → Type 0) (e : Expr) (v : Form-F Form Expr MergeBranch) (f : Form) (xs : List Expr) → out-Form e.form ≡ v → roll-Form v ≡ f → below f ≡ xs → All P (inside e) → All P xs
all_below P e v f xs eq r b h = subst (All P) (ap below (form_by e.form v f eq r) ∙ b) (All-tail P e (below e.form) h)

-- what is declared and read is known
abbrev pub ReadsKnown : CoreNode → List Name → List Name → Type 0
ReadsKnown node known xs = (y : Name) → is_in y xs ≡ true → is_in y (names (core_decls node)) ≡ true → is_in y known ≡ true

pub known_by : (node : CoreNode) (known xs ys : List Name) → xs ≡ ys → ReadsKnown node known xs → ReadsKnown node known ys
known_by node known xs ys e h = subst (ReadsKnown node known) e h

pub known_left : (node : CoreNode) (known xs ys : List Name) → ReadsKnown node known (xs ++ ys) → ReadsKnown node known xs
known_left node known xs ys h y i d = h y (in_left y xs ys i) d

pub known_right : (node : CoreNode) (known xs ys : List Name) → ReadsKnown node known (xs ++ ys) → ReadsKnown node known ys
known_right node known xs ys h y i d = h y (in_right y xs ys i) d

module _ (core : Core) (node : CoreNode) (g : Grades) (known : List Name) where
  abbrev k : Within
  k = program_within core node (may g)

  abbrev Known : Expr → Type 0
  Known e = ReadsKnown node known (reads e.form)

  served : (e : Expr) → Operations e → IsTrue (is_served_form (out-Form e.form))
  served e h = (All-head IsOperation e (below e.form) h).served

  no_step : (e : Expr) → Operations e → is_step (out-Form e.form) ≡ false
  no_step e h = (All-head IsOperation e (below e.form) h).no_step

  branch : (e : Expr) → Operations e → HasBranch (out-Form e.form)
  branch e h = (All-head IsOperation e (below e.form) h).branch

  with_more : {n : ℕ} (x : Name) (b : MergeBranch) (bs : List MergeBranch) → Computable core.types known n b.value → (HasBranch (Form-F.Merge x bs) → AreComputable core.types known n bs) → AreComputable core.types known n (b ∷ bs)
  with_more x b [] h rest = one h
  with_more x b (d ∷ bs) h rest = more h (rest tt)

  longer : {n : ℕ} (c : Clock) (p : ClockStep) → n ≡ suc (length c) → n + 1 ≡ suc (length (c ++ p ∷ []))
  longer c p is = let l : length (c ++ p ∷ []) ≡ length c + 1 = length_push c p in omega (arith, is, l)

  mutual
    -- an expression on a clock has a presence for each beginning of it
    pub computable : (e : Expr) (c : Clock) (ts : List Ty) (n : ℕ) → n ≡ suc (length c) → Sound k [] e c ts → Operations e → Known e → Computable core.types known n e
    computable e c _ n is (is_constant {v = v} eq type fits) h r = constant v (form_by e.form (Form-F.Const v) _ eq (form.rolls-Const v))
    computable e c _ n is (is_async_constant {v = v} eq type fits) h r = not_served e (Form-F.AsyncConst v) eq refl (served e h)
    computable e c _ n is (is_variable {x = x} {d = d} eq sees) h r =
        variable x (form_by e.form (Form-F.Var x) _ eq (form.rolls-Var x)) (r x (subst (λ (l : List Name). is_in x l ≡ true) (sym (reads_variable e x eq)) (in_first x [])) (declared_in_names (core_decls node) x d sees.declared))
    computable e c _ n is (is_last {x = x} eq sees init) h r = not_served e (Form-F.Last x) eq refl (served e h)
    computable e c ts n is (is_unary {a = a} {op = op} {us = us} eq s fit) h r =
        unary op a (form_by e.form (Form-F.Unary op a) _ eq (form.rolls-Unary op a))
        (computable a c us n is s (all_below IsOperation e (Form-F.Unary op a) _ (inside a) eq (form.rolls-Unary op a) (below-Unary op a) h) (known_by node known (reads e.form) (reads a.form) (reads_unary e a op eq) r))
    computable e c ts n is (is_binary {a = a} {b = b} {op = op} {us = us} {vs = vs} eq s u fit nonzero) h r =
        let shape = form_by e.form (Form-F.Binary op a b) _ eq (form.rolls-Binary op a b) in
        let parts = all_below IsOperation e (Form-F.Binary op a b) _ (inside a ++ inside b) eq (form.rolls-Binary op a b) (below-Binary op a b) h in
        let both = known_by node known (reads e.form) (reads a.form ++ reads b.form) (reads_binary e a b op eq) r in
        let left = computable a c us n is s (all_left IsOperation (inside a) (inside b) parts) (known_left node known (reads a.form) (reads b.form) both) in
        let right = computable b c vs n is u (all_right IsOperation (inside a) (inside b) parts) (known_right node known (reads a.form) (reads b.form) both) in
        elim (division_or_not op) [
          | inl d ↦ divided op a b shape d left (has_divisor k b c op us vs ts d u fit nonzero)
          | inr none ↦ binary op a b shape none left right
        ]
    computable e c ts n is (is_if {i = i} {a = a} {b = b} {is = tests} {us = us} {vs = vs} eq q s u fit) h r =
        let shape = form_by e.form (Form-F.If i a b) _ eq (form.rolls-If i a b) in
        let parts = all_below IsOperation e (Form-F.If i a b) _ (inside i ++ inside a ++ inside b) eq (form.rolls-If i a b) (below-If i a b) h in
        let front = all_left IsOperation (inside i ++ inside a) (inside b) parts in
        let all = known_by node known (reads e.form) (reads i.form ++ reads a.form ++ reads b.form) (reads_if e i a b eq) r in
        let first = known_left node known (reads i.form ++ reads a.form) (reads b.form) all in
        conditional i a b shape (computable i c tests n is q (all_left IsOperation (inside i) (inside a) front) (known_left node known (reads i.form) (reads a.form) first))
        (computable a c us n is s (all_right IsOperation (inside i) (inside a) front) (known_right node known (reads i.form) (reads a.form) first))
        (computable b c vs n is u (all_right IsOperation (inside i ++ inside a) (inside b) parts) (known_right node known (reads i.form ++ reads a.form) (reads b.form) all))
    computable e c ts n is (is_fby {a = a} {b = b} eq s u fit never) h r = is_a_step e (Form-F.Fby a b) eq refl (no_step e h)
    computable e c ts n is (is_pre {a = a} eq s fit never) h r = is_a_step e (Form-F.Pre a) eq refl (no_step e h)
    computable e c ts n is (is_arrow {a = a} {b = b} eq s u fit) h r = is_a_step e (Form-F.Arrow a b) eq refl (no_step e h)
    computable e _ ts n is (is_when {a = a} {c = c} {tag = tag} {x = x} {us = us} eq sees s tag_of tags fit never) h r =
        let step : ClockStep = record { tag = tag; name = x } in
        let l : length (c ++ step ∷ []) ≡ length c + 1 = length_push c step in
        sampled a tag x (form_by e.form (Form-F.When a tag x) _ eq (form.rolls-When a tag x)) (omega (arith, is, l))
        (computable a c us (n - 1) (omega (arith, is, l)) s (all_below IsOperation e (Form-F.When a tag x) _ (inside a) eq (form.rolls-When a tag x) (below-When a tag x) h)
        (known_left node known (reads a.form) (x ∷ []) (known_by node known (reads e.form) (reads a.form ++ x ∷ []) (reads_when e a tag x eq) r)))
    computable e c ts n is (is_merge {x = x} {d = d} {bs = bs} {tss = tss} eq sees tags never values all fit) h r =
        let parts = all_below IsOperation e (Form-F.Merge x bs) _ (flat_map (λ b. inside b.value) bs) eq (form.rolls-Merge x bs) (below-Merge x bs) h in
        let front = known_by node known (reads e.form) (x ∷ flat_map (λ b. reads b.value.form) bs) (reads_merge e x bs eq) r in
        merged x bs (form_by e.form (Form-F.Merge x bs) _ eq (form.rolls-Merge x bs)) (omega (arith, is)) (front x (in_first x (flat_map (λ b. reads b.value.form) bs)) (declared_in_names (core_decls node) x d sees.declared))
        (are_computable x d.ty c bs tss n is values (subst HasBranch eq (branch e h)) parts (λ y i. front y (in_more y x (flat_map (λ b. reads b.value.form) bs) i)))
    computable e c ts n is (is_call {f = f} {args = args} eq named given fit leads made) h r = is_a_step e (Form-F.Call f args) eq refl (no_step e h)
    computable e c ts n is (is_async_call {q = q} {f = f} {args = args} eq named given fit leads made) h r = not_served e (Form-F.AsyncCall q f args) eq refl (served e h)
    computable e c ts n is (is_get {a = a} eq s fit) h r = not_served e (Form-F.Get a) eq refl (served e h)

    are_computable : (x : Name) (t : Ty) (c : Clock) (bs : List MergeBranch) (tss : List (List Ty)) (n : ℕ) → n ≡ suc (length c) → SoundBranches k [] x t c bs tss → HasBranch (Form-F.Merge x bs) →
        All IsOperation (flat_map (λ b. inside b.value) bs) → ReadsKnown node known (flat_map (λ b. reads b.value.form) bs) → AreComputable core.types known (n + 1) bs
    are_computable x t c _ _ n is no_branches has h r = absurd has
    are_computable x t c _ _ n is (a_branch {b = b} {bs = bs} {ts = ts} {tss = tss} tag s never rest) has h r =
        let step : ClockStep = record { tag = b.tag; name = x } in
        let later = flat_map (λ b. inside b.value) bs in
        let later_reads = flat_map (λ b. reads b.value.form) bs in
        with_more x b bs (computable b.value (c ++ step ∷ []) ts (n + 1) (longer c step is) s (all_left IsOperation (inside b.value) later h) (known_left node known (reads b.value.form) later_reads r))
        (λ more_has. are_computable x t c bs tss n is rest more_has (all_right IsOperation (inside b.value) later h) (known_right node known (reads b.value.form) later_reads r))
