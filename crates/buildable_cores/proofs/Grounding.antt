-- A ground that has a body of a node has what the node's clocks and merges need there.
use Rattle.std.proofs.Common.{◌≡◌, true, false, Bool, if◌then◌else◌, List, [], ◌∷◌, ◌++◌, map, refl, sym, ap, subst, ◌∙◌, append_assoc, append-nil}
use Rattle.std.specs.Prelude.{All, Contains}
use Rattle.std.specs.List.{flat_map}
use Rattle.std.proofs.lemmas.List.Elements.{All-head, All-tail, All-cons, All-nil}
use Rattle.hept_ast.specs.Texts.{Name}
use Rattle.hept_ast.specs.Scopes.{Clock, Scope, Under}
use Rattle.hept_ast.specs.Parts.{below, inside}
use Rattle.hept_ast.specs.declared.tree.ClockStep.{ClockStep}
use Rattle.hept_ast.specs.declared.tree.Core.{Core}
use Rattle.hept_ast.specs.declared.tree.CoreEquation.{CoreEquation}
use Rattle.hept_ast.specs.declared.tree.CoreNode.{CoreNode}
use Rattle.hept_ast.specs.declared.tree.Decl.{Decl}
use Rattle.hept_ast.specs.declared.tree.Expr.{Expr}
use Rattle.hept_ast.specs.declared.tree.MergeBranch.{MergeBranch}
use Rattle.hept_ast.specs.declared.tree.Ty.{Ty}
use Rattle.hept_ast.specs.declared.tree.Form.{Form, out-Form}
use Rattle.hept_ast.specs.declared.tree.Form.TheOpen.{Form-F}
use Rattle.hept_ast.specs.declared.tree.Form.TheVariants as form
use Rattle.hept_ast.proofs.FormsOf.{below-Unary, below-Binary, below-If, below-When, below-Merge}
use Rattle.core_rules.specs.Cores.{core_clock, core_decls}
use Rattle.core_facts.specs.Undefined.{Grades, may}
use Rattle.core_facts.specs.Static.{AreProper}
use Rattle.core_naming.specs.Normal.{is_step}
use Rattle.served_programs.specs.Served.{is_served_form}
use Rattle.sound_expressions.specs.Sound.{Sees, Sound, SoundBranches, Within, a_branch, is_arrow, is_async_call, is_async_constant, is_binary, is_call, is_constant, is_fby, is_get, is_if, is_last, is_merge, is_pre, is_unary, is_variable, is_when, no_branches}
use Rattle.sound_expressions.proofs.Expressions.{all_left, all_right}
use Rattle.core_fitting.proofs.StandIn.{program_within}
use Rattle.core_fitting.proofs.Converted.{declared_in_names}
use Rattle.core_fitting.proofs.NamesRead.{take_last}
use Rattle.step_plans.specs.Plans.{Covering, Covers, Ground, IsBodyOf, Tested, Tests}
use Rattle.plan_expressions.specs.Grounded.{AreGrounded, Grounded, IsTested, binary, conditional, constant, merged, more, none, sampled, unary, variable}
use Rattle.plan_equations.specs.Equations.{IsProperClock, inside_of, no_step, one_more}
use Rattle.plan_equations.specs.Grounds.{Body, HasBody, clock_names, covered_in, merge_of, merged_name, right_scope, tested_in}
use Rattle.buildable_cores.proofs.Divisors.{form_by}
use Rattle.buildable_cores.proofs.Computing.{IsOperation, all_below, is_a_step, not_served}
use Rattle.buildable_cores.proofs.Places.{at_place}
use Rattle.buildable_cores.proofs.Standing.{Stands, all_standing, stands_first, stands_flat, stands_in, stands_left, stands_mapped, stands_right}

-- ---- clocks

module _ (q : Ground) (node : CoreNode) (b : Scope) (g : Grades) where
  abbrev IsStepTested : ClockStep → Type 0
  IsStepTested p = Stands q.tested (Tests node p.name b)

  proper_after : (before steps : Clock) → IsProperClock q node b before → AreProper node g before steps → All IsStepTested steps → IsProperClock q node b (before ++ steps)
  proper_after before [] proper h tested = subst (IsProperClock q node b) (sym (append-nil before)) proper
  proper_after before (p ∷ steps) proper h tested =
      let t = All-head IsStepTested p steps tested in
      let next = one_more p t.place proper t.at h.0.1 in
      subst (IsProperClock q node b) (append_assoc before (p ∷ []) steps) (proper_after (before ++ p ∷ []) steps next h.1 (All-tail IsStepTested p steps tested))

  pub proper_clock : (steps : Clock) → AreProper node g [] steps → All IsStepTested steps → IsProperClock q node b steps
  proper_clock steps h tested = proper_after [] steps no_step h tested

-- ---- merges

-- the variable of a merge is tested, and its branches are covered
pub record IsGroundedMerge (q : Ground) (node : CoreNode) (b : Scope) (x : Name) (bs : List MergeBranch) : Type 0 where
  pub tested : Stands q.tested (Tests node x b)
  pub covered : Stands q.covered (Covers x (inside_of b) bs)

abbrev pub MergeGrounded : Ground → CoreNode → Scope → Form-F Form Expr MergeBranch → Type 0
MergeGrounded q node b (Form-F.Merge x bs) = IsGroundedMerge q node b x bs
MergeGrounded q node b _ = Unit {0}

abbrev pub HasMerge : Ground → CoreNode → Scope → Expr → Type 0
HasMerge q node b a = MergeGrounded q node b (out-Form a.form)

abbrev pub body_of : CoreNode → Scope → Body
body_of node b = record { node = node; scope = b }

module _ (q : Ground) (node : CoreNode) (b : Scope) (has : HasBody q (body_of node b)) (e : CoreEquation) (at : Stands node.equations e) where
  in_tested : (t : Tested) → Stands (tested_in (body_of node b)) t → Stands q.tested t
  in_tested t s = stands_in q.tested t (at_place (Contains q.tested) (tested_in (body_of node b)) s.place t has.tested s.at)

  in_covered : (c : Covering) → Stands (covered_in (body_of node b)) c → Stands q.covered c
  in_covered c s = stands_in q.covered c (at_place (Contains q.covered) (covered_in (body_of node b)) s.place c has.covered s.at)

  name_tested : (x : Name) → Stands (clock_names e) x → Stands q.tested (Tests node x b)
  name_tested x s = in_tested (Tests node x b) (stands_mapped (λ x. Tests node x b) (flat_map clock_names node.equations) x (stands_flat clock_names node.equations e x at s))

  pub steps_tested : All (λ p. Stands q.tested (Tests node p.name b)) e.clock.steps
  steps_tested = all_standing (λ p. Stands q.tested (Tests node p.name b)) e.clock.steps (λ p s.
      name_tested p.name (stands_left (map (λ p. p.name) e.clock.steps) (flat_map (λ a. merged_name (out-Form a.form)) (inside e.right)) p.name (stands_mapped (λ p. p.name) e.clock.steps p s)))

  module _ (resets : e.resets ≡ []) where
    merge_tested : (a : Expr) (x : Name) (bs : List MergeBranch) → out-Form a.form ≡ Form-F.Merge x bs → Stands (inside e.right) a → Stands q.tested (Tests node x b)
    merge_tested a x bs eq s = name_tested x (stands_right (map (λ p. p.name) e.clock.steps) (flat_map (λ a. merged_name (out-Form a.form)) (inside e.right)) x
        (stands_flat (λ a. merged_name (out-Form a.form)) (inside e.right) a x s (subst (λ v. Stands (merged_name v) x) (sym eq) (stands_first x []))))

    merge_covered : (a : Expr) (x : Name) (bs : List MergeBranch) → out-Form a.form ≡ Form-F.Merge x bs → Stands (inside e.right) a → Stands q.covered (Covers x (inside_of b) bs)
    merge_covered a x bs eq s =
        let here = Covers x (right_scope b e) bs in
        let alone : Stands (merge_of (right_scope b e) (out-Form a.form)) here = subst (λ v. Stands (merge_of (right_scope b e) v) here) (sym eq) (stands_first here []) in
        let within = stands_flat (λ a. merge_of (right_scope b e) (out-Form a.form)) (inside e.right) a here s alone in
        let all = in_covered here (stands_flat (λ d. flat_map (λ a. merge_of (right_scope b d) (out-Form a.form)) (inside d.right)) node.equations e here at within) in
        subst (λ rs. Stands q.covered (Covers x (Under b rs) bs)) resets all

    merge_has : (a : Expr) (v : Form-F Form Expr MergeBranch) → out-Form a.form ≡ v → Stands (inside e.right) a → MergeGrounded q node b v
    merge_has a (Form-F.Merge x bs) eq s = record { tested = merge_tested a x bs eq s; covered = merge_covered a x bs eq s }
    merge_has a _ eq s = tt

    pub merges_grounded : All (HasMerge q node b) (inside e.right)
    merges_grounded = all_standing (HasMerge q node b) (inside e.right) (λ a s. merge_has a (out-Form a.form) refl s)

-- ---- expressions

-- an operation whose merge, if it is one, has its ground
pub record IsGroundedPart (q : Ground) (node : CoreNode) (b : Scope) (a : Expr) : Type 0 where
  pub operation : IsOperation a
  pub merge : HasMerge q node b a

pub grounded_parts : (q : Ground) (node : CoreNode) (b : Scope) (xs : List Expr) → All IsOperation xs → All (HasMerge q node b) xs → All (IsGroundedPart q node b) xs
grounded_parts q node b [] h m = All-nil (IsGroundedPart q node b)
grounded_parts q node b (x ∷ xs) h m =
    All-cons (IsGroundedPart q node b) x xs (record { operation = All-head IsOperation x xs h; merge = All-head (HasMerge q node b) x xs m })
    (grounded_parts q node b xs (All-tail IsOperation x xs h) (All-tail (HasMerge q node b) x xs m))

module _ (core : Core) (node : CoreNode) (g : Grades) (q : Ground) (b : Scope) (body : IsBodyOf b node) where
  abbrev k : Within
  k = program_within core node (may g)

  abbrev Part : Expr → Type 0
  Part = IsGroundedPart q node b

  abbrev Ground_at : Clock → Expr → Type 0
  Ground_at c e = Grounded q node b (inside_of b) c e

  served : (e : Expr) (v : Form-F Form Expr MergeBranch) {P : Type 0} → out-Form e.form ≡ v → is_served_form v ≡ false → All Part (inside e) → P
  served e v eq n h = not_served e v eq n (All-head Part e (below e.form) h).operation.served

  stepped : (e : Expr) (v : Form-F Form Expr MergeBranch) {P : Type 0} → out-Form e.form ≡ v → is_step v ≡ true → All Part (inside e) → P
  stepped e v eq n h = is_a_step e v eq n (All-head Part e (below e.form) h).operation.no_step

  merge_of_part : (e : Expr) (x : Name) (bs : List MergeBranch) → out-Form e.form ≡ Form-F.Merge x bs → All Part (inside e) → IsGroundedMerge q node b x bs
  merge_of_part e x bs eq h = subst (MergeGrounded q node b) eq (All-head Part e (below e.form) h).merge

  tested_at : (x : Name) (d : Decl) (c : Clock) → Sees k [] x d c → Stands q.tested (Tests node x b) → IsTested q node b (inside_of b) c x
  tested_at x d c sees tested = record {
    body = body;
    resets = [];
    under = refl;
    place = tested.place;
    tested = tested.at;
    clock = sym (ap (λ (own : Bool). if own then core_clock node x else []) (declared_in_names (core_decls node) x d sees.declared)) ∙ sees.here;
  }

  mutual
    pub grounded : (e : Expr) (c : Clock) (ts : List Ty) → Sound k [] e c ts → All Part (inside e) → Ground_at c e
    grounded e c _ (is_constant {v = v} eq type fits) h = constant v (form_by e.form (Form-F.Const v) _ eq (form.rolls-Const v))
    grounded e c _ (is_async_constant {v = v} eq type fits) h = served e (Form-F.AsyncConst v) eq refl h
    grounded e c _ (is_variable {x = x} eq sees) h = variable x (form_by e.form (Form-F.Var x) _ eq (form.rolls-Var x))
    grounded e c _ (is_last {x = x} eq sees init) h = served e (Form-F.Last x) eq refl h
    grounded e c ts (is_unary {a = a} {op = op} {us = us} eq s fit) h =
        unary op a (form_by e.form (Form-F.Unary op a) _ eq (form.rolls-Unary op a)) (grounded a c us s (all_below Part e (Form-F.Unary op a) _ (inside a) eq (form.rolls-Unary op a) (below-Unary op a) h))
    grounded e c ts (is_binary {a = a} {b = b} {op = op} {us = us} {vs = vs} eq s u fit nonzero) h =
        let parts = all_below Part e (Form-F.Binary op a b) _ (inside a ++ inside b) eq (form.rolls-Binary op a b) (below-Binary op a b) h in
        binary op a b (form_by e.form (Form-F.Binary op a b) _ eq (form.rolls-Binary op a b)) (grounded a c us s (all_left Part (inside a) (inside b) parts)) (grounded b c vs u (all_right Part (inside a) (inside b) parts))
    grounded e c ts (is_if {i = i} {a = a} {b = b} {is = tests} {us = us} {vs = vs} eq t s u fit) h =
        let parts = all_below Part e (Form-F.If i a b) _ (inside i ++ inside a ++ inside b) eq (form.rolls-If i a b) (below-If i a b) h in
        let front = all_left Part (inside i ++ inside a) (inside b) parts in
        conditional i a b (form_by e.form (Form-F.If i a b) _ eq (form.rolls-If i a b)) (grounded i c tests t (all_left Part (inside i) (inside a) front)) (grounded a c us s (all_right Part (inside i) (inside a) front))
        (grounded b c vs u (all_right Part (inside i ++ inside a) (inside b) parts))
    grounded e c ts (is_fby {a = a} {b = b} eq s u fit never) h = stepped e (Form-F.Fby a b) eq refl h
    grounded e c ts (is_pre {a = a} eq s fit never) h = stepped e (Form-F.Pre a) eq refl h
    grounded e c ts (is_arrow {a = a} {b = b} eq s u fit) h = stepped e (Form-F.Arrow a b) eq refl h
    grounded e _ ts (is_when {a = a} {c = c} {tag = tag} {x = x} {us = us} eq sees s tag_of tags fit never) h =
        let inner = grounded a c us s (all_below Part e (Form-F.When a tag x) _ (inside a) eq (form.rolls-When a tag x) (below-When a tag x) h) in
        sampled a tag x (form_by e.form (Form-F.When a tag x) _ eq (form.rolls-When a tag x)) (subst (λ (b : Clock). Ground_at b a) (sym (take_last c (record { tag = tag; name = x }))) inner)
    grounded e c ts (is_merge {x = x} {d = d} {bs = bs} {tss = tss} eq sees tags never values all fit) h =
        let m = merge_of_part e x bs eq h in
        merged x bs m.covered.place (form_by e.form (Form-F.Merge x bs) _ eq (form.rolls-Merge x bs)) (tested_at x d c sees m.tested) m.covered.at
        (are_grounded x d.ty c bs tss values (all_below Part e (Form-F.Merge x bs) _ (flat_map (λ b. inside b.value) bs) eq (form.rolls-Merge x bs) (below-Merge x bs) h))
    grounded e c ts (is_call {f = f} {args = args} eq named given fit leads made) h = stepped e (Form-F.Call f args) eq refl h
    grounded e c ts (is_async_call {q = p} {f = f} {args = args} eq named given fit leads made) h = served e (Form-F.AsyncCall p f args) eq refl h
    grounded e c ts (is_get {a = a} eq s fit) h = served e (Form-F.Get a) eq refl h

    are_grounded : (x : Name) (t : Ty) (c : Clock) (bs : List MergeBranch) (tss : List (List Ty)) → SoundBranches k [] x t c bs tss → All Part (flat_map (λ b. inside b.value) bs) → AreGrounded q node b (inside_of b) c x bs
    are_grounded x t c _ _ no_branches h = none
    are_grounded x t c _ _ (a_branch {b = b} {bs = bs} {ts = ts} {tss = tss} tag s never rest) h =
        let later = flat_map (λ b. inside b.value) bs in
        more (grounded b.value (c ++ record { tag = b.tag; name = x } ∷ []) ts s (all_left Part (inside b.value) later h)) (are_grounded x t c bs tss rest (all_right Part (inside b.value) later h))
