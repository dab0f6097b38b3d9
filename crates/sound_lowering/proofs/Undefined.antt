-- What becomes of an expression may be undefined where the expression may, and demands what it demands.
use Rattle.std.proofs.Common.{◌≡◌, ◌⊎◌, ⊎_elim, inl, inr, ℕ, Bool, true, false, ◌||◌, if◌then◌else◌, List, [], ◌∷◌, ◌++◌, All, refl, sym, ap, subst, ◌∙◌}
use Rattle.std.specs.List.{flat_map, list_any}
use Rattle.std.proofs.lemmas.List.Elements.{All-nil, All-cons, All-append, All-head}
use Rattle.hept_ast.specs.Texts.{Name}
use Rattle.hept_ast.specs.Initial.{grade, unmet, unmet_by}
use Rattle.hept_ast.specs.Parts.{inside, below}
use Rattle.hept_ast.specs.Faults.{called_async}
use Rattle.hept_ast.specs.declared.name.Place.{Place}
use Rattle.hept_ast.specs.declared.tree.Core.{Core}
use Rattle.hept_ast.specs.declared.tree.Node.{Node}
use Rattle.hept_ast.specs.declared.tree.Expr.{Expr}
use Rattle.hept_ast.specs.declared.tree.MergeBranch.{MergeBranch}
use Rattle.hept_ast.specs.declared.tree.Form.{Form, out-Form}
use Rattle.hept_ast.specs.declared.tree.Form.TheOpen.{Form-F}
use Rattle.hept_ast.specs.declared.tree.Form.TheVariants as form
use Rattle.hept_ast.proofs.Unfolded.{static}
use Rattle.hept_ast.proofs.FormsOf.{below-Const, below-Var, below-Unary, below-Binary, below-If, below-Fby, below-Pre, below-Arrow, below-When, below-Merge, below-Call, below-AsyncCall, below-AsyncConst, below-Get, grade-Unary, grade-Binary, grade-If, grade-Fby, grade-Pre, grade-Arrow, grade-When, grade-Merge, grade-Call, grade-AsyncCall, grade-Get}
use Rattle.sound_expressions.specs.Demands.{FitsForm}
use Rattle.sound_expressions.proofs.Expressions.{is_met}
use Rattle.sound_expressions.proofs.Forms.{EachOperand, by_operands, unmet_list, unmet_values, unmet_Fby, unmet_Pre, unmet_When, unmet_Merge, unmet_Call, unmet_AsyncCall}
use Rattle.sound_expressions.proofs.Lists.{nil_left, nil_right}
use Rattle.erased_rules.proofs.Lists.{nil_both}
use Rattle.erased_rules.proofs.TypedExpressions.{Plain_outputs}
use Rattle.naming_rules.proofs.Shapes.{Each, out_Const, out_Var, out_Unary, out_Binary, out_If, out_Fby, out_Pre, out_Arrow, out_When, out_Merge, out_Call, out_AsyncCall, out_AsyncConst, out_Get}
use Rattle.naming_rules.proofs.Lists.{each_left, each_right}
use Rattle.core_facts.specs.Undefined.{Among, first, next, AreIn, Grades, lists_of, may}
use Rattle.core_facts.specs.Static.{GivesNoFuture, HasBranch, IsArrowWithin, StaticExpr}
use Rattle.core_facts.proofs.Undefined.{lists_view, rolled}
use Rattle.lowering_rules.specs.Lowering.{node_frame, at, Lowers, const, var, last, unary, binary, choice, fby, pre, arrow, when, merge, call, async_call, async_const, get, LowersAll, no_exprs, more_exprs, LowersBranches, no_branches, more_branches}

-- ---- grades without resets

-- what may be undefined is so from the beginning
abbrev pub from_start : (Name → Bool) → Grades
from_start g x = if g x then [] ∷ [] else []

pub may_is : (g : Name → Bool) (x : Name) → may (from_start g) x ≡ g x
may_is g x = go (g x)
  where
    go : (b : Bool) → may (λ (y : Name). if b then [] ∷ [] else []) x ≡ b
    go true = refl
    go false = refl

pub may_same : (g : Name → Bool) → may (from_start g) ≡ g
may_same g = λ i. λ x. may_is g x i

among_cases : {A : Type 0} (x : A) (xs ys : List A) → Among x (xs ++ ys) → Among x xs ⊎ Among x ys
among_cases x [] ys i = inr i
among_cases x (_ ∷ xs) ys first = inl first
among_cases x (_ ∷ xs) ys (next i) = ⊎_elim (λ j. inl (next j)) (λ j. inr j) (among_cases x xs ys i)

-- each list by which an expression may be undefined is empty
module _ (g : Name → Bool) where
  abbrev pub Empty : List (List Name) → Type 0
  Empty ls = (l : List Name) → Among l ls → l ≡ []

  empty_nil : Empty []
  empty_nil l i = elim i [ ]

  empty_one : Empty ([] ∷ [])
  empty_one _ first = refl
  empty_one l (next i) = empty_nil l i

  empty_both : (xs ys : List (List Name)) → Empty xs → Empty ys → Empty (xs ++ ys)
  empty_both xs ys h k l i = ⊎_elim (λ j. h l j) (λ j. k l j) (among_cases l xs ys i)

  empty_var : (x : Name) → Empty (from_start g x)
  empty_var x = go (g x)
    where
      go : (b : Bool) → Empty (if b then [] ∷ [] else [])
      go true = empty_one
      go false = empty_nil

  abbrev EmptyHere : Expr → Type 0
  EmptyHere e = Empty (lists_of (from_start g) [] e.form)

  empty_view : (v : Form-F Form Expr MergeBranch) → EachOperand EmptyHere v → Empty (lists_view (from_start g) [] v)
  empty_view (Form-F.Const k) h = empty_nil
  empty_view (Form-F.Var x) h = empty_var x
  empty_view (Form-F.Last x) h = empty_nil
  empty_view (Form-F.Unary op a) h = h
  empty_view (Form-F.Binary op a b) h = empty_both (lists_of (from_start g) [] a.form) (lists_of (from_start g) [] b.form) h.0 h.1
  empty_view (Form-F.If c a b) h =
      empty_both (lists_of (from_start g) [] c.form ++ lists_of (from_start g) [] a.form) (lists_of (from_start g) [] b.form) (empty_both (lists_of (from_start g) [] c.form) (lists_of (from_start g) [] a.form) h.0 h.1) h.2
  empty_view (Form-F.Fby a b) h = h.0
  empty_view (Form-F.Pre a) h = empty_one
  empty_view (Form-F.Arrow a b) h = h.0
  empty_view (Form-F.When a tag x) h = h
  empty_view (Form-F.Merge x bs) h = empty_nil
  empty_view (Form-F.Call f args) h = empty_nil
  empty_view (Form-F.AsyncCall q f args) h = empty_nil
  empty_view (Form-F.AsyncConst k) h = empty_nil
  empty_view (Form-F.Get a) h = h

  pub empty_lists : (e : Expr) → EmptyHere e
  empty_lists e = by_operands EmptyHere (λ v p h. subst Empty (sym (rolled (from_start g) [] v)) (empty_view v h)) e

-- ---- the same grades after lowering

two_grades : {a b c d : Bool} → b ≡ a → d ≡ c → b || d ≡ a || c
two_grades p q = cc

mutual
  pub grade_same : {n m : ℕ} {e r : Expr} (g : Name → Bool) → Lowers node_frame n e r m → grade g r.form ≡ grade g e.form
  grade_same g const = refl
  grade_same g var = refl
  grade_same g (last e) = cc
  grade_same g (unary {op = op} {a = a} {b = b} h) = grade-Unary g op b ∙ grade_same g h ∙ sym (grade-Unary g op a)
  grade_same g (binary {op = op} {a = a} {b = b} {c = c} {d = d} h i) = grade-Binary g op b d ∙ two_grades (grade_same g h) (grade_same g i) ∙ sym (grade-Binary g op a c)
  grade_same g (choice {i = i} {j = j} {a = a} {b = b} {c = c} {d = d} h k l) =
      grade-If g j b d ∙ two_grades (two_grades (grade_same g h) (grade_same g k)) (grade_same g l) ∙ sym (grade-If g i a c)
  grade_same g (fby {a = a} {b = b} {c = c} {d = d} h i) = grade-Fby g b d ∙ grade_same g h ∙ sym (grade-Fby g a c)
  grade_same g (pre {a = a} {b = b} h) = grade-Pre g b ∙ sym (grade-Pre g a)
  grade_same g (arrow {a = a} {b = b} {c = c} {d = d} h i) = grade-Arrow g b d ∙ grade_same g h ∙ sym (grade-Arrow g a c)
  grade_same g (when {a = a} {b = b} {tag = tag} {x = x} h) = grade-When g b tag x ∙ grade_same g h ∙ sym (grade-When g a tag x)
  grade_same g (merge {x = x} {bs = bs} {cs = cs} h) = grade-Merge g x cs ∙ branches_same g h ∙ sym (grade-Merge g x bs)
  grade_same g (call {g = f} {es = es} {rs = rs} h) = grade-Call g f rs ∙ sym (grade-Call g f es)
  grade_same g (async_call {q = q} {g = f} {es = es} {rs = rs} h) = grade-AsyncCall g q f rs ∙ sym (grade-AsyncCall g q f es)
  grade_same g async_const = refl
  grade_same g (get {a = a} {b = b} h) = grade-Get g b ∙ grade_same g h ∙ sym (grade-Get g a)

  branches_same : {n m : ℕ} {bs cs : List MergeBranch} (g : Name → Bool) → LowersBranches node_frame n bs cs m → list_any (λ b. grade g b.value.form) cs ≡ list_any (λ b. grade g b.value.form) bs
  branches_same g no_branches = refl
  branches_same g (more_branches h hs) = two_grades (grade_same g h) (branches_same g hs)

-- ---- the same demands

not_met : (p : ℕ) (b : Bool) → b ≡ false → unmet p b ≡ []
not_met p b e = ap (λ (c : Bool). if c then p ∷ [] else []) e

list_met : {n m : ℕ} {es rs : List Expr} (g : Name → Bool) → LowersAll node_frame n es rs m → unmet_list g es ≡ [] → unmet_list g rs ≡ []
list_met g no_exprs f = refl
list_met g (more_exprs {e = e} {r = r} {es = es} {rs = rs} h hs) f =
    nil_both (unmet r.place.0 (grade g r.form)) (unmet_list g rs)
    (not_met r.place.0 (grade g r.form) (grade_same g h ∙ is_met e.place.0 (grade g e.form) (nil_left (unmet e.place.0 (grade g e.form)) (unmet_list g es) f)))
    (list_met g hs (nil_right (unmet e.place.0 (grade g e.form)) (unmet_list g es) f))

values_met : {n m : ℕ} {bs cs : List MergeBranch} (g : Name → Bool) → LowersBranches node_frame n bs cs m → unmet_values g bs ≡ [] → unmet_values g cs ≡ []
values_met g no_branches f = refl
values_met g (more_branches {e = e} {r = r} {bs = bs} {cs = cs} h hs) f =
    nil_both (unmet r.place.0 (grade g r.form)) (unmet_values g cs)
    (not_met r.place.0 (grade g r.form) (grade_same g h ∙ is_met e.place.0 (grade g e.form) (nil_left (unmet e.place.0 (grade g e.form)) (unmet_values g bs) f)))
    (values_met g hs (nil_right (unmet e.place.0 (grade g e.form)) (unmet_values g bs) f))

one_met : {n m : ℕ} {e r : Expr} (g : Name → Bool) → Lowers node_frame n e r m → unmet e.place.0 (grade g e.form) ≡ [] → unmet r.place.0 (grade g r.form) ≡ []
one_met {e = e} {r = r} g h f = not_met r.place.0 (grade g r.form) (grade_same g h ∙ is_met e.place.0 (grade g e.form) f)

-- ---- expressions

-- what is known of an expression inside a right side of the program
pub record Facts (nodes : List Node) (g : Name → Bool) (e : Expr) : Type 0 where
  pub demands : unmet_by g e.place.0 e.form ≡ []
  pub number : FitsForm (out-Form e.form)
  pub plain : All (Plain_outputs nodes) (called_async e.form)
  pub branch : HasBranch (out-Form e.form)

module _ (core : Core) (nodes : List Node) (g : Name → Bool) (plain : (f : Name) → Plain_outputs nodes f → GivesNoFuture core f) where
  abbrev G : Grades
  G = from_start g

  abbrev StaticHere : Expr → Type 0
  StaticHere e = StaticExpr core G [] e

  abbrev Known : List Expr → Type 0
  Known es = Each (Facts nodes g) es

  abbrev Shown : List Expr → Type 0
  Shown es = All StaticHere es

  -- an expression of a view without arrow, merge and async call
  over : (p : Place) (f : Form) (v : Form-F Form Expr MergeBranch) (es : List Expr) → out-Form f ≡ v → below f ≡ es → unmet_by g p.0 f ≡ [] → IsArrowWithin G [] v → FitsForm v → HasBranch v → All (GivesNoFuture core) (called_async f) → Shown es → Shown (inside (at p f))
  over p f v es o b d a n h c i =
      All-cons StaticHere (at p f) (below f)
      (record {
        demands = ap (λ (m : Name → Bool). unmet_by m p.0 f) (may_same g) ∙ d;
        arrow = subst (IsArrowWithin G []) (sym o) a;
        number = subst FitsForm (sym o) n;
        plain = c;
        branch = subst HasBranch (sym o) h;
      })
      (subst Shown (sym b) i)

  none : All (GivesNoFuture core) []
  none = All-nil (GivesNoFuture core)

  nothing : Shown []
  nothing = All-nil StaticHere

  within_none : (ls : List (List Name)) → Empty g ls → (l : List Name) → Among l ls → AreIn l []
  within_none ls h l i = subst (λ (k : List Name). AreIn k []) (sym (h l i)) (λ x j. j)

  has_branch : {n m : ℕ} {bs cs : List MergeBranch} (x : Name) → LowersBranches node_frame n bs cs m → HasBranch (Form-F.Merge x bs) → HasBranch (Form-F.Merge x cs)
  has_branch x no_branches h = h
  has_branch x (more_branches h hs) i = tt

  mutual
    unfolding static

    pub static_again : {n m : ℕ} {e r : Expr} → Lowers node_frame n e r m → Known (inside e) → Shown (inside r)
    static_again (const {p = p} {k = k}) h = over p (form.Const k) (Form-F.Const k) [] (out_Const k) (below-Const k) refl tt (subst FitsForm (out_Const k) h.0.number) tt none nothing
    static_again (var {p = p} {x = x}) h = over p (form.Var x) (Form-F.Var x) [] (out_Var x) (below-Var x) refl tt tt tt none nothing
    static_again (last e) h = cc
    static_again (unary {p = p} {op = op} {a = a} {b = b} i) h =
        over p (form.Unary op b) (Form-F.Unary op b) (inside b) (out_Unary op b) (below-Unary op b) refl tt tt tt none (static_again i (subst Known (below-Unary op a) h.1))
    static_again (binary {p = p} {op = op} {a = a} {b = b} {c = c} {d = d} i j) h =
        let q = subst Known (below-Binary op a c) h.1 in
        over p (form.Binary op b d) (Form-F.Binary op b d) (inside b ++ inside d) (out_Binary op b d) (below-Binary op b d) refl tt tt tt none
        (All-append StaticHere (inside b) (inside d) (static_again i (each_left (Facts nodes g) (inside a) (inside c) q)) (static_again j (each_right (Facts nodes g) (inside a) (inside c) q)))
    static_again (choice {p = p} {i = t} {j = u} {a = a} {b = b} {c = c} {d = d} i j l) h =
        let q = subst Known (below-If t a c) h.1 in
        let q2 = each_left (Facts nodes g) (inside t ++ inside a) (inside c) q in
        over p (form.If u b d) (Form-F.If u b d) (inside u ++ inside b ++ inside d) (out_If u b d) (below-If u b d) refl tt tt tt none
        (All-append StaticHere (inside u ++ inside b) (inside d)
        (All-append StaticHere (inside u) (inside b) (static_again i (each_left (Facts nodes g) (inside t) (inside a) q2)) (static_again j (each_right (Facts nodes g) (inside t) (inside a) q2)))
        (static_again l (each_right (Facts nodes g) (inside t ++ inside a) (inside c) q)))
    static_again (fby {p = p} {a = a} {b = b} {c = c} {d = d} i j) h =
        let q = subst Known (below-Fby a c) h.1 in
        over p (form.Fby b d) (Form-F.Fby b d) (inside b ++ inside d) (out_Fby b d) (below-Fby b d) (unmet_Fby g p.0 b d ∙ one_met g j (sym (unmet_Fby g p.0 a c) ∙ h.0.demands)) tt tt tt none
        (All-append StaticHere (inside b) (inside d) (static_again i (each_left (Facts nodes g) (inside a) (inside c) q)) (static_again j (each_right (Facts nodes g) (inside a) (inside c) q)))
    static_again (pre {p = p} {a = a} {b = b} i) h =
        over p (form.Pre b) (Form-F.Pre b) (inside b) (out_Pre b) (below-Pre b) (unmet_Pre g p.0 b ∙ one_met g i (sym (unmet_Pre g p.0 a) ∙ h.0.demands)) tt tt tt none (static_again i (subst Known (below-Pre a) h.1))
    static_again (arrow {p = p} {a = a} {b = b} {c = c} {d = d} i j) h =
        let q = subst Known (below-Arrow a c) h.1 in
        over p (form.Arrow b d) (Form-F.Arrow b d) (inside b ++ inside d) (out_Arrow b d) (below-Arrow b d) refl (within_none (lists_of G [] d.form) (empty_lists g d)) tt tt none
        (All-append StaticHere (inside b) (inside d) (static_again i (each_left (Facts nodes g) (inside a) (inside c) q)) (static_again j (each_right (Facts nodes g) (inside a) (inside c) q)))
    static_again (when {p = p} {a = a} {b = b} {tag = tag} {x = x} i) h =
        over p (form.When b tag x) (Form-F.When b tag x) (inside b) (out_When b tag x) (below-When b tag x) (unmet_When g p.0 b tag x ∙ sym (unmet_When g p.0 a tag x) ∙ h.0.demands) tt tt tt none
        (static_again i (subst Known (below-When a tag x) h.1))
    static_again (merge {p = p} {x = x} {bs = bs} {cs = cs} i) h =
        let met = sym (unmet_Merge g p.0 x bs) ∙ h.0.demands in
        over p (form.Merge x cs) (Form-F.Merge x cs) (flat_map (λ (b : MergeBranch). inside b.value) cs) (out_Merge x cs) (below-Merge x cs)
        (unmet_Merge g p.0 x cs ∙ nil_both (unmet p.0 (g x)) (unmet_values g cs) (nil_left (unmet p.0 (g x)) (unmet_values g bs) met) (values_met g i (nil_right (unmet p.0 (g x)) (unmet_values g bs) met))) tt tt
        (has_branch x i (subst HasBranch (out_Merge x bs) h.0.branch)) none (static_branches i (subst Known (below-Merge x bs) h.1))
    static_again (call {n = n} {p = p} {g = f} {es = es} {rs = rs} i) h =
        over (record { 0 = n }) (form.Call f rs) (Form-F.Call f rs) (flat_map inside rs) (out_Call f rs) (below-Call f rs) (unmet_Call g n f rs ∙ list_met g i (sym (unmet_Call g p.0 f es) ∙ h.0.demands)) tt tt tt none
        (static_all i (subst Known (below-Call f es) h.1))
    static_again (async_call {n = n} {p = p} {q = q} {g = f} {es = es} {rs = rs} i) h =
        over (record { 0 = n }) (form.AsyncCall q f rs) (Form-F.AsyncCall q f rs) (flat_map inside rs) (out_AsyncCall q f rs) (below-AsyncCall q f rs)
        (unmet_AsyncCall g n q f rs ∙ list_met g i (sym (unmet_AsyncCall g p.0 q f es) ∙ h.0.demands)) tt tt tt (All-cons (GivesNoFuture core) f [] (plain f (All-head (Plain_outputs nodes) f [] h.0.plain)) none)
        (static_all i (subst Known (below-AsyncCall q f es) h.1))
    static_again (async_const {p = p} {k = k}) h = over p (form.AsyncConst k) (Form-F.AsyncConst k) [] (out_AsyncConst k) (below-AsyncConst k) refl tt (subst FitsForm (out_AsyncConst k) h.0.number) tt none nothing
    static_again (get {p = p} {a = a} {b = b} i) h =
        over p (form.Get b) (Form-F.Get b) (inside b) (out_Get b) (below-Get b) refl tt tt tt none (static_again i (subst Known (below-Get a) h.1))

    static_all : {n m : ℕ} {es rs : List Expr} → LowersAll node_frame n es rs m → Known (flat_map inside es) → Shown (flat_map inside rs)
    static_all no_exprs h = nothing
    static_all (more_exprs {e = e} {r = r} {es = es} {rs = rs} i is) h =
        All-append StaticHere (inside r) (flat_map inside rs) (static_again i (each_left (Facts nodes g) (inside e) (flat_map inside es) h)) (static_all is (each_right (Facts nodes g) (inside e) (flat_map inside es) h))

    static_branches : {n m : ℕ} {bs cs : List MergeBranch} → LowersBranches node_frame n bs cs m → Known (flat_map (λ (b : MergeBranch). inside b.value) bs) → Shown (flat_map (λ (b : MergeBranch). inside b.value) cs)
    static_branches no_branches h = nothing
    static_branches (more_branches {e = e} {r = r} {bs = bs} {cs = cs} i is) h =
        All-append StaticHere (inside r) (flat_map (λ (b : MergeBranch). inside b.value) cs) (static_again i (each_left (Facts nodes g) (inside e) (flat_map (λ (b : MergeBranch). inside b.value) bs) h))
        (static_branches is (each_right (Facts nodes g) (inside e) (flat_map (λ (b : MergeBranch). inside b.value) bs) h))
