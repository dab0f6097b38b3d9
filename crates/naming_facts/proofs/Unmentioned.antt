-- An expression that does not name a variable has the same facts whatever the grade of that variable is.
use Rattle.std.proofs.Common.{◌≡◌, ℕ, Bool, false, ◌||◌, List, [], ◌∷◌, ◌++◌, refl, sym, ap, subst, ◌∙◌, All}
use Rattle.std.specs.List.{flat_map, list_any}
use Rattle.std.proofs.lemmas.Bool.{or_parts}
use Rattle.std.proofs.lemmas.List.Elements.{All-weaker}
use Rattle.hept_ast.specs.Texts.{Name, same, is_in}
use Rattle.hept_ast.specs.Parts.{below, inside}
use Rattle.hept_ast.specs.Initial.{grade, unmet, unmet_by}
use Rattle.hept_ast.specs.Faults.{called_async}
use Rattle.hept_ast.specs.declared.name.Place.{Place}
use Rattle.hept_ast.specs.declared.tree.Core.{Core}
use Rattle.hept_ast.specs.declared.tree.Const.{Const}
use Rattle.hept_ast.specs.declared.tree.UnaryOp.{UnaryOp}
use Rattle.hept_ast.specs.declared.tree.BinaryOp.{BinaryOp}
use Rattle.hept_ast.specs.declared.tree.Expr.{Expr}
use Rattle.hept_ast.specs.declared.tree.MergeBranch.{MergeBranch}
use Rattle.hept_ast.specs.declared.tree.Form.{Form, out-Form}
use Rattle.hept_ast.specs.declared.tree.Form.TheOpen.{Form-F}
use Rattle.hept_ast.specs.declared.tree.Form.TheVariants as form
use Rattle.hept_ast.proofs.Unfolded.{static}
use Rattle.hept_ast.proofs.FormsOf.{below-Const, below-Var, below-Last, below-Unary, below-Binary, below-If, below-Fby, below-Pre, below-Arrow, below-When, below-Merge, below-Call, below-AsyncCall, below-AsyncConst, below-Get, grade-Const, grade-Var, grade-Last, grade-Unary, grade-Binary, grade-If, grade-Fby, grade-Pre, grade-Arrow, grade-When, grade-Merge, grade-Call, grade-AsyncCall, grade-AsyncConst, grade-Get}
use Rattle.sound_expressions.specs.Demands.{FitsForm}
use Rattle.sound_expressions.proofs.Forms.{unmet_list, unmet_values, unmet_Fby, unmet_Pre, unmet_When, unmet_Merge, unmet_Call, unmet_AsyncCall}
use Rattle.core_facts.specs.Undefined.{AreWithin, Grades, is_some_list, lists_of, may}
use Rattle.core_facts.specs.Static.{GivesNoFuture, HasBranch, IsArrowWithin, StaticExpr}
use Rattle.core_facts.proofs.Undefined.{lists_is, lists_view}
use Rattle.core_naming.specs.Ties.{form_names}
use Rattle.naming_rules.proofs.Shapes.{Cases, Each, at, by_forms, out_Const, out_Var, out_Last, out_Unary, out_Binary, out_If, out_Fby, out_Pre, out_Arrow, out_When, out_Merge, out_Call, out_AsyncCall, out_AsyncConst, out_Get}
use Rattle.naming_rules.proofs.Lists.{each_both, each_left, each_right}

-- ---- forms that demand nothing

pub asks_Const : (g : Name → Bool) (p : ℕ) (k : Const) → unmet_by g p (form.Const k) ≡ []
unfolding static
asks_Const g p k = refl

pub asks_Var : (g : Name → Bool) (p : ℕ) (x : Name) → unmet_by g p (form.Var x) ≡ []
unfolding static
asks_Var g p x = refl

pub asks_Last : (g : Name → Bool) (p : ℕ) (x : Name) → unmet_by g p (form.Last x) ≡ []
unfolding static
asks_Last g p x = refl

pub asks_Unary : (g : Name → Bool) (p : ℕ) (op : UnaryOp) (a : Expr) → unmet_by g p (form.Unary op a) ≡ []
unfolding static
asks_Unary g p op a = refl

pub asks_Binary : (g : Name → Bool) (p : ℕ) (op : BinaryOp) (a b : Expr) → unmet_by g p (form.Binary op a b) ≡ []
unfolding static
asks_Binary g p op a b = refl

pub asks_If : (g : Name → Bool) (p : ℕ) (c a b : Expr) → unmet_by g p (form.If c a b) ≡ []
unfolding static
asks_If g p c a b = refl

pub asks_Arrow : (g : Name → Bool) (p : ℕ) (a b : Expr) → unmet_by g p (form.Arrow a b) ≡ []
unfolding static
asks_Arrow g p a b = refl

pub asks_AsyncConst : (g : Name → Bool) (p : ℕ) (k : Const) → unmet_by g p (form.AsyncConst k) ≡ []
unfolding static
asks_AsyncConst g p k = refl

pub asks_Get : (g : Name → Bool) (p : ℕ) (a : Expr) → unmet_by g p (form.Get a) ≡ []
unfolding static
asks_Get g p a = refl

abbrev pub values : List MergeBranch → List Expr
values bs = flat_map (λ b. inside b.value) bs

abbrev pub any_graded : (Name → Bool) → List MergeBranch → Bool
any_graded m bs = list_any (λ b. grade m b.value.form) bs

pub two_lists : (a b c d : List (List Name)) → a ≡ c → b ≡ d → a ++ b ≡ c ++ d
two_lists a b c d e f = ap (λ (l : List (List Name)). l ++ b) e ∙ ap (λ (l : List (List Name)). c ++ l) f

pub two_grades : (a b c d : Bool) → a ≡ c → b ≡ d → a || b ≡ c || d
two_grades a b c d e f = ap (λ (z : Bool). z || b) e ∙ ap (λ (z : Bool). c || z) f

-- ---- two cores, in whose nodes all variables but one have the same grades

pub record Regraded (core other : Core) (g h : Grades) (x : Name) : Type 0 where
  pub plain : (f : Name) → GivesNoFuture core f → GivesNoFuture other f
  pub same_grade : (y : Name) → same x y ≡ false → h y ≡ g y

module _ (core other : Core) (g h : Grades) (x : Name) (k : Regraded core other g h x) (rs : List Name) where
  abbrev pub After : Expr → Type 0
  After e = StaticExpr other h rs e

  -- the facts of an expression that becomes another
  pub static_by : (p : Place) (f r : Form) (v w : Form-F Form Expr MergeBranch) → out-Form f ≡ v → out-Form r ≡ w → (unmet_by (may g) p.0 f ≡ [] → unmet_by (may h) p.0 r ≡ []) →
      (IsArrowWithin g rs v → IsArrowWithin h rs w) → (FitsForm v → FitsForm w) → (HasBranch v → HasBranch w) → called_async r ≡ called_async f → StaticExpr core g rs (at p f) → After (at p r)
  static_by p f r v w o q asks arrow number branch calls s = record {
    demands = asks s.demands;
    arrow = subst (IsArrowWithin h rs) (sym q) (arrow (subst (IsArrowWithin g rs) o s.arrow));
    number = subst FitsForm (sym q) (number (subst FitsForm o s.number));
    plain = subst (All (GivesNoFuture other)) (sym calls) (All-weaker (GivesNoFuture core) (GivesNoFuture other) k.plain (called_async f) s.plain);
    branch = subst HasBranch (sym q) (branch (subst HasBranch o s.branch));
  }

  pub lists_by : (f r : Form) (v w : Form-F Form Expr MergeBranch) → out-Form f ≡ v → out-Form r ≡ w → lists_view h rs w ≡ lists_view g rs v → lists_of h rs r ≡ lists_of g rs f
  lists_by f r v w o q e = lists_is h rs r w q ∙ (e ∙ sym (lists_is g rs f v o))

  -- ---- an expression that stays

  pub record Given (e : Expr) : Type 0 where
    pub static : StaticExpr core g rs e
    pub free : is_in x (form_names (out-Form e.form)) ≡ false

  pub record Same (e : Expr) : Type 0 where
    pub lists : lists_of h rs e.form ≡ lists_of g rs e.form
    pub graded : grade (may h) e.form ≡ grade (may g) e.form
    pub all : Each After (inside e)

  abbrev Stays : Expr → Type 0
  Stays e = Each Given (inside e) → Same e

  same_by : (p : Place) (f : Form) (v : Form-F Form Expr MergeBranch) → out-Form f ≡ v → (bs : List Expr) → below f ≡ bs → (unmet_by (may g) p.0 f ≡ [] → unmet_by (may h) p.0 f ≡ []) →
      (IsArrowWithin g rs v → IsArrowWithin h rs v) → lists_view h rs v ≡ lists_view g rs v → grade (may h) f ≡ grade (may g) f → Each After bs → Given (at p f) → Same (at p f)
  same_by p f v o bs b asks arrow lists graded all s = record {
    lists = lists_by f f v v o o lists;
    graded = graded;
    all = (static_by p f f v v o o asks arrow (λ n. n) (λ n. n) refl s.static, subst (Each After) (sym b) all);
  }

  -- a name that a form has is another
  pub named : (f : Form) (v : Form-F Form Expr MergeBranch) (y : Name) (p : Place) → out-Form f ≡ v → form_names v ≡ y ∷ [] → Given (at p f) → h y ≡ g y
  named f v y p o is s = k.same_grade y (or_parts (same x y) false (ap (is_in x) (sym (ap form_names o ∙ is)) ∙ s.free)).0

  pub record Rows (es : List Expr) : Type 0 where
    pub unmet_row : unmet_list (may h) es ≡ unmet_list (may g) es
    pub all_row : Each After (flat_map inside es)

  rows : (es : List Expr) → Each Stays es → Each Given (flat_map inside es) → Rows es
  rows [] i s = record { unmet_row = refl; all_row = tt }
  rows (e ∷ es) i s =
      let a = i.0 (each_left Given (inside e) (flat_map inside es) s) in
      let b = rows es i.1 (each_right Given (inside e) (flat_map inside es) s) in
      record {
        unmet_row = ap (λ (c : Bool). unmet e.place.0 c ++ unmet_list (may h) es) a.graded ∙ ap (λ (l : List ℕ). unmet e.place.0 (grade (may g) e.form) ++ l) b.unmet_row;
        all_row = each_both After (inside e) (flat_map inside es) a.all b.all_row;
      }

  pub record Branches (bs : List MergeBranch) : Type 0 where
    pub unmet_all : unmet_values (may h) bs ≡ unmet_values (may g) bs
    pub graded_all : any_graded (may h) bs ≡ any_graded (may g) bs
    pub all_values : Each After (values bs)

  branches : (bs : List MergeBranch) → Each (λ b. Stays b.value) bs → Each Given (values bs) → Branches bs
  branches [] i s = record { unmet_all = refl; graded_all = refl; all_values = tt }
  branches (b ∷ bs) i s =
      let a = i.0 (each_left Given (inside b.value) (values bs) s) in
      let c = branches bs i.1 (each_right Given (inside b.value) (values bs) s) in
      record {
        unmet_all = ap (λ (z : Bool). unmet b.value.place.0 z ++ unmet_values (may h) bs) a.graded ∙ ap (λ (l : List ℕ). unmet b.value.place.0 (grade (may g) b.value.form) ++ l) c.unmet_all;
        graded_all = ap (λ (z : Bool). z || any_graded (may h) bs) a.graded ∙ ap (λ (z : Bool). grade (may g) b.value.form || z) c.graded_all;
        all_values = each_both After (inside b.value) (values bs) a.all c.all_values;
      }

  parts : (p : Place) (f : Form) (bs : List Expr) → below f ≡ bs → Each Given (inside (at p f)) → Each Given bs
  parts p f bs b s = subst (Each Given) b s.1

  stays_cases : Cases Stays
  stays_cases = record {
    of_const = λ p c s. same_by p (form.Const c) (Form-F.Const c) (out_Const c) [] (below-Const c) (λ u. asks_Const (may h) p.0 c) (λ n. n) refl (grade-Const (may h) c ∙ sym (grade-Const (may g) c)) tt s.0;
    of_var = λ p y s. let e = named (form.Var y) (Form-F.Var y) y p (out_Var y) refl s.0 in
        same_by p (form.Var y) (Form-F.Var y) (out_Var y) [] (below-Var y) (λ u. asks_Var (may h) p.0 y) (λ n. n) e (grade-Var (may h) y ∙ ap is_some_list e ∙ sym (grade-Var (may g) y)) tt s.0;
    of_last = λ p y s. same_by p (form.Last y) (Form-F.Last y) (out_Last y) [] (below-Last y) (λ u. asks_Last (may h) p.0 y) (λ n. n) refl (grade-Last (may h) y ∙ sym (grade-Last (may g) y)) tt s.0;
    of_unary = λ p op a i s. let r = i (parts p (form.Unary op a) (inside a) (below-Unary op a) s) in
        same_by p (form.Unary op a) (Form-F.Unary op a) (out_Unary op a) (inside a) (below-Unary op a) (λ u. asks_Unary (may h) p.0 op a) (λ n. n) r.lists (grade-Unary (may h) op a ∙ r.graded ∙ sym (grade-Unary (may g) op a)) r.all s.0;
    of_binary = λ p op a b i j s.
        let q = parts p (form.Binary op a b) (inside a ++ inside b) (below-Binary op a b) s in
        let r = i (each_left Given (inside a) (inside b) q) in
        let t = j (each_right Given (inside a) (inside b) q) in
        same_by p (form.Binary op a b) (Form-F.Binary op a b) (out_Binary op a b) (inside a ++ inside b) (below-Binary op a b) (λ u. asks_Binary (may h) p.0 op a b) (λ n. n) (two_lists _ _ _ _ r.lists t.lists)
        (grade-Binary (may h) op a b ∙ two_grades _ _ _ _ r.graded t.graded ∙ sym (grade-Binary (may g) op a b)) (each_both After (inside a) (inside b) r.all t.all) s.0;
    of_if = λ p c a b i j l s.
        let q = parts p (form.If c a b) (inside c ++ inside a ++ inside b) (below-If c a b) s in
        let front = each_left Given (inside c ++ inside a) (inside b) q in
        let r = i (each_left Given (inside c) (inside a) front) in
        let t = j (each_right Given (inside c) (inside a) front) in
        let m = l (each_right Given (inside c ++ inside a) (inside b) q) in
        same_by p (form.If c a b) (Form-F.If c a b) (out_If c a b) (inside c ++ inside a ++ inside b) (below-If c a b) (λ u. asks_If (may h) p.0 c a b) (λ n. n)
        (two_lists _ _ _ _ (two_lists _ _ _ _ r.lists t.lists) m.lists)
        (grade-If (may h) c a b ∙ two_grades _ _ _ _ (two_grades _ _ _ _ r.graded t.graded) m.graded ∙ sym (grade-If (may g) c a b))
        (each_both After (inside c ++ inside a) (inside b) (each_both After (inside c) (inside a) r.all t.all) m.all) s.0;
    of_fby = λ p a b i j s.
        let q = parts p (form.Fby a b) (inside a ++ inside b) (below-Fby a b) s in
        let r = i (each_left Given (inside a) (inside b) q) in
        let t = j (each_right Given (inside a) (inside b) q) in
        same_by p (form.Fby a b) (Form-F.Fby a b) (out_Fby a b) (inside a ++ inside b) (below-Fby a b)
        (λ u. unmet_Fby (may h) p.0 a b ∙ ap (unmet b.place.0) t.graded ∙ (sym (unmet_Fby (may g) p.0 a b) ∙ u)) (λ n. n) r.lists
        (grade-Fby (may h) a b ∙ r.graded ∙ sym (grade-Fby (may g) a b)) (each_both After (inside a) (inside b) r.all t.all) s.0;
    of_pre = λ p a i s. let r = i (parts p (form.Pre a) (inside a) (below-Pre a) s) in
        same_by p (form.Pre a) (Form-F.Pre a) (out_Pre a) (inside a) (below-Pre a) (λ u. unmet_Pre (may h) p.0 a ∙ ap (unmet a.place.0) r.graded ∙ (sym (unmet_Pre (may g) p.0 a) ∙ u)) (λ n. n) refl
        (grade-Pre (may h) a ∙ sym (grade-Pre (may g) a)) r.all s.0;
    of_arrow = λ p a b i j s.
        let q = parts p (form.Arrow a b) (inside a ++ inside b) (below-Arrow a b) s in
        let r = i (each_left Given (inside a) (inside b) q) in
        let t = j (each_right Given (inside a) (inside b) q) in
        same_by p (form.Arrow a b) (Form-F.Arrow a b) (out_Arrow a b) (inside a ++ inside b) (below-Arrow a b) (λ u. asks_Arrow (may h) p.0 a b)
        (λ n. subst (λ (l : List (List Name)). AreWithin l rs) (sym t.lists) n) r.lists (grade-Arrow (may h) a b ∙ r.graded ∙ sym (grade-Arrow (may g) a b)) (each_both After (inside a) (inside b) r.all t.all) s.0;
    of_when = λ p a tag y i s. let r = i (parts p (form.When a tag y) (inside a) (below-When a tag y) s) in
        let e = named (form.When a tag y) (Form-F.When a tag y) y p (out_When a tag y) refl s.0 in
        same_by p (form.When a tag y) (Form-F.When a tag y) (out_When a tag y) (inside a) (below-When a tag y)
        (λ u. unmet_When (may h) p.0 a tag y ∙ ap (λ n. unmet p.0 (is_some_list n)) e ∙ (sym (unmet_When (may g) p.0 a tag y) ∙ u)) (λ n. n) r.lists
        (grade-When (may h) a tag y ∙ r.graded ∙ sym (grade-When (may g) a tag y)) r.all s.0;
    of_merge = λ p y bs i s. let r = branches bs i (parts p (form.Merge y bs) (values bs) (below-Merge y bs) s) in
        let e = named (form.Merge y bs) (Form-F.Merge y bs) y p (out_Merge y bs) refl s.0 in
        same_by p (form.Merge y bs) (Form-F.Merge y bs) (out_Merge y bs) (values bs) (below-Merge y bs)
        (λ u. unmet_Merge (may h) p.0 y bs ∙ ap (λ n. unmet p.0 (is_some_list n) ++ unmet_values (may h) bs) e ∙ ap (λ (l : List ℕ). unmet p.0 (may g y) ++ l) r.unmet_all ∙ (sym (unmet_Merge (may g) p.0 y bs) ∙ u))
        (λ n. n) refl (grade-Merge (may h) y bs ∙ r.graded_all ∙ sym (grade-Merge (may g) y bs)) r.all_values s.0;
    of_call = λ p f args i s. let r = rows args i (parts p (form.Call f args) (flat_map inside args) (below-Call f args) s) in
        same_by p (form.Call f args) (Form-F.Call f args) (out_Call f args) (flat_map inside args) (below-Call f args)
        (λ u. unmet_Call (may h) p.0 f args ∙ r.unmet_row ∙ (sym (unmet_Call (may g) p.0 f args) ∙ u)) (λ n. n) refl
        (grade-Call (may h) f args ∙ sym (grade-Call (may g) f args)) r.all_row s.0;
    of_async = λ p q f args i s. let r = rows args i (parts p (form.AsyncCall q f args) (flat_map inside args) (below-AsyncCall q f args) s) in
        same_by p (form.AsyncCall q f args) (Form-F.AsyncCall q f args) (out_AsyncCall q f args) (flat_map inside args) (below-AsyncCall q f args)
        (λ u. unmet_AsyncCall (may h) p.0 q f args ∙ r.unmet_row ∙ (sym (unmet_AsyncCall (may g) p.0 q f args) ∙ u)) (λ n. n) refl
        (grade-AsyncCall (may h) q f args ∙ sym (grade-AsyncCall (may g) q f args)) r.all_row s.0;
    of_ready = λ p c s. same_by p (form.AsyncConst c) (Form-F.AsyncConst c) (out_AsyncConst c) [] (below-AsyncConst c) (λ u. asks_AsyncConst (may h) p.0 c) (λ n. n) refl (grade-AsyncConst (may h) c ∙ sym (grade-AsyncConst (may g) c)) tt s.0;
    of_get = λ p a i s. let r = i (parts p (form.Get a) (inside a) (below-Get a) s) in
        same_by p (form.Get a) (Form-F.Get a) (out_Get a) (inside a) (below-Get a) (λ u. asks_Get (may h) p.0 a) (λ n. n) r.lists (grade-Get (may h) a ∙ r.graded ∙ sym (grade-Get (may g) a)) r.all s.0;
  }

  pub stays : (e : Expr) → Each Given (inside e) → Same e
  stays e s = by_forms Stays stays_cases e s

  each_stays : (es : List Expr) → Each Stays es
  each_stays [] = tt
  each_stays (e ∷ es) = (stays e, each_stays es)

  each_value : (bs : List MergeBranch) → Each (λ b. Stays b.value) bs
  each_value [] = tt
  each_value (b ∷ bs) = (stays b.value, each_value bs)

  pub rows_stay : (es : List Expr) → Each Given (flat_map inside es) → Rows es
  rows_stay es s = rows es (each_stays es) s

  pub branches_stay : (bs : List MergeBranch) → Each Given (values bs) → Branches bs
  branches_stay bs s = branches bs (each_value bs) s
