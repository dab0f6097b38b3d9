-- An expression in which a subexpression is named keeps its facts, and the clock of what is named is proper.
use Rattle.std.proofs.Common.{◌≡◌, ℕ, zero, suc, Bool, true, false, ◌||◌, if◌then◌else◌, List, [], ◌∷◌, ◌++◌, ◌-◌, length, take, ◌+◌, refl, sym, ap, subst, ◌∙◌, All, arith, append_assoc, append-nil}
use Rattle.std.specs.List.{flat_map}
use Rattle.std.proofs.Math.Seq.{take-append_seam}
use Rattle.std.proofs.lemmas.Bool.{false≢true}
use Rattle.std.proofs.lemmas.List.{length_push}
use Rattle.std.proofs.lemmas.List.Elements.{All-nil}
use Rattle.hept_ast.specs.Texts.{Name, is_in, names}
use Rattle.hept_ast.specs.Scopes.{Clock}
use Rattle.hept_ast.specs.Parts.{below, inside}
use Rattle.hept_ast.specs.Initial.{grade, unmet, unmet_by}
use Rattle.hept_ast.specs.Faults.{called_async}
use Rattle.hept_ast.specs.declared.name.Place.{Place}
use Rattle.hept_ast.specs.declared.tree.Core.{Core}
use Rattle.hept_ast.specs.declared.tree.CoreNode.{CoreNode}
use Rattle.hept_ast.specs.declared.tree.ClockStep.{ClockStep}
use Rattle.hept_ast.specs.declared.tree.Tag.{Tag}
use Rattle.hept_ast.specs.declared.tree.Expr.{Expr}
use Rattle.hept_ast.specs.declared.tree.MergeBranch.{MergeBranch}
use Rattle.hept_ast.specs.declared.tree.Form.{Form, out-Form}
use Rattle.hept_ast.specs.declared.tree.Form.TheOpen.{Form-F}
use Rattle.hept_ast.specs.declared.tree.Form.TheVariants as form
use Rattle.hept_ast.proofs.Unfolded.{static}
use Rattle.hept_ast.proofs.CalledForms.{called_async-Var, called_async-Unary, called_async-Binary, called_async-If, called_async-Fby, called_async-Pre, called_async-Arrow, called_async-When, called_async-Merge, called_async-Call, called_async-AsyncCall, called_async-Get}
use Rattle.hept_ast.proofs.FormsOf.{below-Var, below-Unary, below-Binary, below-If, below-Fby, below-Pre, below-Arrow, below-When, below-Merge, below-Call, below-AsyncCall, below-Get, grade-Var, grade-Unary, grade-Binary, grade-If, grade-Fby, grade-Pre, grade-Arrow, grade-When, grade-Merge, grade-Call, grade-AsyncCall, grade-Get}
use Rattle.core_rules.specs.Cores.{core_clock, core_decls}
use Rattle.core_rules.proofs.Ends.{same_self}
use Rattle.sound_expressions.specs.Demands.{FitsForm}
use Rattle.sound_expressions.proofs.Expressions.{is_met}
use Rattle.sound_expressions.proofs.Forms.{unmet_list, unmet_values, unmet_Fby, unmet_Pre, unmet_When, unmet_Merge, unmet_Call, unmet_AsyncCall}
use Rattle.sound_expressions.proofs.Lists.{nil_left, nil_right, or_left, or_right}
use Rattle.erased_rules.proofs.Standing.{read, sampled, Stands, Row_stands, Branches_stand}
use Rattle.core_facts.specs.Undefined.{AreWithin, Grades, is_some_list, lists_of, may}
use Rattle.core_facts.specs.Static.{AreProper, GivesNoFuture, HasBranch, IsArrowWithin}
use Rattle.core_facts.proofs.Undefined.{lists_is, lists_view, none_of, none_var}
use Rattle.core_naming.specs.Names.{Names, variable_at}
use Rattle.core_naming.specs.Ties.{form_names}
use Rattle.naming_rules.proofs.Shapes.{Each, at, out_Var, out_Unary, out_Binary, out_If, out_Fby, out_Pre, out_Arrow, out_When, out_Merge, out_Call, out_AsyncCall, out_Get}
use Rattle.naming_rules.proofs.Lists.{each_both, each_left, each_right}
use Rattle.naming_rules.proofs.Names.{both_false}
use Rattle.naming_rules.proofs.NamedShapes.{NamedCases, branch_at, branch_clock, by_names}
use Rattle.naming_rules.proofs.StandsOf.{Arguments_stand, Values_stand, arguments_of, values_of}
use Rattle.naming_facts.proofs.Unmentioned.{After, Branches, Given, Regraded, Rows, Same, any_graded, asks_Arrow, asks_Binary, asks_Get, asks_If, asks_Unary, asks_Var, branches_stay, lists_by, named, rows_stay, static_by, stays, two_lists, values}

-- ---- proper clocks

module _ (node : CoreNode) (g : Grades) where
  proper_front : (before c : Clock) (n : ℕ) → AreProper node g before c → AreProper node g before (take n c)
  proper_front before c zero h = tt
  proper_front before [] (suc n) h = tt
  proper_front before (p ∷ c) (suc n) h = (h.0, proper_front (before ++ p ∷ []) c n h.1)

  proper_more : (before c : Clock) (s : ClockStep) → AreProper node g before c → (is_in s.name (names (core_decls node)) ≡ true) × (core_clock node s.name ≡ before ++ c) × (g s.name ≡ []) →
      AreProper node g before (c ++ s ∷ [])
  proper_more before [] s h k = ((k.0, k.1 ∙ append-nil before, k.2), tt)
  proper_more before (p ∷ c) s h k = (h.0, proper_more (before ++ p ∷ []) c s h.1 (k.0, k.1 ∙ sym (append_assoc before (p ∷ []) c), k.2))

-- a clock without its last step
without_last : (c k : Clock) (s : ClockStep) → c ≡ k ++ s ∷ [] → take (length c - 1) c ≡ k
without_last c k s e =
    let n : length (k ++ s ∷ []) ≡ length k + 1 = length_push k s in
    let m : length (k ++ s ∷ []) - 1 ≡ length k = omega arith in
    ap (λ (z : Clock). take (length z - 1) z) e ∙ ap (λ (i : ℕ). take i (k ++ s ∷ [])) m ∙ take-append_seam k (s ∷ [])

-- ---- demands

defined_still : (p q : ℕ) (b c : Bool) → (b ≡ false → c ≡ false) → unmet p b ≡ [] → unmet q c ≡ []
defined_still p q b c h u = ap (unmet q) (h (is_met p b u))

both_nil : (xs ys : List ℕ) → xs ≡ [] → ys ≡ [] → xs ++ ys ≡ []
both_nil xs ys e f = ap (λ (l : List ℕ). l ++ ys) e ∙ f

module _ (core other : Core) (g h : Grades) (x : Name) (k : Regraded core other g h x) (rs : List Name) (node : CoreNode) (a : Expr) (d : Clock) (new_grade : h x ≡ lists_of g rs a.form) where
  abbrev own : List Name
  own = names (core_decls node)

  abbrev v : Name → Clock
  v = core_clock node

  abbrev Later : Expr → Type 0
  Later e = After core other g h x k rs e

  -- what is known of each expression inside, before the naming
  pub record Known (e : Expr) : Type 0 where
    pub facts : Given core other g h x k rs e
    pub declared : (y : Name) → is_in y (form_names (out-Form e.form)) ≡ true → is_in y own ≡ true

  pub facts_of : (es : List Expr) → Each Known es → Each (Given core other g h x k rs) es
  facts_of [] s = tt
  facts_of (e ∷ es) s = (s.0.facts, facts_of es s.1)

  -- what is known of the subexpression and its clock
  pub record Found : Type 0 where
    pub named : Each Known (inside a)
    pub clock : AreProper node g [] d

  pub record Moved (e r : Expr) : Type 0 where
    pub lists : lists_of h rs r.form ≡ lists_of g rs e.form
    pub graded : grade (may g) e.form ≡ false → grade (may h) r.form ≡ false
    pub all : Each Later (inside r)
    pub found : Found

  record MovedRow (es ms : List Expr) : Type 0 where
    row_met : unmet_list (may g) es ≡ [] → unmet_list (may h) ms ≡ []
    all_row : Each Later (flat_map inside ms)
    row_found : Found

  record MovedBranches (bs ms : List MergeBranch) : Type 0 where
    some : (y : Name) → HasBranch (Form-F.Merge y bs) → HasBranch (Form-F.Merge y ms)
    values_met : unmet_values (may g) bs ≡ [] → unmet_values (may h) ms ≡ []
    values_graded : any_graded (may g) bs ≡ false → any_graded (may h) ms ≡ false
    all_values : Each Later (values ms)
    values_found : Found

  -- ---- expressions that stay

  stay : (e : Expr) → Each Known (inside e) → Same core other g h x k rs e
  stay e s = stays core other g h x k rs e (facts_of (inside e) s)

  stay_row : (es : List Expr) → Each Known (flat_map inside es) → Rows core other g h x k rs es
  stay_row es s = rows_stay core other g h x k rs es (facts_of (flat_map inside es) s)

  stay_values : (bs : List MergeBranch) → Each Known (values bs) → Branches core other g h x k rs bs
  stay_values bs s = branches_stay core other g h x k rs bs (facts_of (values bs) s)

  same_name : (f : Form) (w : Form-F Form Expr MergeBranch) (y : Name) (p : Place) → out-Form f ≡ w → form_names w ≡ y ∷ [] → Known (at p f) → h y ≡ g y
  same_name f w y p o is s = named core other g h x k rs f w y p o is s.facts

  is_declared : (f : Form) (w : Form-F Form Expr MergeBranch) (y : Name) (p : Place) → out-Form f ≡ w → form_names w ≡ y ∷ [] → Known (at p f) → is_in y own ≡ true
  is_declared f w y p o is s = s.declared y (ap (is_in y) (ap form_names o ∙ is) ∙ ap (λ (b : Bool). b || false) (same_self y))

  below_known : (p : Place) (f : Form) (bs : List Expr) → below f ≡ bs → Each Known (inside (at p f)) → Each Known bs
  below_known p f bs b s = subst (Each Known) b s.1

  moved_by : (p : Place) (f r : Form) (u w : Form-F Form Expr MergeBranch) → out-Form f ≡ u → out-Form r ≡ w → (ms : List Expr) → below r ≡ ms → (unmet_by (may g) p.0 f ≡ [] → unmet_by (may h) p.0 r ≡ []) →
      (IsArrowWithin g rs u → IsArrowWithin h rs w) → (FitsForm u → FitsForm w) → (HasBranch u → HasBranch w) → called_async r ≡ called_async f →
      lists_view h rs w ≡ lists_view g rs u → (grade (may g) f ≡ false → grade (may h) r ≡ false) → Each Later ms → Found → Known (at p f) → Moved (at p f) (at p r)
  moved_by p f r u w o q ms b asks arrow number branch calls lists graded all found s = record {
    lists = lists_by core other g h x k rs f r u w o q lists;
    graded = graded;
    all = (static_by core other g h x k rs p f r u w o q asks arrow number branch calls s.facts.static, subst (Each Later) (sym b) all);
    found = found;
  }

  variable_facts : Later (variable_at a.place x)
  variable_facts = record {
    demands = asks_Var (may h) a.place.0 x;
    arrow = subst (IsArrowWithin h rs) (sym (out_Var x)) tt;
    number = subst FitsForm (sym (out_Var x)) tt;
    plain = subst (All (GivesNoFuture other)) (sym (called_async-Var x)) (All-nil (GivesNoFuture other));
    branch = subst HasBranch (sym (out_Var x)) tt;
  }

  -- ---- form by form

  abbrev Q : Clock → Expr → Expr → Type 0
  Q c e r = Each Known (inside e) → Stands own v c e.form → AreProper node g [] c → Moved e r

  abbrev QA : Clock → List Expr → List Expr → Type 0
  QA c es ms = Each Known (flat_map inside es) → Arguments_stand own v c es → AreProper node g [] c → MovedRow es ms

  abbrev QB : Name → Clock → List MergeBranch → List MergeBranch → Type 0
  QB y c bs ms = c ≡ read own v y → is_in y own ≡ true → g y ≡ [] → Each Known (values bs) → Values_stand own v y bs → AreProper node g [] c → MovedBranches bs ms

  whole_moved : Q d a (variable_at a.place x)
  whole_moved s st proper = record {
    lists = lists_is h rs (form.Var x) (Form-F.Var x) (out_Var x) ∙ new_grade;
    graded = λ e. grade-Var (may h) x ∙ ap is_some_list (new_grade ∙ none_of g rs a e);
    all = (variable_facts, subst (Each Later) (sym (below-Var x)) tt);
    found = record { named = s; clock = proper };
  }

  this_moved : (c : Clock) (e m : Expr) (es : List Expr) → Q c e m → QA c (e ∷ es) (m ∷ es)
  this_moved c e m es i s st proper =
      let r = i (each_left Known (inside e) (flat_map inside es) s) st.0 proper in
      let t = stay_row es (each_right Known (inside e) (flat_map inside es) s) in
      record {
        row_met = λ u. both_nil (unmet m.place.0 (grade (may h) m.form)) (unmet_list (may h) es) (defined_still e.place.0 m.place.0 (grade (may g) e.form) (grade (may h) m.form) r.graded (nil_left (unmet e.place.0 (grade (may g) e.form)) (unmet_list (may g) es) u))
            (t.unmet_row ∙ nil_right (unmet e.place.0 (grade (may g) e.form)) (unmet_list (may g) es) u);
        all_row = each_both Later (inside m) (flat_map inside es) r.all t.all_row;
        row_found = r.found;
      }

  later_moved : (c : Clock) (e : Expr) (es ms : List Expr) → QA c es ms → QA c (e ∷ es) (e ∷ ms)
  later_moved c e es ms i s st proper =
      let r = i (each_right Known (inside e) (flat_map inside es) s) st.1 proper in
      let t = stay e (each_left Known (inside e) (flat_map inside es) s) in
      record {
        row_met = λ u. both_nil (unmet e.place.0 (grade (may h) e.form)) (unmet_list (may h) ms) (ap (unmet e.place.0) t.graded ∙ nil_left (unmet e.place.0 (grade (may g) e.form)) (unmet_list (may g) es) u)
            (r.row_met (nil_right (unmet e.place.0 (grade (may g) e.form)) (unmet_list (may g) es) u));
        all_row = each_both Later (inside e) (flat_map inside ms) t.all r.all_row;
        row_found = r.row_found;
      }

  this_value_moved : (y : Name) (c : Clock) (p : Place) (tag : Tag) (e m : Expr) (bs : List MergeBranch) → Q (branch_clock c tag y) e m → QB y c (branch_at p tag e ∷ bs) (branch_at p tag m ∷ bs)
  this_value_moved y c p tag e m bs i same declared none s st proper =
      let on : branch_clock c tag y ≡ sampled own v tag y = ap (λ (z : Clock). z ++ record { tag = tag; name = y } ∷ []) same in
      let clock_is : core_clock node y ≡ c = sym (same ∙ ap (λ (b : Bool). if b then v y else []) declared) in
      let r = i (each_left Known (inside e) (values bs) s) (subst (λ (z : Clock). Stands own v z e.form) (sym on) st.0) (proper_more node g [] c (record { tag = tag; name = y }) proper (declared, clock_is, none)) in
      let t = stay_values bs (each_right Known (inside e) (values bs) s) in
      record {
        some = λ z n. tt;
        values_met = λ u. both_nil (unmet m.place.0 (grade (may h) m.form)) (unmet_values (may h) bs) (defined_still e.place.0 m.place.0 (grade (may g) e.form) (grade (may h) m.form) r.graded (nil_left (unmet e.place.0 (grade (may g) e.form)) (unmet_values (may g) bs) u))
            (t.unmet_all ∙ nil_right (unmet e.place.0 (grade (may g) e.form)) (unmet_values (may g) bs) u);
        values_graded = λ u. both_false (grade (may h) m.form) (any_graded (may h) bs) (r.graded (or_left (grade (may g) e.form) (any_graded (may g) bs) u)) (t.graded_all ∙ or_right (grade (may g) e.form) (any_graded (may g) bs) u);
        all_values = each_both Later (inside m) (values bs) r.all t.all_values;
        values_found = r.found;
      }

  later_value_moved : (y : Name) (c : Clock) (b : MergeBranch) (bs ms : List MergeBranch) → QB y c bs ms → QB y c (b ∷ bs) (b ∷ ms)
  later_value_moved y c b bs ms i same declared none s st proper =
      let e = b.value in
      let r = i same declared none (each_right Known (inside e) (values bs) s) st.1 proper in
      let t = stay e (each_left Known (inside e) (values bs) s) in
      record {
        some = λ z n. tt;
        values_met = λ u. both_nil (unmet e.place.0 (grade (may h) e.form)) (unmet_values (may h) ms) (ap (unmet e.place.0) t.graded ∙ nil_left (unmet e.place.0 (grade (may g) e.form)) (unmet_values (may g) bs) u)
            (r.values_met (nil_right (unmet e.place.0 (grade (may g) e.form)) (unmet_values (may g) bs) u));
        values_graded = λ u. both_false (grade (may h) e.form) (any_graded (may h) ms) (t.graded ∙ or_left (grade (may g) e.form) (any_graded (may g) bs) u) (r.values_graded (or_right (grade (may g) e.form) (any_graded (may g) bs) u));
        all_values = each_both Later (inside e) (values ms) t.all r.all_values;
        values_found = r.values_found;
      }

  merge_moved : (c : Clock) (p : Place) (y : Name) (bs ms : List MergeBranch) → QB y c bs ms → Q c (at p (form.Merge y bs)) (at p (form.Merge y ms))
  unfolding Stands
  merge_moved c p y bs ms i s st proper =
      let met = sym (unmet_Merge (may g) p.0 y bs) ∙ s.0.facts.static.demands in
      let none = none_var g rs y (is_met p.0 (may g y) (nil_left (unmet p.0 (may g y)) (unmet_values (may g) bs) met)) in
      let e = same_name (form.Merge y bs) (Form-F.Merge y bs) y p (out_Merge y bs) refl s.0 in
      let r = i st.0 (is_declared (form.Merge y bs) (Form-F.Merge y bs) y p (out_Merge y bs) refl s.0) none (below_known p (form.Merge y bs) (values bs) (below-Merge y bs) s) (values_of own v y bs st.2) proper in
      moved_by p (form.Merge y bs) (form.Merge y ms) (Form-F.Merge y bs) (Form-F.Merge y ms) (out_Merge y bs) (out_Merge y ms) (values ms) (below-Merge y ms)
      (λ u. unmet_Merge (may h) p.0 y ms ∙ both_nil (unmet p.0 (may h y)) (unmet_values (may h) ms) (ap (λ (n : List (List Name)). unmet p.0 (is_some_list n)) e ∙ nil_left (unmet p.0 (may g y)) (unmet_values (may g) bs) met)
      (r.values_met (nil_right (unmet p.0 (may g y)) (unmet_values (may g) bs) met)))
      (λ n. n) (λ n. n) (r.some y) (called_async-Merge y ms ∙ sym (called_async-Merge y bs)) refl
      (λ z. grade-Merge (may h) y ms ∙ r.values_graded (sym (grade-Merge (may g) y bs) ∙ z)) r.all_values r.values_found s.0

  moved_cases : NamedCases x a d Q QA QB
  unfolding static Stands Row_stands Branches_stand
  moved_cases = record {
    at_whole = whole_moved;
    at_unary = λ c p op b m i s st proper. let r = i (below_known p (form.Unary op b) (inside b) (below-Unary op b) s) st.0 proper in
        moved_by p (form.Unary op b) (form.Unary op m) (Form-F.Unary op b) (Form-F.Unary op m) (out_Unary op b) (out_Unary op m) (inside m) (below-Unary op m) (λ u. asks_Unary (may h) p.0 op m) (λ n. n) (λ n. n) (λ n. n)
        (called_async-Unary op m ∙ sym (called_async-Unary op b)) r.lists (λ z. grade-Unary (may h) op m ∙ r.graded (sym (grade-Unary (may g) op b) ∙ z)) r.all r.found s.0;
    at_left = λ c p op b f m i s st proper. let q = below_known p (form.Binary op b f) (inside b ++ inside f) (below-Binary op b f) s in
        let r = i (each_left Known (inside b) (inside f) q) st.0.0 proper in
        let t = stay f (each_right Known (inside b) (inside f) q) in
        moved_by p (form.Binary op b f) (form.Binary op m f) (Form-F.Binary op b f) (Form-F.Binary op m f) (out_Binary op b f) (out_Binary op m f) (inside m ++ inside f) (below-Binary op m f)
        (λ u. asks_Binary (may h) p.0 op m f) (λ n. n) (λ n. n) (λ n. n) (called_async-Binary op m f ∙ sym (called_async-Binary op b f)) (two_lists _ _ _ _ r.lists t.lists)
        (λ z. let y = sym (grade-Binary (may g) op b f) ∙ z in grade-Binary (may h) op m f ∙ both_false _ _ (r.graded (or_left (grade (may g) b.form) _ y)) (t.graded ∙ or_right (grade (may g) b.form) _ y))
        (each_both Later (inside m) (inside f) r.all t.all) r.found s.0;
    at_right = λ c p op b f m n i s st proper. let q = below_known p (form.Binary op b f) (inside b ++ inside f) (below-Binary op b f) s in
        let r = i (each_right Known (inside b) (inside f) q) st.1.0 proper in
        let t = stay b (each_left Known (inside b) (inside f) q) in
        moved_by p (form.Binary op b f) (form.Binary op b m) (Form-F.Binary op b f) (Form-F.Binary op b m) (out_Binary op b f) (out_Binary op b m) (inside b ++ inside m) (below-Binary op b m)
        (λ u. asks_Binary (may h) p.0 op b m) (λ n. n) (λ n. n) (λ n. n) (called_async-Binary op b m ∙ sym (called_async-Binary op b f)) (two_lists _ _ _ _ t.lists r.lists)
        (λ z. let y = sym (grade-Binary (may g) op b f) ∙ z in grade-Binary (may h) op b m ∙ both_false _ _ (t.graded ∙ or_left (grade (may g) b.form) _ y) (r.graded (or_right (grade (may g) b.form) _ y)))
        (each_both Later (inside b) (inside m) t.all r.all) r.found s.0;
    at_condition = λ c p l b f m i s st proper. let q = below_known p (form.If l b f) (inside l ++ inside b ++ inside f) (below-If l b f) s in
        let front = each_left Known (inside l ++ inside b) (inside f) q in
        let r = i (each_left Known (inside l) (inside b) front) st.0.0 proper in
        let t = stay b (each_right Known (inside l) (inside b) front) in
        let o = stay f (each_right Known (inside l ++ inside b) (inside f) q) in
        moved_by p (form.If l b f) (form.If m b f) (Form-F.If l b f) (Form-F.If m b f) (out_If l b f) (out_If m b f) (inside m ++ inside b ++ inside f) (below-If m b f)
        (λ u. asks_If (may h) p.0 m b f) (λ n. n) (λ n. n) (λ n. n) (called_async-If m b f ∙ sym (called_async-If l b f)) (two_lists _ _ _ _ (two_lists _ _ _ _ r.lists t.lists) o.lists)
        (λ z. let y = sym (grade-If (may g) l b f) ∙ z in
        let w = or_left (grade (may g) l.form || grade (may g) b.form) _ y in
        grade-If (may h) m b f ∙ both_false _ _ (both_false _ _ (r.graded (or_left (grade (may g) l.form) _ w)) (t.graded ∙ or_right (grade (may g) l.form) _ w)) (o.graded ∙ or_right (grade (may g) l.form || grade (may g) b.form) _ y))
        (each_both Later (inside m ++ inside b) (inside f) (each_both Later (inside m) (inside b) r.all t.all) o.all) r.found s.0;
    at_then = λ c p l b f m i s st proper. let q = below_known p (form.If l b f) (inside l ++ inside b ++ inside f) (below-If l b f) s in
        let front = each_left Known (inside l ++ inside b) (inside f) q in
        let r = i (each_right Known (inside l) (inside b) front) st.1.0 proper in
        let t = stay l (each_left Known (inside l) (inside b) front) in
        let o = stay f (each_right Known (inside l ++ inside b) (inside f) q) in
        moved_by p (form.If l b f) (form.If l m f) (Form-F.If l b f) (Form-F.If l m f) (out_If l b f) (out_If l m f) (inside l ++ inside m ++ inside f) (below-If l m f)
        (λ u. asks_If (may h) p.0 l m f) (λ n. n) (λ n. n) (λ n. n) (called_async-If l m f ∙ sym (called_async-If l b f)) (two_lists _ _ _ _ (two_lists _ _ _ _ t.lists r.lists) o.lists)
        (λ z. let y = sym (grade-If (may g) l b f) ∙ z in
        let w = or_left (grade (may g) l.form || grade (may g) b.form) _ y in
        grade-If (may h) l m f ∙ both_false _ _ (both_false _ _ (t.graded ∙ or_left (grade (may g) l.form) _ w) (r.graded (or_right (grade (may g) l.form) _ w))) (o.graded ∙ or_right (grade (may g) l.form || grade (may g) b.form) _ y))
        (each_both Later (inside l ++ inside m) (inside f) (each_both Later (inside l) (inside m) t.all r.all) o.all) r.found s.0;
    at_else = λ c p l b f m i s st proper. let q = below_known p (form.If l b f) (inside l ++ inside b ++ inside f) (below-If l b f) s in
        let front = each_left Known (inside l ++ inside b) (inside f) q in
        let r = i (each_right Known (inside l ++ inside b) (inside f) q) st.2.0 proper in
        let t = stay l (each_left Known (inside l) (inside b) front) in
        let o = stay b (each_right Known (inside l) (inside b) front) in
        moved_by p (form.If l b f) (form.If l b m) (Form-F.If l b f) (Form-F.If l b m) (out_If l b f) (out_If l b m) (inside l ++ inside b ++ inside m) (below-If l b m)
        (λ u. asks_If (may h) p.0 l b m) (λ n. n) (λ n. n) (λ n. n) (called_async-If l b m ∙ sym (called_async-If l b f)) (two_lists _ _ _ _ (two_lists _ _ _ _ t.lists o.lists) r.lists)
        (λ z. let y = sym (grade-If (may g) l b f) ∙ z in
        let w = or_left (grade (may g) l.form || grade (may g) b.form) _ y in
        grade-If (may h) l b m ∙ both_false _ _ (both_false _ _ (t.graded ∙ or_left (grade (may g) l.form) _ w) (o.graded ∙ or_right (grade (may g) l.form) _ w)) (r.graded (or_right (grade (may g) l.form || grade (may g) b.form) _ y)))
        (each_both Later (inside l ++ inside b) (inside m) (each_both Later (inside l) (inside b) t.all o.all) r.all) r.found s.0;
    at_fby_first = λ c p b f m i s st proper. let q = below_known p (form.Fby b f) (inside b ++ inside f) (below-Fby b f) s in
        let r = i (each_left Known (inside b) (inside f) q) st.0.0 proper in
        let t = stay f (each_right Known (inside b) (inside f) q) in
        moved_by p (form.Fby b f) (form.Fby m f) (Form-F.Fby b f) (Form-F.Fby m f) (out_Fby b f) (out_Fby m f) (inside m ++ inside f) (below-Fby m f)
        (λ u. unmet_Fby (may h) p.0 m f ∙ ap (unmet f.place.0) t.graded ∙ (sym (unmet_Fby (may g) p.0 b f) ∙ u)) (λ n. n) (λ n. n) (λ n. n) (called_async-Fby m f ∙ sym (called_async-Fby b f)) r.lists
        (λ z. grade-Fby (may h) m f ∙ r.graded (sym (grade-Fby (may g) b f) ∙ z)) (each_both Later (inside m) (inside f) r.all t.all) r.found s.0;
    at_fby_next = λ c p b f m i s st proper. let q = below_known p (form.Fby b f) (inside b ++ inside f) (below-Fby b f) s in
        let r = i (each_right Known (inside b) (inside f) q) st.1.0 proper in
        let t = stay b (each_left Known (inside b) (inside f) q) in
        moved_by p (form.Fby b f) (form.Fby b m) (Form-F.Fby b f) (Form-F.Fby b m) (out_Fby b f) (out_Fby b m) (inside b ++ inside m) (below-Fby b m)
        (λ u. unmet_Fby (may h) p.0 b m ∙ defined_still f.place.0 m.place.0 (grade (may g) f.form) (grade (may h) m.form) r.graded (sym (unmet_Fby (may g) p.0 b f) ∙ u)) (λ n. n) (λ n. n) (λ n. n)
        (called_async-Fby b m ∙ sym (called_async-Fby b f)) t.lists (λ z. grade-Fby (may h) b m ∙ (t.graded ∙ (sym (grade-Fby (may g) b f) ∙ z))) (each_both Later (inside b) (inside m) t.all r.all) r.found s.0;
    at_pre = λ c p b m i s st proper. let r = i (below_known p (form.Pre b) (inside b) (below-Pre b) s) st.0 proper in
        moved_by p (form.Pre b) (form.Pre m) (Form-F.Pre b) (Form-F.Pre m) (out_Pre b) (out_Pre m) (inside m) (below-Pre m)
        (λ u. unmet_Pre (may h) p.0 m ∙ defined_still b.place.0 m.place.0 (grade (may g) b.form) (grade (may h) m.form) r.graded (sym (unmet_Pre (may g) p.0 b) ∙ u)) (λ n. n) (λ n. n) (λ n. n)
        (called_async-Pre m ∙ sym (called_async-Pre b)) refl (λ z. absurd (false≢true (sym z ∙ grade-Pre (may g) b))) r.all r.found s.0;
    at_arrow_first = λ c p b f m i s st proper. let q = below_known p (form.Arrow b f) (inside b ++ inside f) (below-Arrow b f) s in
        let r = i (each_left Known (inside b) (inside f) q) st.0.0 proper in
        let t = stay f (each_right Known (inside b) (inside f) q) in
        moved_by p (form.Arrow b f) (form.Arrow m f) (Form-F.Arrow b f) (Form-F.Arrow m f) (out_Arrow b f) (out_Arrow m f) (inside m ++ inside f) (below-Arrow m f)
        (λ u. asks_Arrow (may h) p.0 m f) (λ n. subst (λ (l : List (List Name)). AreWithin l rs) (sym t.lists) n) (λ n. n) (λ n. n) (called_async-Arrow m f ∙ sym (called_async-Arrow b f)) r.lists
        (λ z. grade-Arrow (may h) m f ∙ r.graded (sym (grade-Arrow (may g) b f) ∙ z)) (each_both Later (inside m) (inside f) r.all t.all) r.found s.0;
    at_arrow_next = λ c p b f m i s st proper. let q = below_known p (form.Arrow b f) (inside b ++ inside f) (below-Arrow b f) s in
        let r = i (each_right Known (inside b) (inside f) q) st.1.0 proper in
        let t = stay b (each_left Known (inside b) (inside f) q) in
        moved_by p (form.Arrow b f) (form.Arrow b m) (Form-F.Arrow b f) (Form-F.Arrow b m) (out_Arrow b f) (out_Arrow b m) (inside b ++ inside m) (below-Arrow b m)
        (λ u. asks_Arrow (may h) p.0 b m) (λ n. subst (λ (l : List (List Name)). AreWithin l rs) (sym r.lists) n) (λ n. n) (λ n. n) (called_async-Arrow b m ∙ sym (called_async-Arrow b f)) t.lists
        (λ z. grade-Arrow (may h) b m ∙ (t.graded ∙ (sym (grade-Arrow (may g) b f) ∙ z))) (each_both Later (inside b) (inside m) t.all r.all) r.found s.0;
    at_when = λ c p b m tag y i s st proper.
        let on : take (length c - 1) c ≡ read own v y = without_last c (read own v y) (record { tag = tag; name = y }) st.1 in
        let r = i (below_known p (form.When b tag y) (inside b) (below-When b tag y) s) (subst (λ (z : Clock). Stands own v z b.form) (sym on) st.0.0) (proper_front node g [] c (length c - 1) proper) in
        let e = same_name (form.When b tag y) (Form-F.When b tag y) y p (out_When b tag y) refl s.0 in
        moved_by p (form.When b tag y) (form.When m tag y) (Form-F.When b tag y) (Form-F.When m tag y) (out_When b tag y) (out_When m tag y) (inside m) (below-When m tag y)
        (λ u. unmet_When (may h) p.0 m tag y ∙ ap (λ (n : List (List Name)). unmet p.0 (is_some_list n)) e ∙ (sym (unmet_When (may g) p.0 b tag y) ∙ u)) (λ n. n) (λ n. n) (λ n. n)
        (called_async-When m tag y ∙ sym (called_async-When b tag y)) r.lists (λ z. grade-When (may h) m tag y ∙ r.graded (sym (grade-When (may g) b tag y) ∙ z)) r.all r.found s.0;
    at_merge = merge_moved;
    at_call = λ c p f es ms i s st proper. let r = i (below_known p (form.Call f es) (flat_map inside es) (below-Call f es) s) (arguments_of own v c es st) proper in
        moved_by p (form.Call f es) (form.Call f ms) (Form-F.Call f es) (Form-F.Call f ms) (out_Call f es) (out_Call f ms) (flat_map inside ms) (below-Call f ms)
        (λ u. unmet_Call (may h) p.0 f ms ∙ r.row_met (sym (unmet_Call (may g) p.0 f es) ∙ u)) (λ n. n) (λ n. n) (λ n. n) (called_async-Call f ms ∙ sym (called_async-Call f es)) refl
        (λ z. grade-Call (may h) f ms) r.all_row r.row_found s.0;
    at_async = λ c p q f es ms i s st proper. let r = i (below_known p (form.AsyncCall q f es) (flat_map inside es) (below-AsyncCall q f es) s) (arguments_of own v c es st) proper in
        moved_by p (form.AsyncCall q f es) (form.AsyncCall q f ms) (Form-F.AsyncCall q f es) (Form-F.AsyncCall q f ms) (out_AsyncCall q f es) (out_AsyncCall q f ms) (flat_map inside ms) (below-AsyncCall q f ms)
        (λ u. unmet_AsyncCall (may h) p.0 q f ms ∙ r.row_met (sym (unmet_AsyncCall (may g) p.0 q f es) ∙ u)) (λ n. n) (λ n. n) (λ n. n) (called_async-AsyncCall q f ms ∙ sym (called_async-AsyncCall q f es)) refl
        (λ z. grade-AsyncCall (may h) q f ms) r.all_row r.row_found s.0;
    at_get = λ c p b m i s st proper. let r = i (below_known p (form.Get b) (inside b) (below-Get b) s) st.0 proper in
        moved_by p (form.Get b) (form.Get m) (Form-F.Get b) (Form-F.Get m) (out_Get b) (out_Get m) (inside m) (below-Get m) (λ u. asks_Get (may h) p.0 m) (λ n. n) (λ n. n) (λ n. n)
        (called_async-Get m ∙ sym (called_async-Get b)) r.lists (λ z. grade-Get (may h) m ∙ r.graded (sym (grade-Get (may g) b) ∙ z)) r.all r.found s.0;
    this_one = this_moved;
    later_one = later_moved;
    this_value = this_value_moved;
    later_value = later_value_moved;
  }

  pub moved_kept : (c : Clock) (e r : Expr) → Names x a d c e r → Q c e r
  moved_kept c e r n = by_names x a d Q QA QB moved_cases c e r n
