-- An expression gives the same types with a named subexpression, and what is named has no faults where the expression has none.
use Rattle.std.proofs.Common.{◌≡◌, ℕ, Bool, true, false, ◌&&◌, List, [], ◌∷◌, ◌++◌, map, refl, sym, ap, ◌∙◌, Option}
use Rattle.std.specs.Prelude.{not}
use Rattle.std.specs.List.{list_any}
use Rattle.hept_ast.specs.Texts.{Name}
use Rattle.hept_ast.specs.Scopes.{Clock}
use Rattle.hept_ast.specs.Types.{Fit, alike, async_fit, binary_fit, call_fit, divides, get_fit, if_fit, same_tag, unary_fit}
use Rattle.hept_ast.specs.Faults.{Duplicate, Fault, Judged, Judging, NestedAsync, Recursive, UnknownName, ZeroDivisor, barred, both, branch_fit, call_judged, calls_lead, fault, is_nonzero, judge, judged, lack_faults, merge_fit, nested, no_operands, node_named, read_faults, type_of_variable, unknown_tag, when_fit, with_operand}
use Rattle.hept_ast.specs.declared.name.Place.{Place}
use Rattle.hept_ast.specs.declared.tree.Node.{Node}
use Rattle.hept_ast.specs.declared.tree.Tag.{Tag}
use Rattle.hept_ast.specs.declared.tree.Ty.{Ty}
use Rattle.hept_ast.specs.declared.tree.Expr.{Expr}
use Rattle.hept_ast.specs.declared.tree.MergeBranch.{MergeBranch}
use Rattle.hept_ast.specs.declared.tree.Form.{Form, out-Form}
use Rattle.hept_ast.specs.declared.tree.Form.TheVariants as form
use Rattle.hept_ast.proofs.CalledForms.{nonzero-Var, nonzero-Last, nonzero-Unary, nonzero-Binary, nonzero-If, nonzero-Fby, nonzero-Pre, nonzero-Arrow, nonzero-When, nonzero-Merge, nonzero-Call, nonzero-AsyncCall, nonzero-Get}
use Rattle.hept_ast.proofs.JudgeOf.{judge_of, one, row, branch_row, judge-Last, judge-Unary, judge-Binary, judge-If, judge-Fby, judge-Pre, judge-Arrow, judge-When, judge-Merge, judge-Call, judge-AsyncCall, judge-Get}
use Rattle.core_naming.specs.Names.{Names, variable_at}
use Rattle.core_naming.specs.Normal.{is_simple}
use Rattle.naming_rules.proofs.Shapes.{at, Cases, by_forms, out_Const, out_Var, out_AsyncConst}
use Rattle.naming_rules.proofs.Names.{never}
use Rattle.naming_rules.proofs.Undeclared.{nil_left, nil_right, operands_nil}
use Rattle.naming_rules.proofs.NamedShapes.{NamedCases, by_names}

-- ---- no variable and no constant

module _ (w : Judging) where
  -- it is no divisor that is known, and it is judged alike under a get
  abbrev Large : Expr → Type 0
  Large e = is_simple (out-Form e.form) ≡ false → (is_nonzero e.form ≡ false) × (judge_of w true e ≡ judge_of w false e)

  large_cases : Cases Large
  large_cases = record {
    of_const = λ p k h. never h (ap is_simple (out_Const k));
    of_var = λ p y h. never h (ap is_simple (out_Var y));
    of_last = λ p y h. (nonzero-Last y, judge-Last w true p.0 y ∙ sym (judge-Last w false p.0 y));
    of_unary = λ p op a i h. (nonzero-Unary op a, judge-Unary w true p.0 op a ∙ sym (judge-Unary w false p.0 op a));
    of_binary = λ p op a b i j h. (nonzero-Binary op a b, judge-Binary w true p.0 op a b ∙ sym (judge-Binary w false p.0 op a b));
    of_if = λ p c a b i j k h. (nonzero-If c a b, judge-If w true p.0 c a b ∙ sym (judge-If w false p.0 c a b));
    of_fby = λ p a b i j h. (nonzero-Fby a b, judge-Fby w true p.0 a b ∙ sym (judge-Fby w false p.0 a b));
    of_pre = λ p a i h. (nonzero-Pre a, judge-Pre w true p.0 a ∙ sym (judge-Pre w false p.0 a));
    of_arrow = λ p a b i j h. (nonzero-Arrow a b, judge-Arrow w true p.0 a b ∙ sym (judge-Arrow w false p.0 a b));
    of_when = λ p a tag y i h. (nonzero-When a tag y, judge-When w true p.0 a tag y ∙ sym (judge-When w false p.0 a tag y));
    of_merge = λ p y bs i h. (nonzero-Merge y bs, judge-Merge w true p.0 y bs ∙ sym (judge-Merge w false p.0 y bs));
    of_call = λ p f args i h. (nonzero-Call f args, judge-Call w true p.0 f args ∙ sym (judge-Call w false p.0 f args));
    of_async = λ p q f args i h. (nonzero-AsyncCall q f args, judge-AsyncCall w true p.0 q f args ∙ sym (judge-AsyncCall w false p.0 q f args));
    of_ready = λ p k h. never h (ap is_simple (out_AsyncConst k));
    of_get = λ p a i h. (nonzero-Get a, judge-Get w true p.0 a ∙ sym (judge-Get w false p.0 a));
  }

  large_is : (e : Expr) → is_simple (out-Form e.form) ≡ false → (is_nonzero e.form ≡ false) × (judge_of w true e ≡ judge_of w false e)
  large_is e h = by_forms Large large_cases e h

  pub judged_large : (e : Expr) → is_simple (out-Form e.form) ≡ false → (under : Bool) → judge_of w under e ≡ judge_of w false e
  judged_large e h true = (large_is e h).1
  judged_large e h false = refl

module _ (w : Judging) (x : Name) (a : Expr) (d : Clock) (large : is_simple (out-Form a.form) ≡ false) where
  -- ---- divisors

  divisor_cases : NamedCases x a d (λ c e r. (is_nonzero e.form ≡ false) × (is_nonzero r.form ≡ false)) (λ c es ms. Unit {0}) (λ y c bs ms. Unit {0})
  divisor_cases = record {
    at_whole = ((large_is w a large).0, nonzero-Var x);
    at_unary = λ c p op b m i. (nonzero-Unary op b, nonzero-Unary op m);
    at_left = λ c p op b f m i. (nonzero-Binary op b f, nonzero-Binary op m f);
    at_right = λ c p op b f m n i. (nonzero-Binary op b f, nonzero-Binary op b m);
    at_condition = λ c p t b f m i. (nonzero-If t b f, nonzero-If m b f);
    at_then = λ c p t b f m i. (nonzero-If t b f, nonzero-If t m f);
    at_else = λ c p t b f m i. (nonzero-If t b f, nonzero-If t b m);
    at_fby_first = λ c p b f m i. (nonzero-Fby b f, nonzero-Fby m f);
    at_fby_next = λ c p b f m i. (nonzero-Fby b f, nonzero-Fby b m);
    at_pre = λ c p b m i. (nonzero-Pre b, nonzero-Pre m);
    at_arrow_first = λ c p b f m i. (nonzero-Arrow b f, nonzero-Arrow m f);
    at_arrow_next = λ c p b f m i. (nonzero-Arrow b f, nonzero-Arrow b m);
    at_when = λ c p b m tag y i. (nonzero-When b tag y, nonzero-When m tag y);
    at_merge = λ c p y bs ms i. (nonzero-Merge y bs, nonzero-Merge y ms);
    at_call = λ c p f es ms i. (nonzero-Call f es, nonzero-Call f ms);
    at_async = λ c p q f es ms i. (nonzero-AsyncCall q f es, nonzero-AsyncCall q f ms);
    at_get = λ c p b m i. (nonzero-Get b, nonzero-Get m);
    this_one = λ c e m es i. tt;
    later_one = λ c e es ms i. tt;
    this_value = λ y c p tag e m bs i. tt;
    later_value = λ y c b bs ms i. tt;
  }

  same_divisor : (c : Clock) (e r : Expr) → Names x a d c e r → is_nonzero r.form ≡ is_nonzero e.form
  same_divisor c e r h = let q = by_names x a d _ _ _ divisor_cases c e r h in q.1 ∙ sym q.0

  -- ---- faults of what is named

  abbrev Clean : Type 0
  Clean = (u : Bool) × ((judge_of w u a).faults ≡ [])

  faults_by : (p : Place) (f : Form) (under : Bool) (j : Judged (List Ty)) → judge w under p.0 f ≡ j → (j.faults ≡ [] → Clean) → (judge_of w under (at p f)).faults ≡ [] → Clean
  faults_by p f under j e go h = go (ap (λ (z : Judged (List Ty)). z.faults) (sym e) ∙ h)

  abbrev Leads : Expr → Type 0
  Leads e = (under : Bool) → (judge_of w under e).faults ≡ [] → Clean

  in_one : (under : Bool) (b : Expr) → Leads b → (one w under b).faults ≡ [] → Clean
  in_one under b i h = i under (nil_left (judge_of w under b).faults [] h)

  in_first : (b f : Expr) → Leads b → (both (one w false b) (one w false f)).faults ≡ [] → Clean
  in_first b f i h = in_one false b i (nil_left (one w false b).faults (one w false f).faults h)

  in_second : (b f : Expr) → Leads f → (both (one w false b) (one w false f)).faults ≡ [] → Clean
  in_second b f i h = in_one false f i (nil_right (one w false b).faults (one w false f).faults h)

  in_call : (p : ℕ) (o : Option Node) (own : List Fault) (give : Fit → Fit) (args : Judged (List (List Ty))) → (call_judged w p o own give args).faults ≡ [] → args.faults ≡ []
  in_call p Option.None own give args h = operands_nil p (record { place = p; kind = UnknownName } ∷ own) args (λ ts. barred w Fit.Untyped) h
  in_call p (Option.Some g) own give args h = operands_nil p (fault p Recursive (calls_lead w.nodes g.name w.node.name) ++ own) args (λ ts. barred w (give (call_fit g ts))) h

  fault_cases : NamedCases x a d (λ c e r. Leads e) (λ c es ms. (row w false es).faults ≡ [] → Clean) (λ y c bs ms. (on : Option Ty) (earlier : List Tag) → (branch_row w on earlier bs).faults ≡ [] → Clean)
  fault_cases = record {
    at_whole = λ under h. (under, h);
    at_unary = λ c p op b m i under. faults_by p (form.Unary op b) under _ (judge-Unary w under p.0 op b) (λ h. in_one false b i (operands_nil p.0 [] (one w false b) (unary_fit op) h));
    at_left = λ c p op b f m i under. faults_by p (form.Binary op b f) under _ (judge-Binary w under p.0 op b f)
        (λ h. in_first b f i (operands_nil p.0 _ (both (one w false b) (one w false f)) (binary_fit op) h));
    at_right = λ c p op b f m n i under. faults_by p (form.Binary op b f) under _ (judge-Binary w under p.0 op b f)
        (λ h. in_second b f i (operands_nil p.0 _ (both (one w false b) (one w false f)) (binary_fit op) h));
    at_condition = λ c p t b f m i under. faults_by p (form.If t b f) under _ (judge-If w under p.0 t b f)
        (λ h. in_one false t i (nil_left (one w false t).faults (both (one w false b) (one w false f)).faults (operands_nil p.0 [] (both (one w false t) (both (one w false b) (one w false f))) if_fit h)));
    at_then = λ c p t b f m i under. faults_by p (form.If t b f) under _ (judge-If w under p.0 t b f)
        (λ h. in_first b f i (nil_right (one w false t).faults (both (one w false b) (one w false f)).faults (operands_nil p.0 [] (both (one w false t) (both (one w false b) (one w false f))) if_fit h)));
    at_else = λ c p t b f m i under. faults_by p (form.If t b f) under _ (judge-If w under p.0 t b f)
        (λ h. in_second b f i (nil_right (one w false t).faults (both (one w false b) (one w false f)).faults (operands_nil p.0 [] (both (one w false t) (both (one w false b) (one w false f))) if_fit h)));
    at_fby_first = λ c p b f m i under. faults_by p (form.Fby b f) under _ (judge-Fby w under p.0 b f)
        (λ h. in_first b f i (operands_nil p.0 [] (both (one w false b) (one w false f)) (λ ts. barred w (alike ts)) h));
    at_fby_next = λ c p b f m i under. faults_by p (form.Fby b f) under _ (judge-Fby w under p.0 b f)
        (λ h. in_second b f i (operands_nil p.0 [] (both (one w false b) (one w false f)) (λ ts. barred w (alike ts)) h));
    at_pre = λ c p b m i under. faults_by p (form.Pre b) under _ (judge-Pre w under p.0 b) (λ h. in_one false b i (operands_nil p.0 [] (one w false b) (λ ts. barred w (alike ts)) h));
    at_arrow_first = λ c p b f m i under. faults_by p (form.Arrow b f) under _ (judge-Arrow w under p.0 b f)
        (λ h. in_first b f i (operands_nil p.0 [] (both (one w false b) (one w false f)) (λ ts. barred w (alike ts)) h));
    at_arrow_next = λ c p b f m i under. faults_by p (form.Arrow b f) under _ (judge-Arrow w under p.0 b f)
        (λ h. in_second b f i (operands_nil p.0 [] (both (one w false b) (one w false f)) (λ ts. barred w (alike ts)) h));
    at_when = λ c p b m tag y i under. faults_by p (form.When b tag y) under _ (judge-When w under p.0 b tag y)
        (λ h. in_one false b i (operands_nil p.0 _ (one w false b) (when_fit w tag (type_of_variable w y)) h));
    at_merge = λ c p y bs ms i under. faults_by p (form.Merge y bs) under _ (judge-Merge w under p.0 y bs)
        (λ h. i (type_of_variable w y) [] (operands_nil p.0 _ (branch_row w (type_of_variable w y) [] bs) (merge_fit w (type_of_variable w y)) h));
    at_call = λ c p f es ms i under. faults_by p (form.Call f es) under _ (judge-Call w under p.0 f es)
        (λ h. i (in_call p.0 (node_named w.nodes f) [] (λ g. g) (row w false es) h));
    at_async = λ c p q f es ms i under. faults_by p (form.AsyncCall q f es) under _ (judge-AsyncCall w under p.0 q f es)
        (λ h. i (in_call p.0 (node_named w.nodes f) (fault p.0 NestedAsync (nested w)) async_fit (row w false es) h));
    at_get = λ c p b m i under. faults_by p (form.Get b) under _ (judge-Get w under p.0 b) (λ h. in_one true b i (operands_nil p.0 [] (one w true b) (λ ts. barred w (get_fit ts)) h));
    this_one = λ c e m es i h. i false (nil_left (judge_of w false e).faults (row w false es).faults h);
    later_one = λ c e es ms i h. i (nil_right (judge_of w false e).faults (row w false es).faults h);
    this_value = λ y c p tag e m bs i on earlier h.
        let own = fault p.0 UnknownName (unknown_tag w tag) ++ fault p.0 Duplicate (list_any (same_tag tag) earlier) in
        let first = judged p.0 own (judge_of w false e) (branch_fit w tag on) in
        i false (operands_nil p.0 own (judge_of w false e) (branch_fit w tag on) (nil_left first.faults (branch_row w on (tag ∷ earlier) bs).faults h));
    later_value = λ y c b bs ms i on earlier h.
        let own = fault b.place.0 UnknownName (unknown_tag w b.tag) ++ fault b.place.0 Duplicate (list_any (same_tag b.tag) earlier) in
        let first = judged b.place.0 own (judge_of w false b.value) (branch_fit w b.tag on) in
        i on (b.tag ∷ earlier) (nil_right first.faults (branch_row w on (b.tag ∷ earlier) bs).faults h);
  }

  pub named_no_faults : (c : Clock) (e r : Expr) → Names x a d c e r → (under : Bool) → (judge_of w under e).faults ≡ [] → (judge_of w false a).faults ≡ []
  named_no_faults c e r n under h =
      let q = by_names x a d _ _ _ fault_cases c e r n under h in
      ap (λ (j : Judged (List Ty)). j.faults) (sym (judged_large w a large q.0)) ∙ q.1

  -- ---- types

  module _ (var : (under : Bool) → judge_of w under (variable_at a.place x) ≡ judge_of w under a) where
    abbrev Same : Expr → Expr → Type 0
    Same e r = (under : Bool) → judge_of w under r ≡ judge_of w under e

    one_same : (under : Bool) (b m : Expr) → Same b m → one w under m ≡ one w under b
    one_same under b m i = ap (λ (j : Judged (List Ty)). with_operand j no_operands) (i under)

    first_same : (b f m : Expr) → Same b m → both (one w false m) (one w false f) ≡ both (one w false b) (one w false f)
    first_same b f m i = ap (λ (j : Judged (List (List Ty))). both j (one w false f)) (one_same false b m i)

    second_same : (b f m : Expr) → Same f m → both (one w false b) (one w false m) ≡ both (one w false b) (one w false f)
    second_same b f m i = ap (λ (j : Judged (List (List Ty))). both (one w false b) j) (one_same false f m i)

    abbrev plain : ℕ → Judged (List (List Ty)) → Judged (List Ty)
    plain p j = judged p [] j (λ ts. barred w (alike ts))

    abbrev merged : ℕ → Name → List Tag → Judged (List (List Ty)) → Judged (List Ty)
    merged p y tags j = judged p (read_faults w p y ++ lack_faults w p tags (type_of_variable w y)) j (merge_fit w (type_of_variable w y))

    abbrev Values_same : List MergeBranch → List MergeBranch → Type 0
    Values_same bs ms = ((on : Option Ty) (earlier : List Tag) → branch_row w on earlier ms ≡ branch_row w on earlier bs) × (map (λ b. b.tag) ms ≡ map (λ b. b.tag) bs)

    type_cases : NamedCases x a d (λ c e r. Same e r) (λ c es ms. row w false ms ≡ row w false es) (λ y c bs ms. Values_same bs ms)
    type_cases = record {
      at_whole = var;
      at_unary = λ c p op b m i under. judge-Unary w under p.0 op m ∙ ap (λ (j : Judged (List (List Ty))). judged p.0 [] j (unary_fit op)) (one_same false b m i) ∙ sym (judge-Unary w under p.0 op b);
      at_left = λ c p op b f m i under. judge-Binary w under p.0 op m f
          ∙ ap (λ (j : Judged (List (List Ty))). judged p.0 (fault p.0 ZeroDivisor (divides op && not (is_nonzero f.form && true))) j (binary_fit op)) (first_same b f m i)
          ∙ sym (judge-Binary w under p.0 op b f);
      at_right = λ c p op b f m n i under. judge-Binary w under p.0 op b m
          ∙ ap (λ (z : Bool). judged p.0 (fault p.0 ZeroDivisor (divides op && not (z && true))) (both (one w false b) (one w false m)) (binary_fit op)) (same_divisor c f m n)
          ∙ ap (λ (j : Judged (List (List Ty))). judged p.0 (fault p.0 ZeroDivisor (divides op && not (is_nonzero f.form && true))) j (binary_fit op)) (second_same b f m i)
          ∙ sym (judge-Binary w under p.0 op b f);
      at_condition = λ c p t b f m i under. judge-If w under p.0 m b f
          ∙ ap (λ (j : Judged (List (List Ty))). judged p.0 [] (both j (both (one w false b) (one w false f))) if_fit) (one_same false t m i) ∙ sym (judge-If w under p.0 t b f);
      at_then = λ c p t b f m i under. judge-If w under p.0 t m f
          ∙ ap (λ (j : Judged (List (List Ty))). judged p.0 [] (both (one w false t) j) if_fit) (first_same b f m i) ∙ sym (judge-If w under p.0 t b f);
      at_else = λ c p t b f m i under. judge-If w under p.0 t b m
          ∙ ap (λ (j : Judged (List (List Ty))). judged p.0 [] (both (one w false t) j) if_fit) (second_same b f m i) ∙ sym (judge-If w under p.0 t b f);
      at_fby_first = λ c p b f m i under. judge-Fby w under p.0 m f ∙ ap (plain p.0) (first_same b f m i) ∙ sym (judge-Fby w under p.0 b f);
      at_fby_next = λ c p b f m i under. judge-Fby w under p.0 b m ∙ ap (plain p.0) (second_same b f m i) ∙ sym (judge-Fby w under p.0 b f);
      at_pre = λ c p b m i under. judge-Pre w under p.0 m ∙ ap (plain p.0) (one_same false b m i) ∙ sym (judge-Pre w under p.0 b);
      at_arrow_first = λ c p b f m i under. judge-Arrow w under p.0 m f ∙ ap (plain p.0) (first_same b f m i) ∙ sym (judge-Arrow w under p.0 b f);
      at_arrow_next = λ c p b f m i under. judge-Arrow w under p.0 b m ∙ ap (plain p.0) (second_same b f m i) ∙ sym (judge-Arrow w under p.0 b f);
      at_when = λ c p b m tag y i under. judge-When w under p.0 m tag y
          ∙ ap (λ (j : Judged (List (List Ty))). judged p.0 (read_faults w p.0 y ++ fault p.0 UnknownName (unknown_tag w tag)) j (when_fit w tag (type_of_variable w y))) (one_same false b m i)
          ∙ sym (judge-When w under p.0 b tag y);
      at_merge = λ c p y bs ms i under. judge-Merge w under p.0 y ms
          ∙ ap (λ (j : Judged (List (List Ty))). merged p.0 y (map (λ (b : MergeBranch). b.tag) ms) j) (i.0 (type_of_variable w y) [])
          ∙ ap (λ (ts : List Tag). merged p.0 y ts (branch_row w (type_of_variable w y) [] bs)) i.1
          ∙ sym (judge-Merge w under p.0 y bs);
      at_call = λ c p f es ms i under. judge-Call w under p.0 f ms
          ∙ ap (λ (j : Judged (List (List Ty))). call_judged w p.0 (node_named w.nodes f) [] (λ g. g) j) i ∙ sym (judge-Call w under p.0 f es);
      at_async = λ c p q f es ms i under. judge-AsyncCall w under p.0 q f ms
          ∙ ap (λ (j : Judged (List (List Ty))). call_judged w p.0 (node_named w.nodes f) (fault p.0 NestedAsync (nested w)) async_fit j) i ∙ sym (judge-AsyncCall w under p.0 q f es);
      at_get = λ c p b m i under. judge-Get w under p.0 m ∙ ap (λ (j : Judged (List (List Ty))). judged p.0 [] j (λ ts. barred w (get_fit ts))) (one_same true b m i) ∙ sym (judge-Get w under p.0 b);
      this_one = λ c e m es i. ap (λ (j : Judged (List Ty)). with_operand j (row w false es)) (i false);
      later_one = λ c e es ms i. ap (λ (j : Judged (List (List Ty))). with_operand (judge_of w false e) j) i;
      this_value = λ y c p tag e m bs i. (
        (λ on earlier.
            let own = fault p.0 UnknownName (unknown_tag w tag) ++ fault p.0 Duplicate (list_any (same_tag tag) earlier) in
            ap (λ (j : Judged (List Ty)). with_operand (judged p.0 own j (branch_fit w tag on)) (branch_row w on (tag ∷ earlier) bs)) (i false)),
        refl,
      );
      later_value = λ y c b bs ms i. (
        (λ on earlier.
            let own = fault b.place.0 UnknownName (unknown_tag w b.tag) ++ fault b.place.0 Duplicate (list_any (same_tag b.tag) earlier) in
            ap (λ (j : Judged (List (List Ty))). with_operand (judged b.place.0 own (judge_of w false b.value) (branch_fit w b.tag on)) j) (i.0 on (b.tag ∷ earlier))),
        ap (λ (ts : List Tag). b.tag ∷ ts) i.1,
      );
    }

    pub judged_named : (c : Clock) (e r : Expr) → Names x a d c e r → (under : Bool) → judge_of w under r ≡ judge_of w under e
    judged_named c e r n under = by_names x a d _ _ _ type_cases c e r n under
