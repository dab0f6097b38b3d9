-- An expression that is judged without faults mentions no variable that is not declared.
use Rattle.std.proofs.Common.{◌≡◌, ℕ, Bool, true, false, List, [], ◌∷◌, ◌++◌, refl, sym, ap, ◌∙◌, Option, Some, None}
use Rattle.std.specs.Prelude.{is_some, not}
use Rattle.std.specs.List.{flat_map}
use Rattle.std.specs.Option.{option_map}
use Rattle.hept_ast.specs.Texts.{Name, same, is_in, names}
use Rattle.hept_ast.specs.Parts.{declaration}
use Rattle.hept_ast.specs.Types.{Fit, Fits, Misfit, Untyped, alike, async_fit, binary_fit, call_fit, get_fit, if_fit, same_tag, unary_fit}
use Rattle.hept_ast.specs.Faults.{Duplicate, Fault, Judged, Judging, Mismatch, NestedAsync, Recursive, UnknownName, barred, both, branch_fit, call_judged, calls_lead, fault, judge, judged, judged_by, judged_of, last_judged, merge_fit, nested, node_named, read_faults, type_of_variable, unknown_tag, unknown_variable, var_judged, when_fit}
use Rattle.std.specs.List.{list_any}
use Rattle.hept_ast.specs.declared.name.Place.{Place}
use Rattle.hept_ast.specs.declared.tree.Decl.{Decl}
use Rattle.hept_ast.specs.declared.tree.Node.{Node}
use Rattle.hept_ast.specs.declared.tree.Tag.{Tag}
use Rattle.hept_ast.specs.declared.tree.Ty.{Ty}
use Rattle.hept_ast.specs.declared.tree.Expr.{Expr}
use Rattle.hept_ast.specs.declared.tree.MergeBranch.{MergeBranch}
use Rattle.hept_ast.specs.declared.tree.Form.{Form}
use Rattle.hept_ast.specs.declared.tree.Form.TheVariants as form
use Rattle.hept_ast.proofs.JudgeOf.{judge_of, one, row, branch_row, judge-Const, judge-Var, judge-Last, judge-Unary, judge-Binary, judge-If, judge-Fby, judge-Pre, judge-Arrow, judge-When, judge-Merge, judge-Call, judge-AsyncCall, judge-AsyncConst, judge-Get}
use Rattle.core_naming.specs.Ties.{mentions}
use Rattle.naming_rules.proofs.Shapes.{Each, at, Cases, by_forms}
use Rattle.naming_rules.proofs.Names.{both_false, never, out_both}
use Rattle.naming_rules.proofs.MentionsOf.{mentions_Const, mentions_Var, mentions_Last, mentions_Unary, mentions_Binary, mentions_If, mentions_Fby, mentions_Pre, mentions_Arrow, mentions_When, mentions_Merge, mentions_Call, mentions_AsyncCall, mentions_AsyncConst, mentions_Get}
use Rattle.core_rules.proofs.Ends.{same_is}

-- ---- empty lists

pub nil_left : {A : Type 0} (xs ys : List A) → xs ++ ys ≡ [] → xs ≡ []
nil_left [] ys h = refl
nil_left (x ∷ xs) ys h = cc

pub nil_right : {A : Type 0} (xs ys : List A) → xs ++ ys ≡ [] → ys ≡ []
nil_right [] ys h = h
nil_right (x ∷ xs) ys h = cc

pub filled : {A : Type 0} (x : A) (xs : List A) → x ∷ xs ≡ [] → ⊥
filled x xs h = cc

-- ---- what is judged without faults

by_own : (p : ℕ) (own : List Fault) (f : Fit) → (judged_by p own f).faults ≡ [] → own ≡ []
by_own p own (Fits ts) h = h
by_own p own Misfit h = absurd (filled (record { place = p; kind = Mismatch }) own h)
by_own p own Untyped h = h

of_own : {A : Type 0} (p : ℕ) (fs : List Fault) (o : Option A) (fit : A → Fit) → (judged_of p fs o fit).faults ≡ [] → fs ≡ []
of_own p fs None fit h = h
of_own p fs (Some x) fit h = by_own p fs (fit x) h

-- neither it nor its operands are at fault
pub own_nil : {A : Type 0} (p : ℕ) (own : List Fault) (j : Judged A) (fit : A → Fit) → (judged p own j fit).faults ≡ [] → own ≡ []
own_nil p own j fit h = nil_left own j.faults (of_own p (own ++ j.faults) j.types fit h)

pub operands_nil : {A : Type 0} (p : ℕ) (own : List Fault) (j : Judged A) (fit : A → Fit) → (judged p own j fit).faults ≡ [] → j.faults ≡ []
operands_nil p own j fit h = nil_right own j.faults (of_own p (own ++ j.faults) j.types fit h)

-- ---- declarations

-- a variable that is declared is among the names
pub declared_in : (ds : List Decl) (y : Name) → is_some (declaration ds y) ≡ true → is_in y (names ds) ≡ true
declared_in [] y h = h
declared_in (d ∷ ds) y h = go (same y d.name) refl h (declared_in ds y)
  where
    go : (b : Bool) → same y d.name ≡ b → is_some (declaration (d ∷ ds) y) ≡ true → (is_some (declaration ds y) ≡ true → is_in y (names ds) ≡ true) → is_in y (names (d ∷ ds)) ≡ true
    go true s h later = rw s refl
    go false s h later = rw s (later (rw s at h))

some_of : (p : ℕ) (b : Bool) → fault p UnknownName (not b) ≡ [] → b ≡ true
some_of p true h = refl
some_of p false h = absurd (filled (record { place = p; kind = UnknownName }) [] h)

module _ (w : Judging) (x : Name) (new : is_in x (names w.seen) ≡ false) where
  abbrev Free : Expr → Type 0
  Free e = (under : Bool) → (judge_of w under e).faults ≡ [] → is_in x (mentions e) ≡ false

  other : (y : Name) → is_some (declaration w.seen y) ≡ true → same x y ≡ false
  other y h = go (same x y) refl
    where
      go : (b : Bool) → same x y ≡ b → b ≡ false
      go true s = never new (rw (same_is x y s) (declared_in w.seen y h))
      go false s = refl

  seen_other : (p : ℕ) (y : Name) → unknown_variable w p y ≡ [] → same x y ≡ false
  seen_other p y h = other y (some_of p (is_some (declaration w.seen y)) h)

  read_other : (p : ℕ) (y : Name) (fs : List Fault) → read_faults w p y ++ fs ≡ [] → same x y ≡ false
  read_other p y fs h = seen_other p y (nil_left (unknown_variable w p y) _ (nil_left (read_faults w p y) fs h))

  var_other : (p : ℕ) (under : Bool) (y : Name) → (var_judged w p under y (type_of_variable w y)).faults ≡ [] → same x y ≡ false
  var_other p under y h = other y (go (declaration w.seen y) h)
    where
      go : (d : Option Decl) → (var_judged w p under y (option_map (λ (d : Decl). d.ty) d)).faults ≡ [] → is_some d ≡ true
      go None h = absurd (filled (record { place = p; kind = UnknownName }) [] h)
      go (Some d) h = refl

  last_other : (p : ℕ) (y : Name) → (last_judged w p (declaration w.seen y)).faults ≡ [] → same x y ≡ false
  last_other p y h = other y (go (declaration w.seen y) h)
    where
      go : (d : Option Decl) → (last_judged w p d).faults ≡ [] → is_some d ≡ true
      go None h = absurd (filled (record { place = p; kind = UnknownName }) [] h)
      go (Some d) h = refl

  -- ---- operands

  of_one : (under : Bool) (a : Expr) → Free a → (one w under a).faults ≡ [] → is_in x (mentions a) ≡ false
  of_one under a i h = i under (nil_left (judge_of w under a).faults [] h)

  of_two : (a b : Expr) → Free a → Free b → (both (one w false a) (one w false b)).faults ≡ [] → is_in x (mentions a ++ mentions b) ≡ false
  of_two a b i j h =
      out_both x (mentions a) (mentions b) (of_one false a i (nil_left (one w false a).faults (one w false b).faults h))
      (of_one false b j (nil_right (one w false a).faults (one w false b).faults h))

  of_three : (c a b : Expr) → Free c → Free a → Free b → (both (one w false c) (both (one w false a) (one w false b))).faults ≡ [] → is_in x (mentions c ++ mentions a ++ mentions b) ≡ false
  of_three c a b i j k h =
      let rest = nil_right (one w false c).faults (both (one w false a) (one w false b)).faults h in
      out_both x (mentions c ++ mentions a) (mentions b)
      (out_both x (mentions c) (mentions a) (of_one false c i (nil_left (one w false c).faults (both (one w false a) (one w false b)).faults h))
      (of_one false a j (nil_left (one w false a).faults (one w false b).faults rest)))
      (of_one false b k (nil_right (one w false a).faults (one w false b).faults rest))

  of_row : (args : List Expr) → Each Free args → (row w false args).faults ≡ [] → is_in x (flat_map mentions args) ≡ false
  of_row [] i h = refl
  of_row (e ∷ es) i h =
      out_both x (mentions e) (flat_map mentions es) (i.0 false (nil_left (judge_of w false e).faults (row w false es).faults h))
      (of_row es i.1 (nil_right (judge_of w false e).faults (row w false es).faults h))

  of_branches : (on : Option Ty) (earlier : List Tag) (bs : List MergeBranch) → Each (λ b. Free b.value) bs → (branch_row w on earlier bs).faults ≡ [] → is_in x (flat_map (λ b. mentions b.value) bs) ≡ false
  of_branches on earlier [] i h = refl
  of_branches on earlier (b ∷ bs) i h =
      let own = fault b.place.0 UnknownName (unknown_tag w b.tag) ++ fault b.place.0 Duplicate (list_any (same_tag b.tag) earlier) in
      let first = judged b.place.0 own (judge_of w false b.value) (branch_fit w b.tag on) in
      out_both x (mentions b.value) (flat_map (λ (b : MergeBranch). mentions b.value) bs)
      (i.0 false (operands_nil b.place.0 own (judge_of w false b.value) (branch_fit w b.tag on) (nil_left first.faults (branch_row w on (b.tag ∷ earlier) bs).faults h)))
      (of_branches on (b.tag ∷ earlier) bs i.1 (nil_right first.faults (branch_row w on (b.tag ∷ earlier) bs).faults h))

  of_call : (p : ℕ) (o : Option Node) (own : List Fault) (give : Fit → Fit) (args : Judged (List (List Ty))) → (call_judged w p o own give args).faults ≡ [] → args.faults ≡ []
  of_call p None own give args h = operands_nil p (record { place = p; kind = UnknownName } ∷ own) args (λ ts. barred w Untyped) h
  of_call p (Some g) own give args h = operands_nil p (fault p Recursive (calls_lead w.nodes g.name w.node.name) ++ own) args (λ ts. barred w (give (call_fit g ts))) h

  by : (p : Place) (f : Form) (under : Bool) (j : Judged (List Ty)) (ms : List Name) → judge w under p.0 f ≡ j → mentions (at p f) ≡ ms → (j.faults ≡ [] → is_in x ms ≡ false) →
      (judge_of w under (at p f)).faults ≡ [] → is_in x (mentions (at p f)) ≡ false
  by p f under j ms e m go h = ap (is_in x) m ∙ go (ap (λ (z : Judged (List Ty)). z.faults) (sym e) ∙ h)

  free_cases : Cases Free
  free_cases = record {
    of_const = λ p k under. by p (form.Const k) under _ [] (judge-Const w under p.0 k) (mentions_Const p k) (λ h. refl);
    of_var = λ p y under. by p (form.Var y) under _ (y ∷ []) (judge-Var w under p.0 y) (mentions_Var p y) (λ h. both_false (same x y) false (var_other p.0 under y h) refl);
    of_last = λ p y under. by p (form.Last y) under _ (y ∷ []) (judge-Last w under p.0 y) (mentions_Last p y) (λ h. both_false (same x y) false (last_other p.0 y h) refl);
    of_unary = λ p op a i under. by p (form.Unary op a) under _ (mentions a) (judge-Unary w under p.0 op a) (mentions_Unary p op a)
        (λ h. of_one false a i (operands_nil p.0 [] (one w false a) (unary_fit op) h));
    of_binary = λ p op a b i j under. by p (form.Binary op a b) under _ (mentions a ++ mentions b) (judge-Binary w under p.0 op a b) (mentions_Binary p op a b)
        (λ h. of_two a b i j (operands_nil p.0 _ (both (one w false a) (one w false b)) (binary_fit op) h));
    of_if = λ p c a b i j k under. by p (form.If c a b) under _ (mentions c ++ mentions a ++ mentions b) (judge-If w under p.0 c a b) (mentions_If p c a b)
        (λ h. of_three c a b i j k (operands_nil p.0 [] (both (one w false c) (both (one w false a) (one w false b))) if_fit h));
    of_fby = λ p a b i j under. by p (form.Fby a b) under _ (mentions a ++ mentions b) (judge-Fby w under p.0 a b) (mentions_Fby p a b)
        (λ h. of_two a b i j (operands_nil p.0 [] (both (one w false a) (one w false b)) (λ ts. barred w (alike ts)) h));
    of_pre = λ p a i under. by p (form.Pre a) under _ (mentions a) (judge-Pre w under p.0 a) (mentions_Pre p a)
        (λ h. of_one false a i (operands_nil p.0 [] (one w false a) (λ ts. barred w (alike ts)) h));
    of_arrow = λ p a b i j under. by p (form.Arrow a b) under _ (mentions a ++ mentions b) (judge-Arrow w under p.0 a b) (mentions_Arrow p a b)
        (λ h. of_two a b i j (operands_nil p.0 [] (both (one w false a) (one w false b)) (λ ts. barred w (alike ts)) h));
    of_when = λ p a tag y i under. by p (form.When a tag y) under _ (y ∷ mentions a) (judge-When w under p.0 a tag y) (mentions_When p a tag y)
        (λ h. both_false (same x y) (is_in x (mentions a)) (read_other p.0 y _ (own_nil p.0 _ (one w false a) (when_fit w tag (type_of_variable w y)) h))
        (of_one false a i (operands_nil p.0 _ (one w false a) (when_fit w tag (type_of_variable w y)) h)));
    of_merge = λ p y bs i under. by p (form.Merge y bs) under _ (y ∷ flat_map (λ b. mentions b.value) bs) (judge-Merge w under p.0 y bs) (mentions_Merge p y bs)
        (λ h. both_false (same x y) (is_in x (flat_map (λ (b : MergeBranch). mentions b.value) bs))
        (read_other p.0 y _ (own_nil p.0 _ (branch_row w (type_of_variable w y) [] bs) (merge_fit w (type_of_variable w y)) h))
        (of_branches (type_of_variable w y) [] bs i (operands_nil p.0 _ (branch_row w (type_of_variable w y) [] bs) (merge_fit w (type_of_variable w y)) h)));
    of_call = λ p f args i under. by p (form.Call f args) under _ (flat_map mentions args) (judge-Call w under p.0 f args) (mentions_Call p f args)
        (λ h. of_row args i (of_call p.0 (node_named w.nodes f) [] (λ g. g) (row w false args) h));
    of_async = λ p q f args i under. by p (form.AsyncCall q f args) under _ (flat_map mentions args) (judge-AsyncCall w under p.0 q f args) (mentions_AsyncCall p q f args)
        (λ h. of_row args i (of_call p.0 (node_named w.nodes f) (fault p.0 NestedAsync (nested w)) async_fit (row w false args) h));
    of_ready = λ p k under. by p (form.AsyncConst k) under _ [] (judge-AsyncConst w under p.0 k) (mentions_AsyncConst p k) (λ h. refl);
    of_get = λ p a i under. by p (form.Get a) under _ (mentions a) (judge-Get w under p.0 a) (mentions_Get p a)
        (λ h. of_one true a i (operands_nil p.0 [] (one w true a) (λ ts. barred w (get_fit ts)) h));
  }

  pub mentions_declared : (e : Expr) (under : Bool) → (judge_of w under e).faults ≡ [] → is_in x (mentions e) ≡ false
  mentions_declared e under h = by_forms Free free_cases e under h
