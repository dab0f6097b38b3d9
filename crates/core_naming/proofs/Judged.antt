-- An expression without faults mentions no name that it does not see.
use Rattle.std.proofs.Common.{◌≡◌, ℕ, Bool, true, false, not, ◌&&◌, List, [], ◌∷◌, ◌++◌, map, refl, subst, Option, Some, None, is_some, if◌then◌else◌}
use Rattle.std.specs.List.{list_any}
use Rattle.std.specs.Option.{option_map}
use Rattle.hept_ast.specs.Texts.{Name, same, is_in, names}
use Rattle.hept_ast.specs.Parts.{declaration}
use Rattle.hept_ast.specs.Types.{Fit, Fits, Misfit, Untyped, alike, async_fit, if_fit, unary_fit, binary_fit, divides, get_fit, same_tag, call_fit}
use Rattle.hept_ast.specs.Faults.{Fault, UnknownName, ZeroDivisor, Duplicate, Recursive, NestedAsync, Judging, Judged, judge, judged, judged_by, judged_of, both, fault, is_nonzero, call_judged, var_judged, last_judged, type_of_variable, unknown_variable, read_faults, lack_faults, merge_fit, when_fit, unknown_tag, branch_fit, barred, node_named, nested, calls_lead}
use Rattle.hept_ast.specs.declared.name.Place.{Place}
use Rattle.hept_ast.specs.declared.tree.Decl.{Decl}
use Rattle.hept_ast.specs.declared.tree.Node.{Node}
use Rattle.hept_ast.specs.declared.tree.Tag.{Tag}
use Rattle.hept_ast.specs.declared.tree.Ty.{Ty}
use Rattle.hept_ast.specs.declared.tree.Ty.TheVariants as ty
use Rattle.hept_ast.specs.declared.tree.Expr.{Expr, ind-Expr}
use Rattle.hept_ast.specs.declared.tree.MergeBranch.{MergeBranch}
use Rattle.hept_ast.specs.declared.tree.Form.{Form, roll-Form, map-Form}
use Rattle.hept_ast.specs.declared.tree.Form.TheOpen.{Form-F, Expr-F, MergeBranch-F}
use Rattle.hept_ast.specs.declared.tree.Form.TheViews.{out-roll-Form, roll-Expr, roll-MergeBranch}
use Rattle.hept_ast.specs.declared.tree.Form.TheVariants as form
use Rattle.hept_ast.proofs.JudgeOf.{judge_of, one, row, branch_row, judge-Var, judge-Last, judge-Unary, judge-Binary, judge-If, judge-Fby, judge-Pre, judge-Arrow, judge-When, judge-Merge, judge-Call, judge-AsyncCall, judge-Get}
use Rattle.core_naming.specs.Ties.{form_names}
use Rattle.core_naming.proofs.Mentions.{NotIn, not_head, not_tail, not_cons, same_is, EachOf, EachValue, EachOperand, Free, free_whole}

-- ---- induction over expressions

each_mapped : {S : Type 0} (P : Expr → Type 0) (e0 : S → Expr) → ((x : S) → P (e0 x)) → (xs : List S) → EachOf P (map e0 xs)
each_mapped P e0 h [] = tt
each_mapped P e0 h (x ∷ xs) = (h x, each_mapped P e0 h xs)

values_mapped : {S : Type 0} (P : Expr → Type 0) (b0 : S → MergeBranch) → ((x : S) → P (b0 x).value) → (xs : List S) → EachValue P (map b0 xs)
values_mapped P b0 h [] = tt
values_mapped P b0 h (x ∷ xs) = (h x, values_mapped P b0 h xs)

module _ (P : Expr → Type 0) {SF SE SB : Type 0} (f0 : SF → Form) (e0 : SE → Expr) (b0 : SB → MergeBranch) (eh : (x : SE) → P (e0 x)) (bh : (x : SB) → P (b0 x).value) where
  operands_mapped : (y : Form-F SF SE SB) → EachOperand P (map-Form SF SE SB Form Expr MergeBranch f0 e0 b0 y)
  operands_mapped (Form-F.Const k) = tt
  operands_mapped (Form-F.Var x) = tt
  operands_mapped (Form-F.Last x) = tt
  operands_mapped (Form-F.Unary op a) = eh a
  operands_mapped (Form-F.Binary op a b) = (eh a, eh b)
  operands_mapped (Form-F.If i a b) = (eh i, eh a, eh b)
  operands_mapped (Form-F.Fby a b) = (eh a, eh b)
  operands_mapped (Form-F.Pre a) = eh a
  operands_mapped (Form-F.Arrow a b) = (eh a, eh b)
  operands_mapped (Form-F.When a tag x) = eh a
  operands_mapped (Form-F.Merge x bs) = values_mapped P b0 bh bs
  operands_mapped (Form-F.Call f args) = each_mapped P e0 eh args
  operands_mapped (Form-F.AsyncCall q f args) = each_mapped P e0 eh args
  operands_mapped (Form-F.AsyncConst k) = tt
  operands_mapped (Form-F.Get a) = eh a

-- what holds of a form at any place where it holds of the operands holds of each expression
by_operands : (P : Expr → Type 0) → ((v : Form-F Form Expr MergeBranch) (p : Place) → EachOperand P v → P (record { place = p; form = roll-Form v })) → (e : Expr) → P e
by_operands P step e = ind-Expr (λ f. (p : Place) → P (record { place = p; form = f })) P (λ b. P b.value)
    (λ x y is. subst (λ (z : Form-F Form Expr MergeBranch). (p : Place) → P (record { place = p; form = roll-Form z })) is
    (λ p. step _ p (operands_mapped P (λ s. s.0) (λ s. s.0) (λ s. s.0) (λ s. s.1) (λ s. s.1) y)))
    (λ x y is. subst (λ (z : Expr-F Form Expr MergeBranch). P (roll-Expr z)) is (y.form.1 y.place))
    (λ x y is. subst (λ (z : MergeBranch-F Form Expr MergeBranch). P (roll-MergeBranch z).value) is y.value.1) e

-- ---- what is judged without faults

not_nil : {A : Type 0} (x : A) (xs : List A) → x ∷ xs ≡ [] → ⊥
not_nil x xs e = cc

nil_left : {A : Type 0} (xs ys : List A) → xs ++ ys ≡ [] → xs ≡ []
nil_left [] ys e = refl
nil_left (x ∷ xs) ys e = absurd (not_nil x (xs ++ ys) e)

nil_right : {A : Type 0} (xs ys : List A) → xs ++ ys ≡ [] → ys ≡ []
nil_right [] ys e = e
nil_right (x ∷ xs) ys e = absurd (not_nil x (xs ++ ys) e)

-- the faults of its own and of its operands
record Clean {A : Type 0} (own : List Fault) (operands : Judged A) : Type 0 where
  own_faults : own ≡ []
  operand_faults : operands.faults ≡ []

of_fit : (p : ℕ) (fs : List Fault) (f : Fit) → (judged_by p fs f).faults ≡ [] → fs ≡ []
of_fit p fs (Fits ts) e = e
of_fit p fs Misfit e = absurd (not_nil _ fs e)
of_fit p fs Untyped e = e

of_types : {A : Type 0} (p : ℕ) (fs : List Fault) (types : Option A) (fit : A → Fit) → (judged_of p fs types fit).faults ≡ [] → fs ≡ []
of_types p fs None fit e = e
of_types p fs (Some ts) fit e = of_fit p fs (fit ts) e

clean : {A : Type 0} (p : ℕ) (own : List Fault) (operands : Judged A) (fit : A → Fit) → (judged p own operands fit).faults ≡ [] → Clean own operands
clean p own operands fit e =
    let h = of_types p (own ++ operands.faults) operands.types fit e in
    record { own_faults = nil_left own operands.faults h; operand_faults = nil_right own operands.faults h }

-- ---- names that are not declared

pub not_declared : (x : Name) (ds : List Decl) → is_in x (names ds) ≡ false → declaration ds x ≡ None
not_declared x [] h = refl
not_declared x (d ∷ ds) h = rw (not_head x d.name (names ds) h) (not_declared x ds (not_tail x d.name (names ds) h))

module _ (w : Judging) (x : Name) (unseen : declaration w.seen x ≡ None) where
  -- a name that can't be the one that is not declared
  is_other : (y : Name) → (declaration w.seen y ≡ None → ⊥) → NotIn x (y ∷ [])
  is_other y h = go (same x y) refl
    where
      go : (b : Bool) → same x y ≡ b → NotIn x (y ∷ [])
      go true e = absurd (h (subst (λ (z : Name). declaration w.seen z ≡ None) (same_is x y e) unseen))
      go false e = not_cons x y [] e refl

  var_other : (p : ℕ) (under : Bool) (y : Name) → (var_judged w p under y (type_of_variable w y)).faults ≡ [] → NotIn x (y ∷ [])
  var_other p under y h = is_other y (λ none. not_nil _ [] (subst (λ (o : Option Decl). (var_judged w p under y (option_map (λ d. d.ty) o)).faults ≡ []) none h))

  last_other : (p : ℕ) (y : Name) → (last_judged w p (declaration w.seen y)).faults ≡ [] → NotIn x (y ∷ [])
  last_other p y h = is_other y (λ none. not_nil _ [] (subst (λ (o : Option Decl). (last_judged w p o).faults ≡ []) none h))

  read_other : (p : ℕ) (y : Name) → read_faults w p y ≡ [] → NotIn x (y ∷ [])
  read_other p y h =
      is_other y (λ none. not_nil _ [] (subst (λ (o : Option Decl). fault p UnknownName (not (is_some o)) ≡ []) none (nil_left (unknown_variable w p y) _ h)))

  -- an expression without faults mentions no x
  abbrev Quiet : Expr → Type 0
  Quiet e = (under : Bool) → (judge_of w under e).faults ≡ [] → Free x e

  one_quiet : (under : Bool) (e : Expr) → Quiet e → (one w under e).faults ≡ [] → Free x e
  one_quiet under e q h = q under (nil_left (judge_of w under e).faults [] h)

  two_quiet : (a b : Expr) → Quiet a → Quiet b → (both (one w false a) (one w false b)).faults ≡ [] → Free x a × Free x b
  two_quiet a b q r h = (
    one_quiet false a q (nil_left (one w false a).faults (one w false b).faults h),
    one_quiet false b r (nil_right (one w false a).faults (one w false b).faults h),
  )

  row_quiet : (es : List Expr) → EachOf Quiet es → (row w false es).faults ≡ [] → EachOf (Free x) es
  row_quiet [] q h = tt
  row_quiet (e ∷ es) q h =
      (q.0 false (nil_left (judge_of w false e).faults (row w false es).faults h), row_quiet es q.1 (nil_right (judge_of w false e).faults (row w false es).faults h))

  branches_quiet : (on : Option Ty) (earlier : List Tag) (bs : List MergeBranch) → EachValue Quiet bs → (branch_row w on earlier bs).faults ≡ [] → EachValue (Free x) bs
  branches_quiet on earlier [] q h = tt
  branches_quiet on earlier (b ∷ bs) q h =
      let own = fault b.place.0 UnknownName (unknown_tag w b.tag) ++ fault b.place.0 Duplicate (list_any (same_tag b.tag) earlier) in
      let value = judged b.place.0 own (judge_of w false b.value) (branch_fit w b.tag on) in
      let rest = branch_row w on (b.tag ∷ earlier) bs in (
        q.0 false (clean b.place.0 own (judge_of w false b.value) (branch_fit w b.tag on) (nil_left value.faults rest.faults h)).operand_faults,
        branches_quiet on (b.tag ∷ earlier) bs q.1 (nil_right value.faults rest.faults h),
      )

  call_quiet : (p : ℕ) (o : Option Node) (own : List Fault) (give : Fit → Fit) (args : List Expr) → EachOf Quiet args → (call_judged w p o own give (row w false args)).faults ≡ [] → EachOf (Free x) args
  call_quiet p None own give args q h = row_quiet args q (clean p (record { place = p; kind = UnknownName } ∷ own) (row w false args) (λ ts. barred w Untyped) h).operand_faults
  call_quiet p (Some g) own give args q h =
      row_quiet args q (clean p (fault p Recursive (calls_lead w.nodes g.name w.node.name) ++ own) (row w false args) (λ ts. barred w (give (call_fit g ts))) h).operand_faults

  -- an expression of a form, by what the form's names and operands say
  whole_quiet : (v : Form-F Form Expr MergeBranch) (p : Place) → NotIn x (form_names v) → EachOperand (Free x) v → Free x (record { place = p; form = roll-Form v })
  whole_quiet v p h k = free_whole x (record { place = p; form = roll-Form v }) v (out-roll-Form v) h k

  -- the faults of a form, as its own rule lists them
  turned : (under : Bool) (p : ℕ) (f g : Form) (j : Judged (List Ty)) → f ≡ g → judge w under p g ≡ j → (judge w under p f).faults ≡ [] → j.faults ≡ []
  turned under p f g j e k h =
      subst (λ (i : Judged (List Ty)). i.faults ≡ []) k (subst (λ (z : Form). (judge w under p z).faults ≡ []) e h)

  step : (v : Form-F Form Expr MergeBranch) (p : Place) → EachOperand Quiet v → Quiet (record { place = p; form = roll-Form v })
  step (Form-F.Const k) p q under h = whole_quiet (Form-F.Const k) p refl tt
  step (Form-F.AsyncConst k) p q under h = whole_quiet (Form-F.AsyncConst k) p refl tt
  step (Form-F.Var y) p q under h =
      whole_quiet (Form-F.Var y) p (var_other p.0 under y (turned under p.0 _ _ _ (form.rolls-Var y) (judge-Var w under p.0 y) h)) tt
  step (Form-F.Last y) p q under h =
      whole_quiet (Form-F.Last y) p (last_other p.0 y (turned under p.0 _ _ _ (form.rolls-Last y) (judge-Last w under p.0 y) h)) tt
  step (Form-F.Unary op a) p q under h =
      let c = clean p.0 [] (one w false a) (unary_fit op) (turned under p.0 _ _ _ (form.rolls-Unary op a) (judge-Unary w under p.0 op a) h) in
      whole_quiet (Form-F.Unary op a) p refl (one_quiet false a q c.operand_faults)
  step (Form-F.Binary op a b) p q under h =
      let c = clean p.0 (fault p.0 ZeroDivisor (divides op && not (is_nonzero b.form && true))) (both (one w false a) (one w false b)) (binary_fit op) (turned under p.0 _ _ _ (form.rolls-Binary op a b) (judge-Binary w under p.0 op a b) h) in
      whole_quiet (Form-F.Binary op a b) p refl (two_quiet a b q.0 q.1 c.operand_faults)
  step (Form-F.If i a b) p q under h =
      let c = clean p.0 [] (both (one w false i) (both (one w false a) (one w false b))) if_fit (turned under p.0 _ _ _ (form.rolls-If i a b) (judge-If w under p.0 i a b) h) in
      let rest = both (one w false a) (one w false b) in
      let (k, l) = two_quiet a b q.1 q.2 (nil_right (one w false i).faults rest.faults c.operand_faults) in
      whole_quiet (Form-F.If i a b) p refl (one_quiet false i q.0 (nil_left (one w false i).faults rest.faults c.operand_faults), k, l)
  step (Form-F.Fby a b) p q under h =
      let c = clean p.0 [] (both (one w false a) (one w false b)) (λ ts. barred w (alike ts)) (turned under p.0 _ _ _ (form.rolls-Fby a b) (judge-Fby w under p.0 a b) h) in
      whole_quiet (Form-F.Fby a b) p refl (two_quiet a b q.0 q.1 c.operand_faults)
  step (Form-F.Pre a) p q under h =
      let c = clean p.0 [] (one w false a) (λ ts. barred w (alike ts)) (turned under p.0 _ _ _ (form.rolls-Pre a) (judge-Pre w under p.0 a) h) in
      whole_quiet (Form-F.Pre a) p refl (one_quiet false a q c.operand_faults)
  step (Form-F.Arrow a b) p q under h =
      let c = clean p.0 [] (both (one w false a) (one w false b)) (λ ts. barred w (alike ts)) (turned under p.0 _ _ _ (form.rolls-Arrow a b) (judge-Arrow w under p.0 a b) h) in
      whole_quiet (Form-F.Arrow a b) p refl (two_quiet a b q.0 q.1 c.operand_faults)
  step (Form-F.When a tag y) p q under h =
      let c = clean p.0 (read_faults w p.0 y ++ fault p.0 UnknownName (unknown_tag w tag)) (one w false a) (when_fit w tag (type_of_variable w y)) (turned under p.0 _ _ _ (form.rolls-When a tag y) (judge-When w under p.0 a tag y) h) in
      whole_quiet (Form-F.When a tag y) p (read_other p.0 y (nil_left (read_faults w p.0 y) (fault p.0 UnknownName (unknown_tag w tag)) c.own_faults)) (one_quiet false a q c.operand_faults)
  step (Form-F.Merge y bs) p q under h =
      let c = clean p.0 (read_faults w p.0 y ++ lack_faults w p.0 (map (λ b. b.tag) bs) (type_of_variable w y)) (branch_row w (type_of_variable w y) [] bs) (merge_fit w (type_of_variable w y)) (turned under p.0 _ _ _ (form.rolls-Merge y bs) (judge-Merge w under p.0 y bs) h) in
      whole_quiet (Form-F.Merge y bs) p (read_other p.0 y (nil_left (read_faults w p.0 y) (lack_faults w p.0 (map (λ b. b.tag) bs) (type_of_variable w y)) c.own_faults)) (branches_quiet (type_of_variable w y) [] bs q c.operand_faults)
  step (Form-F.Call f args) p q under h =
      whole_quiet (Form-F.Call f args) p refl
      (call_quiet p.0 (node_named w.nodes f) [] (λ g. g) args q (turned under p.0 _ _ _ (form.rolls-Call f args) (judge-Call w under p.0 f args) h))
  step (Form-F.AsyncCall i f args) p q under h =
      whole_quiet (Form-F.AsyncCall i f args) p refl
      (call_quiet p.0 (node_named w.nodes f) (fault p.0 NestedAsync (nested w)) async_fit args q (turned under p.0 _ _ _ (form.rolls-AsyncCall i f args) (judge-AsyncCall w under p.0 i f args) h))
  step (Form-F.Get a) p q under h =
      let c = clean p.0 [] (one w true a) (λ ts. barred w (get_fit ts)) (turned under p.0 _ _ _ (form.rolls-Get a) (judge-Get w under p.0 a) h) in
      whole_quiet (Form-F.Get a) p refl (one_quiet true a q c.operand_faults)

  pub faultless_free : (e : Expr) → (judge_of w false e).faults ≡ [] → Free x e
  faultless_free e h = by_operands Quiet step e false h

-- ---- a get gives one type

one_fit : (p : ℕ) (fs : List Fault) (tss : List (List Ty)) (ts : List Ty) → (judged_by p fs (get_fit tss)).types ≡ Some ts → (t : Ty) × (ts ≡ t ∷ [])
one_fit p fs [] ts e = cc
one_fit p fs ([] ∷ tss) ts e = cc
one_fit p fs ((ty.Plain s ∷ us) ∷ tss) ts e = cc
one_fit p fs ((ty.Future s ∷ u ∷ us) ∷ tss) ts e = cc
one_fit p fs ((ty.Future s ∷ []) ∷ us ∷ tss) ts e = cc
one_fit p [] ((ty.Future s ∷ []) ∷ []) ts e = (ty.Plain s, cc)
one_fit p (f ∷ fs) ((ty.Future s ∷ []) ∷ []) ts e = cc

pub one_of_get : (w : Judging) (under : Bool) (p : ℕ) (a : Expr) (ts : List Ty) → w.strong ≡ false → (judge w under p (form.Get a)).types ≡ Some ts → (t : Ty) × (ts ≡ t ∷ [])
one_of_get w under p a ts s e =
    let f : (judged p [] (one w true a) (λ us. barred w (get_fit us))).types ≡ Some ts = subst (λ (j : Judged (List Ty)). j.types ≡ Some ts) (judge-Get w under p a) e in
    go (one w true a).types (subst (λ (b : Bool). (judged_of p (one w true a).faults (one w true a).types (λ us. if b then Misfit else get_fit us)).types ≡ Some ts) s f)
  where
    go : (o : Option (List (List Ty))) → (judged_of p (one w true a).faults o get_fit).types ≡ Some ts → (t : Ty) × (ts ≡ t ∷ [])
    go None h = cc
    go (Some tss) h = one_fit p (one w true a).faults tss ts h
