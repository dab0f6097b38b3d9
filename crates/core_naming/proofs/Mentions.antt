-- Names that are not in a list, and what an expression mentions by its operands.
use Rattle.std.proofs.Common.{◌≡◌, ℕ, zero, suc, Bool, true, false, ◌||◌, List, [], ◌∷◌, ◌++◌, take, refl, sym, ap, subst, ◌∙◌, All}
use Rattle.std.specs.Prelude.{⊤}
use Rattle.std.specs.List.{flat_map}
use Rattle.std.proofs.lemmas.Bool.{false≢true}
use Rattle.std.proofs.lemmas.List.Elements.{All-nil, All-cons}
use Rattle.std.proofs.lemmas.Slice.Eq.{bytes_eq-Decides}
use Rattle.hept_ast.specs.Texts.{Name, same, is_in}
use Rattle.hept_ast.specs.Scopes.{Clock}
use Rattle.hept_ast.specs.Parts.{inside, below}
use Rattle.hept_ast.specs.declared.tree.ClockStep.{ClockStep}
use Rattle.hept_ast.specs.declared.tree.Expr.{Expr}
use Rattle.hept_ast.specs.declared.tree.MergeBranch.{MergeBranch}
use Rattle.hept_ast.specs.declared.tree.Form.{Form, out-Form, roll-Form}
use Rattle.hept_ast.specs.declared.tree.Form.TheOpen.{Form-F}
use Rattle.hept_ast.specs.declared.tree.Form.TheViews.{roll-out-Form, out-roll-Form}
use Rattle.hept_ast.specs.declared.tree.Form.TheVariants as form
use Rattle.hept_ast.proofs.FormsOf.{below-Const, below-Var, below-Last, below-Unary, below-Binary, below-If, below-Fby, below-Pre, below-Arrow, below-When, below-Merge, below-Call, below-AsyncCall, below-AsyncConst, below-Get}
use Rattle.core_naming.specs.Ties.{form_names, mentions, clock_names}

-- ---- names that are not in a list

pub or_left : (b c : Bool) → b || c ≡ false → b ≡ false
or_left true c e = e
or_left false c e = refl

pub or_right : (b c : Bool) → b || c ≡ false → c ≡ false
or_right true c e = absurd (false≢true (sym e))
or_right false c e = e

pub or_both : (b c : Bool) → b ≡ false → c ≡ false → b || c ≡ false
or_both true c h k = h
or_both false c h k = k

pub same_self : (x : Name) → same x x ≡ true
same_self x = (bytes_eq-Decides x x).1 refl

pub same_is : (x y : Name) → same x y ≡ true → x ≡ y
same_is x y e = (bytes_eq-Decides x y).0 e

pub same_turned : (x y : Name) → same x y ≡ false → same y x ≡ false
same_turned x y e = go (same y x) refl
  where
    go : (b : Bool) → same y x ≡ b → b ≡ false
    go true h = absurd (false≢true (sym e ∙ (bytes_eq-Decides x y).1 (sym (same_is y x h))))
    go false h = refl

module _ (x : Name) where
  abbrev pub NotIn : List Name → Type 0
  NotIn xs = is_in x xs ≡ false

  pub not_head : (y : Name) (ys : List Name) → NotIn (y ∷ ys) → same x y ≡ false
  not_head y ys h = or_left (same x y) (is_in x ys) h

  pub not_tail : (y : Name) (ys : List Name) → NotIn (y ∷ ys) → NotIn ys
  not_tail y ys h = or_right (same x y) (is_in x ys) h

  pub not_cons : (y : Name) (ys : List Name) → same x y ≡ false → NotIn ys → NotIn (y ∷ ys)
  not_cons y ys h k = or_both (same x y) (is_in x ys) h k

  pub not_left : (xs ys : List Name) → NotIn (xs ++ ys) → NotIn xs
  not_left [] ys h = refl
  not_left (z ∷ zs) ys h = not_cons z zs (not_head z (zs ++ ys) h) (not_left zs ys (not_tail z (zs ++ ys) h))

  pub not_right : (xs ys : List Name) → NotIn (xs ++ ys) → NotIn ys
  not_right [] ys h = h
  not_right (z ∷ zs) ys h = not_right zs ys (not_tail z (zs ++ ys) h)

  pub not_both : (xs ys : List Name) → NotIn xs → NotIn ys → NotIn (xs ++ ys)
  not_both [] ys h k = k
  not_both (z ∷ zs) ys h k = not_cons z (zs ++ ys) (not_head z zs h) (not_both zs ys (not_tail z zs h) k)

  pub not_flat : {A : Type 0} (f : A → List Name) (bs : List A) → NotIn (flat_map f bs) → All (λ a. NotIn (f a)) bs
  not_flat f [] h = All-nil (λ a. NotIn (f a))
  not_flat f (b ∷ bs) h = All-cons (λ a. NotIn (f a)) b bs (not_left (f b) (flat_map f bs) h) (not_flat f bs (not_right (f b) (flat_map f bs) h))

  -- ---- clocks

  pub not_taken : (k : ℕ) (c : Clock) → NotIn (clock_names c) → NotIn (clock_names (take k c))
  not_taken zero c h = refl
  not_taken (suc k) [] h = refl
  not_taken (suc k) (step ∷ c) h =
      not_cons step.name (clock_names (take k c)) (not_head step.name (clock_names c) h) (not_taken k c (not_tail step.name (clock_names c) h))

  pub not_longer : (c : Clock) (step : ClockStep) → NotIn (clock_names c) → same x step.name ≡ false → NotIn (clock_names (c ++ step ∷ []))
  not_longer [] step h k = not_cons step.name [] k refl
  not_longer (s ∷ c) step h k =
      not_cons s.name (clock_names (c ++ step ∷ [])) (not_head s.name (clock_names c) h) (not_longer c step (not_tail s.name (clock_names c) h) k)

-- ---- operands

abbrev pub EachOf : (Expr → Type 0) → List Expr → Type 0
EachOf P [] = ⊤
EachOf P (e ∷ es) = P e × EachOf P es

abbrev pub EachValue : (Expr → Type 0) → List MergeBranch → Type 0
EachValue P [] = ⊤
EachValue P (b ∷ bs) = P b.value × EachValue P bs

-- P holds of each operand of a form
abbrev pub EachOperand : (Expr → Type 0) → Form-F Form Expr MergeBranch → Type 0
EachOperand P (Form-F.Const k) = ⊤
EachOperand P (Form-F.Var y) = ⊤
EachOperand P (Form-F.Last y) = ⊤
EachOperand P (Form-F.Unary op a) = P a
EachOperand P (Form-F.Binary op a b) = P a × P b
EachOperand P (Form-F.If i a b) = P i × P a × P b
EachOperand P (Form-F.Fby a b) = P a × P b
EachOperand P (Form-F.Pre a) = P a
EachOperand P (Form-F.Arrow a b) = P a × P b
EachOperand P (Form-F.When a tag y) = P a
EachOperand P (Form-F.Merge y bs) = EachValue P bs
EachOperand P (Form-F.Call f args) = EachOf P args
EachOperand P (Form-F.AsyncCall q f args) = EachOf P args
EachOperand P (Form-F.AsyncConst k) = ⊤
EachOperand P (Form-F.Get a) = P a

-- all expressions inside the operands
abbrev pub operands_in : Form-F Form Expr MergeBranch → List Expr
operands_in (Form-F.Const k) = []
operands_in (Form-F.Var y) = []
operands_in (Form-F.Last y) = []
operands_in (Form-F.Unary op a) = inside a
operands_in (Form-F.Binary op a b) = inside a ++ inside b
operands_in (Form-F.If i a b) = inside i ++ inside a ++ inside b
operands_in (Form-F.Fby a b) = inside a ++ inside b
operands_in (Form-F.Pre a) = inside a
operands_in (Form-F.Arrow a b) = inside a ++ inside b
operands_in (Form-F.When a tag y) = inside a
operands_in (Form-F.Merge y bs) = flat_map (λ b. inside b.value) bs
operands_in (Form-F.Call f args) = flat_map inside args
operands_in (Form-F.AsyncCall q f args) = flat_map inside args
operands_in (Form-F.AsyncConst k) = []
operands_in (Form-F.Get a) = inside a

pub by_view : (f : Form) (v : Form-F Form Expr MergeBranch) (g : Form) → out-Form f ≡ v → roll-Form v ≡ g → f ≡ g
by_view f v g o r = sym (roll-out-Form f) ∙ ap roll-Form o ∙ r

below_is : (f : Form) (v : Form-F Form Expr MergeBranch) → out-Form f ≡ v → below f ≡ operands_in v
below_is f (Form-F.Const k) o = ap below (by_view f _ _ o (form.rolls-Const k)) ∙ below-Const k
below_is f (Form-F.Var y) o = ap below (by_view f _ _ o (form.rolls-Var y)) ∙ below-Var y
below_is f (Form-F.Last y) o = ap below (by_view f _ _ o (form.rolls-Last y)) ∙ below-Last y
below_is f (Form-F.Unary op a) o = ap below (by_view f _ _ o (form.rolls-Unary op a)) ∙ below-Unary op a
below_is f (Form-F.Binary op a b) o = ap below (by_view f _ _ o (form.rolls-Binary op a b)) ∙ below-Binary op a b
below_is f (Form-F.If i a b) o = ap below (by_view f _ _ o (form.rolls-If i a b)) ∙ below-If i a b
below_is f (Form-F.Fby a b) o = ap below (by_view f _ _ o (form.rolls-Fby a b)) ∙ below-Fby a b
below_is f (Form-F.Pre a) o = ap below (by_view f _ _ o (form.rolls-Pre a)) ∙ below-Pre a
below_is f (Form-F.Arrow a b) o = ap below (by_view f _ _ o (form.rolls-Arrow a b)) ∙ below-Arrow a b
below_is f (Form-F.When a tag y) o = ap below (by_view f _ _ o (form.rolls-When a tag y)) ∙ below-When a tag y
below_is f (Form-F.Merge y bs) o = ap below (by_view f _ _ o (form.rolls-Merge y bs)) ∙ below-Merge y bs
below_is f (Form-F.Call g args) o = ap below (by_view f _ _ o (form.rolls-Call g args)) ∙ below-Call g args
below_is f (Form-F.AsyncCall q g args) o = ap below (by_view f _ _ o (form.rolls-AsyncCall q g args)) ∙ below-AsyncCall q g args
below_is f (Form-F.AsyncConst k) o = ap below (by_view f _ _ o (form.rolls-AsyncConst k)) ∙ below-AsyncConst k
below_is f (Form-F.Get a) o = ap below (by_view f _ _ o (form.rolls-Get a)) ∙ below-Get a

pub out_Var : (y : Name) → out-Form (form.Var y) ≡ Form-F.Var y
out_Var y = ap out-Form (sym (form.rolls-Var y)) ∙ out-roll-Form _

abbrev pub names_in : List Expr → List Name
names_in es = flat_map (λ b. form_names (out-Form b.form)) es

module _ (x : Name) where
  -- an expression mentions no x
  abbrev pub Free : Expr → Type 0
  Free e = is_in x (mentions e) ≡ false

  abbrev pub Quiet : List Expr → Type 0
  Quiet es = is_in x (names_in es) ≡ false

  quiet_left : (es fs : List Expr) → Quiet (es ++ fs) → Quiet es
  quiet_left [] fs h = refl
  quiet_left (e ∷ es) fs h =
      let own = form_names (out-Form e.form) in
      not_both x own (names_in es) (not_left x own (names_in (es ++ fs)) h) (quiet_left es fs (not_right x own (names_in (es ++ fs)) h))

  quiet_right : (es fs : List Expr) → Quiet (es ++ fs) → Quiet fs
  quiet_right [] fs h = h
  quiet_right (e ∷ es) fs h = quiet_right es fs (not_right x (form_names (out-Form e.form)) (names_in (es ++ fs)) h)

  quiet_both : (es fs : List Expr) → Quiet es → Quiet fs → Quiet (es ++ fs)
  quiet_both [] fs h k = k
  quiet_both (e ∷ es) fs h k =
      let own = form_names (out-Form e.form) in
      not_both x own (names_in (es ++ fs)) (not_left x own (names_in es) h) (quiet_both es fs (not_right x own (names_in es) h) k)

  list_free : (es : List Expr) → Quiet (flat_map inside es) → EachOf Free es
  list_free [] h = tt
  list_free (e ∷ es) h = (quiet_left (inside e) (flat_map inside es) h, list_free es (quiet_right (inside e) (flat_map inside es) h))

  free_list : (es : List Expr) → EachOf Free es → Quiet (flat_map inside es)
  free_list [] h = refl
  free_list (e ∷ es) h = quiet_both (inside e) (flat_map inside es) h.0 (free_list es h.1)

  values_free : (bs : List MergeBranch) → Quiet (flat_map (λ b. inside b.value) bs) → EachValue Free bs
  values_free [] h = tt
  values_free (b ∷ bs) h =
      (quiet_left (inside b.value) (flat_map (λ c. inside c.value) bs) h, values_free bs (quiet_right (inside b.value) (flat_map (λ c. inside c.value) bs) h))

  free_values : (bs : List MergeBranch) → EachValue Free bs → Quiet (flat_map (λ b. inside b.value) bs)
  free_values [] h = refl
  free_values (b ∷ bs) h = quiet_both (inside b.value) (flat_map (λ c. inside c.value) bs) h.0 (free_values bs h.1)

  two_free : (a b : Expr) → Quiet (inside a ++ inside b) → Free a × Free b
  two_free a b h = (quiet_left (inside a) (inside b) h, quiet_right (inside a) (inside b) h)

  operands_free : (v : Form-F Form Expr MergeBranch) → Quiet (operands_in v) → EachOperand Free v
  operands_free (Form-F.Const k) h = tt
  operands_free (Form-F.Var y) h = tt
  operands_free (Form-F.Last y) h = tt
  operands_free (Form-F.Unary op a) h = h
  operands_free (Form-F.Binary op a b) h = two_free a b h
  operands_free (Form-F.If i a b) h =
      let (k, l) = two_free i a (quiet_left (inside i ++ inside a) (inside b) h) in
      (k, l, quiet_right (inside i ++ inside a) (inside b) h)
  operands_free (Form-F.Fby a b) h = two_free a b h
  operands_free (Form-F.Pre a) h = h
  operands_free (Form-F.Arrow a b) h = two_free a b h
  operands_free (Form-F.When a tag y) h = h
  operands_free (Form-F.Merge y bs) h = values_free bs h
  operands_free (Form-F.Call f args) h = list_free args h
  operands_free (Form-F.AsyncCall q f args) h = list_free args h
  operands_free (Form-F.AsyncConst k) h = tt
  operands_free (Form-F.Get a) h = h

  free_operands : (v : Form-F Form Expr MergeBranch) → EachOperand Free v → Quiet (operands_in v)
  free_operands (Form-F.Const k) h = refl
  free_operands (Form-F.Var y) h = refl
  free_operands (Form-F.Last y) h = refl
  free_operands (Form-F.Unary op a) h = h
  free_operands (Form-F.Binary op a b) h = quiet_both (inside a) (inside b) h.0 h.1
  free_operands (Form-F.If i a b) h = quiet_both (inside i ++ inside a) (inside b) (quiet_both (inside i) (inside a) h.0 h.1) h.2
  free_operands (Form-F.Fby a b) h = quiet_both (inside a) (inside b) h.0 h.1
  free_operands (Form-F.Pre a) h = h
  free_operands (Form-F.Arrow a b) h = quiet_both (inside a) (inside b) h.0 h.1
  free_operands (Form-F.When a tag y) h = h
  free_operands (Form-F.Merge y bs) h = free_values bs h
  free_operands (Form-F.Call f args) h = free_list args h
  free_operands (Form-F.AsyncCall q f args) h = free_list args h
  free_operands (Form-F.AsyncConst k) h = refl
  free_operands (Form-F.Get a) h = h

  -- an expression mentions no x where its form and its operands name none
  pub own_free : (e : Expr) (v : Form-F Form Expr MergeBranch) → out-Form e.form ≡ v → Free e → is_in x (form_names v) ≡ false
  own_free e v o h =
      subst (λ (u : Form-F Form Expr MergeBranch). is_in x (form_names u) ≡ false) o (not_left x (form_names (out-Form e.form)) (names_in (below e.form)) h)

  pub parts_free : (e : Expr) (v : Form-F Form Expr MergeBranch) → out-Form e.form ≡ v → Free e → EachOperand Free v
  parts_free e v o h =
      operands_free v (subst (λ (es : List Expr). Quiet es) (below_is e.form v o) (not_right x (form_names (out-Form e.form)) (names_in (below e.form)) h))

  pub free_whole : (e : Expr) (v : Form-F Form Expr MergeBranch) → out-Form e.form ≡ v → is_in x (form_names v) ≡ false → EachOperand Free v → Free e
  free_whole e v o h k =
      not_both x (form_names (out-Form e.form)) (names_in (below e.form))
      (subst (λ (u : Form-F Form Expr MergeBranch). is_in x (form_names u) ≡ false) (sym o) h)
      (subst (λ (es : List Expr). Quiet es) (sym (below_is e.form v o)) (free_operands v k))
