-- An expression stands on a clock exactly where the erased expression does.
use Rattle.std.proofs.Common.{◌≡◌, ℕ, List, [], ◌∷◌, map, sym, subst}
use Rattle.hept_ast.specs.Texts.{Name, is_in}
use Rattle.hept_ast.specs.Scopes.{Clock}
use Rattle.hept_ast.specs.Erasure.{erased_expr, erased_branch}
use Rattle.hept_ast.specs.declared.tree.Const.{Const}
use Rattle.hept_ast.specs.declared.tree.Tag.{Tag}
use Rattle.hept_ast.specs.declared.tree.UnaryOp.{UnaryOp}
use Rattle.hept_ast.specs.declared.tree.BinaryOp.{BinaryOp}
use Rattle.hept_ast.specs.declared.tree.Expr.{Expr}
use Rattle.hept_ast.specs.declared.tree.MergeBranch.{MergeBranch}
use Rattle.hept_ast.specs.declared.tree.Form.TheVariants as form
use Rattle.hept_ast.specs.declared.tree.Form.TheBlock.{hidden-the_row-Expr-2, hidden-the_row-MergeBranch-1}
use Rattle.hept_ast.proofs.Unfolded.{static}
use Rattle.erased_rules.proofs.ByForms.{Each, Cases, by_forms, erased-Const, erased-Var, erased-Last, erased-Unary, erased-Binary, erased-If, erased-Fby, erased-Pre, erased-Arrow, erased-When, erased-Merge, erased-Call, erased-AsyncCall, erased-AsyncConst, erased-Get}
use Rattle.erased_rules.proofs.Standing.{Outer, read, sampled, Stands, Row_stands, Branches_stand}

-- ---- both ways

pub record Iff (A B : Type 0) : Type 0 where
  pub to : A → B
  pub back : B → A

pub same_iff : {A : Type 0} → Iff A A
same_iff = record { to = λ h. h; back = λ h. h }

pub turned : {A B : Type 0} → Iff A B → Iff B A
turned i = record { to = i.back; back = i.to }

pub after : {A B C : Type 0} → Iff A B → Iff B C → Iff A C
after i j = record { to = λ h. j.to (i.to h); back = λ h. i.back (j.back h) }

pub beside : {A B C D : Type 0} → Iff A B → Iff C D → Iff (A × C) (B × D)
beside i j = record { to = λ h. (i.to h.0, j.to h.1); back = λ h. (i.back h.0, j.back h.1) }

pub three : {A B C D E F : Type 0} → Iff A B → Iff C D → Iff E F → Iff (A × C × E) (B × D × F)
three i j k = record { to = λ h. (i.to h.0, j.to h.1, k.to h.2); back = λ h. (i.back h.0, j.back h.1, k.back h.2) }

-- ---- what each form needs

module _ (own : List Name) (c : Name → Clock) where
  row_is : (k : Clock) (es : List Expr) → Iff (Row_stands own c k (hidden-the_row-Expr-2 es)) (Each (λ e. Stands own c k e.form) es)
  unfolding static Stands Row_stands Branches_stand
  row_is k [] = same_iff
  row_is k (e ∷ es) = beside same_iff (row_is k es)

  branches_are : (x : Name) (bs : List MergeBranch) → Iff (Branches_stand own c x (hidden-the_row-MergeBranch-1 bs)) (Each (λ b. Stands own c (sampled own c b.tag x) b.value.form) bs)
  unfolding static Stands Row_stands Branches_stand
  branches_are x [] = same_iff
  branches_are x (b ∷ bs) = beside same_iff (branches_are x bs)

  needs-Const : (k : Clock) (q r : Const) → Iff (Stands own c k (form.Const q)) (Stands own c k (form.Const r))
  unfolding static Stands Row_stands Branches_stand
  needs-Const k q r = same_iff

  needs-Unary : (k : Clock) (op : UnaryOp) (a : Expr) → Iff (Stands own c k (form.Unary op a)) (Stands own c k a.form)
  unfolding static Stands Row_stands Branches_stand
  needs-Unary k op a = record { to = λ h. h.0; back = λ h. (h, tt) }

  needs-Binary : (k : Clock) (op : BinaryOp) (a b : Expr) → Iff (Stands own c k (form.Binary op a b)) (Stands own c k a.form × Stands own c k b.form)
  unfolding static Stands Row_stands Branches_stand
  needs-Binary k op a b = record { to = λ h. (h.0.0, h.1.0); back = λ h. ((h.0, tt), (h.1, tt)) }

  needs-If : (k : Clock) (g a b : Expr) → Iff (Stands own c k (form.If g a b)) (Stands own c k g.form × Stands own c k a.form × Stands own c k b.form)
  unfolding static Stands Row_stands Branches_stand
  needs-If k g a b = record { to = λ h. (h.0.0, h.1.0, h.2.0); back = λ h. ((h.0, tt), (h.1, tt), (h.2, tt)) }

  needs-Fby : (k : Clock) (a b : Expr) → Iff (Stands own c k (form.Fby a b)) (Stands own c k a.form × Stands own c k b.form)
  unfolding static Stands Row_stands Branches_stand
  needs-Fby k a b = record { to = λ h. (h.0.0, h.1.0); back = λ h. ((h.0, tt), (h.1, tt)) }

  needs-Pre : (k : Clock) (a : Expr) → Iff (Stands own c k (form.Pre a)) (Stands own c k a.form)
  unfolding static Stands Row_stands Branches_stand
  needs-Pre k a = record { to = λ h. h.0; back = λ h. (h, tt) }

  needs-Arrow : (k : Clock) (a b : Expr) → Iff (Stands own c k (form.Arrow a b)) (Stands own c k a.form × Stands own c k b.form)
  unfolding static Stands Row_stands Branches_stand
  needs-Arrow k a b = record { to = λ h. (h.0.0, h.1.0); back = λ h. ((h.0, tt), (h.1, tt)) }

  needs-When : (k : Clock) (a : Expr) (tag : Tag) (x : Name) → Iff (Stands own c k (form.When a tag x)) (Stands own c (read own c x) a.form × (k ≡ sampled own c tag x) × Outer (is_in x own) (c x))
  unfolding static Stands Row_stands Branches_stand
  needs-When k a tag x = record { to = λ h. (h.0.0, h.1, h.2); back = λ h. ((h.0, tt), h.1, h.2) }

  needs-Merge : (k : Clock) (x : Name) (bs : List MergeBranch) → Iff (Stands own c k (form.Merge x bs)) ((k ≡ read own c x) × Outer (is_in x own) (c x) × Each (λ b. Stands own c (sampled own c b.tag x) b.value.form) bs)
  unfolding static Stands Row_stands Branches_stand
  needs-Merge k x bs = three same_iff same_iff (branches_are x bs)

  needs-Call : (k : Clock) (f : Name) (args : List Expr) → Iff (Stands own c k (form.Call f args)) (Each (λ e. Stands own c k e.form) args)
  unfolding static Stands Row_stands Branches_stand
  needs-Call k f args = row_is k args

  needs-AsyncCall : (k : Clock) (q : ℕ) (f : Name) (args : List Expr) → Iff (Stands own c k (form.AsyncCall q f args)) (Each (λ e. Stands own c k e.form) args)
  unfolding static Stands Row_stands Branches_stand
  needs-AsyncCall k q f args = row_is k args

  needs-AsyncConst : (k : Clock) (q r : Const) → Iff (Stands own c k (form.Const q)) (Stands own c k (form.AsyncConst r))
  unfolding static Stands Row_stands Branches_stand
  needs-AsyncConst k q r = same_iff

  needs-Get : (k : Clock) (a : Expr) → Iff (Stands own c k (form.Get a)) (Stands own c k a.form)
  unfolding static Stands Row_stands Branches_stand
  needs-Get k a = record { to = λ h. h.0; back = λ h. (h, tt) }

  -- ---- what is erased

  abbrev Kept : Expr → Type 0
  Kept e = (k : Clock) → Iff (Stands own c k (erased_expr e).form) (Stands own c k e.form)

  is : (k : Clock) (e f : Expr) → e ≡ f → Iff (Stands own c k e.form) (Stands own c k f.form)
  is k e f i = record { to = λ h. subst (λ (z : Expr). Stands own c k z.form) i h; back = λ h. subst (λ (z : Expr). Stands own c k z.form) (sym i) h }

  all_kept : (k : Clock) (es : List Expr) → Each Kept es → Iff (Each (λ e. Stands own c k e.form) (map erased_expr es)) (Each (λ e. Stands own c k e.form) es)
  all_kept k [] hs = same_iff
  all_kept k (e ∷ es) hs = beside (hs.0 k) (all_kept k es hs.1)

  branches_kept : (x : Name) (bs : List MergeBranch) → Each (λ b. Kept b.value) bs →
      Iff (Each (λ b. Stands own c (sampled own c b.tag x) b.value.form) (map erased_branch bs)) (Each (λ b. Stands own c (sampled own c b.tag x) b.value.form) bs)
  branches_kept x [] hs = same_iff
  branches_kept x (b ∷ bs) hs = beside (hs.0 (sampled own c b.tag x)) (branches_kept x bs hs.1)

  cases : Cases Kept
  cases = record {
    of_const = λ p q k. is k _ _ (erased-Const p q);
    of_var = λ p x k. is k _ _ (erased-Var p x);
    of_last = λ p x k. is k _ _ (erased-Last p x);
    of_unary = λ p op a h k. after (is k _ _ (erased-Unary p op a)) (after (needs-Unary k op (erased_expr a)) (after (h k) (turned (needs-Unary k op a))));
    of_binary = λ p op a b h j k. after (is k _ _ (erased-Binary p op a b)) (after (needs-Binary k op (erased_expr a) (erased_expr b)) (after (beside (h k) (j k)) (turned (needs-Binary k op a b))));
    of_if = λ p g a b i h j k. after (is k _ _ (erased-If p g a b)) (after (needs-If k (erased_expr g) (erased_expr a) (erased_expr b)) (after (three (i k) (h k) (j k)) (turned (needs-If k g a b))));
    of_fby = λ p a b h j k. after (is k _ _ (erased-Fby p a b)) (after (needs-Fby k (erased_expr a) (erased_expr b)) (after (beside (h k) (j k)) (turned (needs-Fby k a b))));
    of_pre = λ p a h k. after (is k _ _ (erased-Pre p a)) (after (needs-Pre k (erased_expr a)) (after (h k) (turned (needs-Pre k a))));
    of_arrow = λ p a b h j k. after (is k _ _ (erased-Arrow p a b)) (after (needs-Arrow k (erased_expr a) (erased_expr b)) (after (beside (h k) (j k)) (turned (needs-Arrow k a b))));
    of_when = λ p a tag x h k. after (is k _ _ (erased-When p a tag x)) (after (needs-When k (erased_expr a) tag x) (after (three (h (read own c x)) same_iff same_iff) (turned (needs-When k a tag x))));
    of_merge = λ p x bs hs k. after (is k _ _ (erased-Merge p x bs)) (after (needs-Merge k x (map erased_branch bs)) (after (three same_iff same_iff (branches_kept x bs hs)) (turned (needs-Merge k x bs))));
    of_call = λ p f args hs k. after (is k _ _ (erased-Call p f args)) (after (needs-Call k f (map erased_expr args)) (after (all_kept k args hs) (turned (needs-Call k f args))));
    of_async = λ p q f args hs k. after (is k _ _ (erased-AsyncCall p q f args)) (after (needs-Call k f (map erased_expr args)) (after (all_kept k args hs) (turned (needs-AsyncCall k q f args))));
    of_ready = λ p q k. after (is k _ _ (erased-AsyncConst p q)) (needs-AsyncConst k q q);
    of_get = λ p a h k. after (is k _ _ (erased-Get p a)) (after (h k) (turned (needs-Get k a)));
  }

  pub stands_kept : (e : Expr) (k : Clock) → Iff (Stands own c k (erased_expr e).form) (Stands own c k e.form)
  stands_kept e = by_forms Kept cases e
