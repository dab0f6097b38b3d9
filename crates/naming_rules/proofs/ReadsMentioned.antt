-- An expression reads only variables that it mentions.
use Rattle.std.proofs.Common.{◌≡◌, false, List, [], ◌∷◌, ◌++◌, refl, ap, sym, ◌∙◌}
use Rattle.std.specs.List.{flat_map}
use Rattle.std.proofs.lemmas.Bool.{or_parts}
use Rattle.hept_ast.specs.Texts.{Name, same, is_in}
use Rattle.hept_ast.specs.Causal.{reads}
use Rattle.hept_ast.specs.declared.name.Place.{Place}
use Rattle.hept_ast.specs.declared.tree.Expr.{Expr}
use Rattle.hept_ast.specs.declared.tree.MergeBranch.{MergeBranch}
use Rattle.hept_ast.specs.declared.tree.Form.{Form}
use Rattle.hept_ast.specs.declared.tree.Form.TheVariants as form
use Rattle.hept_ast.proofs.ReadsOf.{reads-Const, reads-Var, reads-Last, reads-Pre, reads-AsyncConst, reads-Unary, reads-Binary, reads-If, reads-Fby, reads-Arrow, reads-When, reads-Get, reads-Merge, reads-Call, reads-AsyncCall}
use Rattle.core_naming.specs.Ties.{mentions}
use Rattle.naming_rules.proofs.Shapes.{Each, at, Cases, by_forms}
use Rattle.naming_rules.proofs.Names.{both_false, out_both, out_left, out_right}
use Rattle.naming_rules.proofs.MentionsOf.{mentions_Const, mentions_Var, mentions_Last, mentions_Unary, mentions_Binary, mentions_If, mentions_Fby, mentions_Pre, mentions_Arrow, mentions_When, mentions_Merge, mentions_Call, mentions_AsyncCall, mentions_AsyncConst, mentions_Get}

module _ (x : Name) where
  abbrev Unread : Expr → Type 0
  Unread e = is_in x (mentions e) ≡ false → is_in x (reads e.form) ≡ false

  by : (p : Place) (f : Form) (ms rs : List Name) → mentions (at p f) ≡ ms → reads f ≡ rs → (is_in x ms ≡ false → is_in x rs ≡ false) → is_in x (mentions (at p f)) ≡ false → is_in x (reads f) ≡ false
  by p f ms rs m r go h = ap (is_in x) r ∙ go (ap (is_in x) (sym m) ∙ h)

  two : (a b : Expr) → Unread a → Unread b → is_in x (mentions a ++ mentions b) ≡ false → is_in x (reads a.form ++ reads b.form) ≡ false
  two a b i j h = out_both x (reads a.form) (reads b.form) (i (out_left x (mentions a) (mentions b) h)) (j (out_right x (mentions a) (mentions b) h))

  row : (args : List Expr) → Each Unread args → is_in x (flat_map mentions args) ≡ false → is_in x (flat_map (λ e. reads e.form) args) ≡ false
  row [] i h = refl
  row (e ∷ es) i h =
      out_both x (reads e.form) (flat_map (λ (e : Expr). reads e.form) es) (i.0 (out_left x (mentions e) (flat_map mentions es) h)) (row es i.1 (out_right x (mentions e) (flat_map mentions es) h))

  values : (bs : List MergeBranch) → Each (λ b. Unread b.value) bs → is_in x (flat_map (λ b. mentions b.value) bs) ≡ false → is_in x (flat_map (λ b. reads b.value.form) bs) ≡ false
  values [] i h = refl
  values (b ∷ bs) i h =
      out_both x (reads b.value.form) (flat_map (λ (b : MergeBranch). reads b.value.form) bs) (i.0 (out_left x (mentions b.value) (flat_map (λ (b : MergeBranch). mentions b.value) bs) h))
      (values bs i.1 (out_right x (mentions b.value) (flat_map (λ (b : MergeBranch). mentions b.value) bs) h))

  unread_cases : Cases Unread
  unread_cases = record {
    of_const = λ p k. by p (form.Const k) [] [] (mentions_Const p k) (reads-Const k) (λ h. h);
    of_var = λ p y. by p (form.Var y) (y ∷ []) (y ∷ []) (mentions_Var p y) (reads-Var y) (λ h. h);
    of_last = λ p y. by p (form.Last y) (y ∷ []) [] (mentions_Last p y) (reads-Last y) (λ h. refl);
    of_unary = λ p op a i. by p (form.Unary op a) (mentions a) (reads a.form) (mentions_Unary p op a) (reads-Unary op a) i;
    of_binary = λ p op a b i j. by p (form.Binary op a b) (mentions a ++ mentions b) (reads a.form ++ reads b.form) (mentions_Binary p op a b) (reads-Binary op a b) (two a b i j);
    of_if = λ p c a b i j k. by p (form.If c a b) (mentions c ++ mentions a ++ mentions b) (reads c.form ++ reads a.form ++ reads b.form) (mentions_If p c a b) (reads-If c a b)
        (λ h. out_both x (reads c.form ++ reads a.form) (reads b.form) (two c a i j (out_left x (mentions c ++ mentions a) (mentions b) h)) (k (out_right x (mentions c ++ mentions a) (mentions b) h)));
    of_fby = λ p a b i j. by p (form.Fby a b) (mentions a ++ mentions b) (reads a.form) (mentions_Fby p a b) (reads-Fby a b) (λ h. i (out_left x (mentions a) (mentions b) h));
    of_pre = λ p a i. by p (form.Pre a) (mentions a) [] (mentions_Pre p a) (reads-Pre a) (λ h. refl);
    of_arrow = λ p a b i j. by p (form.Arrow a b) (mentions a ++ mentions b) (reads a.form ++ reads b.form) (mentions_Arrow p a b) (reads-Arrow a b) (two a b i j);
    of_when = λ p a tag y i. by p (form.When a tag y) (y ∷ mentions a) (reads a.form ++ y ∷ []) (mentions_When p a tag y) (reads-When a tag y)
        (λ h. let q = or_parts (same x y) (is_in x (mentions a)) h in out_both x (reads a.form) (y ∷ []) (i q.1) (both_false (same x y) false q.0 refl));
    of_merge = λ p y bs i. by p (form.Merge y bs) (y ∷ flat_map (λ b. mentions b.value) bs) (y ∷ flat_map (λ b. reads b.value.form) bs) (mentions_Merge p y bs) (reads-Merge y bs)
        (λ h. let q = or_parts (same x y) (is_in x (flat_map (λ (b : MergeBranch). mentions b.value) bs)) h in both_false (same x y) (is_in x (flat_map (λ (b : MergeBranch). reads b.value.form) bs)) q.0 (values bs i q.1));
    of_call = λ p f args i. by p (form.Call f args) (flat_map mentions args) (flat_map (λ e. reads e.form) args) (mentions_Call p f args) (reads-Call f args) (row args i);
    of_async = λ p q f args i. by p (form.AsyncCall q f args) (flat_map mentions args) (flat_map (λ e. reads e.form) args) (mentions_AsyncCall p q f args) (reads-AsyncCall q f args) (row args i);
    of_ready = λ p k. by p (form.AsyncConst k) [] [] (mentions_AsyncConst p k) (reads-AsyncConst k) (λ h. h);
    of_get = λ p a i. by p (form.Get a) (mentions a) (reads a.form) (mentions_Get p a) (reads-Get a) i;
  }

  pub unread : (e : Expr) → is_in x (mentions e) ≡ false → is_in x (reads e.form) ≡ false
  unread e h = by_forms Unread unread_cases e h
