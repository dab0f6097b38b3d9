-- An expression that does not mention a variable stands on the same clocks whatever that variable's clock is.
use Rattle.std.proofs.Common.{◌≡◌, Bool, false, if◌then◌else◌, List, [], ◌∷◌, ◌++◌, sym, ap, subst, ◌∙◌}
use Rattle.std.specs.List.{flat_map}
use Rattle.std.proofs.lemmas.Bool.{or_parts}
use Rattle.hept_ast.specs.Texts.{Name, same, is_in}
use Rattle.hept_ast.specs.Scopes.{Clock}
use Rattle.hept_ast.specs.declared.tree.Tag.{Tag}
use Rattle.hept_ast.specs.declared.tree.Expr.{Expr}
use Rattle.hept_ast.specs.declared.tree.MergeBranch.{MergeBranch}
use Rattle.hept_ast.specs.declared.tree.Form.TheBlock.{hidden-the_row-Expr-2, hidden-the_row-MergeBranch-1}
use Rattle.hept_ast.proofs.Unfolded.{static}
use Rattle.core_naming.specs.Ties.{mentions}
use Rattle.naming_rules.proofs.Shapes.{Each, Cases, by_forms}
use Rattle.naming_rules.proofs.Names.{out_left, out_right}
use Rattle.naming_rules.proofs.MentionsOf.{mentions_Var, mentions_Last, mentions_Unary, mentions_Binary, mentions_If, mentions_Fby, mentions_Pre, mentions_Arrow, mentions_When, mentions_Merge, mentions_Call, mentions_AsyncCall, mentions_Get}
use Rattle.erased_rules.proofs.Standing.{Reading, Outer, read, sampled, Stands, Row_stands, Branches_stand}

-- ---- arguments and branches by lists

module _ (own : List Name) (c : Name → Clock) where
  abbrev pub Arguments_stand : Clock → List Expr → Type 0
  Arguments_stand k es = Each (λ e. Stands own c k e.form) es

  abbrev pub Values_stand : Name → List MergeBranch → Type 0
  Values_stand y bs = Each (λ b. Stands own c (sampled own c b.tag y) b.value.form) bs

  pub arguments_of : (k : Clock) (es : List Expr) → Row_stands own c k (hidden-the_row-Expr-2 es) → Arguments_stand k es
  unfolding static Row_stands
  arguments_of k [] h = tt
  arguments_of k (e ∷ es) h = (h.0, arguments_of k es h.1)

  pub of_arguments : (k : Clock) (es : List Expr) → Arguments_stand k es → Row_stands own c k (hidden-the_row-Expr-2 es)
  unfolding static Row_stands
  of_arguments k [] h = tt
  of_arguments k (e ∷ es) h = (h.0, of_arguments k es h.1)

  pub values_of : (y : Name) (bs : List MergeBranch) → Branches_stand own c y (hidden-the_row-MergeBranch-1 bs) → Values_stand y bs
  unfolding static Branches_stand
  values_of y [] h = tt
  values_of y (b ∷ bs) h = (h.0, values_of y bs h.1)

  pub of_values : (y : Name) (bs : List MergeBranch) → Values_stand y bs → Branches_stand own c y (hidden-the_row-MergeBranch-1 bs)
  unfolding static Branches_stand
  of_values y [] h = tt
  of_values y (b ∷ bs) h = (h.0, of_values y bs h.1)

-- ---- other clocks for a variable that is not mentioned

module _ (own others : List Name) (c v : Name → Clock) (x : Name) (own_same : (y : Name) → same x y ≡ false → is_in y others ≡ is_in y own) (clock_same : (y : Name) → same x y ≡ false → v y ≡ c y) where
  abbrev Kept : Expr → Type 0
  Kept e = (k : Clock) → is_in x (mentions e) ≡ false → Stands own c k e.form → Stands others v k e.form

  reading_same : (y : Name) (k : Clock) → same x y ≡ false → Reading (is_in y own) (c y) k → Reading (is_in y others) (v y) k
  reading_same y k f h = subst (λ (b : Bool). Reading b (v y) k) (sym (own_same y f)) (subst (λ (d : Clock). Reading (is_in y own) d k) (sym (clock_same y f)) h)

  outer_same : (y : Name) → same x y ≡ false → Outer (is_in y own) (c y) → Outer (is_in y others) (v y)
  outer_same y f h = subst (λ (b : Bool). Outer b (v y)) (sym (own_same y f)) (subst (λ (d : Clock). Outer (is_in y own) d) (sym (clock_same y f)) h)

  read_same : (y : Name) → same x y ≡ false → read others v y ≡ read own c y
  read_same y f = ap (λ (b : Bool). if b then v y else []) (own_same y f) ∙ ap (λ (d : Clock). if is_in y own then d else []) (clock_same y f)

  sampled_same : (tag : Tag) (y : Name) → same x y ≡ false → sampled others v tag y ≡ sampled own c tag y
  sampled_same tag y f = ap (λ (k : Clock). k ++ record { tag = tag; name = y } ∷ []) (read_same y f)

  arguments_kept : (k : Clock) (es : List Expr) → Each Kept es → is_in x (flat_map mentions es) ≡ false → Arguments_stand own c k es → Arguments_stand others v k es
  arguments_kept k [] i f h = tt
  arguments_kept k (e ∷ es) i f h = (i.0 k (out_left x (mentions e) (flat_map mentions es) f) h.0, arguments_kept k es i.1 (out_right x (mentions e) (flat_map mentions es) f) h.1)

  values_kept : (y : Name) → same x y ≡ false → (bs : List MergeBranch) → Each (λ b. Kept b.value) bs → is_in x (flat_map (λ b. mentions b.value) bs) ≡ false → Values_stand own c y bs → Values_stand others v y bs
  values_kept y g [] i f h = tt
  values_kept y g (b ∷ bs) i f h = (
    i.0 (sampled others v b.tag y) (out_left x (mentions b.value) (flat_map (λ (b : MergeBranch). mentions b.value) bs) f)
        (subst (λ (k : Clock). Stands own c k b.value.form) (sym (sampled_same b.tag y g)) h.0),
    values_kept y g bs i.1 (out_right x (mentions b.value) (flat_map (λ (b : MergeBranch). mentions b.value) bs) f) h.1,
  )

  free : (ls ms : List Name) → ls ≡ ms → is_in x ls ≡ false → is_in x ms ≡ false
  free ls ms e f = ap (is_in x) (sym e) ∙ f

  kept_cases : Cases Kept
  unfolding static Stands Row_stands Branches_stand
  kept_cases = record {
    of_const = λ p q k f h. tt;
    of_var = λ p y k f h. reading_same y k (or_parts (same x y) false (free _ (y ∷ []) (mentions_Var p y) f)).0 h;
    of_last = λ p y k f h. reading_same y k (or_parts (same x y) false (free _ (y ∷ []) (mentions_Last p y) f)).0 h;
    of_unary = λ p op a i k f h. (i k (free _ (mentions a) (mentions_Unary p op a) f) h.0, tt);
    of_binary = λ p op a b i j k f h. let g = free _ (mentions a ++ mentions b) (mentions_Binary p op a b) f in
        ((i k (out_left x (mentions a) (mentions b) g) h.0.0, tt), (j k (out_right x (mentions a) (mentions b) g) h.1.0, tt));
    of_if = λ p t a b l i j k f h. let g = free _ (mentions t ++ mentions a ++ mentions b) (mentions_If p t a b) f in
        let first = out_left x (mentions t ++ mentions a) (mentions b) g in
        ((l k (out_left x (mentions t) (mentions a) first) h.0.0, tt), (i k (out_right x (mentions t) (mentions a) first) h.1.0, tt), (j k (out_right x (mentions t ++ mentions a) (mentions b) g) h.2.0, tt));
    of_fby = λ p a b i j k f h. let g = free _ (mentions a ++ mentions b) (mentions_Fby p a b) f in
        ((i k (out_left x (mentions a) (mentions b) g) h.0.0, tt), (j k (out_right x (mentions a) (mentions b) g) h.1.0, tt));
    of_pre = λ p a i k f h. (i k (free _ (mentions a) (mentions_Pre p a) f) h.0, tt);
    of_arrow = λ p a b i j k f h. let g = free _ (mentions a ++ mentions b) (mentions_Arrow p a b) f in
        ((i k (out_left x (mentions a) (mentions b) g) h.0.0, tt), (j k (out_right x (mentions a) (mentions b) g) h.1.0, tt));
    of_when = λ p a tag y i k f h. let q = or_parts (same x y) (is_in x (mentions a)) (free _ (y ∷ mentions a) (mentions_When p a tag y) f) in
        ((i (read others v y) q.1 (subst (λ (d : Clock). Stands own c d a.form) (sym (read_same y q.0)) h.0.0), tt), h.1 ∙ sym (sampled_same tag y q.0), outer_same y q.0 h.2);
    of_merge = λ p y bs i k f h. let q = or_parts (same x y) (is_in x (flat_map (λ (b : MergeBranch). mentions b.value) bs)) (free _ (y ∷ flat_map (λ b. mentions b.value) bs) (mentions_Merge p y bs) f) in
        (h.0 ∙ sym (read_same y q.0), outer_same y q.0 h.1, of_values others v y bs (values_kept y q.0 bs i q.1 (values_of own c y bs h.2)));
    of_call = λ p g args i k f h. of_arguments others v k args (arguments_kept k args i (free _ (flat_map mentions args) (mentions_Call p g args) f) (arguments_of own c k args h));
    of_async = λ p q g args i k f h. of_arguments others v k args (arguments_kept k args i (free _ (flat_map mentions args) (mentions_AsyncCall p q g args) f) (arguments_of own c k args h));
    of_ready = λ p q k f h. tt;
    of_get = λ p a i k f h. (i k (free _ (mentions a) (mentions_Get p a) f) h.0, tt);
  }

  pub stands_kept : (e : Expr) (k : Clock) → is_in x (mentions e) ≡ false → Stands own c k e.form → Stands others v k e.form
  stands_kept e k f h = by_forms Kept kept_cases e k f h
