-- What an expression reads once a subexpression of it is named.
use Rattle.std.proofs.Common.{◌≡◌, ℕ, zero, suc, true, false, List, [], ◌∷◌, ◌++◌, ◌-◌, length, take, refl, sym, subst, ◌⊎◌, inl, inr, ⊎_elim}
use Rattle.std.specs.List.{flat_map}
use Rattle.std.proofs.lemmas.List.{map-append}
use Rattle.hept_ast.specs.Texts.{Name, same, is_in}
use Rattle.hept_ast.specs.Scopes.{Clock}
use Rattle.hept_ast.specs.Causal.{reads}
use Rattle.hept_ast.specs.declared.tree.Tag.{Tag}
use Rattle.hept_ast.specs.declared.tree.ClockStep.{ClockStep}
use Rattle.hept_ast.specs.declared.tree.Expr.{Expr}
use Rattle.hept_ast.specs.declared.tree.MergeBranch.{MergeBranch}
use Rattle.hept_ast.proofs.ReadsOf.{reads-Var, reads-Pre, reads-Unary, reads-Binary, reads-If, reads-Fby, reads-Arrow, reads-When, reads-Get, reads-Merge, reads-Call, reads-AsyncCall}
use Rattle.core_rules.proofs.Ends.{same_is}
use Rattle.core_naming.specs.Names.{Names, variable_at}
use Rattle.core_naming.specs.Ties.{clock_names}
use Rattle.naming_rules.proofs.Names.{in_cases, in_left, in_right, never, or_cases, or_first, or_second}
use Rattle.naming_rules.proofs.NamedShapes.{NamedCases, branch_clock, by_names}

module _ (x : Name) (a : Expr) (d : Clock) where
  -- what is read includes what the subexpression and its clock read, but for these names
  pub record Passes (ns es : List Name) : Type 0 where
    pub own : (z : Name) → is_in z (reads a.form) ≡ true → is_in z es ≡ true
    pub clock : (z : Name) → is_in z (clock_names d) ≡ true → (is_in z ns ≡ true) ⊎ (is_in z es ≡ true)

  -- what is read after reads x, what was read before included, or nothing new
  pub record Moves (ns es rs : List Name) : Type 0 where
    pub old : (z : Name) → is_in z rs ≡ true → (z ≡ x) ⊎ (is_in z es ≡ true)
    pub through : is_in x rs ≡ true → (is_in x es ≡ true) ⊎ Passes ns es

  more : (ns es fs : List Name) → ((z : Name) → is_in z es ≡ true → is_in z fs ≡ true) → Passes ns es → Passes ns fs
  more ns es fs f p = record { own = λ z h. f z (p.own z h); clock = λ z h. ⊎_elim (λ i. inl i) (λ i. inr (f z i)) (p.clock z h) }

  unmoved : (ns es : List Name) → Moves ns es es
  unmoved ns es = record { old = λ z h. inr h; through = λ h. inl h }

  left : (ns es rs bs : List Name) → Moves ns es rs → Moves ns (es ++ bs) (rs ++ bs)
  left ns es rs bs m = record {
    old = λ z h. ⊎_elim (λ i. ⊎_elim (λ e. inl e) (λ j. inr (in_left z es bs j)) (m.old z i)) (λ i. inr (in_right z es bs i)) (in_cases z rs bs h);
    through = λ h. ⊎_elim (λ i. ⊎_elim (λ j. inl (in_left x es bs j)) (λ p. inr (more ns es (es ++ bs) (λ z j. in_left z es bs j) p)) (m.through i)) (λ i. inl (in_right x es bs i)) (in_cases x rs bs h);
  }

  right : (ns es rs bs : List Name) → Moves ns es rs → Moves ns (bs ++ es) (bs ++ rs)
  right ns es rs bs m = record {
    old = λ z h. ⊎_elim (λ i. inr (in_left z bs es i)) (λ i. ⊎_elim (λ e. inl e) (λ j. inr (in_right z bs es j)) (m.old z i)) (in_cases z bs rs h);
    through = λ h. ⊎_elim (λ i. inl (in_left x bs es i)) (λ i. ⊎_elim (λ j. inl (in_right x bs es j)) (λ p. inr (more ns es (bs ++ es) (λ z j. in_right z bs es j) p)) (m.through i)) (in_cases x bs rs h);
  }

  -- names that are read too, in place of names of a clock
  wider : (ns ms es rs : List Name) → ((z : Name) → is_in z ms ≡ true → is_in z ns ≡ true) → Moves ms es rs → Moves ns es rs
  wider ns ms es rs f m = record {
    old = m.old;
    through = λ h. ⊎_elim (λ i. inl i) (λ (p : Passes ms es). inr (record { own = p.own; clock = λ z j. ⊎_elim (λ k. inl (f z k)) (λ k. inr k) (p.clock z j) })) (m.through h);
  }

  read_too : (ns es rs : List Name) (y : Name) → Moves (ns ++ y ∷ []) es rs → Moves ns (y ∷ es) (y ∷ rs)
  read_too ns es rs y m = record {
    old = λ z h. ⊎_elim (λ i. inr (or_first (same z y) (is_in z es) i)) (λ i. ⊎_elim (λ e. inl e) (λ j. inr (or_second (same z y) (is_in z es) j)) (m.old z i)) (or_cases (same z y) (is_in z rs) h);
    through = λ h.
        ⊎_elim (λ i. inl (or_first (same x y) (is_in x es) i)) (λ i. ⊎_elim (λ j. inl (or_second (same x y) (is_in x es) j)) (λ p. inr (passes p)) (m.through i)) (or_cases (same x y) (is_in x rs) h);
  }
    where
      passes : Passes (ns ++ y ∷ []) es → Passes ns (y ∷ es)
      passes p = record {
        own = λ z h. or_second (same z y) (is_in z es) (p.own z h);
        clock = λ z h.
            ⊎_elim (λ i. ⊎_elim (λ j. inl j) (λ j. inr (⊎_elim (λ k. or_first (same z y) (is_in z es) k) (λ k. never refl k) (or_cases (same z y) false j))) (in_cases z ns (y ∷ []) i))
            (λ i. inr (or_second (same z y) (is_in z es) i)) (p.clock z h);
      }

  by : (ns ls es ks rs : List Name) → ls ≡ es → ks ≡ rs → Moves ns es rs → Moves ns ls ks
  by ns ls es ks rs e r m = subst (λ (l : List Name). Moves ns l ks) (sym e) (subst (λ (l : List Name). Moves ns es l) (sym r) m)

  shorter : (n : ℕ) (k : Clock) (z : Name) → is_in z (clock_names (take n k)) ≡ true → is_in z (clock_names k) ≡ true
  shorter zero k z h = never refl h
  shorter (suc n) [] z h = h
  shorter (suc n) (s ∷ k) z h =
      ⊎_elim (λ i. or_first (same z s.name) (is_in z (clock_names k)) i) (λ i. or_second (same z s.name) (is_in z (clock_names k)) (shorter n k z i))
      (or_cases (same z s.name) (is_in z (clock_names (take n k))) h)

  taken : (n : ℕ) (c : Clock) (es rs : List Name) → Moves (clock_names (take n c)) es rs → Moves (clock_names c) es rs
  taken n c es rs m = wider (clock_names c) (clock_names (take n c)) es rs (shorter n c) m

  at_branch : (c : Clock) (tag : Tag) (y : Name) (es rs : List Name) → Moves (clock_names (branch_clock c tag y)) es rs → Moves (clock_names c ++ y ∷ []) es rs
  at_branch c tag y es rs m = subst (λ (l : List Name). Moves l es rs) (map-append (λ (s : ClockStep). s.name) c (record { tag = tag; name = y } ∷ [])) m

  abbrev row : List Expr → List Name
  row es = flat_map (λ e. reads e.form) es

  abbrev values : List MergeBranch → List Name
  values bs = flat_map (λ b. reads b.value.form) bs

  named : Moves (clock_names d) (reads a.form) (x ∷ [])
  named = record {
    old = λ z h. ⊎_elim (λ i. inl (same_is z x i)) (λ i. never refl i) (or_cases (same z x) false h);
    through = λ h. inr (record { own = λ z i. i; clock = λ z i. inl i });
  }

  moved_cases : NamedCases x a d (λ c e r. Moves (clock_names c) (reads e.form) (reads r.form)) (λ c es ms. Moves (clock_names c) (row es) (row ms))
      (λ y c bs ms. Moves (clock_names c ++ y ∷ []) (values bs) (values ms))
  moved_cases = record {
    at_whole = by (clock_names d) (reads a.form) (reads a.form) (reads (variable_at a.place x).form) (x ∷ []) refl (reads-Var x) named;
    at_unary = λ c p op b m i. by (clock_names c) _ _ _ _ (reads-Unary op b) (reads-Unary op m) i;
    at_left = λ c p op b f m i. by (clock_names c) _ _ _ _ (reads-Binary op b f) (reads-Binary op m f) (left (clock_names c) (reads b.form) (reads m.form) (reads f.form) i);
    at_right = λ c p op b f m n i. by (clock_names c) _ _ _ _ (reads-Binary op b f) (reads-Binary op b m) (right (clock_names c) (reads f.form) (reads m.form) (reads b.form) i);
    at_condition = λ c p t b f m i. by (clock_names c) _ _ _ _ (reads-If t b f) (reads-If m b f)
        (left (clock_names c) (reads t.form ++ reads b.form) (reads m.form ++ reads b.form) (reads f.form) (left (clock_names c) (reads t.form) (reads m.form) (reads b.form) i));
    at_then = λ c p t b f m i. by (clock_names c) _ _ _ _ (reads-If t b f) (reads-If t m f)
        (left (clock_names c) (reads t.form ++ reads b.form) (reads t.form ++ reads m.form) (reads f.form) (right (clock_names c) (reads b.form) (reads m.form) (reads t.form) i));
    at_else = λ c p t b f m i. by (clock_names c) _ _ _ _ (reads-If t b f) (reads-If t b m) (right (clock_names c) (reads f.form) (reads m.form) (reads t.form ++ reads b.form) i);
    at_fby_first = λ c p b f m i. by (clock_names c) _ _ _ _ (reads-Fby b f) (reads-Fby m f) i;
    at_fby_next = λ c p b f m i. by (clock_names c) _ _ _ _ (reads-Fby b f) (reads-Fby b m) (unmoved (clock_names c) (reads b.form));
    at_pre = λ c p b m i. by (clock_names c) _ _ _ _ (reads-Pre b) (reads-Pre m) (unmoved (clock_names c) []);
    at_arrow_first = λ c p b f m i. by (clock_names c) _ _ _ _ (reads-Arrow b f) (reads-Arrow m f) (left (clock_names c) (reads b.form) (reads m.form) (reads f.form) i);
    at_arrow_next = λ c p b f m i. by (clock_names c) _ _ _ _ (reads-Arrow b f) (reads-Arrow b m) (right (clock_names c) (reads f.form) (reads m.form) (reads b.form) i);
    at_when = λ c p b m tag y i. by (clock_names c) _ _ _ _ (reads-When b tag y) (reads-When m tag y)
        (left (clock_names c) (reads b.form) (reads m.form) (y ∷ []) (taken (length c - 1) c (reads b.form) (reads m.form) i));
    at_merge = λ c p y bs ms i. by (clock_names c) _ _ _ _ (reads-Merge y bs) (reads-Merge y ms) (read_too (clock_names c) (values bs) (values ms) y i);
    at_call = λ c p f es ms i. by (clock_names c) _ _ _ _ (reads-Call f es) (reads-Call f ms) i;
    at_async = λ c p q f es ms i. by (clock_names c) _ _ _ _ (reads-AsyncCall q f es) (reads-AsyncCall q f ms) i;
    at_get = λ c p b m i. by (clock_names c) _ _ _ _ (reads-Get b) (reads-Get m) i;
    this_one = λ c e m es i. left (clock_names c) (reads e.form) (reads m.form) (row es) i;
    later_one = λ c e es ms i. right (clock_names c) (row es) (row ms) (reads e.form) i;
    this_value = λ y c p tag e m bs i. left (clock_names c ++ y ∷ []) (reads e.form) (reads m.form) (values bs) (at_branch c tag y (reads e.form) (reads m.form) i);
    later_value = λ y c b bs ms i. right (clock_names c ++ y ∷ []) (values bs) (values ms) (reads b.value.form) i;
  }

  pub reads_moved : (c : Clock) (e r : Expr) → Names x a d c e r → Moves (clock_names c) (reads e.form) (reads r.form)
  reads_moved c e r h = by_names x a d _ _ _ moved_cases c e r h
