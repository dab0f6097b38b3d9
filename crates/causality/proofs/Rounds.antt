-- The rounds by which the variables that may be undefined are found.
use Rattle.std.proofs.Common.{◌≡◌, ◌+◌, ◌≤◌, List, [], ◌∷◌, ◌++◌, length, refl, sym, ◌∙◌, ap, subst, arith, Bool, true, false, ◌||◌, if◌then◌else◌, inl, inr}
use Rattle.std.specs.Prelude.{IsTrue}
use Rattle.std.specs.List.{list_any}
use Rattle.std.proofs.lemmas.List.Folds.{list_any-append}
use Rattle.hept_ast.specs.Texts.{Name, same, is_in}
use Rattle.hept_ast.specs.Initial.{Grades, grade, grade_row, grade_branches}
use Rattle.hept_ast.specs.declared.tree.Expr.{Expr}
use Rattle.hept_ast.specs.declared.tree.Form.{Form, Const, Var, Last, Unary', Binary', If', Fby', Pre', Arrow', When', Merge', Call', AsyncCall', AsyncConst, Get', Row_of-Expr, end_of-Expr, more_of-Expr, Row_of-MergeBranch, end_of-MergeBranch, more_of-MergeBranch}
use Rattle.hept_ast.proofs.Unfolded.{static}
use Rattle.causality.specs.Flows.{DataFlow}
use Rattle.causality.specs.Rounds.{lefts_where, is_nil, next_nil, rights, AreGradesOf, AreBelow, IsRound, AreNil}
use Rattle.causality.proofs.Lists.{or_left, or_right, or_up, or_either}

-- what may be undefined still may be where more variables may be
mutual
  unfolding static

  pub rises : (g h : Grades) → ((x : Name) → IsTrue (g x) → IsTrue (h x)) → (f : Form) → IsTrue (grade g f) → IsTrue (grade h f)
  rises g h up (Const k) e = e
  rises g h up (Var x) e = up x e
  rises g h up (Last x) e = e
  rises g h up (Unary' op s a) e = rises_row g h up a e
  rises g h up (Binary' op s a t b) e = or_up _ _ _ _ (rises_row g h up a) (rises_row g h up b) e
  rises g h up (If' s c t a u b) e = or_up _ _ _ _ (or_up _ _ _ _ (rises_row g h up c) (rises_row g h up a)) (rises_row g h up b) e
  rises g h up (Fby' s a t b) e = rises_row g h up a e
  rises g h up (Pre' s a) e = refl
  rises g h up (Arrow' s a t b) e = rises_row g h up a e
  rises g h up (When' s a tag x) e = rises_row g h up a e
  rises g h up (Merge' x s bs) e = rises_branches g h up bs e
  rises g h up (Call' f s args) e = e
  rises g h up (AsyncCall' q f s args) e = e
  rises g h up (AsyncConst k) e = e
  rises g h up (Get' s a) e = rises_row g h up a e

  rises_row : {n : _} (g h : Grades) → ((x : Name) → IsTrue (g x) → IsTrue (h x)) → (row : Row_of-Expr n) → IsTrue (grade_row g row) → IsTrue (grade_row h row)
  rises_row g h up end_of-Expr e = e
  rises_row g h up (more_of-Expr p form rest) e = or_up _ _ _ _ (rises g h up form) (rises_row g h up rest) e

  rises_branches : {n : _} (g h : Grades) → ((x : Name) → IsTrue (g x) → IsTrue (h x)) → (row : Row_of-MergeBranch n) → IsTrue (grade_branches g row) → IsTrue (grade_branches h row)
  rises_branches g h up end_of-MergeBranch e = e
  rises_branches g h up (more_of-MergeBranch p tag q form rest) e = or_up _ _ _ _ (rises g h up form) (rises_branches g h up rest) e

-- ---- what some equations define

where_more : (b c : Bool) (left : List Name) (x : Name) → (b ≡ true → c ≡ true) → is_in x (if b then left else []) ≡ true → is_in x (if c then left else []) ≡ true
where_more true c left x u e = subst (λ t. is_in x (if t then left else []) ≡ true) (sym (u refl)) e
where_more false c left x u e = cc

pub in_more : (c d : DataFlow → Bool) → ((f : DataFlow) → IsTrue (c f) → IsTrue (d f)) → (flows : List DataFlow) (x : Name) → IsTrue (is_in x (lefts_where c flows)) → IsTrue (is_in x (lefts_where d flows))
in_more c d up [] x e = e
in_more c d up (f ∷ fs) x e =
    list_any-append (same x) (if d f then f.left else []) (lefts_where d fs)
    ∙ or_up _ _ _ _ (where_more (c f) (d f) f.left x (up f)) (in_more c d up fs x) (sym (list_any-append (same x) (if c f then f.left else []) (lefts_where c fs)) ∙ e)

length_where : (b c : Bool) (left : List Name) → (b ≡ true → c ≡ true) → length (if b then left else []) ≤ length (if c then left else [])
length_where true true left u = omega arith
length_where true false left u = let e = u refl in cc
length_where false c left u = omega arith

length_more : (xs ys : List Name) → length (xs ++ ys) ≡ length xs + length ys
length_more [] ys = omega arith
length_more (x ∷ xs) ys = let e = length_more xs ys in omega arith

pub longer : (c d : DataFlow → Bool) → ((f : DataFlow) → IsTrue (c f) → IsTrue (d f)) → (flows : List DataFlow) → length (lefts_where c flows) ≤ length (lefts_where d flows)
longer c d up [] = omega arith
longer c d up (f ∷ fs) =
    let h = length_where (c f) (d f) f.left (up f) in
    let t = longer c d up fs in
    omega (arith, length_more (if c f then f.left else []) (lefts_where c fs), length_more (if d f then f.left else []) (lefts_where d fs))

no_length : (xs : List Name) → length xs ≡ 0 → xs ≡ []
no_length [] e = refl
no_length (x ∷ xs) e = absurd (omega arith)

same_where : (b c : Bool) (left : List Name) → (b ≡ true → c ≡ true) → length (if b then left else []) ≡ length (if c then left else []) → (if b then left else []) ≡ (if c then left else [])
same_where true true left u e = refl
same_where true false left u e = let k = u refl in cc
same_where false true left u e = sym (no_length left (sym e))
same_where false false left u e = refl

pub same_length : (c d : DataFlow → Bool) → ((f : DataFlow) → IsTrue (c f) → IsTrue (d f)) → (flows : List DataFlow) → length (lefts_where c flows) ≡ length (lefts_where d flows) → lefts_where c flows ≡ lefts_where d flows
same_length c d up [] e = refl
same_length c d up (f ∷ fs) e =
    let h = length_where (c f) (d f) f.left (up f) in
    let t = longer c d up fs in
    let k = length_more (if c f then f.left else []) (lefts_where c fs) in
    let m = length_more (if d f then f.left else []) (lefts_where d fs) in
    let first : length (if c f then f.left else []) ≡ length (if d f then f.left else []) = omega (arith, h, t, k, m, e) in
    let rest : length (lefts_where c fs) ≡ length (lefts_where d fs) = omega (arith, h, t, k, m, e) in
    ap (λ t. t ++ lefts_where c fs) (same_where (c f) (d f) f.left (up f) first) ∙ ap (λ t. (if d f then f.left else []) ++ t) (same_length c d up fs rest)

none_where : (flows : List DataFlow) → [] ≡ lefts_where (λ f. false) flows
none_where [] = refl
none_where (f ∷ fs) = none_where fs

-- ---- below all grades

holds_where : (b : Bool) (left : List Name) (x : Name) → is_in x (if b then left else []) ≡ true → (b ≡ true) × (is_in x left ≡ true)
holds_where true left x e = (refl, e)
holds_where false left x e = cc

module _ (flows : List DataFlow) (nil : List Name) (h : Grades) (up : (x : Name) → IsTrue (is_in x nil) → IsTrue (h x)) where
  found_in : (x : Name) (fs : List DataFlow) → is_in x (next_nil fs nil) ≡ true → list_any (λ e. grade h e.form) (rights fs x) ≡ true
  found_in x [] e = e
  found_in x (f ∷ fs) e =
      list_any-append (λ (e : Expr). grade h e.form) (if is_in x f.left then f.right ∷ [] else []) (rights fs x)
      ∙ elim (or_either _ _ (sym (list_any-append (same x) (if is_nil nil f then f.left else []) (next_nil fs nil)) ∙ e)) [
        | inl q ↦
            let p = holds_where (is_nil nil f) f.left x q in
            let k : grade h f.right.form ≡ true = rises (λ y. is_in y nil) h up f.right.form p.0 in
            or_left _ _ (subst (λ t. list_any (λ (e : Expr). grade h e.form) (if t then f.right ∷ [] else []) ≡ true) (sym p.1) (or_left _ _ k))
        | inr q ↦ or_right _ _ (found_in x fs q)
      ]

pub below_next : (flows : List DataFlow) (nil : List Name) → AreBelow flows nil → AreBelow flows (next_nil flows nil)
below_next flows nil below h are x e = are x ∙ found_in flows nil h (below h are) x flows e

-- ---- rounds

pub no_round : (flows : List DataFlow) → IsRound flows []
no_round flows = record { counted = λ f. false; is = none_where flows; again = λ f e. cc; below = λ h are x e. cc }

pub next_round : (flows : List DataFlow) (nil : List Name) → IsRound flows nil → IsRound flows (next_nil flows nil)
next_round flows nil r = record {
  counted = is_nil nil;
  is = refl;
  again = λ f e. rises (λ x. is_in x nil) (λ x. is_in x (next_nil flows nil)) (λ x k. in_more r.counted (is_nil nil) r.again flows x (subst (λ t. is_in x t ≡ true) r.is k)) f.right.form e;
  below = below_next flows nil r.below;
}

pub round_longer : (flows : List DataFlow) (nil : List Name) → IsRound flows nil → length nil ≤ length (next_nil flows nil)
round_longer flows nil r = subst (λ t. length t ≤ length (next_nil flows nil)) (sym r.is) (longer r.counted (is_nil nil) r.again flows)

pub round_within : (flows : List DataFlow) (nil : List Name) → length (next_nil flows nil) ≤ length (lefts_where (λ f. true) flows)
round_within flows nil = longer (is_nil nil) (λ f. true) (λ f e. refl) flows

pub round_ends : (flows : List DataFlow) (nil : List Name) → IsRound flows nil → length (next_nil flows nil) ≡ length nil → AreNil flows nil
round_ends flows nil r e = record {
  stays = sym (same_length r.counted (is_nil nil) r.again flows (ap length (sym r.is) ∙ sym e)) ∙ sym r.is;
  below = r.below;
}

-- ---- the grades that are found

met_where : (g : Grades) (x : Name) (left : List Name) (right : Expr) (c i : Bool) → grade g right.form ≡ c → is_in x left ≡ i
    → is_in x (if c then left else []) ≡ list_any (λ (e : Expr). grade g e.form) (if i then right ∷ [] else [])
met_where g x left right true true ec ei = ei ∙ sym (ap (λ t. t || false) ec)
met_where g x left right true false ec ei = ei
met_where g x left right false true ec ei = sym (ap (λ t. t || false) ec)
met_where g x left right false false ec ei = refl

met_by : (g : Grades) (x : Name) (flows : List DataFlow) → is_in x (lefts_where (λ f. grade g f.right.form) flows) ≡ list_any (λ e. grade g e.form) (rights flows x)
met_by g x [] = refl
met_by g x (f ∷ fs) =
    list_any-append (same x) (if grade g f.right.form then f.left else []) (lefts_where (λ f. grade g f.right.form) fs)
    ∙ (ap (λ t. t || is_in x (lefts_where (λ f. grade g f.right.form) fs)) (met_where g x f.left f.right (grade g f.right.form) (is_in x f.left) refl refl)
    ∙ (ap (λ t. list_any (λ (e : Expr). grade g e.form) (if is_in x f.left then f.right ∷ [] else []) || t) (met_by g x fs)
    ∙ sym (list_any-append (λ (e : Expr). grade g e.form) (if is_in x f.left then f.right ∷ [] else []) (rights fs x))))

pub are_grades : (flows : List DataFlow) (nil : List Name) → AreNil flows nil → AreGradesOf flows (λ x. is_in x nil)
are_grades flows nil a x = ap (is_in x) (sym a.stays) ∙ met_by (λ y. is_in y nil) x flows
