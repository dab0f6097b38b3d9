-- Naming a subexpression takes it and those inside it away.
use Rattle.std.proofs.Common.{◌≡◌, ◌+◌, ℕ, Bool, true, false, cond, not, List, [], ◌∷◌, ◌++◌, refl, sym, ap, ◌∙◌, arith}
use Rattle.std.specs.List.{flat_map}
use Rattle.std.proofs.lemmas.Bool.{false≢true}
use Rattle.std.proofs.lemmas.List.Sums.{sum_by-cons, sum_by-append}
use Rattle.hept_ast.specs.Texts.{Name}
use Rattle.hept_ast.specs.Scopes.{Clock}
use Rattle.hept_ast.specs.Parts.{below, inside}
use Rattle.hept_ast.specs.declared.tree.Expr.{Expr}
use Rattle.hept_ast.specs.declared.tree.MergeBranch.{MergeBranch}
use Rattle.hept_ast.specs.declared.tree.Form.{Form, out-Form, roll-Form}
use Rattle.hept_ast.specs.declared.tree.Form.TheOpen.{Form-F}
use Rattle.hept_ast.specs.declared.tree.Form.TheVariants as form
use Rattle.hept_ast.proofs.FormsOf.{below-Var, below-Unary, below-Binary, below-If, below-Fby, below-Pre, below-Arrow, below-When, below-Merge, below-Call, below-AsyncCall, below-Get}
use Rattle.core_naming.specs.Names.{Names, NamesArgument, NamesBranch, variable_at, whole, in_unary, in_left, in_right, in_condition, in_then, in_else, in_fby_first, in_fby_next, in_pre, in_arrow_first, in_arrow_next, in_when, in_merge, in_call, in_async_call, in_get, this_argument, later_argument, this_branch, later_branch}
use Rattle.core_naming.specs.Normal.{is_simple}
use Rattle.normal_form.specs.Sizes.{NamingShrinks, large_count, large_inside}
use Rattle.normal_form.proofs.Views.{by_view, out_Var}

abbrev large : Expr → ℕ
large e = cond (not (is_simple (out-Form e.form))) 1 0

pub count_more : (e : Expr) (es : List Expr) → large_count (e ∷ es) ≡ large e + large_count es
unfolding large_count
count_more e es = sum_by-cons (λ (b : Expr). cond (not (is_simple (out-Form b.form))) 1 0) e es

pub count_append : (es fs : List Expr) → large_count (es ++ fs) ≡ large_count es + large_count fs
unfolding large_count
count_append es fs = sum_by-append (λ (b : Expr). cond (not (is_simple (out-Form b.form))) 1 0) es fs

count_none : large_count [] ≡ 0
unfolding large_count
count_none = refl

large_one : (e : Expr) → is_simple (out-Form e.form) ≡ false → large e ≡ 1
large_one e h = ap (λ (b : Bool). cond (not b) 1 0) h

large_zero : (e : Expr) → is_simple (out-Form e.form) ≡ true → large e ≡ 0
large_zero e h = ap (λ (b : Bool). cond (not b) 1 0) h

-- a large expression and what is inside it
pub count_inside : (e : Expr) → is_simple (out-Form e.form) ≡ false → large_count (inside e) ≡ 1 + large_inside e
count_inside e h = count_more e (below e.form) ∙ ap (λ (n : ℕ). n + large_count (below e.form)) (large_one e h)

count_by_form : (e : Expr) (f : Form) (v : Form-F Form Expr MergeBranch) (es : List Expr) → out-Form e.form ≡ v → roll-Form v ≡ f → below f ≡ es → is_simple v ≡ false →
    large_count (inside e) ≡ 1 + large_count es
count_by_form e f v es o g b s = count_inside e (ap is_simple o ∙ s) ∙ ap (λ (l : List Expr). 1 + large_count l) (ap below (by_view e.form v f o g) ∙ b)

count_variable : (e : Expr) (x : Name) → e.form ≡ form.Var x → large_count (inside e) ≡ 0
count_variable e x h =
    count_more e (below e.form) ∙ ap (λ (n : ℕ). n + large_count (below e.form)) (large_zero e (ap (λ (f : Form). is_simple (out-Form f)) h ∙ ap is_simple (out_Var x)))
    ∙ ap (λ (l : List Expr). 0 + large_count l) (ap below h ∙ below-Var x) ∙ ap (λ (n : ℕ). 0 + n) count_none

abbrev values : List MergeBranch → List Expr
values bs = flat_map (λ b. inside b.value) bs

module _ (k : ℕ) where
  left : (ms bs fs : List Expr) → large_count ms + k ≡ large_count bs → large_count (ms ++ fs) + k ≡ large_count (bs ++ fs)
  left ms bs fs h = omega (arith, h, count_append ms fs, count_append bs fs)

  right : (fs ms bs : List Expr) → large_count ms + k ≡ large_count bs → large_count (fs ++ ms) + k ≡ large_count (fs ++ bs)
  right fs ms bs h = omega (arith, h, count_append fs ms, count_append fs bs)

  around : (e r : Expr) (f g : Form) (v w : Form-F Form Expr MergeBranch) (es rs : List Expr) → out-Form e.form ≡ v → out-Form r.form ≡ w → roll-Form v ≡ f → roll-Form w ≡ g → below f ≡ es → below g ≡ rs →
      is_simple v ≡ false → is_simple w ≡ false → large_count rs + k ≡ large_count es → large_count (inside r) + k ≡ large_count (inside e)
  around e r f g v w es rs i j p q b c s t h =
      let old : large_count (inside e) ≡ 1 + large_count es = count_by_form e f v es i p b s in
      let new : large_count (inside r) ≡ 1 + large_count rs = count_by_form r g w rs j q c t in
      omega (arith, h, old, new)

module _ (x : Name) (a : Expr) (d : Clock) where
  abbrev k : ℕ
  k = large_count (inside a)

  mutual
    pub counts : (c : Clock) (e r : Expr) → Names x a d c e r → large_count (inside r) + k ≡ large_count (inside e)
    counts _ _ _ whole = let z = count_variable (variable_at a.place x) x refl in omega (arith, z)
    counts c e r (in_unary {b = b} {m = m} {op = op} p i j h) =
        around k e r _ _ _ _ (inside b) (inside m) i j (form.rolls-Unary op b) (form.rolls-Unary op m) (below-Unary op b) (below-Unary op m) refl refl (counts c b m h)
    counts c e r (in_left {b = b} {f = f} {m = m} {op = op} p i j h) =
        around k e r _ _ _ _ (inside b ++ inside f) (inside m ++ inside f) i j (form.rolls-Binary op b f) (form.rolls-Binary op m f) (below-Binary op b f) (below-Binary op m f) refl refl
        (left k (inside m) (inside b) (inside f) (counts c b m h))
    counts c e r (in_right {b = b} {f = f} {m = m} {op = op} p i j h) =
        around k e r _ _ _ _ (inside b ++ inside f) (inside b ++ inside m) i j (form.rolls-Binary op b f) (form.rolls-Binary op b m) (below-Binary op b f) (below-Binary op b m) refl refl
        (right k (inside b) (inside m) (inside f) (counts c f m h))
    counts c e r (in_condition {i = t} {b = b} {f = f} {m = m} p i j h) =
        around k e r _ _ _ _ (inside t ++ inside b ++ inside f) (inside m ++ inside b ++ inside f) i j (form.rolls-If t b f) (form.rolls-If m b f) (below-If t b f) (below-If m b f) refl refl
        (left k (inside m ++ inside b) (inside t ++ inside b) (inside f) (left k (inside m) (inside t) (inside b) (counts c t m h)))
    counts c e r (in_then {i = t} {b = b} {f = f} {m = m} p i j h) =
        around k e r _ _ _ _ (inside t ++ inside b ++ inside f) (inside t ++ inside m ++ inside f) i j (form.rolls-If t b f) (form.rolls-If t m f) (below-If t b f) (below-If t m f) refl refl
        (left k (inside t ++ inside m) (inside t ++ inside b) (inside f) (right k (inside t) (inside m) (inside b) (counts c b m h)))
    counts c e r (in_else {i = t} {b = b} {f = f} {m = m} p i j h) =
        around k e r _ _ _ _ (inside t ++ inside b ++ inside f) (inside t ++ inside b ++ inside m) i j (form.rolls-If t b f) (form.rolls-If t b m) (below-If t b f) (below-If t b m) refl refl
        (right k (inside t ++ inside b) (inside m) (inside f) (counts c f m h))
    counts c e r (in_fby_first {b = b} {f = f} {m = m} p i j h) =
        around k e r _ _ _ _ (inside b ++ inside f) (inside m ++ inside f) i j (form.rolls-Fby b f) (form.rolls-Fby m f) (below-Fby b f) (below-Fby m f) refl refl
        (left k (inside m) (inside b) (inside f) (counts c b m h))
    counts c e r (in_fby_next {b = b} {f = f} {m = m} p i j h) =
        around k e r _ _ _ _ (inside b ++ inside f) (inside b ++ inside m) i j (form.rolls-Fby b f) (form.rolls-Fby b m) (below-Fby b f) (below-Fby b m) refl refl
        (right k (inside b) (inside m) (inside f) (counts c f m h))
    counts c e r (in_pre {b = b} {m = m} p i j h) =
        around k e r _ _ _ _ (inside b) (inside m) i j (form.rolls-Pre b) (form.rolls-Pre m) (below-Pre b) (below-Pre m) refl refl (counts c b m h)
    counts c e r (in_arrow_first {b = b} {f = f} {m = m} p i j h) =
        around k e r _ _ _ _ (inside b ++ inside f) (inside m ++ inside f) i j (form.rolls-Arrow b f) (form.rolls-Arrow m f) (below-Arrow b f) (below-Arrow m f) refl refl
        (left k (inside m) (inside b) (inside f) (counts c b m h))
    counts c e r (in_arrow_next {b = b} {f = f} {m = m} p i j h) =
        around k e r _ _ _ _ (inside b ++ inside f) (inside b ++ inside m) i j (form.rolls-Arrow b f) (form.rolls-Arrow b m) (below-Arrow b f) (below-Arrow b m) refl refl
        (right k (inside b) (inside m) (inside f) (counts c f m h))
    counts c e r (in_when {b = b} {m = m} {tag = tag} {y = y} p i j h) =
        around k e r _ _ _ _ (inside b) (inside m) i j (form.rolls-When b tag y) (form.rolls-When m tag y) (below-When b tag y) (below-When m tag y) refl refl (counts _ b m h)
    counts c e r (in_merge {y = y} {bs = bs} {ms = ms} p i j h) =
        around k e r _ _ _ _ (values bs) (values ms) i j (form.rolls-Merge y bs) (form.rolls-Merge y ms) (below-Merge y bs) (below-Merge y ms) refl refl (counts_branches y c bs ms h)
    counts c e r (in_call {f = f} {es = es} {ms = ms} p i j h) =
        around k e r _ _ _ _ (flat_map inside es) (flat_map inside ms) i j (form.rolls-Call f es) (form.rolls-Call f ms) (below-Call f es) (below-Call f ms) refl refl (counts_arguments c es ms h)
    counts c e r (in_async_call {q = q} {f = f} {es = es} {ms = ms} p i j h) =
        around k e r _ _ _ _ (flat_map inside es) (flat_map inside ms) i j (form.rolls-AsyncCall q f es) (form.rolls-AsyncCall q f ms) (below-AsyncCall q f es) (below-AsyncCall q f ms) refl refl
        (counts_arguments c es ms h)
    counts c e r (in_get {b = b} {m = m} p i j h) =
        around k e r _ _ _ _ (inside b) (inside m) i j (form.rolls-Get b) (form.rolls-Get m) (below-Get b) (below-Get m) refl refl (counts c b m h)

    counts_arguments : (c : Clock) (es ms : List Expr) → NamesArgument x a d c es ms → large_count (flat_map inside ms) + k ≡ large_count (flat_map inside es)
    counts_arguments c _ _ (this_argument {e = e} {m = m} {es = es} h) = left k (inside m) (inside e) (flat_map inside es) (counts c e m h)
    counts_arguments c _ _ (later_argument {e = e} {es = es} {ms = ms} h) = right k (inside e) (flat_map inside ms) (flat_map inside es) (counts_arguments c es ms h)

    counts_branches : (y : Name) (c : Clock) (bs ms : List MergeBranch) → NamesBranch x a d y c bs ms → large_count (values ms) + k ≡ large_count (values bs)
    counts_branches y c _ _ (this_branch {b = b} {m = m} {bs = bs} p t h) = left k (inside m.value) (inside b.value) (values bs) (counts _ b.value m.value h)
    counts_branches y c _ _ (later_branch {b = b} {bs = bs} {ms = ms} h) = right k (inside b.value) (values ms) (values bs) (counts_branches y c bs ms h)

-- what is named in stays large, where the whole is not named
root_was_large : (x : Name) (a : Expr) (d c : Clock) (e r : Expr) → Names x a d c e r → is_simple (out-Form r.form) ≡ false → is_simple (out-Form e.form) ≡ false
root_was_large x a d _ _ _ whole s = absurd (false≢true (sym s ∙ ap is_simple (out_Var x)))
root_was_large x a d c e r (in_unary p i j h) s = ap is_simple i
root_was_large x a d c e r (in_left p i j h) s = ap is_simple i
root_was_large x a d c e r (in_right p i j h) s = ap is_simple i
root_was_large x a d c e r (in_condition p i j h) s = ap is_simple i
root_was_large x a d c e r (in_then p i j h) s = ap is_simple i
root_was_large x a d c e r (in_else p i j h) s = ap is_simple i
root_was_large x a d c e r (in_fby_first p i j h) s = ap is_simple i
root_was_large x a d c e r (in_fby_next p i j h) s = ap is_simple i
root_was_large x a d c e r (in_pre p i j h) s = ap is_simple i
root_was_large x a d c e r (in_arrow_first p i j h) s = ap is_simple i
root_was_large x a d c e r (in_arrow_next p i j h) s = ap is_simple i
root_was_large x a d c e r (in_when p i j h) s = ap is_simple i
root_was_large x a d c e r (in_merge p i j h) s = ap is_simple i
root_was_large x a d c e r (in_call p i j h) s = ap is_simple i
root_was_large x a d c e r (in_async_call p i j h) s = ap is_simple i
root_was_large x a d c e r (in_get p i j h) s = ap is_simple i

pub naming_shrinks : NamingShrinks
naming_shrinks x a d c e r h s t =
    let all : large_count (inside r) + large_count (inside a) ≡ large_count (inside e) = counts x a d c e r h in
    let old : large_count (inside e) ≡ 1 + large_inside e = count_inside e (root_was_large x a d c e r h t) in
    let new : large_count (inside r) ≡ 1 + large_inside r = count_inside r t in
    let own : large_count (inside a) ≡ 1 + large_inside a = count_inside a s in
    omega (arith, all, old, new, own)

-- what is named is not the whole, where that stays large
pub not_the_whole : (x : Name) (a : Expr) (d c : Clock) (e r : Expr) → Names x a d c e r → is_simple (out-Form r.form) ≡ false → e ≡ a → ⊥
not_the_whole x a d c e r h t w =
    let all : large_count (inside r) + large_count (inside a) ≡ large_count (inside e) = counts x a d c e r h in
    let new : large_count (inside r) ≡ 1 + large_inside r = count_inside r t in
    let same : large_count (inside e) ≡ large_count (inside a) = ap (λ (q : Expr). large_count (inside q)) w in
    omega (arith, all, new, same)
