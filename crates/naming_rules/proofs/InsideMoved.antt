-- The expressions inside one, once a subexpression of it is named.
use Rattle.std.proofs.Common.{◌≡◌, Bool, true, false, ◌||◌, List, [], ◌∷◌, ◌++◌, refl, sym, ap, subst, ◌∙◌, append_assoc, append-nil}
use Rattle.std.specs.List.{flat_map, list_any}
use Rattle.std.proofs.lemmas.List.Folds.{list_any-append}
use Rattle.hept_ast.specs.Texts.{Name}
use Rattle.hept_ast.specs.Scopes.{Clock}
use Rattle.hept_ast.specs.Parts.{below, inside}
use Rattle.hept_ast.specs.Faults.{called}
use Rattle.hept_ast.specs.declared.name.Place.{Place}
use Rattle.hept_ast.specs.declared.tree.Expr.{Expr}
use Rattle.hept_ast.specs.declared.tree.MergeBranch.{MergeBranch}
use Rattle.hept_ast.specs.declared.tree.Form.{Form, out-Form}
use Rattle.hept_ast.specs.declared.tree.Form.TheOpen.{Form-F}
use Rattle.hept_ast.specs.declared.tree.Form.TheVariants as form
use Rattle.hept_ast.proofs.CalledForms.{called-Var, called-Unary, called-Binary, called-If, called-Fby, called-Pre, called-Arrow, called-When, called-Merge, called-Call, called-AsyncCall, called-Get}
use Rattle.hept_ast.proofs.FormsOf.{below-Var, below-Unary, below-Binary, below-If, below-Fby, below-Pre, below-Arrow, below-When, below-Merge, below-Call, below-AsyncCall, below-Get}
use Rattle.core_rules.specs.WellFormed.{IsNoLast}
use Rattle.core_naming.specs.Names.{Names, variable_at}
use Rattle.naming_rules.proofs.Shapes.{Each, at, out_Var, out_Unary, out_Binary, out_If, out_Fby, out_Pre, out_Arrow, out_When, out_Merge, out_Call, out_AsyncCall, out_Get}
use Rattle.naming_rules.proofs.Lists.{each_left, each_right}
use Rattle.naming_rules.proofs.Names.{flat_append}
use Rattle.naming_rules.proofs.NamedShapes.{NamedCases, by_names}

abbrev pub NoLast : Expr → Type 0
NoLast e = IsNoLast (out-Form e.form)

abbrev pub calls_in : Expr → List Name
calls_in e = called e.form

-- an expression that calls the same, and is no `last`
pub record SameHead (e r : Expr) : Type 0 where
  pub calls : calls_in r ≡ calls_in e
  pub last : NoLast r

module _ (x : Name) (a : Expr) (d : Clock) where
  -- the same list with the variable for what is named and all inside it
  pub data Changed : List Expr → List Expr → Type 0 where
    here : (rest : List Expr) → Changed (inside a ++ rest) (variable_at a.place x ∷ rest)
    next : {es rs : List Expr} (e : Expr) → Changed es rs → Changed (e ∷ es) (e ∷ rs)
    around : {es rs : List Expr} (e r : Expr) → SameHead e r → Changed es rs → Changed (e ∷ es) (r ∷ rs)

  left : (es rs bs : List Expr) → Changed es rs → Changed (es ++ bs) (rs ++ bs)
  left es rs bs (here rest) = subst (λ (l : List Expr). Changed l (variable_at a.place x ∷ (rest ++ bs))) (sym (append_assoc (inside a) rest bs)) (here (rest ++ bs))
  left es rs bs (next {es = fs} {rs = ss} e h) = next e (left fs ss bs h)
  left es rs bs (around {es = fs} {rs = ss} e r s h) = around e r s (left fs ss bs h)

  right : (bs es rs : List Expr) → Changed es rs → Changed (bs ++ es) (bs ++ rs)
  right [] es rs h = h
  right (b ∷ bs) es rs h = next b (right bs es rs h)

  by : (p : Place) (f g : Form) (w : Form-F Form Expr MergeBranch) (es rs : List Expr) (fs : List Name) → below f ≡ es → below g ≡ rs → called f ≡ fs → called g ≡ fs → out-Form g ≡ w → IsNoLast w →
      Changed es rs → Changed (inside (at p f)) (inside (at p g))
  by p f g w es rs fs b c k l o n h =
      around (at p f) (at p g) (record { calls = l ∙ sym k; last = subst IsNoLast (sym o) n })
      (subst (λ (z : List Expr). Changed z (below g)) (sym b) (subst (λ (z : List Expr). Changed es z) (sym c) h))

  abbrev values : List MergeBranch → List Expr
  values bs = flat_map (λ b. inside b.value) bs

  changed_cases : NamedCases x a d (λ c e r. Changed (inside e) (inside r)) (λ c es ms. Changed (flat_map inside es) (flat_map inside ms)) (λ y c bs ms. Changed (values bs) (values ms))
  changed_cases = record {
    at_whole = at_all;
    at_unary = λ c p op b m i. by p (form.Unary op b) (form.Unary op m) _ (inside b) (inside m) [] (below-Unary op b) (below-Unary op m) (called-Unary op b) (called-Unary op m) (out_Unary op m) tt i;
    at_left = λ c p op b f m i. by p (form.Binary op b f) (form.Binary op m f) _ (inside b ++ inside f) (inside m ++ inside f) [] (below-Binary op b f) (below-Binary op m f) (called-Binary op b f) (called-Binary op m f)
        (out_Binary op m f) tt (left (inside b) (inside m) (inside f) i);
    at_right = λ c p op b f m n i. by p (form.Binary op b f) (form.Binary op b m) _ (inside b ++ inside f) (inside b ++ inside m) [] (below-Binary op b f) (below-Binary op b m) (called-Binary op b f) (called-Binary op b m)
        (out_Binary op b m) tt (right (inside b) (inside f) (inside m) i);
    at_condition = λ c p t b f m i. by p (form.If t b f) (form.If m b f) _ (inside t ++ inside b ++ inside f) (inside m ++ inside b ++ inside f) [] (below-If t b f) (below-If m b f) (called-If t b f) (called-If m b f)
        (out_If m b f) tt (left (inside t ++ inside b) (inside m ++ inside b) (inside f) (left (inside t) (inside m) (inside b) i));
    at_then = λ c p t b f m i. by p (form.If t b f) (form.If t m f) _ (inside t ++ inside b ++ inside f) (inside t ++ inside m ++ inside f) [] (below-If t b f) (below-If t m f) (called-If t b f) (called-If t m f)
        (out_If t m f) tt (left (inside t ++ inside b) (inside t ++ inside m) (inside f) (right (inside t) (inside b) (inside m) i));
    at_else = λ c p t b f m i. by p (form.If t b f) (form.If t b m) _ (inside t ++ inside b ++ inside f) (inside t ++ inside b ++ inside m) [] (below-If t b f) (below-If t b m) (called-If t b f) (called-If t b m)
        (out_If t b m) tt (right (inside t ++ inside b) (inside f) (inside m) i);
    at_fby_first = λ c p b f m i. by p (form.Fby b f) (form.Fby m f) _ (inside b ++ inside f) (inside m ++ inside f) [] (below-Fby b f) (below-Fby m f) (called-Fby b f) (called-Fby m f) (out_Fby m f) tt
        (left (inside b) (inside m) (inside f) i);
    at_fby_next = λ c p b f m i. by p (form.Fby b f) (form.Fby b m) _ (inside b ++ inside f) (inside b ++ inside m) [] (below-Fby b f) (below-Fby b m) (called-Fby b f) (called-Fby b m) (out_Fby b m) tt
        (right (inside b) (inside f) (inside m) i);
    at_pre = λ c p b m i. by p (form.Pre b) (form.Pre m) _ (inside b) (inside m) [] (below-Pre b) (below-Pre m) (called-Pre b) (called-Pre m) (out_Pre m) tt i;
    at_arrow_first = λ c p b f m i. by p (form.Arrow b f) (form.Arrow m f) _ (inside b ++ inside f) (inside m ++ inside f) [] (below-Arrow b f) (below-Arrow m f) (called-Arrow b f) (called-Arrow m f) (out_Arrow m f) tt
        (left (inside b) (inside m) (inside f) i);
    at_arrow_next = λ c p b f m i. by p (form.Arrow b f) (form.Arrow b m) _ (inside b ++ inside f) (inside b ++ inside m) [] (below-Arrow b f) (below-Arrow b m) (called-Arrow b f) (called-Arrow b m) (out_Arrow b m) tt
        (right (inside b) (inside f) (inside m) i);
    at_when = λ c p b m tag y i. by p (form.When b tag y) (form.When m tag y) _ (inside b) (inside m) [] (below-When b tag y) (below-When m tag y) (called-When b tag y) (called-When m tag y) (out_When m tag y) tt i;
    at_merge = λ c p y bs ms i. by p (form.Merge y bs) (form.Merge y ms) _ (values bs) (values ms) [] (below-Merge y bs) (below-Merge y ms) (called-Merge y bs) (called-Merge y ms) (out_Merge y ms) tt i;
    at_call = λ c p f es ms i. by p (form.Call f es) (form.Call f ms) _ (flat_map inside es) (flat_map inside ms) (f ∷ []) (below-Call f es) (below-Call f ms) (called-Call f es) (called-Call f ms) (out_Call f ms) tt i;
    at_async = λ c p q f es ms i. by p (form.AsyncCall q f es) (form.AsyncCall q f ms) _ (flat_map inside es) (flat_map inside ms) (f ∷ []) (below-AsyncCall q f es) (below-AsyncCall q f ms)
        (called-AsyncCall q f es) (called-AsyncCall q f ms) (out_AsyncCall q f ms) tt i;
    at_get = λ c p b m i. by p (form.Get b) (form.Get m) _ (inside b) (inside m) [] (below-Get b) (below-Get m) (called-Get b) (called-Get m) (out_Get m) tt i;
    this_one = λ c e m es i. left (inside e) (inside m) (flat_map inside es) i;
    later_one = λ c e es ms i. right (inside e) (flat_map inside es) (flat_map inside ms) i;
    this_value = λ y c p tag e m bs i. left (inside e) (inside m) (values bs) i;
    later_value = λ y c b bs ms i. right (inside b.value) (values bs) (values ms) i;
  }
    where
      at_all : Changed (inside a) (inside (variable_at a.place x))
      at_all =
          subst (λ (z : List Expr). Changed z (inside (variable_at a.place x))) (append-nil (inside a))
          (subst (λ (z : List Expr). Changed (inside a ++ []) (variable_at a.place x ∷ z)) (sym (below-Var x)) (here []))

  pub inside_changed : (c : Clock) (e r : Expr) → Names x a d c e r → Changed (inside e) (inside r)
  inside_changed c e r h = by_names x a d _ _ _ changed_cases c e r h

  -- ---- what follows

  pub last_changed : (es rs : List Expr) → Changed es rs → Each NoLast es → Each NoLast rs × Each NoLast (inside a)
  last_changed es rs (here rest) h = ((subst IsNoLast (sym (out_Var x)) tt, each_right NoLast (inside a) rest h), each_left NoLast (inside a) rest h)
  last_changed es rs (next {es = fs} {rs = ss} e k) h = let q = last_changed fs ss k h.1 in ((h.0, q.0), q.1)
  last_changed es rs (around {es = fs} {rs = ss} e r s k) h = let q = last_changed fs ss k h.1 in ((s.last, q.0), q.1)

  turn : (b c : Bool) → b || c ≡ c || b
  turn true true = refl
  turn true false = refl
  turn false true = refl
  turn false false = refl

  or_assoc : (b c e : Bool) → b || (c || e) ≡ (b || c) || e
  or_assoc true c e = refl
  or_assoc false c e = refl

  module _ (p : Name → Bool) where
    abbrev pub any_call : List Expr → Bool
    any_call es = list_any p (flat_map calls_in es)

    pub any_both : (es fs : List Expr) → any_call (es ++ fs) ≡ any_call es || any_call fs
    any_both es fs = ap (list_any p) (flat_append calls_in es fs) ∙ list_any-append p (flat_map calls_in es) (flat_map calls_in fs)

    any_next : (ks fs ss : List Name) → list_any p fs ≡ list_any p ss || any_call (inside a) → list_any p (ks ++ fs) ≡ list_any p (ks ++ ss) || any_call (inside a)
    any_next ks fs ss e =
        list_any-append p ks fs ∙ ap (λ b. list_any p ks || b) e ∙ or_assoc (list_any p ks) (list_any p ss) (any_call (inside a)) ∙ ap (λ b. b || any_call (inside a)) (sym (list_any-append p ks ss))

    -- the calls are those that are left and those of what is named
    pub any_changed : (es rs : List Expr) → Changed es rs → any_call es ≡ any_call rs || any_call (inside a)
    any_changed es rs (here rest) =
        any_both (inside a) rest ∙ turn (any_call (inside a)) (any_call rest) ∙ ap (λ (ks : List Name). list_any p (ks ++ flat_map calls_in rest) || any_call (inside a)) (sym (called-Var x))
    any_changed es rs (next {es = fs} {rs = ss} e k) = any_next (calls_in e) (flat_map calls_in fs) (flat_map calls_in ss) (any_changed fs ss k)
    any_changed es rs (around {es = fs} {rs = ss} e r s k) =
        any_next (calls_in e) (flat_map calls_in fs) (flat_map calls_in ss) (any_changed fs ss k)
        ∙ ap (λ (ks : List Name). list_any p (ks ++ flat_map calls_in ss) || any_call (inside a)) (sym s.calls)
