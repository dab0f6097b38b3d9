-- An expression without faults, whose conditions of clocks and demands are met, is sound.
use Rattle.std.proofs.Common.{◌≡◌, ℕ, suc, ◌+◌, Bool, true, false, not, ◌&&◌, ◌||◌, if◌then◌else◌, IsTrue, List, [], ◌∷◌, ◌++◌, map, length, refl, sym, ap, subst, ◌∙◌, All, inl, inr, Option, Some, None, is_some, arith, append_assoc}
use Rattle.std.specs.List.{list_any, list_all, flat_map}
use Rattle.std.specs.Option.{option_map}
use Rattle.std.proofs.lemmas.Bool.{false≢true, and_parts}
use Rattle.std.proofs.lemmas.List.Elements.{All-head, All-tail, All-nil, All-cons, All-weaker}
use Rattle.hept_ast.specs.Texts.{Name, is_in}
use Rattle.hept_ast.specs.Scopes.{Clock}
use Rattle.hept_ast.specs.Parts.{Surroundings, seen_at, declaration, inside}
use Rattle.hept_ast.specs.Clocks.{Assignment, Base, Condition, Inner, Meets, Of, On, Term, clock, equal, expression, outer_read, own_names, read_clock, reading, term_of, unless}
use Rattle.hept_ast.specs.Initial.{grade, unmet}
use Rattle.hept_ast.specs.Types.{Fit, Fits, Misfit, Plain_type, Untyped, alike, async_fit, binary_fit, call_fit, divides, get_fit, has_tags, if_fit, is_plain, same_tag, same_type, tags_of, type_of_const, type_of_tag, types_of, unary_fit}
use Rattle.hept_ast.specs.Faults.{Fault, Judged, Judging, NestedAsync, Recursive, UnknownName, ZeroDivisor, Duplicate, NotDefined, barred, both, branch_fit, call_judged, calls_lead, calls_of, const_judged, fault, is_nonzero, judge, judged, lack_faults, last_judged, merge_fit, nested, node_named, read_faults, tag_fits, type_of_variable, unknown_tag, unknown_variable, var_judged, when_fit, with_own}
use Rattle.hept_ast.specs.declared.name.Place.{Place}
use Rattle.hept_ast.specs.declared.tree.Const.{Const as Constant}
use Rattle.hept_ast.specs.declared.tree.UnaryOp.{UnaryOp}
use Rattle.hept_ast.specs.declared.tree.BinaryOp.{BinaryOp}
use Rattle.hept_ast.specs.declared.tree.Node.{Node}
use Rattle.hept_ast.specs.declared.tree.Decl.{Decl}
use Rattle.hept_ast.specs.declared.tree.Tag.{Tag}
use Rattle.hept_ast.specs.declared.tree.Ty.{Ty}
use Rattle.hept_ast.specs.declared.tree.Ty.TheVariants as ty
use Rattle.hept_ast.specs.declared.tree.Expr.{Expr}
use Rattle.hept_ast.specs.declared.tree.MergeBranch.{MergeBranch}
use Rattle.hept_ast.specs.declared.tree.Form.{Form, roll-Form}
use Rattle.hept_ast.specs.declared.tree.Form.TheOpen.{Form-F}
use Rattle.hept_ast.specs.declared.tree.Form.TheVariants as form
use Rattle.hept_ast.proofs.JudgeOf.{judge_of, one, row, branch_row, judge-Const, judge-Var, judge-Last, judge-Unary, judge-Binary, judge-If, judge-Fby, judge-Pre, judge-Arrow, judge-When, judge-Merge, judge-Call, judge-AsyncCall, judge-AsyncConst, judge-Get}
use Rattle.hept_ast.proofs.FormsOf.{below-Unary, below-Binary, below-If, below-Fby, below-Pre, below-Arrow, below-When, below-Merge, below-Call, below-AsyncCall, below-Get}
use Rattle.hept_ast.proofs.ConditionsOf.{operand, operand_list, branch_list, conditions-Var, conditions-Last, conditions-Unary, conditions-Binary, conditions-If, conditions-Fby, conditions-Pre, conditions-Arrow, conditions-When, conditions-Merge, conditions-Call, conditions-AsyncCall, conditions-Get}
use Rattle.hept_ast.proofs.CalledForms.{called-Call, called-AsyncCall, called_async-AsyncCall}
use Rattle.sound_expressions.specs.Demands.{Demanded, FitsForm, assigned, judging_at}
use Rattle.sound_expressions.specs.Sound.{Within, Sees, IsTagOf, AreAllTags, branch_tags, Sound, SoundArguments, SoundBranches, no_arguments, an_argument, no_branches, a_branch, is_constant, is_async_constant, is_variable, is_last, is_unary, is_binary, is_if, is_fby, is_pre, is_arrow, is_when, is_merge, is_call, is_async_call, is_get}
use Rattle.sound_expressions.proofs.Lists.{not_nil, nil_left, nil_right, no_fault, any_false}
use Rattle.sound_expressions.proofs.Forms.{EachOf, EachValue, EachOperand, by_operands, unmet_list, unmet_values, unmet_Fby, unmet_Pre, unmet_When, unmet_Merge, unmet_Call, unmet_AsyncCall, term_Var, term_Last, term_Unary, term_Binary, term_If, term_Fby, term_Pre, term_Arrow, term_When, term_Merge, term_Call, term_AsyncCall, term_Get, out_Const, out_Var, out_Last, out_Unary, out_Binary, out_If, out_Fby, out_Pre, out_Arrow, out_When, out_Merge, out_Call, out_AsyncCall, out_AsyncConst, out_Get}
use Rattle.sound_expressions.proofs.Judged.{clean, typed, unary_typed, binary_typed, alike_typed, if_fit_typed, call_typed, async_typed, get_typed, barred_typed, barred_fits, one_faults, one_types, both_types, with_types}

-- ---- small facts

pub meets_left : (a : Assignment) (xs ys : List Condition) → Meets a (xs ++ ys) → Meets a xs
meets_left a [] ys h = tt
meets_left a (x ∷ xs) ys h = (h.0, meets_left a xs ys h.1)

pub meets_right : (a : Assignment) (xs ys : List Condition) → Meets a (xs ++ ys) → Meets a ys
meets_right a [] ys h = h
meets_right a (x ∷ xs) ys h = meets_right a xs ys h.1

pub all_left : {X : Type 0} (P : X → Type 0) (xs ys : List X) → All P (xs ++ ys) → All P xs
all_left P [] ys h = All-nil P
all_left P (x ∷ xs) ys h = All-cons P x xs (All-head P x (xs ++ ys) h) (all_left P xs ys (All-tail P x (xs ++ ys) h))

pub all_right : {X : Type 0} (P : X → Type 0) (xs ys : List X) → All P (xs ++ ys) → All P ys
all_right P [] ys h = h
all_right P (x ∷ xs) ys h = all_right P xs ys (All-tail P x (xs ++ ys) h)

pub is_met : (p : ℕ) (b : Bool) → unmet p b ≡ [] → b ≡ false
is_met p true e = absurd (not_nil p [] e)
is_met p false e = refl

pub found : {A : Type 0} (o : Option A) → not (is_some o) ≡ false → (d : A) × (o ≡ Some d)
found None e = absurd (false≢true (sym e))
found (Some d) e = (d, refl)

and_true : (b : Bool) → b && true ≡ b
and_true true = refl
and_true false = refl

-- a tag that is known and fits a type with tags
pub tag_is : (k : Within) (w : Judging) → w.types ≡ k.types → (t : Tag) (on : Ty) → unknown_tag w t ≡ false → tag_fits w (type_of_tag w.types t) on ≡ true → has_tags on ≡ true → IsTagOf k.types t on
tag_is k w same t on known fits tagged = subst (λ types. IsTagOf types t on) same (go (type_of_tag w.types t) refl known fits)
  where
    is_same : (b c : Bool) → b ≡ true → not b || c ≡ true → c ≡ true
    is_same true c h e = e
    is_same false c h e = absurd (false≢true h)

    go : (o : Option Plain_type) → type_of_tag w.types t ≡ o → not (is_some o) ≡ false → tag_fits w o on ≡ true → IsTagOf w.types t on
    go None e h f = absurd (false≢true (sym h))
    go (Some s) e h f = record { plain = s; known = e; fits = is_same (has_tags on) (same_type (ty.Plain s) on) tagged f }

tags_by_map : (bs : List MergeBranch) → map (λ b. b.tag) bs ≡ branch_tags bs
tags_by_map [] = refl
tags_by_map (b ∷ bs) = ap (λ l. b.tag ∷ l) (tags_by_map bs)

-- the tags of a type that are all given
pub all_tags : (w : Judging) (p : ℕ) (given : List Tag) (on : Ty) → lack_faults w p given (Some on) ≡ [] → AreAllTags w.types on given
all_tags w p given on e =
    All-weaker _ (λ t. IsTrue (list_any (same_tag t) given)) (λ t h. is_true (list_any (same_tag t) given) h) (tags_of w.types on)
    (any_false (λ t. not (list_any (same_tag t) given)) (tags_of w.types on) (no_fault p NotDefined _ e))
  where
    is_true : (b : Bool) → not b ≡ false → IsTrue b
    is_true true h = refl
    is_true false h = absurd (false≢true (sym h))

none_given : (w : Judging) (p : ℕ) (on : Ty) → lack_faults w p [] (Some on) ≡ [] → tags_of w.types on ≡ []
none_given w p on e = go (tags_of w.types on) (no_fault p NotDefined _ e)
  where
    go : (ts : List Tag) → list_any (λ t. not (list_any (same_tag t) [])) ts ≡ false → ts ≡ []
    go [] h = refl
    go (t ∷ ts) h = absurd (false≢true (sym h))

passes : (b : Bool) (us ts : List Ty) → (if b then Fits us else Misfit) ≡ Fits ts → (b ≡ true) × (us ≡ ts)
passes true us ts e = (refl, cc)
passes false us ts e = cc

passes_fit : (b : Bool) (f : Fit) (ts : List Ty) → (if b then f else Misfit) ≡ Fits ts → (b ≡ true) × (f ≡ Fits ts)
passes_fit true f ts e = (refl, e)
passes_fit false f ts e = cc

chosen : (b : Bool) (f : Fit) → (f ≡ Untyped → ⊥) → (if b then f else Misfit) ≡ Untyped → ⊥
chosen true f u e = u e
chosen false f u e = cc

fits_some : (ts : List Ty) → Fits ts ≡ Untyped → ⊥
fits_some ts e = cc

same_fits : (us ts : List Ty) → Fits us ≡ Fits ts → us ≡ ts
same_fits us ts e = cc

-- ---- forms

module _ (k : Within) (site : Surroundings) (strong : Bool) (judged_node : Node) (alike_name : judged_node.name ≡ k.node.name) (numbers : ℕ → Clock) where
  abbrev pub w : Judging
  w = judging_at k site strong judged_node

  abbrev pub a : Assignment
  a = assigned k numbers

  abbrev pub own : List Name
  own = own_names k.node site

  -- types and clock, by the number that the expression has
  abbrev pub SoundHere : Expr → Type 0
  SoundHere e = (under : Bool) (n : ℕ) → (judge_of w under e).faults ≡ [] → Meets a (expression own n e.place.0 e.form) → All (Demanded k site) (inside e) →
      (ts : List Ty) × ((judge_of w under e).types ≡ Some ts) × Sound k site e (clock a (term_of own n e.form)) ts

  -- an operand on a clock
  operand_sound : (e : Expr) → SoundHere e → (under : Bool) (p : ℕ) (on : Term) (m : ℕ) → (one w under e).faults ≡ [] → Meets a (operand own p on m e) → All (Demanded k site) (inside e) →
      (ts : List Ty) × ((one w under e).types ≡ Some (ts ∷ [])) × Sound k site e (clock a on) ts
  operand_sound e h under p on m f meets d =
      let (ts, t, s) = h under m (one_faults w under e f) meets.1 d in
      (ts, one_types w under e ts t, subst (λ (c : Clock). Sound k site e c ts) meets.0 s)

  on_inner : (e : Expr) (n : ℕ) (ts : List Ty) → term_of own n e.form ≡ Inner n → Sound k site e (clock a (Inner n)) ts → Sound k site e (clock a (term_of own n e.form)) ts
  on_inner e n ts is s = subst (λ (t : Term). Sound k site e (clock a t) ts) (sym is) s

  -- a variable that is read at its own clock
  reads_own : (x : Name) (d : Decl) (n p : ℕ) → declaration (seen_at k.node site) x ≡ Some d → Meets a (reading own p n x) → Sees k site x d (clock a (if is_in x own then Of x else Inner n))
  reads_own x d n p is meets = go (is_in x own) refl meets
    where
      go : (b : Bool) → is_in x own ≡ b → Meets a (unless b (equal p (Of x) Base ++ equal p (Inner n) Base)) → Sees k site x d (clock a (if b then Of x else Inner n))
      go true h m = record { declared = is; here = ap (λ b. if b then k.clock x else []) h; outer = inl h }
      go false h m = record { declared = is; here = ap (λ b. if b then k.clock x else []) h ∙ sym m.1.0; outer = inr m.0 }

  -- the variable of a `when` or a `merge`
  reads_step : (x : Name) (d : Decl) (p : ℕ) → declaration (seen_at k.node site) x ≡ Some d → Meets a (outer_read own p x) → Sees k site x d (clock a (read_clock own x))
  reads_step x d p is meets = go (is_in x own) refl meets
    where
      go : (b : Bool) → is_in x own ≡ b → Meets a (unless b (equal p (Of x) Base)) → Sees k site x d (clock a (if b then Of x else Base))
      go true h m = record { declared = is; here = ap (λ b. if b then k.clock x else []) h; outer = inl h }
      go false h m = record { declared = is; here = ap (λ b. if b then k.clock x else []) h; outer = inr m.0 }

  of_const : (c : Constant) (p : Place) → SoundHere (record { place = p; form = form.Const c })
  of_const c p under n e meets d = go (type_of_const k.types c) refl (sym (ap (λ t. t.faults) (judge-Const w under p.0 c)) ∙ e)
    where
      go : (o : Option Plain_type) → type_of_const k.types c ≡ o → (const_judged w p.0 o ty.Plain).faults ≡ [] →
          (ts : List Ty) × ((judge w under p.0 (form.Const c)).types ≡ Some ts) × Sound k site (record { place = p; form = form.Const c }) (clock a (term_of own n (form.Const c))) ts
      go None is f = absurd (not_nil _ _ f)
      go (Some t) is f = (ty.Plain t ∷ [], ap (λ j. j.types) (judge-Const w under p.0 c) ∙ ap (λ o. (const_judged w p.0 o ty.Plain).types) is, is_constant (out_Const c) is (subst FitsForm (out_Const c) (All-head (Demanded k site) _ _ d).number))

  of_var : (x : Name) (p : Place) → SoundHere (record { place = p; form = form.Var x })
  of_var x p under n e meets d =
      let (dc, is) = declared_of (declaration w.seen x) refl (sym (ap (λ t. t.faults) (judge-Var w under p.0 x)) ∙ e) in
      let s = reads_own x dc n p.0 is (subst (Meets a) (conditions-Var own n p.0 x) meets) in
      let types_are = ap (λ j. j.types) (judge-Var w under p.0 x) in (
        dc.ty ∷ [],
        types_are ∙ gives (declaration w.seen x) dc is (sym (ap (λ t. t.faults) (judge-Var w under p.0 x)) ∙ e),
        subst (λ (t : Term). Sound k site (record { place = p; form = form.Var x }) (clock a t) (dc.ty ∷ [])) (sym (term_Var own n x)) (is_variable (out_Var x) s),
      )
    where
      declared_of : (o : Option Decl) → declaration w.seen x ≡ o → (var_judged w p.0 under x (option_map (λ d. d.ty) o)).faults ≡ [] → (d : Decl) × (declaration w.seen x ≡ Some d)
      declared_of None is f = absurd (not_nil _ _ f)
      declared_of (Some d) is f = (d, is)

      gives : (o : Option Decl) (d : Decl) → o ≡ Some d → (var_judged w p.0 under x (option_map (λ d. d.ty) o)).faults ≡ [] → (var_judged w p.0 under x (option_map (λ d. d.ty) o)).types ≡ Some (d.ty ∷ [])
      gives None d is f = absurd (not_nil _ _ f)
      gives (Some c) d is f = ap (λ (l : List Fault). with_own l (c.ty ∷ [])) f ∙ ap (λ (o : Option Decl). option_map (λ d. d.ty ∷ []) o) is

  of_last : (x : Name) (p : Place) → SoundHere (record { place = p; form = form.Last x })
  of_last x p under n e meets d =
      let f = sym (ap (λ t. t.faults) (judge-Last w under p.0 x)) ∙ e in
      let (dc, is) = declared_of (declaration w.seen x) refl f in
      let (kept, gives) = last_of dc (subst (λ (o : Option Decl). (last_judged w p.0 o).faults ≡ []) is f) in
      let s = reads_own x dc n p.0 is (subst (Meets a) (conditions-Last own n p.0 x) meets) in (
        dc.ty ∷ [],
        ap (λ j. j.types) (judge-Last w under p.0 x) ∙ ap (λ (o : Option Decl). (last_judged w p.0 o).types) is ∙ gives,
        subst (λ (t : Term). Sound k site (record { place = p; form = form.Last x }) (clock a t) (dc.ty ∷ [])) (sym (term_Last own n x)) (is_last (out_Last x) s kept),
      )
    where
      declared_of : (o : Option Decl) → declaration w.seen x ≡ o → (last_judged w p.0 o).faults ≡ [] → (d : Decl) × (declaration w.seen x ≡ Some d)
      declared_of None is f = absurd (not_nil _ _ f)
      declared_of (Some d) is f = (d, is)

      is_kept_in : (b : Bool) → not b ≡ false → b ≡ true
      is_kept_in true h = refl
      is_kept_in false h = absurd (false≢true (sym h))

      last_of : (d : Decl) → (last_judged w p.0 (Some d)).faults ≡ [] → (is_some d.init ≡ true) × ((last_judged w p.0 (Some d)).types ≡ Some (d.ty ∷ []))
      last_of d f = (is_kept_in (is_some d.init) (no_fault p.0 UnknownName _ f), ap (λ (l : List Fault). with_own l (d.ty ∷ [])) f)

  of_unary : (op : UnaryOp) (b : Expr) (p : Place) → SoundHere b → SoundHere (record { place = p; form = form.Unary op b })
  of_unary op b p h under n e meets d =
      let f = sym (ap (λ t. t.faults) (judge-Unary w under p.0 op b)) ∙ e in
      let c = clean p.0 [] (one w false b) (unary_fit op) f in
      let below_d = subst (All (Demanded k site)) (below-Unary op b) (All-tail (Demanded k site) _ _ d) in
      let (us, t, s) = operand_sound b h false p.0 (Inner n) (n + 1) c.operand_faults (subst (Meets a) (conditions-Unary own n p.0 op b) meets) below_d in
      let (ts, fits, gives) = typed p.0 [] (one w false b) (unary_fit op) (us ∷ []) f t (unary_typed op (us ∷ [])) in
      (ts, ap (λ j. j.types) (judge-Unary w under p.0 op b) ∙ gives, on_inner _ n ts (term_Unary own n op b) (is_unary (out_Unary op b) s fits))

  of_pre : (b : Expr) (p : Place) → SoundHere b → SoundHere (record { place = p; form = form.Pre b })
  of_pre b p h under n e meets d =
      let fit = λ (ts : List (List Ty)). barred w (alike ts) in
      let f = sym (ap (λ t. t.faults) (judge-Pre w under p.0 b)) ∙ e in
      let c = clean p.0 [] (one w false b) fit f in
      let below_d = subst (All (Demanded k site)) (below-Pre b) (All-tail (Demanded k site) _ _ d) in
      let met = is_met _ _ (sym (unmet_Pre k.grade p.0 b) ∙ (All-head (Demanded k site) _ _ d).met) in
      let (us, t, s) = operand_sound b h false p.0 (Inner n) (n + 1) c.operand_faults (subst (Meets a) (conditions-Pre own n p.0 b) meets) below_d in
      let (ts, fits, gives) = typed p.0 [] (one w false b) fit (us ∷ []) f t (barred_typed w (alike (us ∷ [])) (alike_typed us [])) in
      (ts, ap (λ j. j.types) (judge-Pre w under p.0 b) ∙ gives, on_inner _ n ts (term_Pre own n b) (is_pre (out_Pre b) s (barred_fits w (alike (us ∷ [])) ts fits) met))

  of_get : (b : Expr) (p : Place) → SoundHere b → SoundHere (record { place = p; form = form.Get b })
  of_get b p h under n e meets d =
      let fit = λ (ts : List (List Ty)). barred w (get_fit ts) in
      let f = sym (ap (λ t. t.faults) (judge-Get w under p.0 b)) ∙ e in
      let c = clean p.0 [] (one w true b) fit f in
      let below_d = subst (All (Demanded k site)) (below-Get b) (All-tail (Demanded k site) _ _ d) in
      let (us, t, s) = operand_sound b h true p.0 (Inner n) (n + 1) c.operand_faults (subst (Meets a) (conditions-Get own n p.0 b) meets) below_d in
      let (ts, fits, gives) = typed p.0 [] (one w true b) fit (us ∷ []) f t (barred_typed w (get_fit (us ∷ [])) (get_typed us)) in
      (ts, ap (λ j. j.types) (judge-Get w under p.0 b) ∙ gives, on_inner _ n ts (term_Get own n b) (is_get (out_Get b) s (barred_fits w (get_fit (us ∷ [])) ts fits)))

  of_async_const : (c : Constant) (p : Place) → SoundHere (record { place = p; form = form.AsyncConst c })
  of_async_const c p under n e meets d = go (type_of_const k.types c) refl
    where
      go : (o : Option Plain_type) → type_of_const k.types c ≡ o →
          (ts : List Ty) × ((judge w under p.0 (form.AsyncConst c)).types ≡ Some ts) × Sound k site (record { place = p; form = form.AsyncConst c }) (clock a (term_of own n (form.AsyncConst c))) ts
      go None is =
          let f = sym (ap (λ t. t.faults) (judge-AsyncConst w under p.0 c)) ∙ e in
          let cl = clean p.0 [] (const_judged w p.0 (type_of_const k.types c) ty.Future) (λ ts. barred w (Fits ts)) f in
          absurd (not_nil _ _ (sym (ap (λ o. (const_judged w p.0 o ty.Future).faults) is) ∙ cl.operand_faults))
      go (Some t) is =
          let f = sym (ap (λ t. t.faults) (judge-AsyncConst w under p.0 c)) ∙ e in
          let us = ty.Future t ∷ [] in
          let (ts, fits, gives) = typed p.0 [] (const_judged w p.0 (type_of_const k.types c) ty.Future) (λ ts. barred w (Fits ts)) us f (ap (λ o. (const_judged w p.0 o ty.Future).types) is) (barred_typed w (Fits us) (fits_some us)) in (
            ts,
            ap (λ j. j.types) (judge-AsyncConst w under p.0 c) ∙ gives,
            subst (λ vs. Sound k site (record { place = p; form = form.AsyncConst c }) (clock a (term_of own n (form.AsyncConst c))) vs) (same_fits us ts (barred_fits w (Fits us) ts fits)) (is_async_constant (out_AsyncConst c) is (subst FitsForm (out_AsyncConst c) (All-head (Demanded k site) _ _ d).number)),
          )

  -- two operands on a clock
  pair_sound : (b c : Expr) → SoundHere b → SoundHere c → (p : ℕ) (on : Term) (m : ℕ) → (both (one w false b) (one w false c)).faults ≡ [] →
      Meets a (operand own p on m b ++ operand own p on (m + length (inside b)) c) → All (Demanded k site) (inside b ++ inside c) →
      (us : List Ty) × (vs : List Ty) × ((both (one w false b) (one w false c)).types ≡ Some (us ∷ vs ∷ [])) × Sound k site b (clock a on) us × Sound k site c (clock a on) vs
  pair_sound b c hb hc p on m f meets d =
      let (us, t, s) = operand_sound b hb false p on m (nil_left _ _ f) (meets_left a (operand own p on m b) _ meets) (all_left (Demanded k site) (inside b) (inside c) d) in
      let (vs, u, r) = operand_sound c hc false p on (m + length (inside b)) (nil_right (one w false b).faults _ f) (meets_right a (operand own p on m b) _ meets) (all_right (Demanded k site) (inside b) (inside c) d) in
      (us, vs, both_types (one w false b) (one w false c) (us ∷ []) (vs ∷ []) t u, s, r)

  of_binary : (op : BinaryOp) (b c : Expr) (p : Place) → SoundHere b → SoundHere c → SoundHere (record { place = p; form = form.Binary op b c })
  of_binary op b c p hb hc under n e meets d =
      let f = sym (ap (λ t. t.faults) (judge-Binary w under p.0 op b c)) ∙ e in
      let own_faults = fault p.0 ZeroDivisor (divides op && not (is_nonzero b_form && true)) in
      let cl = clean p.0 own_faults (both (one w false b) (one w false c)) (binary_fit op) f in
      let below_d = subst (All (Demanded k site)) (below-Binary op b c) (All-tail (Demanded k site) _ _ d) in
      let (us, vs, t, s, r) = pair_sound b c hb hc p.0 (Inner n) (n + 1) cl.operand_faults (subst (Meets a) (conditions-Binary own n p.0 op b c) meets) below_d in
      let (ts, fits, gives) = typed p.0 own_faults (both (one w false b) (one w false c)) (binary_fit op) (us ∷ vs ∷ []) f t (binary_typed op us vs) in
      let nonzero = ap (λ z. divides op && not z) (sym (and_true (is_nonzero b_form))) ∙ no_fault p.0 ZeroDivisor _ cl.own_faults in
      (ts, ap (λ j. j.types) (judge-Binary w under p.0 op b c) ∙ gives, on_inner _ n ts (term_Binary own n op b c) (is_binary (out_Binary op b c) s r fits nonzero))
    where
      b_form : Form
      b_form = c.form

  of_fby : (b c : Expr) (p : Place) → SoundHere b → SoundHere c → SoundHere (record { place = p; form = form.Fby b c })
  of_fby b c p hb hc under n e meets d =
      let fit = λ (ts : List (List Ty)). barred w (alike ts) in
      let f = sym (ap (λ t. t.faults) (judge-Fby w under p.0 b c)) ∙ e in
      let cl = clean p.0 [] (both (one w false b) (one w false c)) fit f in
      let below_d = subst (All (Demanded k site)) (below-Fby b c) (All-tail (Demanded k site) _ _ d) in
      let met = is_met _ _ (sym (unmet_Fby k.grade p.0 b c) ∙ (All-head (Demanded k site) _ _ d).met) in
      let (us, vs, t, s, r) = pair_sound b c hb hc p.0 (Inner n) (n + 1) cl.operand_faults (subst (Meets a) (conditions-Fby own n p.0 b c) meets) below_d in
      let fit_is = alike (us ∷ vs ∷ []) in
      let (ts, fits, gives) = typed p.0 [] (both (one w false b) (one w false c)) fit (us ∷ vs ∷ []) f t (barred_typed w fit_is (alike_typed us (vs ∷ []))) in
      (ts, ap (λ j. j.types) (judge-Fby w under p.0 b c) ∙ gives, on_inner _ n ts (term_Fby own n b c) (is_fby (out_Fby b c) s r (barred_fits w fit_is ts fits) met))

  of_arrow : (b c : Expr) (p : Place) → SoundHere b → SoundHere c → SoundHere (record { place = p; form = form.Arrow b c })
  of_arrow b c p hb hc under n e meets d =
      let fit = λ (ts : List (List Ty)). barred w (alike ts) in
      let f = sym (ap (λ t. t.faults) (judge-Arrow w under p.0 b c)) ∙ e in
      let cl = clean p.0 [] (both (one w false b) (one w false c)) fit f in
      let below_d = subst (All (Demanded k site)) (below-Arrow b c) (All-tail (Demanded k site) _ _ d) in
      let (us, vs, t, s, r) = pair_sound b c hb hc p.0 (Inner n) (n + 1) cl.operand_faults (subst (Meets a) (conditions-Arrow own n p.0 b c) meets) below_d in
      let fit_is = alike (us ∷ vs ∷ []) in
      let (ts, fits, gives) = typed p.0 [] (both (one w false b) (one w false c)) fit (us ∷ vs ∷ []) f t (barred_typed w fit_is (alike_typed us (vs ∷ []))) in
      (ts, ap (λ j. j.types) (judge-Arrow w under p.0 b c) ∙ gives, on_inner _ n ts (term_Arrow own n b c) (is_arrow (out_Arrow b c) s r (barred_fits w fit_is ts fits)))

  of_if : (i b c : Expr) (p : Place) → SoundHere i → SoundHere b → SoundHere c → SoundHere (record { place = p; form = form.If i b c })
  of_if i b c p hi hb hc under n e meets d =
      let f = sym (ap (λ t. t.faults) (judge-If w under p.0 i b c)) ∙ e in
      let others = both (one w false b) (one w false c) in
      let cl = clean p.0 [] (both (one w false i) others) if_fit f in
      let below_d = subst (All (Demanded k site)) (below-If i b c ∙ append_assoc (inside i) (inside b) (inside c)) (All-tail (Demanded k site) _ _ d) in
      let first = operand own p.0 (Inner n) (n + 1) i in
      let second = operand own p.0 (Inner n) (n + 1 + length (inside i)) b in
      let third = operand own p.0 (Inner n) (n + 1 + length (inside i) + length (inside b)) c in
      let m = subst (Meets a) (conditions-If own n p.0 i b c ∙ append_assoc first second third) meets in
      let (is, ti, si) = operand_sound i hi false p.0 (Inner n) (n + 1) (nil_left _ _ cl.operand_faults) (meets_left a first _ m) (all_left (Demanded k site) (inside i) _ below_d) in
      let (us, vs, t, s, r) = pair_sound b c hb hc p.0 (Inner n) (n + 1 + length (inside i)) (nil_right (one w false i).faults _ cl.operand_faults) (meets_right a first _ m) (all_right (Demanded k site) (inside i) _ below_d) in
      let (ts, fits, gives) = typed p.0 [] (both (one w false i) others) if_fit (is ∷ us ∷ vs ∷ []) f (both_types (one w false i) others (is ∷ []) (us ∷ vs ∷ []) ti t) (if_fit_typed is us (vs ∷ [])) in
      (ts, ap (λ j. j.types) (judge-If w under p.0 i b c) ∙ gives, on_inner _ n ts (term_If own n i b c) (is_if (out_If i b c) si s r fits))

  -- the variable of a `when` or `merge` is seen
  read_of : (p : ℕ) (x : Name) → read_faults w p x ≡ [] → (d : Decl) × (declaration (seen_at k.node site) x ≡ Some d)
  read_of p x e = found (declaration w.seen x) (no_fault p UnknownName _ (nil_left (unknown_variable w p x) _ e))

  of_when : (b : Expr) (tag : Tag) (x : Name) (p : Place) → SoundHere b → SoundHere (record { place = p; form = form.When b tag x })
  of_when b tag x p hb under n e meets d =
      let f1 = sym (ap (λ t. t.faults) (judge-When w under p.0 b tag x)) ∙ e in
      let own_faults = read_faults w p.0 x ++ fault p.0 UnknownName (unknown_tag w tag) in
      let cl = clean p.0 own_faults (one w false b) (when_fit w tag (type_of_variable w x)) f1 in
      let (dx, seen) = read_of p.0 x (nil_left (read_faults w p.0 x) _ cl.own_faults) in
      let known = no_fault p.0 UnknownName _ (nil_right (read_faults w p.0 x) _ cl.own_faults) in
      let type_is = ap (λ (o : Option Decl). option_map (λ d. d.ty) o) seen in
      let f = subst (λ (o : Option Ty). (judged p.0 own_faults (one w false b) (when_fit w tag o)).faults ≡ []) type_is f1 in
      let below_d = subst (All (Demanded k site)) (below-When b tag x) (All-tail (Demanded k site) _ _ d) in
      let met = is_met _ _ (sym (unmet_When k.grade p.0 b tag x) ∙ (All-head (Demanded k site) _ _ d).met) in
      let m = subst (Meets a) (conditions-When own n p.0 b tag x ∙ append_assoc (operand own p.0 (read_clock own x) (n + 1) b) (equal p.0 (Inner n) (On (read_clock own x) tag x)) (outer_read own p.0 x)) meets in
      let m2 = meets_right a (operand own p.0 (read_clock own x) (n + 1) b) _ m in
      let (us, t, s) = operand_sound b hb false p.0 (read_clock own x) (n + 1) cl.operand_faults (meets_left a (operand own p.0 (read_clock own x) (n + 1) b) _ m) below_d in
      let test = tag_fits w (type_of_tag w.types tag) dx.ty && has_tags dx.ty in
      let (ts, fits, gives) = typed p.0 own_faults (one w false b) (when_fit w tag (Some dx.ty)) (us ∷ []) f t (chosen test (alike (us ∷ [])) (alike_typed us [])) in
      let (passed, alike_is) = passes_fit test (alike (us ∷ [])) ts fits in
      let (tag_ok, with_tags) = and_parts (tag_fits w (type_of_tag w.types tag) dx.ty) (has_tags dx.ty) passed in
      let c = clock a (read_clock own x) in (
        ts,
        ap (λ j. j.types) (judge-When w under p.0 b tag x) ∙ ap (λ (o : Option Ty). (judged p.0 own_faults (one w false b) (when_fit w tag o)).types) type_is ∙ gives,
        on_inner _ n ts (term_When own n b tag x)
            (subst (λ (z : Clock). Sound k site (record { place = p; form = form.When b tag x }) z ts) (sym m2.0)
            (is_when (out_When b tag x) (reads_step x dx p.0 seen m2.1) s (tag_is k w refl tag dx.ty known tag_ok with_tags) with_tags alike_is met)),
      )

  -- ---- rows of operands

  arguments_sound : (es : List Expr) → EachOf SoundHere es → (p : ℕ) (on : Term) (m : ℕ) → (row w false es).faults ≡ [] → Meets a (operand_list own p on m es) → All (Demanded k site) (flat_map inside es) →
      unmet_list k.grade es ≡ [] → (tss : List (List Ty)) × ((row w false es).types ≡ Some tss) × SoundArguments k site es (clock a on) tss
  arguments_sound [] h p on m f meets d met = ([], refl, no_arguments)
  arguments_sound (e ∷ es) h p on m f meets d met =
      let (ts, t, s) = h.0 false m (nil_left _ _ f) (meets_left a (operand own p on m e) _ meets).1 (all_left (Demanded k site) (inside e) _ d) in
      let here = subst (λ (c : Clock). Sound k site e c ts) (meets_left a (operand own p on m e) _ meets).0 s in
      let (tss, u, r) = arguments_sound es h.1 p on (m + length (inside e)) (nil_right (judge_of w false e).faults _ f) (meets_right a (operand own p on m e) _ meets)
      (all_right (Demanded k site) (inside e) _ d) (nil_right (unmet e.place.0 (grade k.grade e.form)) _ met) in
      (ts ∷ tss, with_types (judge_of w false e) (row w false es) ts tss t u, an_argument here (is_met e.place.0 _ (nil_left _ _ met)) r)

  -- branches over a variable of a type; their tags are those of the type where it has tags
  values_sound : (x : Name) (on : Ty) (earlier : List Tag) (bs : List MergeBranch) → EachValue SoundHere bs → (p m : ℕ) → (branch_row w (Some on) earlier bs).faults ≡ [] → Meets a (branch_list own p x m bs) →
      All (Demanded k site) (flat_map (λ b. inside b.value) bs) → unmet_values k.grade bs ≡ [] →
      (tss : List (List Ty)) × ((branch_row w (Some on) earlier bs).types ≡ Some tss) × (length tss ≡ length bs) × (has_tags on ≡ true → SoundBranches k site x on (clock a (read_clock own x)) bs tss)
  values_sound x on earlier [] h p m f meets d met = ([], refl, refl, λ t. no_branches)
  values_sound x on earlier (b ∷ bs) h p m f meets d met =
      let own_faults = fault b.place.0 UnknownName (unknown_tag w b.tag) ++ fault b.place.0 Duplicate (list_any (same_tag b.tag) earlier) in
      let value = judge_of w false b.value in
      let branch = judged b.place.0 own_faults value (branch_fit w b.tag (Some on)) in
      let fb : branch.faults ≡ [] = nil_left branch.faults _ f in
      let cl = clean b.place.0 own_faults value (branch_fit w b.tag (Some on)) fb in
      let step = On (read_clock own x) b.tag x in
      let (us, t, s) = h.0 false m cl.operand_faults (meets_left a (operand own p step m b.value) _ meets).1 (all_left (Demanded k site) (inside b.value) _ d) in
      let here = subst (λ (c : Clock). Sound k site b.value c us) (meets_left a (operand own p step m b.value) _ meets).0 s in
      let test = tag_fits w (type_of_tag w.types b.tag) on in
      let (ts, fits, gives) = typed b.place.0 own_faults value (branch_fit w b.tag (Some on)) us fb t (chosen test (Fits us) (fits_some us)) in
      let (tag_ok, same_ts) = passes test us ts fits in
      let known = no_fault b.place.0 UnknownName (unknown_tag w b.tag) (nil_left _ _ cl.own_faults) in
      let (tss, u, many, r) = values_sound x on (b.tag ∷ earlier) bs h.1 p (m + length (inside b.value)) (nil_right branch.faults _ f) (meets_right a (operand own p step m b.value) _ meets)
      (all_right (Demanded k site) (inside b.value) _ d) (nil_right (unmet b.value.place.0 (grade k.grade b.value.form)) _ met) in (
        ts ∷ tss,
        with_types branch (branch_row w (Some on) (b.tag ∷ earlier) bs) ts tss gives u,
        ap suc many,
        λ has. a_branch (tag_is k w refl b.tag on known tag_ok has) (subst (λ (vs : List Ty). Sound k site b.value (clock a step) vs) same_ts here) (is_met b.value.place.0 _ (nil_left _ _ met)) (r has),
      )

  merge_not_untyped : (on : Ty) (bs : List MergeBranch) (tss : List (List Ty)) → length tss ≡ length bs → (has_tags on ≡ true → bs ≡ [] → ⊥) → merge_fit w (Some on) tss ≡ Untyped → ⊥
  merge_not_untyped on bs tss many some e = go (has_tags on) refl e
    where
      go_alike : (tss : List (List Ty)) → length tss ≡ length bs → has_tags on ≡ true → alike tss ≡ Untyped → ⊥
      go_alike [] many h e = go_bs bs many (some h)
        where
          go_bs : (bs : List MergeBranch) → 0 ≡ length bs → (bs ≡ [] → ⊥) → ⊥
          go_bs [] m s = s refl
          go_bs (b ∷ bs) m s = omega arith
      go_alike (t ∷ rest) many h e = alike_typed t rest e

      go : (b : Bool) → has_tags on ≡ b → (if b then alike tss else Misfit) ≡ Untyped → ⊥
      go true h e = go_alike tss many h e
      go false h e = cc

  of_merge : (x : Name) (bs : List MergeBranch) (p : Place) → EachValue SoundHere bs → SoundHere (record { place = p; form = form.Merge x bs })
  of_merge x bs p hb under n e meets d =
      let given = map (λ (b : MergeBranch). b.tag) bs in
      let f1 = sym (ap (λ t. t.faults) (judge-Merge w under p.0 x bs)) ∙ e in
      let by = λ (o : Option Ty). judged p.0 (read_faults w p.0 x ++ lack_faults w p.0 given o) (branch_row w o [] bs) (merge_fit w o) in
      let cl1 = clean p.0 (read_faults w p.0 x ++ lack_faults w p.0 given (type_of_variable w x)) (branch_row w (type_of_variable w x) [] bs) (merge_fit w (type_of_variable w x)) f1 in
      let (dx, seen) = read_of p.0 x (nil_left (read_faults w p.0 x) _ cl1.own_faults) in
      let type_is = ap (λ (o : Option Decl). option_map (λ d. d.ty) o) seen in
      let f : (by (Some dx.ty)).faults ≡ [] = subst (λ (o : Option Ty). (by o).faults ≡ []) type_is f1 in
      let own_faults = read_faults w p.0 x ++ lack_faults w p.0 given (Some dx.ty) in
      let cl = clean p.0 own_faults (branch_row w (Some dx.ty) [] bs) (merge_fit w (Some dx.ty)) f in
      let lack = nil_right (read_faults w p.0 x) _ cl.own_faults in
      let below_d = subst (All (Demanded k site)) (below-Merge x bs) (All-tail (Demanded k site) _ _ d) in
      let met = sym (unmet_Merge k.grade p.0 x bs) ∙ (All-head (Demanded k site) _ _ d).met in
      let firsts = equal p.0 (Inner n) (read_clock own x) ++ outer_read own p.0 x in
      let m : Meets a (firsts ++ branch_list own p.0 x (n + 1) bs) = subst (Meets a) (conditions-Merge own n p.0 x bs) meets in
      let (tss, t, many, r) = values_sound x dx.ty [] bs hb p.0 (n + 1) cl.operand_faults (meets_right a firsts _ m) below_d (nil_right (unmet p.0 (k.grade x)) _ met) in
      let some = λ (h : has_tags dx.ty ≡ true) (none : bs ≡ []). (All-head (Demanded k site) _ _ d).merged x dx (out_Merge x bs ∙ ap (Form-F.Merge x) none) seen h (none_given w p.0 dx.ty (subst (λ (cs : List MergeBranch). lack_faults w p.0 (map (λ b. b.tag) cs) (Some dx.ty) ≡ []) none lack)) in
      let (ts, fits, gives) = typed p.0 own_faults (branch_row w (Some dx.ty) [] bs) (merge_fit w (Some dx.ty)) tss f t (merge_not_untyped dx.ty bs tss many some) in
      let (with_tags, alike_is) = passes_fit (has_tags dx.ty) (alike tss) ts fits in
      let sees = reads_step x dx p.0 seen (meets_left a firsts _ m).1 in (
        ts,
        ap (λ j. j.types) (judge-Merge w under p.0 x bs) ∙ ap (λ (o : Option Ty). (by o).types) type_is ∙ gives,
        on_inner _ n ts (term_Merge own n x bs)
            (subst (λ (z : Clock). Sound k site (record { place = p; form = form.Merge x bs }) z ts) (sym (meets_left a firsts _ m).0)
            (is_merge (out_Merge x bs) sees with_tags (is_met p.0 (k.grade x) (nil_left _ _ met)) (r with_tags)
            (subst (AreAllTags k.types dx.ty) (tags_by_map bs) (all_tags w p.0 given dx.ty lack)) alike_is)),
      )

  -- ---- calls

  leads : (g : Node) → calls_lead k.nodes g.name judged_node.name ≡ false → calls_lead k.nodes g.name k.node.name ≡ false
  leads g h = ap (λ (n : Name). calls_lead k.nodes g.name n) (sym alike_name) ∙ h

  called_node : (p : ℕ) (o : Option Node) (own_faults : List Fault) (give : Fit → Fit) (args : Judged (List (List Ty))) → (call_judged w p o own_faults give args).faults ≡ [] → (g : Node) × (o ≡ Some g)
  called_node p None own_faults give args e = absurd (not_nil _ _ (clean p _ args (λ ts. barred w Untyped) e).own_faults)
  called_node p (Some g) own_faults give args e = (g, refl)

  of_call : (f : Name) (args : List Expr) (p : Place) → EachOf SoundHere args → SoundHere (record { place = p; form = form.Call f args })
  of_call f args p h under n e meets d =
      let f1 = sym (ap (λ t. t.faults) (judge-Call w under p.0 f args)) ∙ e in
      let ops = row w false args in
      let by = λ (o : Option Node). call_judged w p.0 o [] (λ z. z) ops in
      let (g, named) = called_node p.0 (node_named k.nodes f) [] (λ z. z) ops f1 in
      let f2 : (by (Some g)).faults ≡ [] = subst (λ (o : Option Node). (by o).faults ≡ []) named f1 in
      let own_faults = fault p.0 Recursive (calls_lead k.nodes g.name judged_node.name) ++ [] in
      let fit = λ (ts : List (List Ty)). barred w (call_fit g ts) in
      let cl = clean p.0 own_faults ops fit f2 in
      let below_d = subst (All (Demanded k site)) (below-Call f args) (All-tail (Demanded k site) _ _ d) in
      let here = All-head (Demanded k site) _ _ d in
      let (tss, t, s) = arguments_sound args h p.0 (Inner n) (n + 1) cl.operand_faults (subst (Meets a) (conditions-Call own n p.0 f args) meets) below_d (sym (unmet_Call k.grade p.0 f args) ∙ here.met) in
      let (ts, fits, gives) = typed p.0 own_faults ops fit tss f2 t (barred_typed w (call_fit g tss) (call_typed g tss)) in
      let made = All-head (λ (x : Name). is_in x (calls_of (Some k.node)) ≡ true) f [] (subst (All (λ (x : Name). is_in x (calls_of (Some k.node)) ≡ true)) (called-Call f args) here.made) in (
        ts,
        ap (λ j. j.types) (judge-Call w under p.0 f args) ∙ ap (λ (o : Option Node). (by o).types) named ∙ gives,
        on_inner _ n ts (term_Call own n f args)
            (is_call (out_Call f args) named s (barred_fits w (call_fit g tss) ts fits) (leads g (no_fault p.0 Recursive _ (nil_left _ [] cl.own_faults))) made),
      )

  of_async_call : (q : ℕ) (f : Name) (args : List Expr) (p : Place) → EachOf SoundHere args → SoundHere (record { place = p; form = form.AsyncCall q f args })
  of_async_call q f args p h under n e meets d =
      let f1 = sym (ap (λ t. t.faults) (judge-AsyncCall w under p.0 q f args)) ∙ e in
      let ops = row w false args in
      let inner = fault p.0 NestedAsync (nested w) in
      let by = λ (o : Option Node). call_judged w p.0 o inner async_fit ops in
      let (g, named) = called_node p.0 (node_named k.nodes f) inner async_fit ops f1 in
      let f2 : (by (Some g)).faults ≡ [] = subst (λ (o : Option Node). (by o).faults ≡ []) named f1 in
      let own_faults = fault p.0 Recursive (calls_lead k.nodes g.name judged_node.name) ++ inner in
      let fit = λ (ts : List (List Ty)). barred w (async_fit (call_fit g ts)) in
      let cl = clean p.0 own_faults ops fit f2 in
      let below_d = subst (All (Demanded k site)) (below-AsyncCall q f args) (All-tail (Demanded k site) _ _ d) in
      let here = All-head (Demanded k site) _ _ d in
      let (tss, t, s) = arguments_sound args h p.0 (Inner n) (n + 1) cl.operand_faults (subst (Meets a) (conditions-AsyncCall own n p.0 q f args) meets) below_d (sym (unmet_AsyncCall k.grade p.0 q f args) ∙ here.met) in
      let plain = All-head (λ (x : Name). (g : Node) → node_named k.nodes x ≡ Some g → list_all is_plain (types_of g.outputs) ≡ true) f []
      (subst (All (λ (x : Name). (g : Node) → node_named k.nodes x ≡ Some g → list_all is_plain (types_of g.outputs) ≡ true)) (called_async-AsyncCall q f args) here.plain) in
      let (ts, fits, gives) = typed p.0 own_faults ops fit tss f2 t (barred_typed w (async_fit (call_fit g tss)) (async_typed g tss (plain g named))) in
      let made = All-head (λ (x : Name). is_in x (calls_of (Some k.node)) ≡ true) f [] (subst (All (λ (x : Name). is_in x (calls_of (Some k.node)) ≡ true)) (called-AsyncCall q f args) here.made) in (
        ts,
        ap (λ j. j.types) (judge-AsyncCall w under p.0 q f args) ∙ ap (λ (o : Option Node). (by o).types) named ∙ gives,
        on_inner _ n ts (term_AsyncCall own n q f args)
            (is_async_call (out_AsyncCall q f args) named s (barred_fits w (async_fit (call_fit g tss)) ts fits) (leads g (no_fault p.0 Recursive _ (nil_left _ inner cl.own_faults))) made),
      )

  -- ---- all forms

  of_form : (v : Form-F Form Expr MergeBranch) (p : Place) → EachOperand SoundHere v → SoundHere (record { place = p; form = roll-Form v })
  of_form (Form-F.Const c) p h = subst (λ (f : Form). SoundHere (record { place = p; form = f })) (sym (form.rolls-Const c)) (of_const c p)
  of_form (Form-F.Var x) p h = subst (λ (f : Form). SoundHere (record { place = p; form = f })) (sym (form.rolls-Var x)) (of_var x p)
  of_form (Form-F.Last x) p h = subst (λ (f : Form). SoundHere (record { place = p; form = f })) (sym (form.rolls-Last x)) (of_last x p)
  of_form (Form-F.Unary op b) p h = subst (λ (f : Form). SoundHere (record { place = p; form = f })) (sym (form.rolls-Unary op b)) (of_unary op b p h)
  of_form (Form-F.Binary op b c) p h = subst (λ (f : Form). SoundHere (record { place = p; form = f })) (sym (form.rolls-Binary op b c)) (of_binary op b c p h.0 h.1)
  of_form (Form-F.If i b c) p h = subst (λ (f : Form). SoundHere (record { place = p; form = f })) (sym (form.rolls-If i b c)) (of_if i b c p h.0 h.1 h.2)
  of_form (Form-F.Fby b c) p h = subst (λ (f : Form). SoundHere (record { place = p; form = f })) (sym (form.rolls-Fby b c)) (of_fby b c p h.0 h.1)
  of_form (Form-F.Pre b) p h = subst (λ (f : Form). SoundHere (record { place = p; form = f })) (sym (form.rolls-Pre b)) (of_pre b p h)
  of_form (Form-F.Arrow b c) p h = subst (λ (f : Form). SoundHere (record { place = p; form = f })) (sym (form.rolls-Arrow b c)) (of_arrow b c p h.0 h.1)
  of_form (Form-F.When b tag x) p h = subst (λ (f : Form). SoundHere (record { place = p; form = f })) (sym (form.rolls-When b tag x)) (of_when b tag x p h)
  of_form (Form-F.Merge x bs) p h = subst (λ (f : Form). SoundHere (record { place = p; form = f })) (sym (form.rolls-Merge x bs)) (of_merge x bs p h)
  of_form (Form-F.Call f args) p h = subst (λ (g : Form). SoundHere (record { place = p; form = g })) (sym (form.rolls-Call f args)) (of_call f args p h)
  of_form (Form-F.AsyncCall q f args) p h = subst (λ (g : Form). SoundHere (record { place = p; form = g })) (sym (form.rolls-AsyncCall q f args)) (of_async_call q f args p h)
  of_form (Form-F.AsyncConst c) p h = subst (λ (f : Form). SoundHere (record { place = p; form = f })) (sym (form.rolls-AsyncConst c)) (of_async_const c p)
  of_form (Form-F.Get b) p h = subst (λ (f : Form). SoundHere (record { place = p; form = f })) (sym (form.rolls-Get b)) (of_get b p h)

  pub expression_sound : (e : Expr) → SoundHere e
  expression_sound e = by_operands SoundHere of_form e
