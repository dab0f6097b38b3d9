-- Where an expression is judged without faults, it has types, and the erased expression has these without futures and no fault.
use Rattle.std.proofs.Common.{◌≡◌, ℕ, suc, Bool, true, false, ◌&&◌, List, [], ◌∷◌, ◌++◌, length, map, refl, sym, ap, subst, ◌∙◌, arith}
use Rattle.std.specs.Prelude.{Option, Some, None, is_some, not, if◌then◌else◌}
use Rattle.std.specs.List.{flat_map, list_any, list_all}
use Rattle.std.specs.Option.{option_map, option_map_or}
use Rattle.hept_ast.specs.Texts.{Name}
use Rattle.hept_ast.specs.Parts.{declaration}
use Rattle.hept_ast.specs.Types.{Plain_type, is_plain, types_of, has_tags, tags_of, type_of_const, type_of_tag, same_tag, divides, Fit, Fits, Misfit, Untyped, alike, unary_fit, binary_fit, if_fit, call_fit, async_fit, get_fit}
use Rattle.hept_ast.specs.Faults.{Fault, UnknownName, Duplicate, ZeroDivisor, Recursive, NestedAsync, FutureKept, NotDefined, fault, called_async, node_named, calls_lead, is_nonzero, Judged, judged_by, judged, with_operand, both, no_operands, Judging, unknown_tag, tag_fits, branch_fit, lack_faults, type_of_variable, is_kept, const_judged, var_judged, last_judged, barred, when_fit, merge_fit, call_judged, unknown_variable, read_faults, nested, judge}
use Rattle.hept_ast.specs.Erasure.{erased_expr, erased_branch, erased_type, erased_decl, erased_node}
use Rattle.hept_ast.specs.declared.name.Place.{Place}
use Rattle.hept_ast.specs.declared.tree.Const.{Const}
use Rattle.hept_ast.specs.declared.tree.Tag.{Tag}
use Rattle.hept_ast.specs.declared.tree.UnaryOp.{UnaryOp}
use Rattle.hept_ast.specs.declared.tree.BinaryOp.{BinaryOp}
use Rattle.hept_ast.specs.declared.tree.Decl.{Decl}
use Rattle.hept_ast.specs.declared.tree.Expr.{Expr}
use Rattle.hept_ast.specs.declared.tree.MergeBranch.{MergeBranch}
use Rattle.hept_ast.specs.declared.tree.Node.{Node}
use Rattle.hept_ast.specs.declared.tree.Ty.{Ty}
use Rattle.hept_ast.specs.declared.tree.Ty.TheVariants as ty
use Rattle.hept_ast.specs.declared.tree.Form.{Form}
use Rattle.hept_ast.specs.declared.tree.Form.TheVariants as form
use Rattle.hept_ast.proofs.CalledForms.{nonzero-Var, nonzero-Last, nonzero-Unary, nonzero-Binary, nonzero-If, nonzero-Fby, nonzero-Pre, nonzero-Arrow, nonzero-When, nonzero-Merge, nonzero-Call, nonzero-AsyncCall, nonzero-AsyncConst, nonzero-Get, called_async-AsyncCall}
use Rattle.hept_ast.proofs.JudgeOf.{judge_of, one, row, branch_row, judge-Const, judge-Var, judge-Last, judge-Unary, judge-Binary, judge-If, judge-Fby, judge-Pre, judge-Arrow, judge-When, judge-Merge, judge-Call, judge-AsyncCall, judge-AsyncConst, judge-Get}
use Rattle.erased_rules.proofs.Lists.{nil_left, nil_right, nil_both, map_mapped}
use Rattle.erased_rules.proofs.ByForms.{Each, at, Cases, by_forms, erased-Const, erased-Var, erased-Last, erased-Unary, erased-Binary, erased-If, erased-Fby, erased-Pre, erased-Arrow, erased-When, erased-Merge, erased-Call, erased-AsyncCall, erased-AsyncConst, erased-Get}
use Rattle.erased_rules.proofs.Totals.{total, lower, lower-Unary, lower-Binary, lower-If, lower-Fby, lower-Pre, lower-Arrow, lower-When, lower-Merge, lower-Call, lower-AsyncCall, lower-Get}
use Rattle.erased_rules.proofs.CallsKept.{named_same, calls_lead_same}
use Rattle.erased_rules.proofs.Fits.{erased_types, Kept_fit, and_false, tagged_same, barred_kept, chosen_kept, alike_kept, unary_kept, binary_kept, if_kept, get_kept, call_kept, async_kept}
use Rattle.erased_rules.proofs.Judgings.{erased_judging, filled, clean, own_nil, operands_nil, judged_clean, not_misfit, Good, judged_kept, seen_type, none_kept, read_kept, has_type}
use Rattle.erased_rules.proofs.ErasedNodes.{declaration_same, init_same}

-- ---- constants other than 0

abbrev Nonzero : Expr → Type 0
Nonzero e = is_nonzero e.form ≡ true → is_nonzero (erased_expr e).form ≡ true

never : {A : Type 0} (b : Bool) → b ≡ false → b ≡ true → A
never b h k = let z : ⊥ = cc in absurd z

nonzero_cases : Cases Nonzero
nonzero_cases = record {
  of_const = λ p k h. ap (λ (e : Expr). is_nonzero e.form) (erased-Const p k) ∙ h;
  of_var = λ p x h. never (is_nonzero (form.Var x)) (nonzero-Var x) h;
  of_last = λ p x h. never (is_nonzero (form.Last x)) (nonzero-Last x) h;
  of_unary = λ p op a i h. never (is_nonzero (form.Unary op a)) (nonzero-Unary op a) h;
  of_binary = λ p op a b i j h. never (is_nonzero (form.Binary op a b)) (nonzero-Binary op a b) h;
  of_if = λ p c a b i j k h. never (is_nonzero (form.If c a b)) (nonzero-If c a b) h;
  of_fby = λ p a b i j h. never (is_nonzero (form.Fby a b)) (nonzero-Fby a b) h;
  of_pre = λ p a i h. never (is_nonzero (form.Pre a)) (nonzero-Pre a) h;
  of_arrow = λ p a b i j h. never (is_nonzero (form.Arrow a b)) (nonzero-Arrow a b) h;
  of_when = λ p a tag x i h. never (is_nonzero (form.When a tag x)) (nonzero-When a tag x) h;
  of_merge = λ p x bs i h. never (is_nonzero (form.Merge x bs)) (nonzero-Merge x bs) h;
  of_call = λ p f args i h. never (is_nonzero (form.Call f args)) (nonzero-Call f args) h;
  of_async = λ p q f args i h. never (is_nonzero (form.AsyncCall q f args)) (nonzero-AsyncCall q f args) h;
  of_ready = λ p k h. never (is_nonzero (form.AsyncConst k)) (nonzero-AsyncConst k) h;
  of_get = λ p a i h. never (is_nonzero (form.Get a)) (nonzero-Get a) h;
}

divisor_kept : (p : ℕ) (d x y : Bool) → (x ≡ true → y ≡ true) → fault p ZeroDivisor (d && not (x && true)) ≡ [] → fault p ZeroDivisor (d && not (y && true)) ≡ []
divisor_kept p false x y k h = refl
divisor_kept p true true y k h = ap (λ (b : Bool). fault p ZeroDivisor (not (b && true))) (k refl)
divisor_kept p true false y k h = absurd (filled (record { place = p; kind = ZeroDivisor }) [] h)

-- ---- operands beside operands

both_clean : (j k : Judged (List (List Ty))) (tss uss : List (List Ty)) → j ≡ clean tss → k ≡ clean uss → both j k ≡ clean (tss ++ uss)
both_clean j k tss uss e h = ap (λ (x : Judged (List (List Ty))). both x k) e ∙ ap (λ (x : Judged (List (List Ty))). both (clean tss) x) h

-- ---- the calls of an expression

abbrev pub async_at : ℕ → Form → List Name
async_at p f = called_async f

pub each_left : {A : Type 0} (P : A → Type 0) (xs ys : List A) → Each P (xs ++ ys) → Each P xs
each_left P [] ys h = tt
each_left P (x ∷ xs) ys h = (h.0, each_left P xs ys h.1)

pub each_right : {A : Type 0} (P : A → Type 0) (xs ys : List A) → Each P (xs ++ ys) → Each P ys
each_right P [] ys h = h
each_right P (x ∷ xs) ys h = each_right P xs ys h.1

pub each_both : {A : Type 0} (P : A → Type 0) (xs ys : List A) → Each P xs → Each P ys → Each P (xs ++ ys)
each_both P [] ys h k = k
each_both P (x ∷ xs) ys h k = (h.0, each_both P xs ys h.1 k)

-- a called node gives no future
abbrev pub Plain_outputs : List Node → Name → Type 0
Plain_outputs nodes f = (g : Node) → node_named nodes f ≡ Some g → list_all is_plain (types_of g.outputs) ≡ true

-- each type of a variable that is to have tags has one
abbrev pub Tags_there : Judging → Type 0
Tags_there w = (x : Name) (t : Ty) → type_of_variable w x ≡ Some t → has_tags t ≡ true → tags_of w.types t ≡ [] → ⊥

module _ (w : Judging) (tags : Tags_there w) where
  abbrev v : Judging
  v = erased_judging w

  -- each node that is called by async in an expression gives no future
  abbrev Clear : List Name → Type 0
  Clear fs = Each (Plain_outputs w.nodes) fs

  abbrev Typed : Bool → Expr → Type 0
  Typed under e = (ts : List Ty) × (judge_of w under e ≡ clean ts) × ((u : Bool) → judge_of v u (erased_expr e) ≡ clean (map erased_type ts))

  abbrev Kept : Expr → Type 0
  Kept e = Clear (total async_at e) → (under : Bool) → (judge_of w under e).faults ≡ [] → Typed under e

  lowered : (p : Place) (f : Form) (fs : List Name) → lower async_at f ≡ fs → Clear (total async_at (at p f)) → Clear fs
  lowered p f fs is h = subst Clear is (each_right (Plain_outputs w.nodes) (called_async f) (lower async_at f) h)

  done : (p : Place) (f f' : Form) (under : Bool) (j j' : Judged (List Ty)) → judge w under p.0 f ≡ j → erased_expr (at p f) ≡ at p f' → ((u : Bool) → judge v u p.0 f' ≡ j') → Good j j' → Typed under (at p f)
  done p f f' under j j' e is e' g = (g.0, e ∙ g.1, λ u. ap (judge_of v u) is ∙ e' u ∙ g.2)

  judged_nil : (j k : Judged (List Ty)) → j ≡ k → j.faults ≡ [] → k.faults ≡ []
  judged_nil j k e h = ap (λ (x : Judged (List Ty)). x.faults) (sym e) ∙ h

  -- ---- operands

  operand : (under : Bool) (a : Expr) → Kept a → Clear (total async_at a) → (one w under a).faults ≡ [] →
      (ts : List Ty) × (one w under a ≡ clean (ts ∷ [])) × ((u : Bool) → one v u (erased_expr a) ≡ clean (map erased_type ts ∷ []))
  operand under a k c h =
      let r = k c under (nil_left (judge_of w under a).faults [] h) in
      (r.0, ap (λ (j : Judged (List Ty)). with_operand j no_operands) r.1, λ u. ap (λ (j : Judged (List Ty)). with_operand j no_operands) (r.2 u))

  pair : (a b : Expr) → Kept a → Kept b → Clear (total async_at a ++ total async_at b) → (both (one w false a) (one w false b)).faults ≡ [] →
      (ts : List Ty) × (us : List Ty) × (both (one w false a) (one w false b) ≡ clean (ts ∷ us ∷ [])) × (both (one v false (erased_expr a)) (one v false (erased_expr b)) ≡ clean (map erased_type ts ∷ map erased_type us ∷ []))
  pair a b j k c h =
      let P = Plain_outputs w.nodes in
      let r = operand false a j (each_left P (total async_at a) (total async_at b) c) (nil_left (one w false a).faults (one w false b).faults h) in
      let s = operand false b k (each_right P (total async_at a) (total async_at b) c) (nil_right (one w false a).faults (one w false b).faults h) in (
        r.0,
        s.0,
        both_clean (one w false a) (one w false b) (r.0 ∷ []) (s.0 ∷ []) r.1 s.1,
        both_clean (one v false (erased_expr a)) (one v false (erased_expr b)) (map erased_type r.0 ∷ []) (map erased_type s.0 ∷ []) (r.2 false) (s.2 false),
      )

  arguments : (args : List Expr) → Each Kept args → Clear (flat_map (total async_at) args) → (row w false args).faults ≡ [] →
      (tss : List (List Ty)) × (row w false args ≡ clean tss) × (row v false (map erased_expr args) ≡ clean (erased_types tss))
  arguments [] ks c h = ([], refl, refl)
  arguments (e ∷ es) ks c h =
      let P = Plain_outputs w.nodes in
      let r = ks.0 (each_left P (total async_at e) (flat_map (total async_at) es) c) false (nil_left (judge_of w false e).faults (row w false es).faults h) in
      let s = arguments es ks.1 (each_right P (total async_at e) (flat_map (total async_at) es) c) (nil_right (judge_of w false e).faults (row w false es).faults h) in (
        r.0 ∷ s.0,
        ap (λ (j : Judged (List Ty)). with_operand j (row w false es)) r.1 ∙ ap (λ (j : Judged (List (List Ty))). with_operand (clean r.0) j) s.1,
        ap (λ (j : Judged (List Ty)). with_operand j (row v false (map erased_expr es))) (r.2 false) ∙ ap (λ (j : Judged (List (List Ty))). with_operand (clean (map erased_type r.0)) j) s.2,
      )

  fits_then : (b : Bool) (ts : List Ty) → ((if b then Fits ts else Misfit) ≡ Misfit → ⊥) → b ≡ true
  fits_then true ts n = refl
  fits_then false ts n = absurd (n refl)

  -- the branches of a merge on a type, and the erased ones where it has no futures
  merged : (on : Ty) (earlier : List Tag) (bs : List MergeBranch) → Each (λ b. Kept b.value) bs → Clear (flat_map (λ b. total async_at b.value) bs) → (branch_row w (Some on) earlier bs).faults ≡ [] →
      (tss : List (List Ty)) × (branch_row w (Some on) earlier bs ≡ clean tss) × (length tss ≡ length bs) × (branch_row v (Some on) earlier (map erased_branch bs) ≡ clean (erased_types tss))
  merged on earlier [] ks c h = ([], refl, refl, refl)
  merged on earlier (b ∷ bs) ks c h =
      let P = Plain_outputs w.nodes in
      let own = fault b.place.0 UnknownName (unknown_tag w b.tag) ++ fault b.place.0 Duplicate (list_any (same_tag b.tag) earlier) in
      let fit = branch_fit w b.tag (Some on) in
      let first = judged b.place.0 own (judge_of w false b.value) fit in
      let rest = branch_row w (Some on) (b.tag ∷ earlier) bs in
      let h0 : first.faults ≡ [] = nil_left first.faults rest.faults h in
      let r = ks.0 (each_left P (total async_at b.value) (flat_map (λ (b : MergeBranch). total async_at b.value) bs) c) false (operands_nil b.place.0 own (judge_of w false b.value) fit h0) in
      let o = own_nil b.place.0 own (judge_of w false b.value) fit h0 in
      let t = fits_then (tag_fits w (type_of_tag w.types b.tag) on) r.0 (not_misfit b.place.0 own (judge_of w false b.value) fit r.0 r.1 h0) in
      let e : first ≡ clean r.0 = judged_clean b.place.0 own (judge_of w false b.value) fit r.0 r.0 o r.1 (ap (λ (x : Bool). if x then Fits r.0 else Misfit) t) in
      let e' : judged b.place.0 own (judge_of v false (erased_expr b.value)) (branch_fit v b.tag (Some on)) ≡ clean (map erased_type r.0) =
      judged_clean b.place.0 own (judge_of v false (erased_expr b.value)) (branch_fit v b.tag (Some on)) (map erased_type r.0) (map erased_type r.0) o (r.2 false) (ap (λ (x : Bool). if x then Fits (map erased_type r.0) else Misfit) t) in
      let s = merged on (b.tag ∷ earlier) bs ks.1 (each_right P (total async_at b.value) (flat_map (λ (b : MergeBranch). total async_at b.value) bs) c) (nil_right first.faults rest.faults h) in (
        r.0 ∷ s.0,
        ap (λ (j : Judged (List Ty)). with_operand j rest) e ∙ ap (λ (j : Judged (List (List Ty))). with_operand (clean r.0) j) s.1,
        ap (λ (n : ℕ). suc n) s.2,
        ap (λ (j : Judged (List Ty)). with_operand j (branch_row v (Some on) (b.tag ∷ earlier) (map erased_branch bs))) e'
            ∙ ap (λ (j : Judged (List (List Ty))). with_operand (clean (map erased_type r.0)) j) s.3,
      )

  -- ---- forms

  barred_misfit : (b : Bool) (f : Fit) → f ≡ Misfit → (if b then Misfit else f) ≡ Misfit
  barred_misfit true f h = refl
  barred_misfit false f h = h

  barred_not : (b : Bool) (f : Fit) → ((if b then Misfit else f) ≡ Misfit → ⊥) → (if b then Misfit else f) ≡ f
  barred_not true f n = absurd (n refl)
  barred_not false f n = refl

  abbrev read_rest : ℕ → Name → List Fault
  read_rest p x = fault p FutureKept (option_map_or (is_kept w x) (type_of_variable w x) false)

  const_typed : (p : Place) (k : Const) → Kept (at p (form.Const k))
  const_typed p k c under h = go (type_of_const w.types k) refl
    where
      go : (t : Option Plain_type) → type_of_const w.types k ≡ t → Typed under (at p (form.Const k))
      go None is =
          let e : judge w under p.0 (form.Const k) ≡ const_judged w p.0 None ty.Plain = judge-Const w under p.0 k ∙ ap (λ (t : Option Plain_type). const_judged w p.0 t ty.Plain) is in
          absurd (filled (record { place = p.0; kind = UnknownName }) [] (judged_nil (judge w under p.0 (form.Const k)) (const_judged w p.0 None ty.Plain) e h))
      go (Some t) is = (
        ty.Plain t ∷ [],
        judge-Const w under p.0 k ∙ ap (λ (t : Option Plain_type). const_judged w p.0 t ty.Plain) is,
        λ u. ap (judge_of v u) (erased-Const p k) ∙ judge-Const v u p.0 k ∙ ap (λ (t : Option Plain_type). const_judged v p.0 t ty.Plain) is,
      )

  ready_typed : (p : Place) (k : Const) → Kept (at p (form.AsyncConst k))
  ready_typed p k c under h = go (type_of_const w.types k) refl
    where
      go : (t : Option Plain_type) → type_of_const w.types k ≡ t → Typed under (at p (form.AsyncConst k))
      go None is =
          let f : List Ty → Fit = λ ts. barred w (Fits ts) in
          let j = const_judged w p.0 (type_of_const w.types k) ty.Future in
          let e = judge-AsyncConst w under p.0 k in
          let n : j.faults ≡ [] = operands_nil p.0 [] j f (judged_nil (judge w under p.0 (form.AsyncConst k)) (judged p.0 [] j f) e h) in
          absurd (filled (record { place = p.0; kind = UnknownName }) [] (ap (λ (t : Option Plain_type). (const_judged w p.0 t ty.Future).faults) (sym is) ∙ n))
      go (Some t) is =
          let f : List Ty → Fit = λ ts. barred w (Fits ts) in
          let j = const_judged w p.0 (type_of_const w.types k) ty.Future in
          let e = judge-AsyncConst w under p.0 k in
          let i : j ≡ clean (ty.Future t ∷ []) = ap (λ (t : Option Plain_type). const_judged w p.0 t ty.Future) is in
          let h1 = judged_nil (judge w under p.0 (form.AsyncConst k)) (judged p.0 [] j f) e h in
          let r = barred_kept w.strong (Fits (ty.Future t ∷ [])) (Fits (ty.Plain t ∷ [])) (λ n. (ty.Future t ∷ [], refl, refl)) (not_misfit p.0 [] j f (ty.Future t ∷ []) i h1) in
          let s : r.0 ≡ ty.Future t ∷ [] = strong_fits w.strong (ty.Future t ∷ []) r.0 r.1 in (
            ty.Future t ∷ [],
            e ∙ judged_clean p.0 [] j f (ty.Future t ∷ []) (ty.Future t ∷ []) refl i (r.1 ∙ ap Fits s),
            λ u. ap (judge_of v u) (erased-AsyncConst p k) ∙ judge-Const v u p.0 k ∙ ap (λ (t : Option Plain_type). const_judged v p.0 t ty.Plain) is,
          )
        where
          strong_fits : (b : Bool) (ts us : List Ty) → (if b then Misfit else Fits ts) ≡ Fits us → us ≡ ts
          strong_fits true ts us e = cc
          strong_fits false ts us e = cc

  var_typed : (p : Place) (x : Name) → Kept (at p (form.Var x))
  var_typed p x c under h = go (type_of_variable w x) refl
    where
      plainly : (u : Bool) (t : Ty) → fault p.0 FutureKept (not u && is_kept v x (erased_type t)) ≡ []
      plainly u t = ap (λ (b : Bool). fault p.0 FutureKept (not u && b)) (none_kept w x t) ∙ ap (fault p.0 FutureKept) (and_false (not u))

      go : (t : Option Ty) → type_of_variable w x ≡ t → Typed under (at p (form.Var x))
      go None is =
          let e : judge w under p.0 (form.Var x) ≡ var_judged w p.0 under x None = judge-Var w under p.0 x ∙ ap (var_judged w p.0 under x) is in
          absurd (filled (record { place = p.0; kind = UnknownName }) [] (judged_nil (judge w under p.0 (form.Var x)) (var_judged w p.0 under x None) e h))
      go (Some t) is =
          let own = fault p.0 FutureKept (not under && is_kept w x t) in
          let e : judge w under p.0 (form.Var x) ≡ judged_by p.0 own (Fits (t ∷ [])) = judge-Var w under p.0 x ∙ ap (var_judged w p.0 under x) is in
          let n : own ≡ [] = judged_nil (judge w under p.0 (form.Var x)) (judged_by p.0 own (Fits (t ∷ []))) e h in (
            t ∷ [],
            e ∙ ap (λ (fs : List Fault). judged_by p.0 fs (Fits (t ∷ []))) n,
            λ u. ap (judge_of v u) (erased-Var p x) ∙ judge-Var v u p.0 x ∙ ap (var_judged v p.0 u x) (seen_type w x ∙ ap (option_map erased_type) is)
                ∙ ap (λ (fs : List Fault). judged_by p.0 fs (Fits (erased_type t ∷ []))) (plainly u t),
          )

  last_typed : (p : Place) (x : Name) → Kept (at p (form.Last x))
  last_typed p x c under h = go (declaration w.seen x) refl
    where
      go : (d : Option Decl) → declaration w.seen x ≡ d → Typed under (at p (form.Last x))
      go None is =
          let e : judge w under p.0 (form.Last x) ≡ last_judged w p.0 None = judge-Last w under p.0 x ∙ ap (last_judged w p.0) is in
          absurd (filled (record { place = p.0; kind = UnknownName }) [] (judged_nil (judge w under p.0 (form.Last x)) (last_judged w p.0 None) e h))
      go (Some d) is =
          let own = fault p.0 UnknownName (not (is_some d.init)) in
          let e : judge w under p.0 (form.Last x) ≡ judged_by p.0 own (Fits (d.ty ∷ [])) = judge-Last w under p.0 x ∙ ap (last_judged w p.0) is in
          let n : own ≡ [] = judged_nil (judge w under p.0 (form.Last x)) (judged_by p.0 own (Fits (d.ty ∷ []))) e h in (
            d.ty ∷ [],
            e ∙ ap (λ (fs : List Fault). judged_by p.0 fs (Fits (d.ty ∷ []))) n,
            λ u. ap (judge_of v u) (erased-Last p x) ∙ judge-Last v u p.0 x ∙ ap (last_judged v p.0) (declaration_same w.seen x ∙ ap (option_map erased_decl) is)
                ∙ ap (λ (b : Bool). judged_by p.0 (fault p.0 UnknownName (not b)) (Fits (erased_type d.ty ∷ []))) (init_same d)
                ∙ ap (λ (fs : List Fault). judged_by p.0 fs (Fits (erased_type d.ty ∷ []))) n,
          )

  unary_typed : (p : Place) (op : UnaryOp) (a : Expr) → Kept a → Kept (at p (form.Unary op a))
  unary_typed p op a k c under h =
      let f = form.Unary op a in
      let g = form.Unary op (erased_expr a) in
      let j = one w false a in
      let i = one v false (erased_expr a) in
      let e = judge-Unary w under p.0 op a in
      let n = judged_nil (judge w under p.0 f) (judged p.0 [] j (unary_fit op)) e h in
      let r = operand false a k (lowered p f (total async_at a) (lower-Unary async_at op a) c) (operands_nil p.0 [] j (unary_fit op) n) in
      done p f g under (judged p.0 [] j (unary_fit op)) (judged p.0 [] i (unary_fit op)) e (erased-Unary p op a) (λ u. judge-Unary v u p.0 op (erased_expr a))
      (judged_kept p.0 [] [] j i (unary_fit op) (unary_fit op) (r.0 ∷ []) (map erased_type r.0 ∷ []) n refl r.1 (r.2 false) (unary_kept op (r.0 ∷ [])))

  binary_typed : (p : Place) (op : BinaryOp) (a b : Expr) → Kept a → Kept b → Kept (at p (form.Binary op a b))
  binary_typed p op a b k l c under h =
      let f = form.Binary op a b in
      let g = form.Binary op (erased_expr a) (erased_expr b) in
      let own = fault p.0 ZeroDivisor (divides op && not (is_nonzero b.form && true)) in
      let own' = fault p.0 ZeroDivisor (divides op && not (is_nonzero (erased_expr b).form && true)) in
      let j = both (one w false a) (one w false b) in
      let i = both (one v false (erased_expr a)) (one v false (erased_expr b)) in
      let e = judge-Binary w under p.0 op a b in
      let n = judged_nil (judge w under p.0 f) (judged p.0 own j (binary_fit op)) e h in
      let o = divisor_kept p.0 (divides op) (is_nonzero b.form) (is_nonzero (erased_expr b).form) (by_forms Nonzero nonzero_cases b) (own_nil p.0 own j (binary_fit op) n) in
      let r = pair a b k l (lowered p f (total async_at a ++ total async_at b) (lower-Binary async_at op a b) c) (operands_nil p.0 own j (binary_fit op) n) in
      done p f g under (judged p.0 own j (binary_fit op)) (judged p.0 own' i (binary_fit op)) e (erased-Binary p op a b) (λ u. judge-Binary v u p.0 op (erased_expr a) (erased_expr b))
      (judged_kept p.0 own own' j i (binary_fit op) (binary_fit op) (r.0 ∷ r.1 ∷ []) (map erased_type r.0 ∷ map erased_type r.1 ∷ []) n o r.2 r.3 (binary_kept op r.0 (r.1 ∷ [])))

  if_typed : (p : Place) (d a b : Expr) → Kept d → Kept a → Kept b → Kept (at p (form.If d a b))
  if_typed p d a b m k l c under h =
      let P = Plain_outputs w.nodes in
      let f = form.If d a b in
      let g = form.If (erased_expr d) (erased_expr a) (erased_expr b) in
      let ab = both (one w false a) (one w false b) in
      let ab' = both (one v false (erased_expr a)) (one v false (erased_expr b)) in
      let j = both (one w false d) ab in
      let i = both (one v false (erased_expr d)) ab' in
      let e = judge-If w under p.0 d a b in
      let n = judged_nil (judge w under p.0 f) (judged p.0 [] j if_fit) e h in
      let on = operands_nil p.0 [] j if_fit n in
      let dab : Clear (total async_at d ++ total async_at a ++ total async_at b) = lowered p f (total async_at d ++ total async_at a ++ total async_at b) (lower-If async_at d a b) c in
      let da = each_left P (total async_at d ++ total async_at a) (total async_at b) dab in
      let cb = each_right P (total async_at d ++ total async_at a) (total async_at b) dab in
      let cab = each_both P (total async_at a) (total async_at b) (each_right P (total async_at d) (total async_at a) da) cb in
      let q = operand false d m (each_left P (total async_at d) (total async_at a) da) (nil_left (one w false d).faults ab.faults on) in
      let r = pair a b k l cab (nil_right (one w false d).faults ab.faults on) in
      let s : j ≡ clean (q.0 ∷ r.0 ∷ r.1 ∷ []) = both_clean (one w false d) ab (q.0 ∷ []) (r.0 ∷ r.1 ∷ []) q.1 r.2 in
      let s' : i ≡ clean (map erased_type q.0 ∷ map erased_type r.0 ∷ map erased_type r.1 ∷ []) =
      both_clean (one v false (erased_expr d)) ab' (map erased_type q.0 ∷ []) (map erased_type r.0 ∷ map erased_type r.1 ∷ []) (q.2 false) r.3 in
      done p f g under (judged p.0 [] j if_fit) (judged p.0 [] i if_fit) e (erased-If p d a b) (λ u. judge-If v u p.0 (erased_expr d) (erased_expr a) (erased_expr b))
      (judged_kept p.0 [] [] j i if_fit if_fit (q.0 ∷ r.0 ∷ r.1 ∷ []) (map erased_type q.0 ∷ map erased_type r.0 ∷ map erased_type r.1 ∷ []) n refl s s' (if_kept q.0 r.0 (r.1 ∷ [])))

  abbrev alike_here : List (List Ty) → Fit
  alike_here ts = barred w (alike ts)

  fby_typed : (p : Place) (a b : Expr) → Kept a → Kept b → Kept (at p (form.Fby a b))
  fby_typed p a b k l c under h =
      let f = form.Fby a b in
      let g = form.Fby (erased_expr a) (erased_expr b) in
      let j = both (one w false a) (one w false b) in
      let i = both (one v false (erased_expr a)) (one v false (erased_expr b)) in
      let e = judge-Fby w under p.0 a b in
      let n = judged_nil (judge w under p.0 f) (judged p.0 [] j alike_here) e h in
      let r = pair a b k l (lowered p f (total async_at a ++ total async_at b) (lower-Fby async_at a b) c) (operands_nil p.0 [] j alike_here n) in
      done p f g under (judged p.0 [] j alike_here) (judged p.0 [] i alike_here) e (erased-Fby p a b) (λ u. judge-Fby v u p.0 (erased_expr a) (erased_expr b))
      (judged_kept p.0 [] [] j i alike_here alike_here (r.0 ∷ r.1 ∷ []) (map erased_type r.0 ∷ map erased_type r.1 ∷ []) n refl r.2 r.3
      (barred_kept w.strong (alike (r.0 ∷ r.1 ∷ [])) (alike (map erased_type r.0 ∷ map erased_type r.1 ∷ [])) (alike_kept r.0 (r.1 ∷ []))))

  arrow_typed : (p : Place) (a b : Expr) → Kept a → Kept b → Kept (at p (form.Arrow a b))
  arrow_typed p a b k l c under h =
      let f = form.Arrow a b in
      let g = form.Arrow (erased_expr a) (erased_expr b) in
      let j = both (one w false a) (one w false b) in
      let i = both (one v false (erased_expr a)) (one v false (erased_expr b)) in
      let e = judge-Arrow w under p.0 a b in
      let n = judged_nil (judge w under p.0 f) (judged p.0 [] j alike_here) e h in
      let r = pair a b k l (lowered p f (total async_at a ++ total async_at b) (lower-Arrow async_at a b) c) (operands_nil p.0 [] j alike_here n) in
      done p f g under (judged p.0 [] j alike_here) (judged p.0 [] i alike_here) e (erased-Arrow p a b) (λ u. judge-Arrow v u p.0 (erased_expr a) (erased_expr b))
      (judged_kept p.0 [] [] j i alike_here alike_here (r.0 ∷ r.1 ∷ []) (map erased_type r.0 ∷ map erased_type r.1 ∷ []) n refl r.2 r.3
      (barred_kept w.strong (alike (r.0 ∷ r.1 ∷ [])) (alike (map erased_type r.0 ∷ map erased_type r.1 ∷ [])) (alike_kept r.0 (r.1 ∷ []))))

  pre_typed : (p : Place) (a : Expr) → Kept a → Kept (at p (form.Pre a))
  pre_typed p a k c under h =
      let f = form.Pre a in
      let g = form.Pre (erased_expr a) in
      let j = one w false a in
      let i = one v false (erased_expr a) in
      let e = judge-Pre w under p.0 a in
      let n = judged_nil (judge w under p.0 f) (judged p.0 [] j alike_here) e h in
      let r = operand false a k (lowered p f (total async_at a) (lower-Pre async_at a) c) (operands_nil p.0 [] j alike_here n) in
      done p f g under (judged p.0 [] j alike_here) (judged p.0 [] i alike_here) e (erased-Pre p a) (λ u. judge-Pre v u p.0 (erased_expr a))
      (judged_kept p.0 [] [] j i alike_here alike_here (r.0 ∷ []) (map erased_type r.0 ∷ []) n refl r.1 (r.2 false)
      (barred_kept w.strong (alike (r.0 ∷ [])) (alike (map erased_type r.0 ∷ [])) (alike_kept r.0 [])))

  when_kept : (t : Tag) (on : Ty) (ts : List Ty) → Kept_fit (when_fit w t (Some on) (ts ∷ [])) (when_fit v t (Some (erased_type on)) (map erased_type ts ∷ []))
  when_kept t (ty.Plain on) ts =
      let b = tag_fits w (type_of_tag w.types t) (ty.Plain on) && has_tags (ty.Plain on) in
      chosen_kept b b (alike (ts ∷ [])) (alike (map erased_type ts ∷ [])) (λ h. h) (λ h. alike_kept ts [])
  when_kept t (ty.Future on) ts = λ n. absurd (n (ap (λ (b : Bool). if b then alike (ts ∷ []) else Misfit) (and_false (tag_fits w (type_of_tag w.types t) (ty.Future on)))))

  when_typed : (p : Place) (a : Expr) (tag : Tag) (x : Name) → Kept a → Kept (at p (form.When a tag x))
  when_typed p a tag x k c under h =
      let f = form.When a tag x in
      let g = form.When (erased_expr a) tag x in
      let tagged = fault p.0 UnknownName (unknown_tag w tag) in
      let own = read_faults w p.0 x ++ tagged in
      let own' = read_faults v p.0 x ++ tagged in
      let fit = when_fit w tag (type_of_variable w x) in
      let fit' = when_fit v tag (type_of_variable v x) in
      let j = one w false a in
      let i = one v false (erased_expr a) in
      let e = judge-When w under p.0 a tag x in
      let n = judged_nil (judge w under p.0 f) (judged p.0 own j fit) e h in
      let o = own_nil p.0 own j fit n in
      let read = nil_left (read_faults w p.0 x) tagged o in
      let t = has_type w p.0 x (nil_left (unknown_variable w p.0 x) (read_rest p.0 x) read) in
      let r = operand false a k (lowered p f (total async_at a) (lower-When async_at a tag x) c) (operands_nil p.0 own j fit n) in
      let fits : Kept_fit (fit (r.0 ∷ [])) (fit' (map erased_type r.0 ∷ [])) =
      subst (λ (o : Option Ty). Kept_fit (when_fit w tag o (r.0 ∷ [])) (fit' (map erased_type r.0 ∷ []))) (sym t.1)
      (subst (λ (o : Option Ty). Kept_fit (when_fit w tag (Some t.0) (r.0 ∷ [])) (when_fit v tag o (map erased_type r.0 ∷ []))) (sym (seen_type w x ∙ ap (option_map erased_type) t.1)) (when_kept tag t.0 r.0)) in
      done p f g under (judged p.0 own j fit) (judged p.0 own' i fit') e (erased-When p a tag x) (λ u. judge-When v u p.0 (erased_expr a) tag x)
      (judged_kept p.0 own own' j i fit fit' (r.0 ∷ []) (map erased_type r.0 ∷ []) n (nil_both (read_faults v p.0 x) tagged (read_kept w p.0 x read) (nil_right (read_faults w p.0 x) tagged o)) r.1 (r.2 false) fits)

  call_typed : (p : Place) (f : Name) (args : List Expr) → Each Kept args → Kept (at p (form.Call f args))
  call_typed p f args ks c under h = go (node_named w.nodes f) refl
    where
      go : (g : Option Node) → node_named w.nodes f ≡ g → Typed under (at p (form.Call f args))
      go None is =
          let own = record { place = p.0; kind = UnknownName } ∷ [] in
          let fit : List (List Ty) → Fit = λ ts. barred w Untyped in
          let e : judge w under p.0 (form.Call f args) ≡ judged p.0 own (row w false args) fit = judge-Call w under p.0 f args ∙ ap (λ (g : Option Node). call_judged w p.0 g [] (λ x. x) (row w false args)) is in
          absurd (filled (record { place = p.0; kind = UnknownName }) [] (own_nil p.0 own (row w false args) fit (judged_nil (judge w under p.0 (form.Call f args)) (judged p.0 own (row w false args) fit) e h)))
      go (Some g) is =
          let own = fault p.0 Recursive (calls_lead w.nodes g.name w.node.name) ++ [] in
          let own' = fault p.0 Recursive (calls_lead v.nodes g.name w.node.name) ++ [] in
          let fit : List (List Ty) → Fit = λ ts. barred w (call_fit g ts) in
          let fit' : List (List Ty) → Fit = λ ts. barred v (call_fit (erased_node g) ts) in
          let j = row w false args in
          let i = row v false (map erased_expr args) in
          let e : judge w under p.0 (form.Call f args) ≡ judged p.0 own j fit = judge-Call w under p.0 f args ∙ ap (λ (g : Option Node). call_judged w p.0 g [] (λ x. x) j) is in
          let n = judged_nil (judge w under p.0 (form.Call f args)) (judged p.0 own j fit) e h in
          let o = own_nil p.0 own j fit n in
          let r = arguments args ks (lowered p (form.Call f args) (flat_map (total async_at) args) (lower-Call async_at f args) c) (operands_nil p.0 own j fit n) in
          done p (form.Call f args) (form.Call f (map erased_expr args)) under (judged p.0 own j fit) (judged p.0 own' i fit') e (erased-Call p f args)
          (λ u. judge-Call v u p.0 f (map erased_expr args) ∙ ap (λ (g : Option Node). call_judged v p.0 g [] (λ x. x) i) (named_same w.nodes f ∙ ap (option_map erased_node) is))
          (judged_kept p.0 own own' j i fit fit' r.0 (erased_types r.0) n (ap (λ (b : Bool). fault p.0 Recursive b ++ []) (calls_lead_same w.nodes g.name w.node.name) ∙ o) r.1 r.2
          (barred_kept w.strong (call_fit g r.0) (call_fit (erased_node g) (erased_types r.0)) (call_kept g r.0)))

  async_typed : (p : Place) (q : ℕ) (f : Name) (args : List Expr) → Each Kept args → Kept (at p (form.AsyncCall q f args))
  async_typed p q f args ks c under h = go (node_named w.nodes f) refl
    where
      nest : List Fault
      nest = fault p.0 NestedAsync (nested w)

      go : (g : Option Node) → node_named w.nodes f ≡ g → Typed under (at p (form.AsyncCall q f args))
      go None is =
          let own = record { place = p.0; kind = UnknownName } ∷ fault p.0 NestedAsync (nested w) in
          let fit : List (List Ty) → Fit = λ ts. barred w Untyped in
          let e : judge w under p.0 (form.AsyncCall q f args) ≡ judged p.0 own (row w false args) fit =
          judge-AsyncCall w under p.0 q f args ∙ ap (λ (g : Option Node). call_judged w p.0 g (fault p.0 NestedAsync (nested w)) async_fit (row w false args)) is in
          absurd (filled (record { place = p.0; kind = UnknownName }) (fault p.0 NestedAsync (nested w))
          (own_nil p.0 own (row w false args) fit (judged_nil (judge w under p.0 (form.AsyncCall q f args)) (judged p.0 own (row w false args) fit) e h)))
      go (Some g) is =
          let own = fault p.0 Recursive (calls_lead w.nodes g.name w.node.name) ++ fault p.0 NestedAsync (nested w) in
          let own' = fault p.0 Recursive (calls_lead v.nodes g.name w.node.name) ++ [] in
          let fit : List (List Ty) → Fit = λ ts. barred w (async_fit (call_fit g ts)) in
          let fit' : List (List Ty) → Fit = λ ts. barred v (call_fit (erased_node g) ts) in
          let j = row w false args in
          let i = row v false (map erased_expr args) in
          let e : judge w under p.0 (form.AsyncCall q f args) ≡ judged p.0 own j fit =
          judge-AsyncCall w under p.0 q f args ∙ ap (λ (g : Option Node). call_judged w p.0 g (fault p.0 NestedAsync (nested w)) async_fit j) is in
          let n = judged_nil (judge w under p.0 (form.AsyncCall q f args)) (judged p.0 own j fit) e h in
          let o = nil_left (fault p.0 Recursive (calls_lead w.nodes g.name w.node.name)) (fault p.0 NestedAsync (nested w)) (own_nil p.0 own j fit n) in
          let plain : list_all is_plain (types_of g.outputs) ≡ true = first_clear c g is in
          let r = arguments args ks (lowered p (form.AsyncCall q f args) (flat_map (total async_at) args) (lower-AsyncCall async_at q f args) c) (operands_nil p.0 own j fit n) in
          done p (form.AsyncCall q f args) (form.Call f (map erased_expr args)) under (judged p.0 own j fit) (judged p.0 own' i fit') e (erased-AsyncCall p q f args)
          (λ u. judge-Call v u p.0 f (map erased_expr args) ∙ ap (λ (g : Option Node). call_judged v p.0 g [] (λ x. x) i) (named_same w.nodes f ∙ ap (option_map erased_node) is))
          (judged_kept p.0 own own' j i fit fit' r.0 (erased_types r.0) n
          (ap (λ (b : Bool). fault p.0 Recursive b ++ []) (calls_lead_same w.nodes g.name w.node.name) ∙ nil_both (fault p.0 Recursive (calls_lead w.nodes g.name w.node.name)) [] o refl) r.1 r.2
          (barred_kept w.strong (async_fit (call_fit g r.0)) (call_fit (erased_node g) (erased_types r.0)) (async_kept g r.0 plain)))
        where
          first_clear : Clear (total async_at (at p (form.AsyncCall q f args))) → Plain_outputs w.nodes f
          first_clear c =
              let l : Clear (called_async (form.AsyncCall q f args)) = each_left (Plain_outputs w.nodes) (called_async (form.AsyncCall q f args)) (lower async_at (form.AsyncCall q f args)) c in
              let m : Clear (f ∷ []) = subst Clear (called_async-AsyncCall q f args) l in
              m.0

  get_typed : (p : Place) (a : Expr) → Kept a → Kept (at p (form.Get a))
  get_typed p a k c under h =
      let fit : List (List Ty) → Fit = λ ts. barred w (get_fit ts) in
      let j = one w true a in
      let e = judge-Get w under p.0 a in
      let n = judged_nil (judge w under p.0 (form.Get a)) (judged p.0 [] j fit) e h in
      let m : j.faults ≡ [] = operands_nil p.0 [] j fit n in
      let r = k (lowered p (form.Get a) (total async_at a) (lower-Get async_at a) c) true (nil_left (judge_of w true a).faults [] m) in
      let i : j ≡ clean (r.0 ∷ []) = ap (λ (j : Judged (List Ty)). with_operand j no_operands) r.1 in
      let x = not_misfit p.0 [] j fit (r.0 ∷ []) i n in
      let s = get_kept r.0 (λ z. x (barred_misfit w.strong (get_fit (r.0 ∷ [])) z)) in
      let fits : fit (r.0 ∷ []) ≡ Fits (ty.Plain s.0 ∷ []) = barred_not w.strong (get_fit (r.0 ∷ [])) x ∙ ap (λ (ts : List Ty). get_fit (ts ∷ [])) s.1 in (
        ty.Plain s.0 ∷ [],
        e ∙ judged_clean p.0 [] j fit (r.0 ∷ []) (ty.Plain s.0 ∷ []) refl i fits,
        λ u. ap (judge_of v u) (erased-Get p a) ∙ r.2 u ∙ ap (λ (ts : List Ty). clean (map erased_type ts)) s.1,
      )

  -- a merge on a type: what it is judged by
  abbrev merge_own : Judging → ℕ → Name → List MergeBranch → Option Ty → List Fault
  merge_own w p x bs on = read_faults w p x ++ lack_faults w p (map (λ b. b.tag) bs) on

  abbrev merge_judged : Judging → ℕ → Name → List MergeBranch → Option Ty → Judged (List Ty)
  merge_judged w p x bs on = judged p (merge_own w p x bs on) (branch_row w on [] bs) (merge_fit w on)

  tagged : (b : Bool) (f : Fit) → ((if b then f else Misfit) ≡ Misfit → ⊥) → b ≡ true
  tagged true f n = refl
  tagged false f n = absurd (n refl)

  no_tags : (p : ℕ) (ts : List Tag) → fault p NotDefined (list_any (λ t. not (list_any (same_tag t) [])) ts) ≡ [] → ts ≡ []
  no_tags p [] h = refl
  no_tags p (t ∷ ts) h = absurd (filled (record { place = p; kind = NotDefined }) [] h)

  tags_same : (bs : List MergeBranch) → map (λ (b : MergeBranch). b.tag) (map erased_branch bs) ≡ map (λ (b : MergeBranch). b.tag) bs
  tags_same bs = map_mapped (λ (b : MergeBranch). b.tag) erased_branch (λ (b : MergeBranch). b.tag) (λ b. refl) bs

  merge_kept : (on : Ty) (n : ℕ) (tss : List (List Ty)) → length tss ≡ suc n → Kept_fit (merge_fit w (Some on) tss) (merge_fit v (Some on) (erased_types tss))
  merge_kept on n [] l = λ m. absurd (let z : ⊥ = omega arith in z)
  merge_kept on n (t ∷ ts) l = chosen_kept (has_tags on) (has_tags on) (alike (t ∷ ts)) (alike (erased_types (t ∷ ts))) (λ h. h) (λ h. alike_kept t ts)

  on_type : (p : Place) (x : Name) (bs : List MergeBranch) (under : Bool) (on : Ty) → type_of_variable w x ≡ Some on → Each (λ b. Kept b.value) bs → Clear (flat_map (λ b. total async_at b.value) bs) →
      judge w under p.0 (form.Merge x bs) ≡ merge_judged w p.0 x bs (Some on) → (merge_judged w p.0 x bs (Some on)).faults ≡ [] → Typed under (at p (form.Merge x bs))
  on_type p x [] under on is ks c e n =
      let own = merge_own w p.0 x [] (Some on) in
      let fit = merge_fit w (Some on) in
      let o = own_nil p.0 own no_operands fit n in
      let t = tagged (has_tags on) (alike []) (not_misfit p.0 own no_operands fit [] refl n) in
      absurd (tags x on is t (no_tags p.0 (tags_of w.types on) (nil_right (read_faults w p.0 x) (lack_faults w p.0 [] (Some on)) o)))
  on_type p x (b ∷ bs) under on is ks c e n =
      let all = b ∷ bs in
      let own = merge_own w p.0 x all (Some on) in
      let own' = merge_own v p.0 x all (Some on) in
      let lack = lack_faults w p.0 (map (λ (b : MergeBranch). b.tag) all) (Some on) in
      let fit = merge_fit w (Some on) in
      let j = branch_row w (Some on) [] all in
      let i = branch_row v (Some on) [] (map erased_branch all) in
      let o = own_nil p.0 own j fit n in
      let r = merged on [] all ks c (operands_nil p.0 own j fit n) in
      let t = tagged (has_tags on) (alike r.0) (not_misfit p.0 own j fit r.0 r.1 n) in
      let there : type_of_variable v x ≡ Some on = seen_type w x ∙ ap (option_map erased_type) is ∙ ap (λ (t : Ty). Some t) (tagged_same on t) in
      done p (form.Merge x all) (form.Merge x (map erased_branch all)) under (merge_judged w p.0 x all (Some on)) (judged p.0 own' i (merge_fit v (Some on))) e (erased-Merge p x all)
      (λ u. judge-Merge v u p.0 x (map erased_branch all) ∙ ap (merge_judged v p.0 x (map erased_branch all)) there
      ∙ ap (λ (ts : List Tag). judged p.0 (read_faults v p.0 x ++ lack_faults v p.0 ts (Some on)) i (merge_fit v (Some on))) (tags_same all))
      (judged_kept p.0 own own' j i fit (merge_fit v (Some on)) r.0 (erased_types r.0) n
      (nil_both (read_faults v p.0 x) lack (read_kept w p.0 x (nil_left (read_faults w p.0 x) lack o)) (nil_right (read_faults w p.0 x) lack o)) r.1 r.3 (merge_kept on (length bs) r.0 r.2))

  merge_typed : (p : Place) (x : Name) (bs : List MergeBranch) → Each (λ b. Kept b.value) bs → Kept (at p (form.Merge x bs))
  merge_typed p x bs ks c under h =
      let f = form.Merge x bs in
      let on = type_of_variable w x in
      let lack = lack_faults w p.0 (map (λ (b : MergeBranch). b.tag) bs) on in
      let e = judge-Merge w under p.0 x bs in
      let n = judged_nil (judge w under p.0 f) (merge_judged w p.0 x bs on) e h in
      let o = own_nil p.0 (merge_own w p.0 x bs on) (branch_row w on [] bs) (merge_fit w on) n in
      let t = has_type w p.0 x (nil_left (unknown_variable w p.0 x) (read_rest p.0 x) (nil_left (read_faults w p.0 x) lack o)) in
      let s = ap (merge_judged w p.0 x bs) t.1 in
      on_type p x bs under t.0 t.1 ks (lowered p f (flat_map (λ (b : MergeBranch). total async_at b.value) bs) (lower-Merge async_at x bs) c) (e ∙ s)
      (judged_nil (merge_judged w p.0 x bs on) (merge_judged w p.0 x bs (Some t.0)) s n)

  typed_cases : Cases Kept
  typed_cases = record {
    of_const = const_typed;
    of_var = var_typed;
    of_last = last_typed;
    of_unary = unary_typed;
    of_binary = binary_typed;
    of_if = if_typed;
    of_fby = fby_typed;
    of_pre = pre_typed;
    of_arrow = arrow_typed;
    of_when = when_typed;
    of_merge = merge_typed;
    of_call = call_typed;
    of_async = async_typed;
    of_ready = ready_typed;
    of_get = get_typed;
  }

  pub typed_kept : (e : Expr) → Clear (total async_at e) → (under : Bool) → (judge_of w under e).faults ≡ [] →
      (ts : List Ty) × (judge_of w under e ≡ clean ts) × ((u : Bool) → judge_of (erased_judging w) u (erased_expr e) ≡ clean (map erased_type ts))
  typed_kept e = by_forms Kept typed_cases e
