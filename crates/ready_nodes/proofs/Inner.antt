-- Each expression inside a sound one is sound, on a clock of its own.
use Rattle.std.proofs.Common.{◌≡◌, List, [], ◌++◌, sym, ap, subst, ◌∙◌}
use Rattle.std.specs.Prelude.{All}
use Rattle.std.specs.List.{flat_map}
use Rattle.std.proofs.lemmas.List.Elements.{All-append, All-cons, All-nil}
use Rattle.hept_ast.specs.Texts.{Name}
use Rattle.hept_ast.specs.Scopes.{Clock}
use Rattle.hept_ast.specs.Parts.{below, inside}
use Rattle.hept_ast.specs.declared.tree.Core.{Core}
use Rattle.hept_ast.specs.declared.tree.Decl.{Decl}
use Rattle.hept_ast.specs.declared.tree.Expr.{Expr}
use Rattle.hept_ast.specs.declared.tree.MergeBranch.{MergeBranch}
use Rattle.hept_ast.specs.declared.tree.Ty.{Ty}
use Rattle.hept_ast.specs.declared.tree.Form.{Form, out-Form, roll-Form}
use Rattle.hept_ast.specs.declared.tree.Form.TheOpen.{Form-F}
use Rattle.hept_ast.specs.declared.tree.Form.TheViews.{roll-out-Form}
use Rattle.hept_ast.specs.declared.tree.Form.TheVariants as form
use Rattle.hept_ast.proofs.FormsOf.{below-Const, below-Var, below-Unary, below-Binary, below-If, below-Fby, below-Pre, below-Arrow, below-When, below-Merge, below-Call, below-AsyncCall, below-AsyncConst, below-Get}
use Rattle.core_fitting.specs.Sound.{Sound, SoundArguments, SoundBranches, SoundCall, Within, a_branch, an_argument, async, is_arrow, is_async_constant, is_binary, is_call, is_constant, is_fby, is_get, is_if, is_merge, is_pre, is_result, is_unary, is_variable, is_when, no_arguments, no_branches, sync}

module _ (core : Core) (k : Within) (rs : List Name) where
  pub record IsSoundPart (e : Expr) : Type 0 where
    pub clock : Clock
    pub type : Ty
    pub lists : List (List Name)
    pub sound : Sound core k rs e clock type lists

  form_by : (f : Form) (v : Form-F Form Expr MergeBranch) → out-Form f ≡ v → f ≡ roll-Form v
  form_by f v e = sym (roll-out-Form f) ∙ ap roll-Form e

  all_below : (e : Expr) (v : Form-F Form Expr MergeBranch) (g : Form) (xs : List Expr) → out-Form e.form ≡ v → roll-Form v ≡ g → below g ≡ xs → All IsSoundPart xs → All IsSoundPart (below e.form)
  all_below e v g xs h i j all = subst (All IsSoundPart) (sym (ap below (form_by e.form v h) ∙ ap below i ∙ j)) all

  whole : (e : Expr) (c : Clock) (y : Ty) (n : List (List Name)) → Sound core k rs e c y n → All IsSoundPart (below e.form) → All IsSoundPart (inside e)
  whole e c y n sound all = All-cons IsSoundPart e (below e.form) (record { clock = c; type = y; lists = n; sound = sound }) all

  both : (xs ys : List Expr) → All IsSoundPart xs → All IsSoundPart ys → All IsSoundPart (xs ++ ys)
  both xs ys h i = All-append IsSoundPart xs ys h i

  none : All IsSoundPart []
  none = All-nil IsSoundPart

  mutual
    sound_below : (e : Expr) (c : Clock) (y : Ty) (n : List (List Name)) → Sound core k rs e c y n → All IsSoundPart (below e.form)
    sound_below e c _ _ (is_constant {v = v} eq known fits) = all_below e _ _ _ eq (form.rolls-Const v) (below-Const v) none
    sound_below e c _ _ (is_async_constant {v = v} eq known fits) = all_below e _ _ _ eq (form.rolls-AsyncConst v) (below-AsyncConst v) none
    sound_below e c _ _ (is_variable {x = x} eq sees) = all_below e _ _ _ eq (form.rolls-Var x) (below-Var x) none
    sound_below e c y n (is_unary {a = a} {op = op} {u = u} eq sound fit) = all_below e _ _ _ eq (form.rolls-Unary op a) (below-Unary op a) (whole a c u n sound (sound_below a c u n sound))
    sound_below e c y _ (is_binary {a = a} {b = b} {op = op} {u = u} {v = v} {n = n} {m = m} eq left right fit) =
        all_below e _ _ _ eq (form.rolls-Binary op a b) (below-Binary op a b)
        (both (inside a) (inside b) (whole a c u n left (sound_below a c u n left)) (whole b c v m right (sound_below b c v m right)))
    sound_below e c y _ (is_if {i = i} {a = a} {b = b} {l = l} {n = n} {m = m} eq test left right) =
        all_below e _ _ _ eq (form.rolls-If i a b) (below-If i a b)
        (both (inside i ++ inside a) (inside b) (both (inside i) (inside a) (whole i c _ l test (sound_below i c _ l test)) (whole a c y n left (sound_below a c y n left))) (whole b c y m right (sound_below b c y m right)))
    sound_below e c y n (is_fby {a = a} {b = b} eq left right) =
        all_below e _ _ _ eq (form.rolls-Fby a b) (below-Fby a b) (both (inside a) (inside b) (whole a c y n left (sound_below a c y n left)) (whole b c y [] right (sound_below b c y [] right)))
    sound_below e c y _ (is_pre {a = a} eq sound) = all_below e _ _ _ eq (form.rolls-Pre a) (below-Pre a) (whole a c y [] sound (sound_below a c y [] sound))
    sound_below e c y n (is_arrow {a = a} {b = b} {m = m} eq left right within) =
        all_below e _ _ _ eq (form.rolls-Arrow a b) (below-Arrow a b) (both (inside a) (inside b) (whole a c y n left (sound_below a c y n left)) (whole b c y m right (sound_below b c y m right)))
    sound_below e _ y n (is_when {a = a} {c = c} {tag = tag} {x = x} eq sees defined sound) = all_below e _ _ _ eq (form.rolls-When a tag x) (below-When a tag x) (whole a c y n sound (sound_below a c y n sound))
    sound_below e c y _ (is_merge {x = x} {bs = bs} eq sees defined tagged every sound) = all_below e _ _ _ eq (form.rolls-Merge x bs) (below-Merge x bs) (sound_branches x c bs y sound)
    sound_below e c y _ (is_result (is_call {f = f} {args = args} {g = g} (sync eq) named leads stands sound same)) = all_below e _ _ _ eq (form.rolls-Call f args) (below-Call f args) (sound_arguments args c g.inputs sound)
    sound_below e c y _ (is_result (is_call {f = f} {args = args} {g = g} (async {q = q} eq) named leads stands sound same)) =
        all_below e _ _ _ eq (form.rolls-AsyncCall q f args) (below-AsyncCall q f args) (sound_arguments args c g.inputs sound)
    sound_below e c _ n (is_get {a = a} {t = t} eq sound) = all_below e _ _ _ eq (form.rolls-Get a) (below-Get a) (whole a c _ n sound (sound_below a c _ n sound))

    pub sound_arguments : (es : List Expr) (c : Clock) (ds : List Decl) → SoundArguments core k rs es c ds → All IsSoundPart (flat_map inside es)
    sound_arguments _ c _ no_arguments = none
    sound_arguments _ c _ (an_argument {e = e} {es = es} {d = d} {ds = ds} sound rest) = both (inside e) (flat_map inside es) (whole e c d.ty [] sound (sound_below e c d.ty [] sound)) (sound_arguments es c ds rest)

    sound_branches : (x : Name) (c : Clock) (bs : List MergeBranch) (y : Ty) → SoundBranches core k rs x c bs y → All IsSoundPart (flat_map (λ b. inside b.value) bs)
    sound_branches x c _ y no_branches = none
    sound_branches x c _ y (a_branch {b = b} {bs = bs} sound rest) =
        both (inside b.value) (flat_map (λ b. inside b.value) bs) (whole b.value _ y [] sound (sound_below b.value _ y [] sound)) (sound_branches x c bs y rest)

  pub sound_inside : (e : Expr) (c : Clock) (y : Ty) (n : List (List Name)) → Sound core k rs e c y n → All IsSoundPart (inside e)
  sound_inside e c y n sound = whole e c y n sound (sound_below e c y n sound)

  -- below a call there are its arguments
  pub call_below : (e : Expr) (c : Clock) (ts : List Ty) → SoundCall core k rs e c ts → All IsSoundPart (below e.form)
  call_below e c _ (is_call {f = f} {args = args} {g = g} (sync eq) named leads stands sound same) = all_below e _ _ _ eq (form.rolls-Call f args) (below-Call f args) (sound_arguments args c g.inputs sound)
  call_below e c _ (is_call {f = f} {args = args} {g = g} (async {q = q} eq) named leads stands sound same) =
      all_below e _ _ _ eq (form.rolls-AsyncCall q f args) (below-AsyncCall q f args) (sound_arguments args c g.inputs sound)
