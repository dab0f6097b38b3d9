-- Right sides that are synchronous calls: the node that is called, its arguments and its outputs; and left sides beside other ones.
use Rattle.std.proofs.Common.{◌≡◌, ◌⊎◌, inl, inr, ℕ, suc, true, false, List, [], ◌∷◌, length, refl, sym, ap, subst, ◌∙◌, Some}
use Rattle.std.specs.Prelude.{All}
use Rattle.std.specs.List.{flat_map}
use Rattle.std.proofs.lemmas.Bool.{false≢true}
use Rattle.std.proofs.lemmas.List.{length-map}
use Rattle.std.proofs.lemmas.List.Elements.{All-nil, All-cons, All-head, All-tail}
use Rattle.hept_ast.specs.Texts.{Name, is_in}
use Rattle.hept_ast.specs.Scopes.{Clock}
use Rattle.hept_ast.specs.Parts.{below, declaration, inside}
use Rattle.hept_ast.specs.Causal.{reads}
use Rattle.hept_ast.specs.declared.tree.Core.{Core}
use Rattle.hept_ast.specs.declared.tree.CoreEquation.{CoreEquation}
use Rattle.hept_ast.specs.declared.tree.CoreNode.{CoreNode}
use Rattle.hept_ast.specs.declared.tree.Decl.{Decl}
use Rattle.hept_ast.specs.declared.tree.Expr.{Expr}
use Rattle.hept_ast.specs.declared.tree.MergeBranch.{MergeBranch}
use Rattle.hept_ast.specs.declared.tree.Ty.{Ty}
use Rattle.hept_ast.specs.declared.tree.Form.{Form, out-Form}
use Rattle.hept_ast.specs.declared.tree.Form.TheOpen.{Form-F}
use Rattle.hept_ast.specs.declared.tree.Form.TheVariants as form
use Rattle.hept_ast.proofs.FormsOf.{below-Call}
use Rattle.core_rules.specs.Cores.{core_decls}
use Rattle.core_naming.specs.Normal.{IsNormalRight, is_simple}
use Rattle.served_programs.specs.Served.{is_served_form}
use Rattle.sound_expressions.proofs.Expressions.{all_left, all_right}
use Rattle.core_fitting.specs.Sound.{IsNamed, Sound, SoundArguments, SoundCall, SoundLeft, SoundRight, Within, an_argument, async, is_arrow, is_async_constant, is_binary, is_call, is_constant, is_fby, is_get, is_if, is_merge, is_pre, is_result, is_unary, is_variable, is_when, no_arguments, one_name, results_of, sync}
use Rattle.core_fitting.proofs.Converted.{declared_in_names}
use Rattle.core_fitting.proofs.NamesRead.{in_first, reads_call, reads_variable}
use Rattle.flat_cores.proofs.ServedForms.{HasServedForm, Served}
use Rattle.plan_expressions.specs.Computable.{Computable, constant, variable}
use Rattle.buildable_cores.proofs.Divisors.{form_by}
use Rattle.buildable_cores.proofs.Computing.{ReadsKnown, all_below, known_by, known_left, known_right, not_served}
use Rattle.buildable_cores.proofs.RightSides.{IsSimpleForm, is_sync_call, no_call, simple_operands}

-- ---- forms

pub record IsCallForm (v : Form-F Form Expr MergeBranch) : Type 0 where
  pub name : Name
  pub args : List Expr
  pub form : v ≡ Form-F.Call name args

pub call_or_not : (v : Form-F Form Expr MergeBranch) → IsCallForm v ⊎ (is_sync_call v ≡ false)
call_or_not (Form-F.Call f args) = inl (record { name = f; args = args; form = refl })
call_or_not _ = inr refl

-- a call is one of one node on one list of arguments, and not async
same_name : (v : Form-F Form Expr MergeBranch) (f h : Name) (xs ys : List Expr) → v ≡ Form-F.Call f xs → v ≡ Form-F.Call h ys → f ≡ h
same_name v f h xs ys d e = cc

same_arguments : (v : Form-F Form Expr MergeBranch) (f h : Name) (xs ys : List Expr) → v ≡ Form-F.Call f xs → v ≡ Form-F.Call h ys → xs ≡ ys
same_arguments v f h xs ys d e = cc

not_async : {P : Type 0} (v : Form-F Form Expr MergeBranch) (q : ℕ) (f h : Name) (xs ys : List Expr) → v ≡ Form-F.AsyncCall q f xs → v ≡ Form-F.Call h ys → P
not_async v q f h xs ys d e = cc

-- ---- lengths

left_length : (k : Within) (c : Clock) (xs : List Name) (ts : List Ty) → SoundLeft k c xs ts → length xs ≡ length ts
left_length k c [] [] h = refl
left_length k c [] (t ∷ ts) h = absurd h
left_length k c (x ∷ xs) [] h = absurd h
left_length k c (x ∷ xs) (t ∷ ts) h = ap suc (left_length k c xs ts h.1)

module _ (core : Core) (k : Within) (rs : List Name) where
  arguments_length : (args : List Expr) (c : Clock) (ds : List Decl) → SoundArguments core k rs args c ds → length args ≡ length ds
  arguments_length _ c _ no_arguments = refl
  arguments_length _ c _ (an_argument {es = es} {ds = ds} sound rest) = ap suc (arguments_length es c ds rest)

  -- ---- what a sound expression is, if it is a variable or a call

  abbrev View : Expr → Clock → Ty → Form-F Form Expr MergeBranch → Type 0
  View e c t (Form-F.Var x) = (d : Decl) × (declaration (core_decls k.node) x ≡ Some d)
  View e c t (Form-F.Call f args) = SoundCall core k rs e c (t ∷ [])
  View e c t _ = Unit {0}

  by_view : (e : Expr) (c : Clock) (t : Ty) (v : Form-F Form Expr MergeBranch) → out-Form e.form ≡ v → View e c t v → View e c t (out-Form e.form)
  by_view e c t v eq h = subst (View e c t) (sym eq) h

  view : (e : Expr) (c : Clock) (t : Ty) (n : List (List Name)) → Sound core k rs e c t n → View e c t (out-Form e.form)
  view e c _ _ (is_constant {v = v} eq known fits) = by_view e c _ (Form-F.Const v) eq tt
  view e c _ _ (is_async_constant {v = v} eq known fits) = by_view e c _ (Form-F.AsyncConst v) eq tt
  view e c _ _ (is_variable {x = x} {d = d} eq read) = by_view e c _ (Form-F.Var x) eq (d, read.declared)
  view e c t n (is_unary {a = a} {op = op} eq sound fit) = by_view e c t (Form-F.Unary op a) eq tt
  view e c t _ (is_binary {a = a} {b = b} {op = op} eq left right fit) = by_view e c t (Form-F.Binary op a b) eq tt
  view e c t _ (is_if {i = i} {a = a} {b = b} eq test left right) = by_view e c t (Form-F.If i a b) eq tt
  view e c t n (is_fby {a = a} {b = b} eq left right) = by_view e c t (Form-F.Fby a b) eq tt
  view e c t _ (is_pre {a = a} eq sound) = by_view e c t (Form-F.Pre a) eq tt
  view e c t n (is_arrow {a = a} {b = b} eq left right within) = by_view e c t (Form-F.Arrow a b) eq tt
  view e _ t n (is_when {a = a} {tag = tag} {x = x} eq read never sound) = by_view e _ t (Form-F.When a tag x) eq tt
  view e c t _ (is_merge {x = x} {bs = bs} eq read never tagged every sound) = by_view e c t (Form-F.Merge x bs) eq tt
  view e c t _ (is_result (is_call {f = f} {args = args} (sync eq) named leads stands given same)) = by_view e c t (Form-F.Call f args) eq (is_call (sync eq) named leads stands given same)
  view e c t _ (is_result (is_call {f = f} {args = args} (async {q = q} eq) named leads stands given same)) = by_view e c t (Form-F.AsyncCall q f args) eq tt
  view e c _ n (is_get {a = a} eq sound) = by_view e c _ (Form-F.Get a) eq tt

  -- ---- arguments

  argument : (known : List Name) (a : Expr) (c : Clock) (t : Ty) (v : Form-F Form Expr MergeBranch) → out-Form a.form ≡ v → View a c t v → is_simple v ≡ true → is_served_form v ≡ true → ReadsKnown k.node known (reads a.form) →
      Computable core.types known 0 a
  argument known a c t (Form-F.Const v) eq h simple served r = constant v (form_by a.form (Form-F.Const v) _ eq (form.rolls-Const v))
  argument known a c t (Form-F.Var x) eq h simple served r =
      variable x (form_by a.form (Form-F.Var x) _ eq (form.rolls-Var x)) (r x (subst (λ (l : List Name). is_in x l ≡ true) (sym (reads_variable a x eq)) (in_first x [])) (declared_in_names (core_decls k.node) x h.0 h.1))
  argument known a c t (Form-F.AsyncConst v) eq h simple served r = absurd (false≢true served)
  argument known a c t _ eq h simple served r = absurd (false≢true simple)

  arguments : (known : List Name) (args : List Expr) (c : Clock) (ds : List Decl) → SoundArguments core k rs args c ds → All IsSimpleForm args → All HasServedForm (flat_map inside args) → ReadsKnown k.node known (flat_map (λ a. reads a.form) args) →
      All (Computable core.types known 0) args
  arguments known _ c _ no_arguments simple served r = All-nil (Computable core.types known 0)
  arguments known _ c _ (an_argument {e = a} {es = others} {d = d} {ds = ds} sound rest) simple served r =
      let later = flat_map (λ (b : Expr). reads b.form) others in
      All-cons (Computable core.types known 0) a others
      (argument known a c d.ty (out-Form a.form) refl (view a c d.ty [] sound) (All-head IsSimpleForm a others simple) (All-head HasServedForm a (below a.form) (all_left HasServedForm (inside a) (flat_map inside others) served))
      (known_left k.node known (reads a.form) later r))
      (arguments known others c ds rest (All-tail IsSimpleForm a others simple) (all_right HasServedForm (inside a) (flat_map inside others) served) (known_right k.node known (reads a.form) later r))

-- ---- equations

-- the node that is called, by its name, on arguments that fit; and as many outputs as variables
pub record IsSoundCall (core : Core) (k : Within) (e : CoreEquation) (f : Name) (args : List Expr) : Type 0 where
  pub callee : CoreNode
  pub named : IsNamed core f callee
  pub given : SoundArguments core k e.resets args e.clock.steps callee.inputs
  pub outputs : length e.left ≡ length callee.outputs

module _ (core : Core) (k : Within) (e : CoreEquation) where
  of_call : (f : Name) (args : List Expr) (ts : List Ty) → out-Form e.right.form ≡ Form-F.Call f args → SoundCall core k e.resets e.right e.clock.steps ts → length e.left ≡ length ts → IsSoundCall core k e f args
  of_call f args ts eq (is_call {f = h} {args = ys} {g = g} (sync is) named leads stands given same) many = record {
    callee = g;
    named = subst (λ (x : Name). IsNamed core x g) (same_name (out-Form e.right.form) h f ys args is eq) named;
    given = subst (λ (l : List Expr). SoundArguments core k e.resets l e.clock.steps g.inputs) (same_arguments (out-Form e.right.form) h f ys args is eq) given;
    outputs = many ∙ (ap length (sym same) ∙ length-map g.outputs (λ (d : Decl). d.ty));
  }
  of_call f args ts eq (is_call {f = h} {args = ys} (async {q = q} is) named leads stands given same) many = not_async (out-Form e.right.form) q h f ys args is eq

  -- an equation whose right side is a call
  pub call_of : (f : Name) (args : List Expr) → out-Form e.right.form ≡ Form-F.Call f args → SoundRight core k e → IsSoundCall core k e f args
  call_of f args eq (one_name {d = d} {n = n} left read sound allows) =
      of_call f args (d.ty ∷ []) eq (subst (View core k e.resets e.right e.clock.steps d.ty) eq (view core k e.resets e.right e.clock.steps d.ty n sound)) (ap length left)
  call_of f args eq (results_of {ts = ts} many call left) = of_call f args ts eq call (left_length k e.clock.steps e.left ts left)

  -- any other one has one variable
  pub one_variable : is_sync_call (out-Form e.right.form) ≡ false → HasServedForm e.right → SoundRight core k e → (x : Name) × (e.left ≡ x ∷ [])
  one_variable other served (one_name {x = x} left read sound allows) = (x, left)
  one_variable other served (results_of many (is_call {f = f} {args = args} (sync eq) named leads stands given same) left) = no_call e.right (Form-F.Call f args) eq refl other
  one_variable other served (results_of many (is_call {f = f} {args = args} (async {q = q} eq) named leads stands given same) left) = not_served e.right (Form-F.AsyncCall q f args) eq refl served

  pub call_arguments : (known : List Name) (f : Name) (args : List Expr) → out-Form e.right.form ≡ Form-F.Call f args → (call : IsSoundCall core k e f args) → Served e.right → IsNormalRight e.right → ReadsKnown k.node known (reads e.right.form) →
      All (Computable core.types known 0) args
  call_arguments known f args eq call served normal r =
      arguments core k e.resets known args e.clock.steps call.callee.inputs call.given (simple_operands e.right (Form-F.Call f args) eq refl normal)
      (all_below HasServedForm e.right (Form-F.Call f args) _ (flat_map inside args) eq (form.rolls-Call f args) (below-Call f args) served)
      (known_by k.node known (reads e.right.form) (flat_map (λ a. reads a.form) args) (reads_call e.right f args eq) r)

  pub inputs_length : (f : Name) (args : List Expr) (call : IsSoundCall core k e f args) → length args ≡ length call.callee.inputs
  inputs_length f args call = arguments_length core k e.resets args e.clock.steps call.callee.inputs call.given
