-- What stands inside a sound expression is sound.
use Rattle.std.proofs.Common.{◌≡◌, List, [], ◌∷◌, ◌++◌, sym, ap, subst, ◌∙◌, All}
use Rattle.std.specs.List.{flat_map}
use Rattle.std.proofs.lemmas.List.Elements.{All-nil, All-cons, All-append}
use Rattle.hept_ast.specs.Texts.{Name}
use Rattle.hept_ast.specs.Scopes.{Clock}
use Rattle.hept_ast.specs.Parts.{Surroundings, Part, Block, Plain, Switch, Reset, Automaton, Transition, below, expressions_of, inside}
use Rattle.hept_ast.specs.Types.{bool}
use Rattle.hept_ast.specs.declared.tree.Expr.{Expr}
use Rattle.hept_ast.specs.declared.tree.MergeBranch.{MergeBranch}
use Rattle.hept_ast.specs.declared.tree.Ty.{Ty}
use Rattle.hept_ast.specs.declared.tree.Form.{Form, out-Form, roll-Form}
use Rattle.hept_ast.specs.declared.tree.Form.TheOpen.{Form-F}
use Rattle.hept_ast.specs.declared.tree.Form.TheViews.{roll-out-Form}
use Rattle.hept_ast.specs.declared.tree.Form.TheVariants as form
use Rattle.hept_ast.proofs.FormsOf.{below-Const, below-Var, below-Last, below-Unary, below-Binary, below-If, below-Fby, below-Pre, below-Arrow, below-When, below-Merge, below-Call, below-AsyncCall, below-AsyncConst, below-Get}
use Rattle.sound_expressions.specs.Sound.{Within, Sound, SoundArguments, SoundBranches, no_arguments, an_argument, no_branches, a_branch, is_constant, is_async_constant, is_variable, is_last, is_unary, is_binary, is_if, is_fby, is_pre, is_arrow, is_when, is_merge, is_call, is_async_call, is_get}
use Rattle.accepted_meaning.specs.SoundNodes.{SoundPart}

by_view : (f : Form) (v : Form-F Form Expr MergeBranch) (g : Form) → out-Form f ≡ v → roll-Form v ≡ g → f ≡ g
by_view f v g o r = sym (roll-out-Form f) ∙ ap roll-Form o ∙ r

abbrev pub SoundAt : Within → Surroundings → Expr → Type 0
SoundAt k site e = (c : Clock) × (ts : List Ty) × Sound k site e c ts

module _ (k : Within) (site : Surroundings) where
  abbrev P : Expr → Type 0
  P e = SoundAt k site e

  whole : (e : Expr) (g : Form) (es : List Expr) (c : Clock) (ts : List Ty) → e.form ≡ g → below g ≡ es → Sound k site e c ts → All P es → All P (inside e)
  whole e g es c ts is b s r = All-cons P e (below e.form) (c, ts, s) (subst (All P) (sym (ap below is ∙ b)) r)

  none : All P []
  none = All-nil P

  two : (xs ys : List Expr) → All P xs → All P ys → All P (xs ++ ys)
  two xs ys h r = All-append P xs ys h r

  mutual
    pub inside_sound : (e : Expr) (c : Clock) (ts : List Ty) → Sound k site e c ts → All P (inside e)
    inside_sound e c ts (is_constant {v = v} o t n) = whole e (form.Const v) ([]) c ts (by_view e.form _ _ o (form.rolls-Const v)) (below-Const v) (is_constant {v = v} o t n) (none)
    inside_sound e c ts (is_async_constant {v = v} o t n) = whole e (form.AsyncConst v) ([]) c ts (by_view e.form _ _ o (form.rolls-AsyncConst v)) (below-AsyncConst v) (is_async_constant {v = v} o t n) (none)
    inside_sound e c ts (is_variable {x = x} o s) = whole e (form.Var x) ([]) c ts (by_view e.form _ _ o (form.rolls-Var x)) (below-Var x) (is_variable {x = x} o s) (none)
    inside_sound e c ts (is_last {x = x} o s i) = whole e (form.Last x) ([]) c ts (by_view e.form _ _ o (form.rolls-Last x)) (below-Last x) (is_last {x = x} o s i) (none)
    inside_sound e c ts (is_unary {a = a} {op = op} {us = us} o s f) = whole e (form.Unary op a) (inside a) c ts (by_view e.form _ _ o (form.rolls-Unary op a)) (below-Unary op a) (is_unary {a = a} {op = op} {us = us} o s f) (inside_sound a c us s)
    inside_sound e c ts (is_binary {a = a} {b = b} {op = op} {us = us} {vs = vs} o s r f n) = whole e (form.Binary op a b) (inside a ++ inside b) c ts (by_view e.form _ _ o (form.rolls-Binary op a b)) (below-Binary op a b) (is_binary {a = a} {b = b} {op = op} {us = us} {vs = vs} o s r f n) (two (inside a) (inside b) (inside_sound a c us s) (inside_sound b c vs r))
    inside_sound e c ts (is_if {i = i} {a = a} {b = b} {is = is} {us = us} {vs = vs} o h s r f) = whole e (form.If i a b) (inside i ++ inside a ++ inside b) c ts (by_view e.form _ _ o (form.rolls-If i a b)) (below-If i a b) (is_if {i = i} {a = a} {b = b} {is = is} {us = us} {vs = vs} o h s r f) (two (inside i ++ inside a) (inside b) (two (inside i) (inside a) (inside_sound i c is h) (inside_sound a c us s)) (inside_sound b c vs r))
    inside_sound e c ts (is_fby {a = a} {b = b} {us = us} {vs = vs} o s r f n) = whole e (form.Fby a b) (inside a ++ inside b) c ts (by_view e.form _ _ o (form.rolls-Fby a b)) (below-Fby a b) (is_fby {a = a} {b = b} {us = us} {vs = vs} o s r f n) (two (inside a) (inside b) (inside_sound a c us s) (inside_sound b c vs r))
    inside_sound e c ts (is_pre {a = a} {us = us} o s f n) = whole e (form.Pre a) (inside a) c ts (by_view e.form _ _ o (form.rolls-Pre a)) (below-Pre a) (is_pre {a = a} {us = us} o s f n) (inside_sound a c us s)
    inside_sound e c ts (is_arrow {a = a} {b = b} {us = us} {vs = vs} o s r f) = whole e (form.Arrow a b) (inside a ++ inside b) c ts (by_view e.form _ _ o (form.rolls-Arrow a b)) (below-Arrow a b) (is_arrow {a = a} {b = b} {us = us} {vs = vs} o s r f) (two (inside a) (inside b) (inside_sound a c us s) (inside_sound b c vs r))
    inside_sound e c ts (is_when {a = a} {c = d} {tag = tag} {x = x} {us = us} o v s t h f g) = whole e (form.When a tag x) (inside a) _ ts (by_view e.form _ _ o (form.rolls-When a tag x)) (below-When a tag x) (is_when o v s t h f g) (inside_sound a d us s)
    inside_sound e c ts (is_merge {x = x} {d = d} {bs = bs} {tss = tss} o v h g s a f) = whole e (form.Merge x bs) (flat_map (λ b. inside b.value) bs) c ts (by_view e.form _ _ o (form.rolls-Merge x bs)) (below-Merge x bs) (is_merge {x = x} {d = d} {bs = bs} {tss = tss} o v h g s a f) (values_sound x d.ty c bs tss s)
    inside_sound e c ts (is_call {f = f} {args = args} {g = g} {tss = tss} o n s t l m) = whole e (form.Call f args) (flat_map inside args) c ts (by_view e.form _ _ o (form.rolls-Call f args)) (below-Call f args) (is_call {f = f} {args = args} {g = g} {tss = tss} o n s t l m) (arguments_sound args c tss s)
    inside_sound e c ts (is_async_call {q = q} {f = f} {args = args} {g = g} {tss = tss} o n s t l m) = whole e (form.AsyncCall q f args) (flat_map inside args) c ts (by_view e.form _ _ o (form.rolls-AsyncCall q f args)) (below-AsyncCall q f args) (is_async_call {q = q} {f = f} {args = args} {g = g} {tss = tss} o n s t l m) (arguments_sound args c tss s)
    inside_sound e c ts (is_get {a = a} {us = us} o s f) = whole e (form.Get a) (inside a) c ts (by_view e.form _ _ o (form.rolls-Get a)) (below-Get a) (is_get {a = a} {us = us} o s f) (inside_sound a c us s)

    arguments_sound : (es : List Expr) (c : Clock) (tss : List (List Ty)) → SoundArguments k site es c tss → All P (flat_map inside es)
    arguments_sound es c tss no_arguments = none
    arguments_sound es c tss (an_argument {e = e} {es = rest} {ts = ts} {tss = more} s g r) = two (inside e) (flat_map inside rest) (inside_sound e c ts s) (arguments_sound rest c more r)

    values_sound : (x : Name) (t : Ty) (c : Clock) (bs : List MergeBranch) (tss : List (List Ty)) → SoundBranches k site x t c bs tss → All P (flat_map (λ b. inside b.value) bs)
    values_sound x t c bs tss no_branches = none
    values_sound x t c bs tss (a_branch {b = b} {bs = rest} {ts = ts} {tss = more} g s d r) =
        two (inside b.value) (flat_map (λ b. inside b.value) rest) (inside_sound b.value (c ++ record { tag = b.tag; name = x } ∷ []) ts s) (values_sound x t c rest more r)

  pub part_inside : (q : Part) → SoundPart k site q → All P (flat_map inside (expressions_of q))
  part_inside (Block ds equations) h = none
  part_inside (Plain p left right) h = two (inside right) [] (inside_sound right h.0 h.1 h.2) none
  part_inside (Switch p on cases) h = two (inside on) [] (inside_sound on [] (h.type ∷ []) h.sound) none
  part_inside (Reset p every sets) h = two (inside every) [] (inside_sound every [] bool h.0.sound) none
  part_inside (Automaton p cases) h = none
  part_inside (Transition strong states t) h = two (inside t.condition) [] (inside_sound t.condition [] bool h.0.sound) none
