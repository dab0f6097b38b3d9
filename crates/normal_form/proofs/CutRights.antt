-- What of each right side is taken, where normal form does not allow it.
use Rattle.std.proofs.Common.{◌≡◌, ◌⊎◌, inl, inr, ℕ, Bool, true, false, List, [], ◌∷◌, ◌++◌, remove, slice_get, All, Option, Some, None, is_some, refl, sym, ap, subst, ◌∙◌, append_assoc, append-nil}
use Rattle.std.proofs.lemmas.Bool.{false≢true}
use Rattle.std.proofs.lemmas.List.Elements.{All-nil, All-cons, All-head, All-tail, All-push}
use Rattle.hept_ast.specs.Texts.{Name}
use Rattle.hept_ast.specs.Scopes.{Clock}
use Rattle.hept_ast.specs.declared.tree.Expr.{Expr}
use Rattle.hept_ast.specs.declared.tree.MergeBranch.{MergeBranch}
use Rattle.hept_ast.specs.Parts.{below}
use Rattle.hept_ast.specs.declared.tree.Form.{Form, out-Form}
use Rattle.hept_ast.specs.declared.tree.Form.TheOpen.{Form-F}
use Rattle.hept_ast.specs.declared.tree.Form.TheVariants as form
use Rattle.core_naming.specs.Names.{Names, NamesArgument, variable_at, whole, in_unary, in_left, in_right, in_condition, in_then, in_else, in_fby_first, in_fby_next, in_pre, in_arrow_first, in_arrow_next, in_when, in_merge, in_call, in_async_call, in_get, this_argument, later_argument}
use Rattle.core_naming.specs.Normal.{IsNormalRight, is_simple, is_step, operands, step, plain}
use Rattle.normal_form.specs.declared.cut.Cut.{Cut}
use Rattle.normal_form.specs.declared.cut.Taken.{Taken}
use Rattle.normal_form.specs.Cuts.{CutsArguments, CutsOperand, CutsOperands, CutsRight, CutsStep, IsLarge, IsSimple}
use Rattle.normal_form.proofs.Views.{at, at_form, by_view, out_Fby, out_Pre, out_Arrow, out_Call, out_AsyncCall, out_Get}
use Rattle.normal_form.proofs.CutSteps.{NoStep, first_removed, one_of_two}
use Rattle.normal_form.proofs.StepsInside.{named_is_large, step_inside}

-- ---- operands

pub operand_taken : (x : Name) (c : Clock) (e : Expr) → is_simple (out-Form e.form) ≡ false → CutsOperand x c e (variable_at e.place x) (Some (record { named = e; clock = record { steps = c } }))
operand_taken x c e s = (whole, s)

pub operands_first : (x : Name) (c : Clock) (a b m : Expr) (t : Option Taken) → is_some t ≡ true → CutsOperand x c a m t → CutsOperands x c a b m b t
operands_first x c a b m None s k = cc
operands_first x c a b m (Some t) s k = (inl (k.0, refl), k.1)

pub operands_second : (x : Name) (c : Clock) (a b m n : Expr) (u t : Option Taken) → is_some u ≡ false → CutsOperand x c a m u → CutsOperand x c b n t → CutsOperands x c a b m n t
operands_second x c a b m n None None s k l = (k.0, l.0, k.1, l.1)
operands_second x c a b m n None (Some t) s k l = (inr (k.0, l.0), l.1)
operands_second x c a b m n (Some u) t s k l = cc

pub operand_cut : (x : Name) (c : Clock) (a inner m : Expr) (cut : Cut) → is_simple (out-Form a.form) ≡ false → inner ≡ a →
    cut ≡ record { right = variable_at inner.place x; taken = Some (record { named = inner; clock = record { steps = c } }) } → m ≡ cut.right → CutsOperand x c a m cut.taken
operand_cut x c a inner m cut s i k j =
    subst (λ (q : Expr). CutsOperand x c a q cut.taken) (sym j)
    (subst (λ (q : Cut). CutsOperand x c a q.right q.taken) (sym k)
    (subst (λ (q : Expr). CutsOperand x c a (variable_at q.place x) (Some (record { named = q; clock = record { steps = c } }))) (sym i) (operand_taken x c a s)))

-- ---- arguments

-- the first arguments, which are simple, and those that are left
pub record PassedSimple (es done left : List Expr) : Type 0 where
  pub all : es ≡ done ++ left
  pub simple : All IsSimple done

pub simple_none : (es : List Expr) → PassedSimple es [] es
simple_none es = record { all = refl; simple = All-nil IsSimple }

pub simple_more : (es done left rest longer : List Expr) (e : Expr) → PassedSimple es done left → slice_get left 0 ≡ Some e → rest ≡ remove left 0 → longer ≡ done ++ e ∷ [] →
    is_simple (out-Form e.form) ≡ true → PassedSimple es longer rest
simple_more es done left rest longer e p h r l s =
    subst (λ (q : List Expr). PassedSimple es q rest) (sym l) (record {
      all = p.all ∙ ap (λ (q : List Expr). done ++ q) (first_removed left rest e h r) ∙ sym (append_assoc done (e ∷ []) rest);
      simple = All-push IsSimple done e p.simple s;
    })

argument_named : (x : Name) (a : Expr) (d c : Clock) (done rest : List Expr) (e m : Expr) → Names x a d c e m → NamesArgument x a d c (done ++ e ∷ rest) (done ++ m ∷ rest)
argument_named x a d c [] rest e m h = this_argument h
argument_named x a d c (f ∷ done) rest e m h = later_argument (argument_named x a d c done rest e m h)

pub arguments_taken : (x : Name) (c : Clock) (es done left rest longer all : List Expr) (e : Expr) (cut : Cut) → PassedSimple es done left → slice_get left 0 ≡ Some e → rest ≡ remove left 0 →
    cut ≡ record { right = variable_at e.place x; taken = Some (record { named = e; clock = record { steps = c } }) } → longer ≡ done ++ cut.right ∷ [] → all ≡ longer ++ rest → is_simple (out-Form e.form) ≡ false →
    CutsArguments x c es all cut.taken
arguments_taken x c es done left rest longer all e cut p h r k l w s =
    let old : es ≡ done ++ e ∷ rest = p.all ∙ ap (λ (q : List Expr). done ++ q) (first_removed left rest e h r) in
    let last : longer ≡ done ++ variable_at e.place x ∷ [] = l ∙ ap (λ (q : Cut). done ++ q.right ∷ []) k in
    let new : all ≡ done ++ variable_at e.place x ∷ rest = w ∙ ap (λ (q : List Expr). q ++ rest) last ∙ append_assoc done (variable_at e.place x ∷ []) rest in
    let named : NamesArgument x e c c es all = subst (λ (q : List Expr). NamesArgument x e c c q all) (sym old) (subst (λ (q : List Expr). NamesArgument x e c c (done ++ e ∷ rest) q) (sym new)
    (argument_named x e c c done rest e (variable_at e.place x) whole)) in
    subst (λ (q : Cut). CutsArguments x c es all q.taken) (sym k) (named, s)

pub arguments_passed : (x : Name) (c : Clock) (es done left : List Expr) → PassedSimple es done left → left ≡ [] → CutsArguments x c es done None
arguments_passed x c es done left p e =
    let all : es ≡ done = p.all ∙ ap (λ (q : List Expr). done ++ q) e ∙ append-nil done in
    (sym all, subst (λ (q : List Expr). All IsSimple q) (sym all) p.simple)

-- ---- right sides

normal_step : (e : Expr) (f : Form) (v : Form-F Form Expr MergeBranch) → e.form ≡ f → out-Form f ≡ v → is_step v ≡ true → All IsSimple (operands v) → IsNormalRight e
normal_step e f v h o s k =
    let w : out-Form e.form ≡ v = ap out-Form h ∙ o in
    step (ap is_step w ∙ s) (subst (λ (u : Form-F Form Expr MergeBranch). All IsSimple (operands u)) (sym w) k)

two_simple : (a b : Expr) → IsSimple a → IsSimple b → All IsSimple (a ∷ b ∷ [])
two_simple a b h k = All-cons IsSimple a (b ∷ []) h (All-cons IsSimple b [] k (All-nil IsSimple))

one_simple : (a : Expr) → IsSimple a → All IsSimple (a ∷ [])
one_simple a h = All-cons IsSimple a [] h (All-nil IsSimple)

-- ---- right sides that are not in normal form

-- a step over an operand that is no variable or constant
not_normal : (e : Expr) (f : Form) (v : Form-F Form Expr MergeBranch) → e.form ≡ f → out-Form f ≡ v → is_step v ≡ true → (All IsSimple (operands v) → ⊥) → IsNormalRight e → ⊥
not_normal e f v h o s n (step i k) = n (subst (λ (u : Form-F Form Expr MergeBranch). All IsSimple (operands u)) (ap out-Form h ∙ o) k)
not_normal e f v h o s n (plain k) = false≢true (sym (All-head NoStep e (below e.form) k) ∙ ap is_step (ap out-Form h ∙ o) ∙ s)

named_not_simple : (x : Name) (t : Taken) (c : Clock) (e r : Expr) → Names x t.named t.clock.steps c e r → IsLarge t → IsSimple e → ⊥
named_not_simple x t c e r n l s = false≢true (sym (named_is_large x t.named t.clock.steps c e r n l) ∙ s)

one_large : (x : Name) (t : Taken) (c : Clock) (a m : Expr) → Names x t.named t.clock.steps c a m → IsLarge t → All IsSimple (a ∷ []) → ⊥
one_large x t c a m n l k = named_not_simple x t c a m n l (All-head IsSimple a [] k)

two_large : (x : Name) (t : Taken) (c : Clock) (a b m n : Expr) → (Names x t.named t.clock.steps c a m × (n ≡ b)) ⊎ ((m ≡ a) × Names x t.named t.clock.steps c b n) → IsLarge t → All IsSimple (a ∷ b ∷ []) → ⊥
two_large x t c a b m n (inl p) l k = named_not_simple x t c a m p.0 l (All-head IsSimple a (b ∷ []) k)
two_large x t c a b m n (inr p) l k = named_not_simple x t c b n p.1 l (All-head IsSimple b [] (All-tail IsSimple a (b ∷ []) k))

argument_large : (x : Name) (t : Taken) (c : Clock) (es ms : List Expr) → NamesArgument x t.named t.clock.steps c es ms → IsLarge t → All IsSimple es → ⊥
argument_large x t c _ _ (this_argument {e = e} {m = m} {es = es} n) l k = named_not_simple x t c e m n l (All-head IsSimple e es k)
argument_large x t c _ _ (later_argument {e = e} {es = es} {ms = ms} n) l k = argument_large x t c es ms n l (All-tail IsSimple e es k)

pub right_fby : (x : Name) (c : Clock) (e a b m n : Expr) (t : Option Taken) → e.form ≡ form.Fby a b → CutsOperands x c a b m n t → CutsRight x c e (at e.place (form.Fby m n)) t
right_fby x c e a b m n None h k = (
  ap (λ (q : Expr). at e.place (form.Fby q n)) k.0 ∙ ap (λ (q : Expr). at e.place (form.Fby a q)) k.1 ∙ at_form e (form.Fby a b) h,
  normal_step e (form.Fby a b) (Form-F.Fby a b) h (out_Fby a b) refl (two_simple a b k.2 k.3),
)
right_fby x c e a b m n (Some t) h k = (
  one_of_two (λ (p q : Expr). Names x t.named t.clock.steps c e (at e.place (form.Fby p q))) x c a b m n t k.0
      (λ l. in_fby_first refl (ap out-Form h ∙ out_Fby a b) (out_Fby m b) l) (λ l. in_fby_next refl (ap out-Form h ∙ out_Fby a b) (out_Fby a n) l),
  k.1,
  ap is_simple (out_Fby m n),
  not_normal e (form.Fby a b) (Form-F.Fby a b) h (out_Fby a b) refl (two_large x t c a b m n k.0 k.1),
)

pub right_arrow : (x : Name) (c : Clock) (e a b m n : Expr) (t : Option Taken) → e.form ≡ form.Arrow a b → CutsOperands x c a b m n t → CutsRight x c e (at e.place (form.Arrow m n)) t
right_arrow x c e a b m n None h k = (
  ap (λ (q : Expr). at e.place (form.Arrow q n)) k.0 ∙ ap (λ (q : Expr). at e.place (form.Arrow a q)) k.1 ∙ at_form e (form.Arrow a b) h,
  normal_step e (form.Arrow a b) (Form-F.Arrow a b) h (out_Arrow a b) refl (two_simple a b k.2 k.3),
)
right_arrow x c e a b m n (Some t) h k = (
  one_of_two (λ (p q : Expr). Names x t.named t.clock.steps c e (at e.place (form.Arrow p q))) x c a b m n t k.0
      (λ l. in_arrow_first refl (ap out-Form h ∙ out_Arrow a b) (out_Arrow m b) l) (λ l. in_arrow_next refl (ap out-Form h ∙ out_Arrow a b) (out_Arrow a n) l),
  k.1,
  ap is_simple (out_Arrow m n),
  not_normal e (form.Arrow a b) (Form-F.Arrow a b) h (out_Arrow a b) refl (two_large x t c a b m n k.0 k.1),
)

pub right_pre : (x : Name) (c : Clock) (e a m : Expr) (t : Option Taken) → e.form ≡ form.Pre a → CutsOperand x c a m t → CutsRight x c e (at e.place (form.Pre m)) t
right_pre x c e a m None h k =
    (ap (λ (q : Expr). at e.place (form.Pre q)) k.0 ∙ at_form e (form.Pre a) h, normal_step e (form.Pre a) (Form-F.Pre a) h (out_Pre a) refl (one_simple a k.1))
right_pre x c e a m (Some t) h k = (in_pre refl (ap out-Form h ∙ out_Pre a) (out_Pre m) k.0, k.1, ap is_simple (out_Pre m), not_normal e (form.Pre a) (Form-F.Pre a) h (out_Pre a) refl (one_large x t c a m k.0 k.1))

pub right_get : (x : Name) (c : Clock) (e a m : Expr) (t : Option Taken) → e.form ≡ form.Get a → CutsOperand x c a m t → CutsRight x c e (at e.place (form.Get m)) t
right_get x c e a m None h k =
    (ap (λ (q : Expr). at e.place (form.Get q)) k.0 ∙ at_form e (form.Get a) h, normal_step e (form.Get a) (Form-F.Get a) h (out_Get a) refl (one_simple a k.1))
right_get x c e a m (Some t) h k = (in_get refl (ap out-Form h ∙ out_Get a) (out_Get m) k.0, k.1, ap is_simple (out_Get m), not_normal e (form.Get a) (Form-F.Get a) h (out_Get a) refl (one_large x t c a m k.0 k.1))

pub right_call : (x : Name) (c : Clock) (e : Expr) (f : Name) (es ms : List Expr) (t : Option Taken) → e.form ≡ form.Call f es → CutsArguments x c es ms t →
    CutsRight x c e (at e.place (form.Call f ms)) t
right_call x c e f es ms None h k =
    (ap (λ (q : List Expr). at e.place (form.Call f q)) k.0 ∙ at_form e (form.Call f es) h, normal_step e (form.Call f es) (Form-F.Call f es) h (out_Call f es) refl k.1)
right_call x c e f es ms (Some t) h k = (in_call refl (ap out-Form h ∙ out_Call f es) (out_Call f ms) k.0, k.1, ap is_simple (out_Call f ms), not_normal e (form.Call f es) (Form-F.Call f es) h (out_Call f es) refl (argument_large x t c es ms k.0 k.1))

pub right_async : (x : Name) (c : Clock) (e : Expr) (q : ℕ) (f : Name) (es ms : List Expr) (t : Option Taken) → e.form ≡ form.AsyncCall q f es → CutsArguments x c es ms t →
    CutsRight x c e (at e.place (form.AsyncCall q f ms)) t
right_async x c e q f es ms None h k = (
  ap (λ (p : List Expr). at e.place (form.AsyncCall q f p)) k.0 ∙ at_form e (form.AsyncCall q f es) h,
  normal_step e (form.AsyncCall q f es) (Form-F.AsyncCall q f es) h (out_AsyncCall q f es) refl k.1,
)
right_async x c e q f es ms (Some t) h k = (
  in_async_call refl (ap out-Form h ∙ out_AsyncCall q f es) (out_AsyncCall q f ms) k.0,
  k.1,
  ap is_simple (out_AsyncCall q f ms),
  not_normal e (form.AsyncCall q f es) (Form-F.AsyncCall q f es) h (out_AsyncCall q f es) refl (argument_large x t c es ms k.0 k.1),
)

-- ---- right sides that are no step

pub not_step : (e : Expr) → ((a b : Expr) → e.form ≡ form.Fby a b → ⊥) → ((a : Expr) → e.form ≡ form.Pre a → ⊥) → ((a b : Expr) → e.form ≡ form.Arrow a b → ⊥) →
    ((f : Name) (es : List Expr) → e.form ≡ form.Call f es → ⊥) → ((q : ℕ) (f : Name) (es : List Expr) → e.form ≡ form.AsyncCall q f es → ⊥) → ((a : Expr) → e.form ≡ form.Get a → ⊥) → NoStep e
not_step e n1 n2 n3 n4 n5 n6 = go (out-Form e.form) refl
  where
    go : (v : Form-F Form Expr MergeBranch) → out-Form e.form ≡ v → NoStep e
    go (Form-F.Const k) o = ap is_step o
    go (Form-F.Var x) o = ap is_step o
    go (Form-F.Last x) o = ap is_step o
    go (Form-F.AsyncConst k) o = ap is_step o
    go (Form-F.Unary op a) o = ap is_step o
    go (Form-F.Binary op a b) o = ap is_step o
    go (Form-F.If d a b) o = ap is_step o
    go (Form-F.When a tag y) o = ap is_step o
    go (Form-F.Merge y bs) o = ap is_step o
    go (Form-F.Fby a b) o = absurd (n1 a b (by_view _ _ _ o (form.rolls-Fby a b)))
    go (Form-F.Pre a) o = absurd (n2 a (by_view _ _ _ o (form.rolls-Pre a)))
    go (Form-F.Arrow a b) o = absurd (n3 a b (by_view _ _ _ o (form.rolls-Arrow a b)))
    go (Form-F.Call f es) o = absurd (n4 f es (by_view _ _ _ o (form.rolls-Call f es)))
    go (Form-F.AsyncCall q f es) o = absurd (n5 q f es (by_view _ _ _ o (form.rolls-AsyncCall q f es)))
    go (Form-F.Get a) o = absurd (n6 a (by_view _ _ _ o (form.rolls-Get a)))

step_is_large : (v : Form-F Form Expr MergeBranch) → is_step v ≡ true → is_simple v ≡ false
step_is_large (Form-F.Const k) h = absurd (false≢true h)
step_is_large (Form-F.Var x) h = absurd (false≢true h)
step_is_large (Form-F.Last x) h = refl
step_is_large (Form-F.AsyncConst k) h = absurd (false≢true h)
step_is_large (Form-F.Unary op a) h = refl
step_is_large (Form-F.Binary op a b) h = refl
step_is_large (Form-F.If d a b) h = refl
step_is_large (Form-F.When a tag y) h = refl
step_is_large (Form-F.Merge y bs) h = refl
step_is_large (Form-F.Fby a b) h = refl
step_is_large (Form-F.Pre a) h = refl
step_is_large (Form-F.Arrow a b) h = refl
step_is_large (Form-F.Call f es) h = refl
step_is_large (Form-F.AsyncCall q f es) h = refl
step_is_large (Form-F.Get a) h = refl

-- where a step is named in what is none, the root stays
root_stays : (x : Name) (a : Expr) (d c : Clock) (e r : Expr) → Names x a d c e r → NoStep e → is_step (out-Form a.form) ≡ true → is_simple (out-Form r.form) ≡ false
root_stays x a d _ _ _ whole s t = absurd (false≢true (sym s ∙ t))
root_stays x a d c e r (in_unary p i j h) s t = ap is_simple j
root_stays x a d c e r (in_left p i j h) s t = ap is_simple j
root_stays x a d c e r (in_right p i j h) s t = ap is_simple j
root_stays x a d c e r (in_condition p i j h) s t = ap is_simple j
root_stays x a d c e r (in_then p i j h) s t = ap is_simple j
root_stays x a d c e r (in_else p i j h) s t = ap is_simple j
root_stays x a d c e r (in_fby_first p i j h) s t = ap is_simple j
root_stays x a d c e r (in_fby_next p i j h) s t = ap is_simple j
root_stays x a d c e r (in_pre p i j h) s t = ap is_simple j
root_stays x a d c e r (in_arrow_first p i j h) s t = ap is_simple j
root_stays x a d c e r (in_arrow_next p i j h) s t = ap is_simple j
root_stays x a d c e r (in_when p i j h) s t = ap is_simple j
root_stays x a d c e r (in_merge p i j h) s t = ap is_simple j
root_stays x a d c e r (in_call p i j h) s t = ap is_simple j
root_stays x a d c e r (in_async_call p i j h) s t = ap is_simple j
root_stays x a d c e r (in_get p i j h) s t = ap is_simple j

pub right_rest : (x : Name) (c : Clock) (e r : Expr) (t : Option Taken) → NoStep e → CutsStep x c e r t → CutsRight x c e r t
right_rest x c e r None s k = (k.0, plain k.1)
right_rest x c e r (Some t) s k = (k.0, step_is_large (out-Form t.named.form) k.1, root_stays x t.named t.clock.steps c e r k.0 s k.1, not_plain)
  where
    not_plain : IsNormalRight e → ⊥
    not_plain (step i l) = false≢true (sym s ∙ i)
    not_plain (plain l) = step_inside x t.named t.clock.steps k.1 c e r k.0 l

pub right_is : (x : Name) (c : Clock) (e : Expr) (cut : Cut) (f : Form) (t : Option Taken) → cut ≡ record { right = at e.place f; taken = t } → CutsRight x c e (at e.place f) t → CutsRight x c e cut.right cut.taken
right_is x c e cut f t k h = subst (λ (q : Cut). CutsRight x c e q.right q.taken) (sym k) h

-- the same right side, by its form
pub right_of_form : (x : Name) (c : Clock) (e : Expr) (f : Form) (cut : Cut) → e.form ≡ f → CutsRight x c (at e.place f) cut.right cut.taken → CutsRight x c e cut.right cut.taken
right_of_form x c e f cut h k = subst (λ (q : Expr). CutsRight x c q cut.right cut.taken) (at_form e f h) k
