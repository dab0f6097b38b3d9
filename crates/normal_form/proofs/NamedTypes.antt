-- A subexpression that is named has exactly one type, unless it is the whole expression.
use Rattle.std.proofs.Common.{◌≡◌, ◌⊎◌, inl, inr, ⊎_elim, ℕ, Bool, true, false, List, [], ◌∷◌, refl, sym, ap, ◌∙◌, subst}
use Rattle.std.specs.Prelude.{Some}
use Rattle.hept_ast.specs.Texts.{Name}
use Rattle.hept_ast.specs.Scopes.{Clock}
use Rattle.hept_ast.specs.Faults.{Judged, Judging, judge, judge_expr}
use Rattle.hept_ast.specs.declared.tree.Expr.{Expr}
use Rattle.hept_ast.specs.declared.tree.MergeBranch.{MergeBranch}
use Rattle.hept_ast.specs.declared.tree.Ty.{Ty}
use Rattle.hept_ast.specs.declared.tree.Form.{Form, out-Form, roll-Form}
use Rattle.hept_ast.specs.declared.tree.Form.TheOpen.{Form-F}
use Rattle.hept_ast.specs.declared.tree.Form.TheViews.{roll-out-Form}
use Rattle.hept_ast.specs.declared.tree.Form.TheVariants as form
use Rattle.hept_ast.proofs.JudgeOf.{judge_of, judge-Last, judge-Unary, judge-Binary, judge-If, judge-Fby, judge-Arrow, judge-Pre, judge-When, judge-Merge, judge-Call, judge-AsyncCall, judge-Get}
use Rattle.core_naming.specs.Normal.{is_simple}
use Rattle.core_naming.specs.Names.{Names, NamesArgument, NamesBranch, variable_at, whole, in_unary, in_left, in_right, in_condition, in_then, in_else, in_fby_first, in_fby_next, in_pre, in_arrow_first, in_arrow_next, in_when, in_merge, in_call, in_async_call, in_get, this_argument, later_argument, this_branch, later_branch}
use Rattle.normal_form.proofs.TypedOperands.{HasOneType, HaveOneType, BranchesHaveOneType, operands_typed}

-- ---- an operand of a get is judged as any other, unless it is a variable

module _ (w : Judging) (under : Bool) (p : ℕ) where
  alike : (f g : Form) (j : Judged (List Ty)) → f ≡ g → judge w under p g ≡ j → judge w false p g ≡ j → judge w under p f ≡ judge w false p f
  alike f g j r a b = ap (judge w under p) r ∙ a ∙ sym (ap (judge w false p) r ∙ b)

  rolled_under : (v : Form-F Form Expr MergeBranch) → is_simple v ≡ false → judge w under p (roll-Form v) ≡ judge w false p (roll-Form v)
  rolled_under (Form-F.Const k) s = cc
  rolled_under (Form-F.Var x) s = cc
  rolled_under (Form-F.Last x) s = alike _ _ _ (form.rolls-Last x) (judge-Last w under p x) (judge-Last w false p x)
  rolled_under (Form-F.Unary op a) s = alike _ _ _ (form.rolls-Unary op a) (judge-Unary w under p op a) (judge-Unary w false p op a)
  rolled_under (Form-F.Binary op a b) s = alike _ _ _ (form.rolls-Binary op a b) (judge-Binary w under p op a b) (judge-Binary w false p op a b)
  rolled_under (Form-F.If c a b) s = alike _ _ _ (form.rolls-If c a b) (judge-If w under p c a b) (judge-If w false p c a b)
  rolled_under (Form-F.Fby a b) s = alike _ _ _ (form.rolls-Fby a b) (judge-Fby w under p a b) (judge-Fby w false p a b)
  rolled_under (Form-F.Pre a) s = alike _ _ _ (form.rolls-Pre a) (judge-Pre w under p a) (judge-Pre w false p a)
  rolled_under (Form-F.Arrow a b) s = alike _ _ _ (form.rolls-Arrow a b) (judge-Arrow w under p a b) (judge-Arrow w false p a b)
  rolled_under (Form-F.When a tag x) s = alike _ _ _ (form.rolls-When a tag x) (judge-When w under p a tag x) (judge-When w false p a tag x)
  rolled_under (Form-F.Merge x bs) s = alike _ _ _ (form.rolls-Merge x bs) (judge-Merge w under p x bs) (judge-Merge w false p x bs)
  rolled_under (Form-F.Call f es) s = alike _ _ _ (form.rolls-Call f es) (judge-Call w under p f es) (judge-Call w false p f es)
  rolled_under (Form-F.AsyncCall q f es) s = alike _ _ _ (form.rolls-AsyncCall q f es) (judge-AsyncCall w under p q f es) (judge-AsyncCall w false p q f es)
  rolled_under (Form-F.AsyncConst k) s = cc
  rolled_under (Form-F.Get a) s = alike _ _ _ (form.rolls-Get a) (judge-Get w under p a) (judge-Get w false p a)

pub under_get : (w : Judging) (under : Bool) (e : Expr) → is_simple (out-Form e.form) ≡ false → judge_of w under e ≡ judge_of w false e
under_get w under e s = subst (λ (f : Form). judge w under e.place.0 f ≡ judge w false e.place.0 f) (roll-out-Form e.form) (rolled_under w under e.place.0 (out-Form e.form) s)

-- ---- by where the subexpression stands

module _ (w : Judging) (x : Name) (a : Expr) (d : Clock) (large : is_simple (out-Form a.form) ≡ false) where
  -- the whole expression, or one with exactly one type
  abbrev Found : Expr → Expr → Type 0
  Found e r = ((e ≡ a) × (r ≡ variable_at a.place x)) ⊎ HasOneType w false a

  anywhere : (under : Bool) → HasOneType w under a → HasOneType w false a
  anywhere under h = record {
    type = h.type;
    types = sym (ap (λ (j : Judged (List Ty)). j.types) (under_get w under a large)) ∙ h.types;
    clean = sym (ap (λ (j : Judged (List Ty)). j.faults) (under_get w under a large)) ∙ h.clean;
  }

  below : (under : Bool) (e r : Expr) → HasOneType w under e → ((ts : List Ty) → (judge_of w under e).types ≡ Some ts → Found e r) → HasOneType w false a
  below under e r k f = ⊎_elim (λ i. anywhere under (subst (HasOneType w under) i.0 k)) (λ t. t) (f (k.type ∷ []) k.types)

  mutual
    found : (c : Clock) (e r : Expr) → Names x a d c e r → (under : Bool) (ts : List Ty) → (judge_of w under e).types ≡ Some ts → Found e r
    found _ _ _ whole under ts h = inl (refl, refl)
    found _ _ _ (in_unary {e = e} {b = b} {m = m} p o q n) under ts h = inr (below false b m (operands_typed w under e _ ts o h).0 (λ us k. found _ b m n false us k))
    found _ _ _ (in_left {e = e} {b = b} {m = m} p o q n) under ts h = inr (below false b m (operands_typed w under e _ ts o h).0 (λ us k. found _ b m n false us k))
    found _ _ _ (in_right {e = e} {f = b} {m = m} p o q n) under ts h = inr (below false b m (operands_typed w under e _ ts o h).1.0 (λ us k. found _ b m n false us k))
    found _ _ _ (in_condition {e = e} {i = b} {m = m} p o q n) under ts h = inr (below false b m (operands_typed w under e _ ts o h).0 (λ us k. found _ b m n false us k))
    found _ _ _ (in_then {e = e} {b = b} {m = m} p o q n) under ts h = inr (below false b m (operands_typed w under e _ ts o h).1.0 (λ us k. found _ b m n false us k))
    found _ _ _ (in_else {e = e} {f = b} {m = m} p o q n) under ts h = inr (below false b m (operands_typed w under e _ ts o h).1.1.0 (λ us k. found _ b m n false us k))
    found _ _ _ (in_fby_first {e = e} {b = b} {m = m} p o q n) under ts h = inr (below false b m (operands_typed w under e _ ts o h).0 (λ us k. found _ b m n false us k))
    found _ _ _ (in_fby_next {e = e} {f = b} {m = m} p o q n) under ts h = inr (below false b m (operands_typed w under e _ ts o h).1.0 (λ us k. found _ b m n false us k))
    found _ _ _ (in_pre {e = e} {b = b} {m = m} p o q n) under ts h = inr (below false b m (operands_typed w under e _ ts o h).0 (λ us k. found _ b m n false us k))
    found _ _ _ (in_arrow_first {e = e} {b = b} {m = m} p o q n) under ts h = inr (below false b m (operands_typed w under e _ ts o h).0 (λ us k. found _ b m n false us k))
    found _ _ _ (in_arrow_next {e = e} {f = b} {m = m} p o q n) under ts h = inr (below false b m (operands_typed w under e _ ts o h).1.0 (λ us k. found _ b m n false us k))
    found _ _ _ (in_when {e = e} {b = b} {m = m} p o q n) under ts h = inr (below false b m (operands_typed w under e _ ts o h).0 (λ us k. found _ b m n false us k))
    found _ _ _ (in_get {e = e} {b = b} {m = m} p o q n) under ts h = inr (below true b m (operands_typed w under e _ ts o h).0 (λ us k. found _ b m n true us k))
    found _ _ _ (in_merge {e = e} p o q n) under ts h = inr (found_branch _ _ _ _ n (operands_typed w under e _ ts o h))
    found _ _ _ (in_call {e = e} p o q n) under ts h = inr (found_argument _ _ _ n (operands_typed w under e _ ts o h))
    found _ _ _ (in_async_call {e = e} p o q n) under ts h = inr (found_argument _ _ _ n (operands_typed w under e _ ts o h))

    found_argument : (c : Clock) (es ms : List Expr) → NamesArgument x a d c es ms → HaveOneType w false es → HasOneType w false a
    found_argument _ _ _ (this_argument {e = e} {m = m} n) h = below false e m h.0 (λ us k. found _ e m n false us k)
    found_argument _ _ _ (later_argument n) h = found_argument _ _ _ n h.1

    found_branch : (y : Name) (c : Clock) (bs ms : List MergeBranch) → NamesBranch x a d y c bs ms → BranchesHaveOneType w bs → HasOneType w false a
    found_branch _ _ _ _ (this_branch {b = b} {m = m} p t n) h = below false b.value m.value h.0 (λ us k. found _ b.value m.value n false us k)
    found_branch _ _ _ _ (later_branch n) h = found_branch _ _ _ _ n h.1

  -- in an expression with types
  pub named_has_type : (c : Clock) (e r : Expr) (ts : List Ty) → Names x a d c e r → (judge_expr w e).types ≡ Some ts → ((e ≡ a) × (r ≡ variable_at a.place x)) ⊎ HasOneType w false a
  named_has_type c e r ts n h = found c e r n false ts h

  -- in one that does not become a variable
  pub named_below_has_type : (c : Clock) (e r : Expr) (ts : List Ty) → Names x a d c e r → (judge_expr w e).types ≡ Some ts → (r ≡ variable_at a.place x → ⊥) → HasOneType w false a
  named_below_has_type c e r ts n h other = ⊎_elim (λ i. absurd (other i.1)) (λ t. t) (found c e r n false ts h)

  -- in one with exactly one type
  pub named_in_one_type : (c : Clock) (e r : Expr) → Names x a d c e r → HasOneType w false e → HasOneType w false a
  named_in_one_type c e r n h = below false e r h (λ ts k. found c e r n false ts k)
