-- What an expression without faults says of its operands and its own types.
use Rattle.std.proofs.Common.{◌≡◌, ℕ, Bool, true, false, if◌then◌else◌, List, [], ◌∷◌, ◌++◌, map, refl, ap, subst, ◌∙◌, Option, Some, None}
use Rattle.std.specs.List.{list_all}
use Rattle.std.proofs.lemmas.Bool.{false≢true}
use Rattle.hept_ast.specs.Types.{Fit, Fits, Misfit, Untyped, alike, all_are, async_fit, binary_fit, bool, call_fit, fits_if, get_fit, if_fit, int, is_plain, same_types, types_of, unary_fit, future_of}
use Rattle.hept_ast.specs.Faults.{Fault, Judging, Judged, judged, judged_by, judged_of, with_own, with_operand, both, barred, pair_types, append_types}
use Rattle.hept_ast.specs.declared.tree.Node.{Node}
use Rattle.hept_ast.specs.declared.tree.Expr.{Expr}
use Rattle.hept_ast.specs.declared.tree.UnaryOp.{UnaryOp}
use Rattle.hept_ast.specs.declared.tree.UnaryOp.TheVariants.{Minus, Not}
use Rattle.hept_ast.specs.declared.tree.BinaryOp.{BinaryOp}
use Rattle.hept_ast.specs.declared.tree.BinaryOp.TheVariants as op
use Rattle.hept_ast.specs.declared.tree.Ty.{Ty}
use Rattle.hept_ast.specs.declared.tree.Ty.TheVariants as ty
use Rattle.hept_ast.proofs.JudgeOf.{judge_of, one}
use Rattle.sound_expressions.proofs.Lists.{not_nil, nil_left, nil_right}

-- ---- what is judged without faults

-- it gives these types, by its own faults and operands
pub record Clean {A : Type 0} (own : List Fault) (operands : Judged A) : Type 0 where
  pub own_faults : own ≡ []
  pub operand_faults : operands.faults ≡ []

of_fit : (p : ℕ) (fs : List Fault) (f : Fit) → (judged_by p fs f).faults ≡ [] → fs ≡ []
of_fit p fs (Fits ts) e = e
of_fit p fs Misfit e = absurd (not_nil _ fs e)
of_fit p fs Untyped e = e

of_types : {A : Type 0} (p : ℕ) (fs : List Fault) (types : Option A) (fit : A → Fit) → (judged_of p fs types fit).faults ≡ [] → fs ≡ []
of_types p fs None fit e = e
of_types p fs (Some ts) fit e = of_fit p fs (fit ts) e

pub clean : {A : Type 0} (p : ℕ) (own : List Fault) (operands : Judged A) (fit : A → Fit) → (judged p own operands fit).faults ≡ [] → Clean own operands
clean p own operands fit e =
    let h = of_types p (own ++ operands.faults) operands.types fit e in
    record { own_faults = nil_left own operands.faults h; operand_faults = nil_right own operands.faults h }

-- the types that fit, and that the whole gives
abbrev pub Typed : Fit → Option (List Ty) → Type 0
Typed f types = (ts : List Ty) × (f ≡ Fits ts) × (types ≡ Some ts)

fitted : (p : ℕ) (fs : List Fault) (f : Fit) → (f ≡ Untyped → ⊥) → fs ≡ [] → (judged_by p fs f).faults ≡ [] → Typed f (judged_by p fs f).types
fitted p fs (Fits ts) u h e = (ts, refl, ap (λ (l : List Fault). with_own l ts) h)
fitted p fs Misfit u h e = absurd (not_nil _ fs e)
fitted p fs Untyped u h e = absurd (u refl)

pub typed : {A : Type 0} (p : ℕ) (own : List Fault) (operands : Judged A) (fit : A → Fit) (tss : A) → (judged p own operands fit).faults ≡ [] → operands.types ≡ Some tss → (fit tss ≡ Untyped → ⊥) →
    Typed (fit tss) (judged p own operands fit).types
typed p own operands fit tss e h u =
    let fs = own ++ operands.faults in
    let none = of_types p fs operands.types fit e in
    let e2 : (judged_by p fs (fit tss)).faults ≡ [] = subst (λ (o : Option _). (judged_of p fs o fit).faults ≡ []) h e in
    let (ts, f, r) = fitted p fs (fit tss) u none e2 in
    (ts, f, ap (λ (o : Option _). (judged_of p fs o fit).types) h ∙ r)

-- ---- which rules give no type without a fault

pub if_typed : (b : Bool) (ts : List Ty) → fits_if b ts ≡ Untyped → ⊥
if_typed true ts e = cc
if_typed false ts e = cc

pub unary_typed : (op : UnaryOp) (tss : List (List Ty)) → unary_fit op tss ≡ Untyped → ⊥
unary_typed Minus tss e = if_typed (all_are int tss) int e
unary_typed Not tss e = if_typed (all_are bool tss) bool e

pub binary_typed : (op : BinaryOp) (us vs : List Ty) → binary_fit op (us ∷ vs ∷ []) ≡ Untyped → ⊥
binary_typed op.Or us vs e = if_typed _ bool e
binary_typed op.And us vs e = if_typed _ bool e
binary_typed op.Eq us vs e = if_typed _ bool e
binary_typed op.Ne us vs e = if_typed _ bool e
binary_typed op.Lt us vs e = if_typed _ bool e
binary_typed op.Le us vs e = if_typed _ bool e
binary_typed op.Gt us vs e = if_typed _ bool e
binary_typed op.Ge us vs e = if_typed _ bool e
binary_typed op.Add us vs e = if_typed _ int e
binary_typed op.Sub us vs e = if_typed _ int e
binary_typed op.Mul us vs e = if_typed _ int e
binary_typed op.Div us vs e = if_typed _ int e
binary_typed op.Rem us vs e = if_typed _ int e

pub alike_typed : (t : List Ty) (rest : List (List Ty)) → alike (t ∷ rest) ≡ Untyped → ⊥
alike_typed t rest e = if_typed _ t e

choice_typed : (b : Bool) (f : Fit) → (f ≡ Untyped → ⊥) → (if b then f else Misfit) ≡ Untyped → ⊥
choice_typed true f u e = u e
choice_typed false f u e = cc

pub if_fit_typed : (is t : List Ty) (rest : List (List Ty)) → if_fit (is ∷ t ∷ rest) ≡ Untyped → ⊥
if_fit_typed is t rest e = choice_typed (same_types bool is) (alike (t ∷ rest)) (alike_typed t rest) e

pub call_typed : (g : Node) (tss : List (List Ty)) → call_fit g tss ≡ Untyped → ⊥
call_typed g tss e = if_typed _ (types_of g.outputs) e

plain_async : (b : Bool) (ts : List Ty) → list_all is_plain ts ≡ true → async_fit (fits_if b ts) ≡ Untyped → ⊥
plain_async true ts h e = go (list_all is_plain ts) h e
  where
    go : (c : Bool) → c ≡ true → (if c then Fits (map future_of ts) else Untyped) ≡ Untyped → ⊥
    go true h e = cc
    go false h e = false≢true h
plain_async false ts h e = cc

pub async_typed : (g : Node) (tss : List (List Ty)) → list_all is_plain (types_of g.outputs) ≡ true → async_fit (call_fit g tss) ≡ Untyped → ⊥
async_typed g tss h e = plain_async _ (types_of g.outputs) h e

pub get_typed : (us : List Ty) → get_fit (us ∷ []) ≡ Untyped → ⊥
get_typed [] e = cc
get_typed (ty.Plain t ∷ []) e = cc
get_typed (ty.Future t ∷ []) e = cc
get_typed (ty.Plain t ∷ u ∷ us) e = cc
get_typed (ty.Future t ∷ u ∷ us) e = cc

-- what no strong condition holds
barred_by : (strong : Bool) (f : Fit) → ((if strong then Misfit else f) ≡ Untyped → f ≡ Untyped) × ((ts : List Ty) → (if strong then Misfit else f) ≡ Fits ts → f ≡ Fits ts)
barred_by true f = (λ e. cc, λ ts e. cc)
barred_by false f = (λ e. e, λ ts e. e)

pub barred_typed : (w : Judging) (f : Fit) → (f ≡ Untyped → ⊥) → barred w f ≡ Untyped → ⊥
barred_typed w f u e = u ((barred_by w.strong f).0 e)

pub barred_fits : (w : Judging) (f : Fit) (ts : List Ty) → barred w f ≡ Fits ts → f ≡ Fits ts
barred_fits w f ts e = (barred_by w.strong f).1 ts e

-- ---- operands

pub one_faults : (w : Judging) (under : Bool) (e : Expr) → (one w under e).faults ≡ [] → (judge_of w under e).faults ≡ []
one_faults w under e h = nil_left (judge_of w under e).faults [] h

pub one_types : (w : Judging) (under : Bool) (e : Expr) (ts : List Ty) → (judge_of w under e).types ≡ Some ts → (one w under e).types ≡ Some (ts ∷ [])
one_types w under e ts h = ap (λ (o : Option (List Ty)). pair_types o (Some [])) h

pub both_types : (a b : Judged (List (List Ty))) (us vs : List (List Ty)) → a.types ≡ Some us → b.types ≡ Some vs → (both a b).types ≡ Some (us ++ vs)
both_types a b us vs h k = ap (λ (o : Option (List (List Ty))). append_types o b.types) h ∙ ap (λ (o : Option (List (List Ty))). append_types (Some us) o) k

pub with_types : (a : Judged (List Ty)) (b : Judged (List (List Ty))) (ts : List Ty) (tss : List (List Ty)) → a.types ≡ Some ts → b.types ≡ Some tss → (with_operand a b).types ≡ Some (ts ∷ tss)
with_types a b ts tss h k = ap (λ (o : Option (List Ty)). pair_types o b.types) h ∙ ap (λ (o : Option (List (List Ty))). pair_types (Some ts) o) k
