-- A division of numbers without faults is by a constant other than 0.
use Rattle.std.proofs.Common.{◌≡◌, ◌≢◌, zero, suc, Bool, true, false, not, ◌&&◌, List, [], ◌∷◌, ◌⊎◌, inl, inr, refl, sym, ap, subst, ◌∙◌, arith, Some}
use Rattle.std.specs.Prelude.{ℤ, pos, negsuc, FitsSigned, if◌then◌else◌}
use Rattle.std.specs.Int.{w32}
use Rattle.std.proofs.lemmas.Bool.{false≢true}
use Rattle.hept_ast.specs.Texts.{Name, const_value, is_in}
use Rattle.hept_ast.specs.Scopes.{Clock}
use Rattle.hept_ast.specs.Values.{bits_of}
use Rattle.hept_ast.specs.Types.{Fits, Plain_type, binary_fit, divides, int, type_of_const, type_of_constructor}
use Rattle.hept_ast.specs.TypedValues.{FitsConst}
use Rattle.hept_ast.specs.Faults.{const_is_nonzero, is_nonzero}
use Rattle.hept_ast.specs.declared.tree.TypeDec.{TypeDec}
use Rattle.hept_ast.specs.declared.tree.Const.{Const}
use Rattle.hept_ast.specs.declared.tree.Const.TheVariants as const
use Rattle.hept_ast.specs.declared.tree.BinaryOp.{BinaryOp}
use Rattle.hept_ast.specs.declared.tree.BinaryOp.TheVariants.{Add, Sub, Mul, Div, Rem, Or, And, Eq, Ne, Lt, Le, Gt, Ge}
use Rattle.hept_ast.specs.declared.tree.Ty.{Ty}
use Rattle.hept_ast.specs.declared.tree.Ty.TheVariants as ty
use Rattle.hept_ast.specs.declared.tree.Plain.TheVariants.{Int, Named}
use Rattle.hept_ast.specs.declared.tree.Expr.{Expr}
use Rattle.hept_ast.specs.declared.tree.Form.{Form, out-Form, roll-Form}
use Rattle.hept_ast.specs.declared.tree.Form.TheOpen.{Form-F}
use Rattle.hept_ast.specs.declared.tree.Form.TheViews.{roll-out-Form}
use Rattle.hept_ast.specs.declared.tree.MergeBranch.{MergeBranch}
use Rattle.hept_ast.specs.declared.tree.Form.{Const as Const_form}
use Rattle.hept_ast.specs.declared.tree.Form.TheVariants as form
use Rattle.hept_ast.proofs.Unfolded.{tree}
use Rattle.sound_expressions.specs.Sound.{Sound, Within, is_constant, is_async_constant, is_variable, is_last, is_unary, is_binary, is_if, is_fby, is_pre, is_arrow, is_when, is_merge, is_call, is_async_call, is_get}
use Rattle.sound_expressions.proofs.FittedTypes.{all_two, fits_parts}
use Rattle.step_engine.specs.Running.{IsDivision, IsNoDivision}
use Rattle.plan_expressions.specs.Computable.{HasDivisor, divisor}

-- ---- numbers

number_bits : (z : ℤ) → FitsSigned w32 z → const_is_nonzero (const.Number z) ≡ true → bits_of z ≢ 0
number_bits (pos zero) h n = λ e. cc
number_bits (pos (suc n)) h k = λ e. cc
number_bits (negsuc n) h k = λ e. absurd (omega (arith, h, e))

-- ---- constants that divide

no_integer : (types : List TypeDec) (c : Name) → type_of_constructor types c ≡ Some Int → ⊥
no_integer [] c h = cc
no_integer (d ∷ rest) c h = by_place (λ g. no_integer rest c g) (is_in c d.constructors) h
  where
    by_place : (type_of_constructor rest c ≡ Some Int → ⊥) → (b : Bool) → (if b then Some (Named d.name) else type_of_constructor rest c) ≡ Some Int → ⊥
    by_place later true g = cc
    by_place later false g = later g

value_nonzero : (types : List TypeDec) (k : Const) → type_of_const types k ≡ Some Int → FitsConst k → const_is_nonzero k ≡ true → const_value types k ≢ 0
value_nonzero types (const.Number z) h fits n = number_bits z fits n
value_nonzero types (const.Truth b) h fits n = absurd (cc)
value_nonzero types (const.Constructor c) h fits n = absurd (no_integer types c h)

nonzero_form : (f : Form) → is_nonzero f ≡ true → (k : Const) × (out-Form f ≡ Form-F.Const k) × (const_is_nonzero k ≡ true)
unfolding tree out-Form denote.Hole.Carrier.out denote.Hole.Carrier.shown
nonzero_form (Const_form k) h = (k, refl, h)
nonzero_form _ h = absurd (cc)

pub form_by : (f : Form) (v : Form-F Form Expr MergeBranch) (g : Form) → out-Form f ≡ v → roll-Form v ≡ g → f ≡ g
form_by f v g e r = sym (roll-out-Form f) ∙ ap roll-Form e ∙ r

plain_is : (s : Plain_type) → ty.Plain s ∷ [] ≡ int → s ≡ Int
plain_is s h = cc

abbrev constant_form : Form-F Form Expr MergeBranch → Bool
constant_form (Form-F.Const k) = true
constant_form _ = false

no_constant : {P : Type 0} (e : Expr) (v : Const) (w : Form-F Form Expr MergeBranch) → out-Form e.form ≡ w → out-Form e.form ≡ Form-F.Const v → constant_form w ≡ false → P
no_constant e v w eq is other = absurd (false≢true (sym other ∙ (ap constant_form (sym eq ∙ is))))

constant_type : (k : Within) (e : Expr) (c : Clock) (ts : List Ty) (v : Const) → Sound k [] e c ts → out-Form e.form ≡ Form-F.Const v → ts ≡ int → (type_of_const k.types v ≡ Some Int) × FitsConst v
constant_type k e c _ v (is_constant {v = u} {t = t} eq known fits) is int_is =
    let same : u ≡ v = (let q : Form-F.Const u ≡ Form-F.Const v = sym eq ∙ is in cc) in
    (subst (λ (w : Const). type_of_const k.types w ≡ Some Int) same (known ∙ ap Some (plain_is t int_is)), subst FitsConst same fits)
constant_type k e c _ v (is_async_constant {v = u} eq type fits) is int_is = no_constant e v (Form-F.AsyncConst u) eq is refl
constant_type k e c _ v (is_variable {x = x} eq sees) is int_is = no_constant e v (Form-F.Var x) eq is refl
constant_type k e c _ v (is_last {x = x} eq sees init) is int_is = no_constant e v (Form-F.Last x) eq is refl
constant_type k e c ts v (is_unary {a = a} {op = op} eq s fit) is int_is = no_constant e v (Form-F.Unary op a) eq is refl
constant_type k e c ts v (is_binary {a = a} {b = b} {op = op} eq s u fit nonzero) is int_is = no_constant e v (Form-F.Binary op a b) eq is refl
constant_type k e c ts v (is_if {i = i} {a = a} {b = b} eq q s u fit) is int_is = no_constant e v (Form-F.If i a b) eq is refl
constant_type k e c ts v (is_fby {a = a} {b = b} eq s u fit never) is int_is = no_constant e v (Form-F.Fby a b) eq is refl
constant_type k e c ts v (is_pre {a = a} eq s fit never) is int_is = no_constant e v (Form-F.Pre a) eq is refl
constant_type k e c ts v (is_arrow {a = a} {b = b} eq s u fit) is int_is = no_constant e v (Form-F.Arrow a b) eq is refl
constant_type k e _ ts v (is_when {a = a} {tag = tag} {x = x} eq sees s tag_of tags fit never) is int_is = no_constant e v (Form-F.When a tag x) eq is refl
constant_type k e c ts v (is_merge {x = x} {bs = bs} eq sees tags never values all fit) is int_is = no_constant e v (Form-F.Merge x bs) eq is refl
constant_type k e c ts v (is_call {f = f} {args = args} eq named given fit leads made) is int_is = no_constant e v (Form-F.Call f args) eq is refl
constant_type k e c ts v (is_async_call {q = q} {f = f} {args = args} eq named given fit leads made) is int_is = no_constant e v (Form-F.AsyncCall q f args) eq is refl
constant_type k e c ts v (is_get {a = a} eq s fit) is int_is = no_constant e v (Form-F.Get a) eq is refl

divided_by : (op : BinaryOp) → IsDivision op → (divides op ≡ true) × ((us : List (List Ty)) → binary_fit op us ≡ binary_fit Div us)
divided_by Div d = (refl, λ us. refl)
divided_by Rem d = (refl, λ us. refl)
divided_by _ d = absurd d

by_tests : (c d : Bool) → c && not d ≡ false → c ≡ true → d ≡ true
by_tests true true h g = refl
by_tests true false h g = absurd (cc)
by_tests false d h g = absurd (cc)

pub has_divisor : (k : Within) (b : Expr) (c : Clock) (op : BinaryOp) (us vs ts : List Ty) → IsDivision op → Sound k [] b c vs → binary_fit op (us ∷ vs ∷ []) ≡ Fits ts → divides op && not (is_nonzero b.form) ≡ false → HasDivisor k.types b
has_divisor k b c op us vs ts d s fit nonzero =
    let o = divided_by op d in
    let n = nonzero_form b.form (by_tests (divides op) (is_nonzero b.form) nonzero o.0) in
    let p = fits_parts _ int ts (sym (o.1 (us ∷ vs ∷ [])) ∙ fit) in
    let q = all_two us vs int p.0 in
    let t = constant_type k b c vs n.0 s n.1 q.1 in
    divisor n.0 (form_by b.form (Form-F.Const n.0) (form.Const n.0) n.1 (form.rolls-Const n.0)) (value_nonzero k.types n.0 t.0 t.1 n.2)

pub division_or_not : (op : BinaryOp) → IsDivision op ⊎ IsNoDivision op
division_or_not Div = inl tt
division_or_not Rem = inl tt
division_or_not Add = inr tt
division_or_not Sub = inr tt
division_or_not Mul = inr tt
division_or_not Or = inr tt
division_or_not And = inr tt
division_or_not Eq = inr tt
division_or_not Ne = inr tt
division_or_not Lt = inr tt
division_or_not Le = inr tt
division_or_not Gt = inr tt
division_or_not Ge = inr tt
