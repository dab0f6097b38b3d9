-- The type of an expression by its form.
use Rattle.std.proofs.Common.{◌≡◌, ℕ, Bool, true, false, List, [], ◌∷◌, length, map, refl, sym, ◌∙◌, ap}
use Rattle.std.specs.Prelude.{Option, None, Some, is_some, not, ◌&&◌, ◌==◌}
use Rattle.std.specs.List.{flat_map, list_all}
use Rattle.std.specs.Option.{option_map}
use Rattle.hept_ast.specs.Texts.{Name}
use Rattle.hept_ast.specs.Types.{Fit, Fits, Misfit, Plain_type, alike, all_are, async_fit, binary_fit, bool, call_fit, fits_if, future_of, get_fit, if_fit, int, is_plain, plain_pair, same_types, type_of_const, types_of, unary_fit}
use Rattle.hept_ast.specs.Faults.{FutureKept, Judging, UnknownName, barred, const_judged, fault, is_kept, judge, last_judged, type_of_variable, var_judged}
use Rattle.hept_ast.specs.Parts.{declaration}
use Rattle.hept_ast.specs.declared.tree.BinaryOp.{BinaryOp}
use Rattle.hept_ast.specs.declared.tree.BinaryOp.TheVariants.{Add, Sub, Mul, Div, Rem, Or, And, Eq, Ne, Lt, Le, Gt, Ge}
use Rattle.hept_ast.specs.declared.tree.Const.{Const}
use Rattle.hept_ast.specs.declared.tree.Decl.{Decl}
use Rattle.hept_ast.specs.declared.tree.Expr.{Expr}
use Rattle.hept_ast.specs.declared.tree.Form.{Form}
use Rattle.hept_ast.specs.declared.tree.Form.TheVariants as form
use Rattle.hept_ast.specs.declared.tree.MergeBranch.{MergeBranch}
use Rattle.hept_ast.specs.declared.tree.Node.{Node}
use Rattle.hept_ast.specs.declared.tree.Plain.TheVariants.{Int, Bool as Truth_value}
use Rattle.hept_ast.specs.declared.tree.Tag.{Tag}
use Rattle.hept_ast.specs.declared.tree.Ty.{Ty}
use Rattle.hept_ast.specs.declared.tree.Ty.TheVariants as ty
use Rattle.hept_ast.specs.declared.tree.UnaryOp.{UnaryOp}
use Rattle.hept_ast.specs.declared.tree.UnaryOp.TheVariants.{Minus, Not}
use Rattle.hept_ast.proofs.JudgeOf.{judge_of, judge-AsyncConst, judge-Const, judge-Last, judge-Var}
use Rattle.normal_form.specs.OneType.{IsOutputOf, IsTypeOf, IsValueOf, binary_type, plain_of, unary_type}
use Rattle.normal_form.proofs.TypedOperands.{Gives, GivesBranches, alike-some, async-some, barred-some, fits_fits, fits_if-some, get-some, judged-some, judged_by-some, none_some, of-Arrow, of-AsyncCall, of-Binary, of-Call, of-Fby, of-Get, of-If, of-Merge, of-Pre, of-Unary, of-When, some_some, types_along, where_true}

-- ---- what operators give

only : (t u : Ty) → t ∷ [] ≡ u ∷ [] → t ≡ u
only t u e = cc

only_if : (b : Bool) (t u : Ty) → fits_if b (t ∷ []) ≡ Fits (u ∷ []) → t ≡ u
only_if b t u e = only t u (fits_if-some b (t ∷ []) (u ∷ []) e).1

unary_gives : (op : UnaryOp) (ts : List (List Ty)) (u : Ty) → unary_fit op ts ≡ Fits (u ∷ []) → unary_type op ≡ u
unary_gives Minus ts u e = only_if (all_are int ts) (ty.Plain Int) u e
unary_gives Not ts u e = only_if (all_are bool ts) (ty.Plain Truth_value) u e

pair_gives : (ts : List (List Ty)) (u : Ty) → plain_pair ts ≡ Fits (u ∷ []) → ty.Plain Truth_value ≡ u
pair_gives [] u e = cc
pair_gives (t ∷ ts) u e = only_if (length t == 1 && list_all is_plain t && all_are t ts) (ty.Plain Truth_value) u e

binary_gives : (op : BinaryOp) (ts : List (List Ty)) (u : Ty) → binary_fit op ts ≡ Fits (u ∷ []) → binary_type op ≡ u
binary_gives Add ts u e = only_if (all_are int ts) (ty.Plain Int) u e
binary_gives Sub ts u e = only_if (all_are int ts) (ty.Plain Int) u e
binary_gives Mul ts u e = only_if (all_are int ts) (ty.Plain Int) u e
binary_gives Div ts u e = only_if (all_are int ts) (ty.Plain Int) u e
binary_gives Rem ts u e = only_if (all_are int ts) (ty.Plain Int) u e
binary_gives Or ts u e = only_if (all_are bool ts) (ty.Plain Truth_value) u e
binary_gives And ts u e = only_if (all_are bool ts) (ty.Plain Truth_value) u e
binary_gives Eq ts u e = pair_gives ts u e
binary_gives Ne ts u e = pair_gives ts u e
binary_gives Lt ts u e = only_if (all_are int ts) (ty.Plain Truth_value) u e
binary_gives Le ts u e = only_if (all_are int ts) (ty.Plain Truth_value) u e
binary_gives Gt ts u e = only_if (all_are int ts) (ty.Plain Truth_value) u e
binary_gives Ge ts u e = only_if (all_are int ts) (ty.Plain Truth_value) u e

-- ---- what one operand gives

first_gives : (w : Judging) (side : Bool) (a : Expr) (es : List Expr) (ts : List (List Ty)) (us : List Ty) → Gives w side (a ∷ es) ts → alike ts ≡ Fits us → (judge_of w side a).types ≡ Some us
first_gives w side a es [] us g f = elim g [ ]
first_gives w side a es (t ∷ ts) us g f = g.0 ∙ ap Some (alike-some t ts us f).0

second_gives : (w : Judging) (c a b : Expr) (ts : List (List Ty)) (us : List Ty) → Gives w false (c ∷ a ∷ b ∷ []) ts → if_fit ts ≡ Fits us → (judge_of w false a).types ≡ Some us
second_gives w c a b [] us g f = elim g [ ]
second_gives w c a b (t ∷ ts) us g f = first_gives w false a (b ∷ []) ts us g.2 (where_true (same_types bool t) (alike ts) us f).1

branch_gives : (w : Judging) (b : MergeBranch) (bs : List MergeBranch) (ts : List (List Ty)) (us : List Ty) → GivesBranches w (b ∷ bs) ts → alike ts ≡ Fits us → (judge_of w false b.value).types ≡ Some us
branch_gives w b bs [] us g f = elim g [ ]
branch_gives w b bs (t ∷ ts) us g f = g.0 ∙ ap Some (alike-some t ts us f).0

no_branch : {P : Type 0} (w : Judging) (ts : List (List Ty)) (us : List Ty) → GivesBranches w [] ts → alike ts ≡ Fits us → P
no_branch w [] us g f = cc
no_branch w (t ∷ ts) us g f = elim g [ ]

get_gives : (w : Judging) (a : Expr) (ts : List (List Ty)) (u : Ty) → Gives w true (a ∷ []) ts → get_fit ts ≡ Fits (u ∷ []) → (t : Plain_type) × ((judge_of w true a).types ≡ Some (ty.Future t ∷ [])) × (ty.Plain t ≡ u)
get_gives w a [] u g f = elim g [ ]
get_gives w a (t ∷ ts) u g f =
    let h = get-some (t ∷ ts) (u ∷ []) f in
    let k : t ≡ ty.Future h.0 ∷ [] = cc (h.1) in
    (h.0, g.0 ∙ ap Some k, only (ty.Plain h.0) u (sym h.2))

-- ---- constants and variables

const_gives : (w : Judging) (p : ℕ) (o : Option Plain_type) (give : Plain_type → Ty) (us : List Ty) → (const_judged w p o give).types ≡ Some us → (s : Plain_type) × (o ≡ Some s) × (give s ∷ [] ≡ us)
const_gives w p None give us e = none_some us e
const_gives w p (Some s) give us e = (s, refl, some_some (give s ∷ []) us e)

var_gives : (w : Judging) (p : ℕ) (under : Bool) (x : Name) (o : Option Ty) (u : Ty) → (var_judged w p under x o).types ≡ Some (u ∷ []) → o ≡ Some u
var_gives w p under x None u e = none_some (u ∷ []) e
var_gives w p under x (Some t) u e = ap Some (only t u (fits_fits (t ∷ []) (u ∷ []) (judged_by-some p (fault p FutureKept (not under && is_kept w x t)) (Fits (t ∷ [])) (u ∷ []) e).1))

last_gives : (w : Judging) (p : ℕ) (o : Option Decl) (u : Ty) → (last_judged w p o).types ≡ Some (u ∷ []) → (d : Decl) × (o ≡ Some d) × (d.ty ≡ u)
last_gives w p None u e = none_some (u ∷ []) e
last_gives w p (Some d) u e = (d, refl, only d.ty u (fits_fits (d.ty ∷ []) (u ∷ []) (judged_by-some p (fault p UnknownName (not (is_some d.init))) (Fits (d.ty ∷ [])) (u ∷ []) e).1))

-- ---- calls

call_gives : (g : Node) (ts : List (List Ty)) (us : List Ty) → call_fit g ts ≡ Fits us → types_of g.outputs ≡ us
call_gives g ts us e = (fits_if-some (same_types (types_of g.inputs) (flat_map (λ t. t) ts) && list_all (λ t. length t == 1) ts) (types_of g.outputs) us e).1

future_gives : (ts : List Ty) (u : Ty) → u ∷ [] ≡ map future_of ts → (s : Ty) × (ts ≡ s ∷ []) × (future_of s ≡ u)
future_gives [] u e = cc
future_gives (s ∷ []) u e = (s, refl, only (future_of s) u (sym e))
future_gives (s ∷ t ∷ ts) u e = cc

-- ---- forms

module _ (w : Judging) (e : Expr) where
  formed : (f : Form) (under : Bool) (us : List Ty) → e.form ≡ f → (judge w under e.place.0 e.form).types ≡ Some us → (judge w under e.place.0 f).types ≡ Some us
  formed f under us is h = sym (ap (λ (g : Form). (judge w under e.place.0 g).types) is) ∙ h

  pub type-Const : (k : Const) (s : Plain_type) → e.form ≡ form.Const k → IsValueOf (type_of_const w.types k) s → IsTypeOf w e (ty.Plain s)
  type-Const k s is v under u h =
      let g = const_gives w e.place.0 (type_of_const w.types k) ty.Plain (u ∷ []) (types_along (judge-Const w under e.place.0 k) (formed _ under (u ∷ []) is h)) in
      ap ty.Plain (v g.0 g.1) ∙ only (ty.Plain g.0) u g.2

  pub type-AsyncConst : (k : Const) (s : Plain_type) → e.form ≡ form.AsyncConst k → IsValueOf (type_of_const w.types k) s → IsTypeOf w e (ty.Future s)
  type-AsyncConst k s is v under u h =
      let j = judged-some e.place.0 [] (const_judged w e.place.0 (type_of_const w.types k) ty.Future) (λ ts. barred w (Fits ts)) (u ∷ []) (types_along (judge-AsyncConst w under e.place.0 k) (formed _ under (u ∷ []) is h)) in
      let f = fits_fits j.types (u ∷ []) (barred-some w (Fits j.types) (u ∷ []) j.fits) in
      let g = const_gives w e.place.0 (type_of_const w.types k) ty.Future (u ∷ []) (j.given ∙ ap Some f) in
      ap ty.Future (v g.0 g.1) ∙ only (ty.Future g.0) u g.2

  pub type-Var : (x : Name) (t : Ty) → e.form ≡ form.Var x → IsValueOf (type_of_variable w x) t → IsTypeOf w e t
  type-Var x t is v under u h = v u (var_gives w e.place.0 under x (type_of_variable w x) u (types_along (judge-Var w under e.place.0 x) (formed _ under (u ∷ []) is h)))

  pub type-Last : (x : Name) (t : Ty) → e.form ≡ form.Last x → IsValueOf (type_of_variable w x) t → IsTypeOf w e t
  type-Last x t is v under u h =
      let g = last_gives w e.place.0 (declaration w.seen x) u (types_along (judge-Last w under e.place.0 x) (formed _ under (u ∷ []) is h)) in
      v u (ap (option_map (λ (d : Decl). d.ty)) g.1 ∙ ap Some g.2)

  pub type-Unary : (op : UnaryOp) (a : Expr) → e.form ≡ form.Unary op a → IsTypeOf w e (unary_type op)
  type-Unary op a is under u h = let g = of-Unary w under e.place.0 (u ∷ []) op a (formed _ under (u ∷ []) is h) in unary_gives op g.types u g.fits

  pub type-Binary : (op : BinaryOp) (a b : Expr) → e.form ≡ form.Binary op a b → IsTypeOf w e (binary_type op)
  type-Binary op a b is under u h = let g = of-Binary w under e.place.0 (u ∷ []) op a b (formed _ under (u ∷ []) is h) in binary_gives op g.types u g.fits

  pub type-If : (c a b : Expr) (t : Ty) → e.form ≡ form.If c a b → IsTypeOf w a t → IsTypeOf w e t
  type-If c a b t is v under u h = let g = of-If w under e.place.0 (u ∷ []) c a b (formed _ under (u ∷ []) is h) in v false u (second_gives w c a b g.types (u ∷ []) g.gives g.fits)

  pub type-Fby : (a b : Expr) (t : Ty) → e.form ≡ form.Fby a b → IsTypeOf w a t → IsTypeOf w e t
  type-Fby a b t is v under u h = let g = of-Fby w under e.place.0 (u ∷ []) a b (formed _ under (u ∷ []) is h) in v false u (first_gives w false a (b ∷ []) g.types (u ∷ []) g.gives g.fits)

  pub type-Pre : (a : Expr) (t : Ty) → e.form ≡ form.Pre a → IsTypeOf w a t → IsTypeOf w e t
  type-Pre a t is v under u h = let g = of-Pre w under e.place.0 (u ∷ []) a (formed _ under (u ∷ []) is h) in v false u (first_gives w false a [] g.types (u ∷ []) g.gives g.fits)

  pub type-Arrow : (a b : Expr) (t : Ty) → e.form ≡ form.Arrow a b → IsTypeOf w a t → IsTypeOf w e t
  type-Arrow a b t is v under u h = let g = of-Arrow w under e.place.0 (u ∷ []) a b (formed _ under (u ∷ []) is h) in v false u (first_gives w false a (b ∷ []) g.types (u ∷ []) g.gives g.fits)

  pub type-When : (a : Expr) (tag : Tag) (x : Name) (t : Ty) → e.form ≡ form.When a tag x → IsTypeOf w a t → IsTypeOf w e t
  type-When a tag x t is v under u h = let g = of-When w under e.place.0 (u ∷ []) a tag x (formed _ under (u ∷ []) is h) in v false u (first_gives w false a [] g.types (u ∷ []) g.gives g.fits)

  pub type-Merge : (x : Name) (b : MergeBranch) (bs : List MergeBranch) (t : Ty) → e.form ≡ form.Merge x (b ∷ bs) → IsTypeOf w b.value t → IsTypeOf w e t
  type-Merge x b bs t is v under u h = let g = of-Merge w under e.place.0 (u ∷ []) x (b ∷ bs) (formed _ under (u ∷ []) is h) in v false u (branch_gives w b bs g.types (u ∷ []) g.gives g.fits)

  -- a merge of no branches has no type
  pub type-empty : (x : Name) (t : Ty) → e.form ≡ form.Merge x [] → IsTypeOf w e t
  type-empty x t is under u h = let g = of-Merge w under e.place.0 (u ∷ []) x [] (formed _ under (u ∷ []) is h) in no_branch w g.types (u ∷ []) g.gives g.fits

  pub type-Call : (f : Name) (es : List Expr) (t : Ty) → e.form ≡ form.Call f es → IsOutputOf w f t → IsTypeOf w e t
  type-Call f es t is v under u h =
      let (g, named, r) = of-Call w under e.place.0 (u ∷ []) f es (formed _ under (u ∷ []) is h) in
      v g u named (call_gives g r.types (u ∷ []) r.fits)

  pub type-AsyncCall : (q : ℕ) (f : Name) (es : List Expr) (t : Ty) → e.form ≡ form.AsyncCall q f es → IsOutputOf w f t → IsTypeOf w e (future_of t)
  type-AsyncCall q f es t is v under u h =
      let (g, named, r) = of-AsyncCall w under e.place.0 (u ∷ []) q f es (formed _ under (u ∷ []) is h) in
      let (ts, fit, futures) = async-some (call_fit g r.types) (u ∷ []) r.fits in
      let (s, one, future) = future_gives ts u futures in
      ap future_of (v g s named (call_gives g r.types ts fit ∙ one)) ∙ future

  pub type-Get : (a : Expr) (t : Ty) → e.form ≡ form.Get a → IsTypeOf w a t → IsTypeOf w e (plain_of t)
  type-Get a t is v under u h =
      let g = of-Get w under e.place.0 (u ∷ []) a (formed _ under (u ∷ []) is h) in
      let (s, types, plain) = get_gives w a g.types u g.gives g.fits in
      ap plain_of (v true (ty.Future s) types) ∙ plain
