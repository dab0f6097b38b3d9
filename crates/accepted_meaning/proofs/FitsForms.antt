-- What an expression gives where it is present, form by form.
use Rattle.std.proofs.Common.{◌≡◌, ℕ, ◌<◌, ◌-◌, Bool, true, false, ◌||◌, List, [], ◌∷◌, ◌++◌, length, take, Option, Some, None, refl, sym, ap, subst, ◌∙◌, cond, ◌+◌, arith, length-append, append-nil}
use Rattle.std.specs.Prelude.{if◌then◌else◌, ◌==◌, is_some, unwrap_or}
use Rattle.std.proofs.Math.Seq.{take-append-add}
use Rattle.std.specs.List.{find, list_any}
use Rattle.std.proofs.lemmas.Bool.{eqb-true, eq-eqb}
use Rattle.hept_ast.specs.Texts.{Name, tag_value, const_value}
use Rattle.hept_ast.specs.Scopes.{Clock, Scope}
use Rattle.hept_ast.specs.Initial.{Grades, grade}
use Rattle.hept_ast.specs.Types.{Plain_type, Fits as Of_types, alike, unary_fit, binary_fit, if_fit, get_fit, bool, type_of_const}
use Rattle.hept_ast.specs.Meaning.{Gives, Output, Variable, Present, Restarted, Answer, Value, Is, Rule, answer_to, on_value, before, merged, form_rule}
use Rattle.hept_ast.specs.declared.tree.Const.{Const as Constant}
use Rattle.hept_ast.specs.declared.tree.Expr.{Expr}
use Rattle.hept_ast.specs.declared.tree.MergeBranch.{MergeBranch}
use Rattle.hept_ast.specs.declared.tree.Decl.{Decl}
use Rattle.hept_ast.specs.declared.tree.Tag.{Tag}
use Rattle.hept_ast.specs.declared.tree.Ty.{Ty}
use Rattle.hept_ast.specs.declared.tree.Ty.TheVariants as ty
use Rattle.hept_ast.specs.declared.tree.UnaryOp.{UnaryOp}
use Rattle.hept_ast.specs.declared.tree.BinaryOp.{BinaryOp}
use Rattle.hept_ast.specs.declared.tree.ClockStep.{ClockStep}
use Rattle.hept_ast.specs.declared.tree.Form.{Form, out-Form, roll-Form}
use Rattle.hept_ast.specs.declared.tree.Form.TheOpen.{Form-F}
use Rattle.hept_ast.specs.declared.tree.Form.TheViews.{roll-out-Form}
use Rattle.hept_ast.specs.declared.tree.Form.TheVariants as form
use Rattle.hept_ast.proofs.FormsOf.{grade-Const, grade-Var, grade-Last, grade-Unary, grade-Binary, grade-If, grade-Fby, grade-Pre, grade-Arrow, grade-When, grade-Merge, grade-Call, grade-AsyncCall, grade-AsyncConst, grade-Get}
use Rattle.hept_ast.specs.TypedValues.{FitsConst, IsValueOf, value_count}
use Rattle.sound_expressions.specs.Sound.{Within, Sees, Sound, SoundBranches, is_constant, is_async_constant, is_variable, is_last, is_unary, is_binary, is_if, is_fby, is_pre, is_arrow, is_when, is_merge, is_call, is_async_call, is_get, a_branch}
use Rattle.accepted_meaning.specs.Placing.{site_of}
use Rattle.accepted_meaning.specs.Running.{Run, StandsIn, setting_of, types_in, IsKnown}
use Rattle.sound_expressions.proofs.FittedTypes.{alike_one, alike_two, EachIs, alike_each, if_fits, get_fits, unary_typed, binary_typed, UnaryTyped, BinaryTyped}
use Rattle.accepted_meaning.proofs.FitsWords.{unknown, says, asks, previous_ends, as_is}
use Rattle.accepted_meaning.proofs.FitsTruths.{not_both, present_truth, restarted_truth, present_front, present_more, Earlier, earlier_map}
use Rattle.accepted_meaning.proofs.FitsKept.{Texts, Okay, gone, missing, given, Holds, Ended, keeping, is_given, okay_given, okay_map, okay_as, go_on_ends}

-- ---- grades by the view of a form

abbrev pub grade_view : Grades → Form-F Form Expr MergeBranch → Bool
grade_view g (Form-F.Const k) = false
grade_view g (Form-F.Var x) = g x
grade_view g (Form-F.Last x) = false
grade_view g (Form-F.Unary op a) = grade g a.form
grade_view g (Form-F.Binary op a b) = grade g a.form || grade g b.form
grade_view g (Form-F.If c a b) = grade g c.form || grade g a.form || grade g b.form
grade_view g (Form-F.Fby a b) = grade g a.form
grade_view g (Form-F.Pre a) = true
grade_view g (Form-F.Arrow a b) = grade g a.form
grade_view g (Form-F.When a tag x) = grade g a.form
grade_view g (Form-F.Merge x bs) = list_any (λ b. grade g b.value.form) bs
grade_view g (Form-F.Call f args) = false
grade_view g (Form-F.AsyncCall q f args) = false
grade_view g (Form-F.AsyncConst k) = false
grade_view g (Form-F.Get a) = grade g a.form

rolled : (g : Grades) (v : Form-F Form Expr MergeBranch) → grade g (roll-Form v) ≡ grade_view g v
rolled g (Form-F.Const k) = ap (grade g) (form.rolls-Const k) ∙ grade-Const g k
rolled g (Form-F.Var x) = ap (grade g) (form.rolls-Var x) ∙ grade-Var g x
rolled g (Form-F.Last x) = ap (grade g) (form.rolls-Last x) ∙ grade-Last g x
rolled g (Form-F.Unary op a) = ap (grade g) (form.rolls-Unary op a) ∙ grade-Unary g op a
rolled g (Form-F.Binary op a b) = ap (grade g) (form.rolls-Binary op a b) ∙ grade-Binary g op a b
rolled g (Form-F.If c a b) = ap (grade g) (form.rolls-If c a b) ∙ grade-If g c a b
rolled g (Form-F.Fby a b) = ap (grade g) (form.rolls-Fby a b) ∙ grade-Fby g a b
rolled g (Form-F.Pre a) = ap (grade g) (form.rolls-Pre a) ∙ grade-Pre g a
rolled g (Form-F.Arrow a b) = ap (grade g) (form.rolls-Arrow a b) ∙ grade-Arrow g a b
rolled g (Form-F.When a tag x) = ap (grade g) (form.rolls-When a tag x) ∙ grade-When g a tag x
rolled g (Form-F.Merge x bs) = ap (grade g) (form.rolls-Merge x bs) ∙ grade-Merge g x bs
rolled g (Form-F.Call f args) = ap (grade g) (form.rolls-Call f args) ∙ grade-Call g f args
rolled g (Form-F.AsyncCall q f args) = ap (grade g) (form.rolls-AsyncCall q f args) ∙ grade-AsyncCall g q f args
rolled g (Form-F.AsyncConst k) = ap (grade g) (form.rolls-AsyncConst k) ∙ grade-AsyncConst g k
rolled g (Form-F.Get a) = ap (grade g) (form.rolls-Get a) ∙ grade-Get g a

pub grade_is : (g : Grades) (f : Form) (v : Form-F Form Expr MergeBranch) → out-Form f ≡ v → grade g f ≡ grade_view g v
grade_is g f v e = ap (grade g) (sym (roll-out-Form f)) ∙ rolled g (out-Form f) ∙ ap (grade_view g) e

-- ---- where an expression stands, at an instant at which its clock is present

pub record Point (r : Run) : Type 0 where
  pub within : Within
  pub scope : Scope
  pub clock : Clock
  pub time : ℕ
  pub stands : StandsIn r within scope
  pub here : IsKnown r (Present clock scope time) (Is true)

-- an expression there
abbrev pub Stands : {r : Run} → Point r → Expr → Ty → Type 0
Stands p e ty = Sound p.within (site_of p.scope) e p.clock (ty ∷ [])

-- what an expression of a grade and type gives there
abbrev pub Gives_okay : {r : Run} → Point r → Bool → Ty → Answer → Type 0
Gives_okay {r} p g ty a = Okay r g ty p.clock p.scope p.time a

as_type : (r : Run) (p : Point r) (e : Expr) (us : List Ty) (ty : Ty) → us ≡ ty ∷ [] → Sound p.within (site_of p.scope) e p.clock us → Stands p e ty
as_type r p e us ty h sound = subst (λ (x : List Ty). Sound p.within (site_of p.scope) e p.clock x) h sound

head_is : (a b : Ty) → a ∷ [] ≡ b ∷ [] → a ≡ b
head_is a b e = cc

same_value : (r : Run) (a b : Ty) (v : ℕ) → a ≡ b → IsValueOf (types_in r) a v → IsValueOf (types_in r) b v
same_value r a b v e h = subst (λ (x : Ty). IsValueOf (types_in r) x v) e h

-- an operand of the same clock
on_operand : (r : Run) (p : Point r) (g : Bool) (ty u : Ty) (a : Expr) (go : ℕ → Rule) → Stands p a u → (grade p.within.grade a.form ≡ true → g ≡ true) →
    ((v : ℕ) → IsValueOf (types_in r) u v → Ended r (Gives_okay p g ty) (go v)) → Ended r (Gives_okay p g ty) (on_value (Gives a p.clock p.scope p.time) go)
on_operand r p g ty u a go sound more h = asks (λ x k. go_on_ends r (Gives_okay p g ty) (grade p.within.grade a.form) u p.clock p.scope p.time x go
    (k.fits p.within u p.stands sound) (λ off. gone off) (λ e n. missing (more e) n) (λ v is f. h v f))

-- the value of an operand, as it is
pass_operand : (r : Run) (p : Point r) (g : Bool) (ty u : Ty) (a : Expr) → Stands p a u → (grade p.within.grade a.form ≡ true → g ≡ true) → ((v : ℕ) → IsValueOf (types_in r) u v → IsValueOf (types_in r) ty v) →
    Ended r (Gives_okay p g ty) (answer_to (Gives a p.clock p.scope p.time))
pass_operand r p g ty u a sound more fits = asks (λ x k. says (okay_as r (grade p.within.grade a.form) g u ty p.clock p.scope p.time x more fits (k.fits p.within u p.stands sound)))

or_left : (a b : Bool) → a ≡ true → (a || b) ≡ true
or_left true b e = refl
or_left false b e = cc

or_right : (a b : Bool) → b ≡ true → (a || b) ≡ true
or_right true b e = refl
or_right false b e = e

unary_ends : (r : Run) (p : Point r) (e a : Expr) (op : UnaryOp) (us : List Ty) (ty : Ty) → Sound p.within (site_of p.scope) a p.clock us → unary_fit op (us ∷ []) ≡ Of_types (ty ∷ []) →
    Ended r (Gives_okay p (grade_view p.within.grade (Form-F.Unary op a)) ty) (form_rule (setting_of r) (Form-F.Unary op a) e p.clock p.scope p.time)
unary_ends r p e a op us ty sound fit =
    let o : UnaryTyped (types_in r) op us (ty ∷ []) = unary_typed (types_in r) op us (ty ∷ []) fit in
    on_operand r p _ ty o.operand a _ (as_type r p a us o.operand o.operands sound) (λ g. g)
    (λ v h. says (given (same_value r o.result ty _ (sym (head_is ty o.result o.results)) (o.value v h))))

binary_ends : (r : Run) (p : Point r) (e a b : Expr) (op : BinaryOp) (us vs : List Ty) (ty : Ty) → Sound p.within (site_of p.scope) a p.clock us → Sound p.within (site_of p.scope) b p.clock vs →
    binary_fit op (us ∷ vs ∷ []) ≡ Of_types (ty ∷ []) →
    Ended r (Gives_okay p (grade_view p.within.grade (Form-F.Binary op a b)) ty) (form_rule (setting_of r) (Form-F.Binary op a b) e p.clock p.scope p.time)
binary_ends r p e a b op us vs ty first second fit =
    let o : BinaryTyped (types_in r) op us vs (ty ∷ []) = binary_typed (types_in r) op us vs (ty ∷ []) fit in
    on_operand r p _ ty o.left a _ (as_type r p a us o.left o.lefts first) (or_left (grade p.within.grade a.form) (grade p.within.grade b.form))
    (λ u h. on_operand r p _ ty o.right b _ (as_type r p b vs o.right o.rights second) (or_right (grade p.within.grade a.form) (grade p.within.grade b.form))
    (λ v k. says (given (same_value r o.result ty _ (sym (head_is ty o.result o.results)) (o.value u v h k)))))

if_small : (n : ℕ) (b : Bool) (u v : ℕ) → u < n → v < n → (if b then u else v) < n
if_small n true u v h k = h
if_small n false u v h k = k

if_ends' : (r : Run) (p : Point r) (e i a b : Expr) (is us vs : List Ty) (ty : Ty) → Sound p.within (site_of p.scope) i p.clock is → Sound p.within (site_of p.scope) a p.clock us → Sound p.within (site_of p.scope) b p.clock vs →
    if_fit (is ∷ us ∷ vs ∷ []) ≡ Of_types (ty ∷ []) →
    Ended r (Gives_okay p (grade_view p.within.grade (Form-F.If i a b)) ty) (form_rule (setting_of r) (Form-F.If i a b) e p.clock p.scope p.time)
if_ends' r p e i a b is us vs ty test first second fit =
    let o : (is ≡ bool) × (us ≡ ty ∷ []) × (vs ≡ ty ∷ []) = if_fits is us vs (ty ∷ []) fit in
    let gi = grade p.within.grade i.form in
    let ga = grade p.within.grade a.form in
    let gb = grade p.within.grade b.form in
    on_operand r p _ ty _ i _ (as_type r p i is _ o.0 test) (λ g. or_left (gi || ga) gb (or_left gi ga g))
    (λ k h. on_operand r p _ ty ty a _ (as_type r p a us ty o.1 first) (λ g. or_left (gi || ga) gb (or_right gi ga g))
    (λ u m. on_operand r p _ ty ty b _ (as_type r p b vs ty o.2 second) (λ g. or_right (gi || ga) gb g)
    (λ v n. says (given (if_small (value_count (types_in r) ty) (k == 1) u v m n)))))

-- ---- the previous instant

before_ends : (r : Run) (p : Point r) (P : Answer → Type 0) (go : ℕ → Rule) (none : Rule) →
    ((e : Earlier r p.clock p.scope p.time) → Ended r P (go e.instant)) → ((Earlier r p.clock p.scope p.time → ⊥) → Ended r P none) →
    Ended r P (before (setting_of r) p.clock p.scope p.time go none)
before_ends r p P go none h k = previous_ends r (Holds r) P (keeping r) (λ q. Present p.clock p.scope q) (λ q. Restarted p.scope q) go none
    (λ q a i. present_truth r p.clock p.scope q a i) (λ q a i. restarted_truth r p.scope q a i) p.time h k

-- an operand of grade 0 at an earlier instant
earlier_operand : (r : Run) (p : Point r) (g : Bool) (ty : Ty) (a : Expr) → Stands p a ty → grade p.within.grade a.form ≡ false → (e : Earlier r p.clock p.scope p.time) →
    Ended r (Gives_okay p g ty) (answer_to (Gives a p.clock p.scope e.instant))
earlier_operand r p g ty a sound defined e = asks (λ x k. says (okay_given r g ty p.clock p.scope p.time x
    (is_given r (grade p.within.grade a.form) ty p.clock p.scope e.instant x (k.fits p.within ty p.stands sound) defined e.there)))

fby_ends : (r : Run) (p : Point r) (e a b : Expr) (us vs : List Ty) (ty : Ty) → Sound p.within (site_of p.scope) a p.clock us → Sound p.within (site_of p.scope) b p.clock vs →
    alike (us ∷ vs ∷ []) ≡ Of_types (ty ∷ []) → grade p.within.grade b.form ≡ false →
    Ended r (Gives_okay p (grade_view p.within.grade (Form-F.Fby a b)) ty) (form_rule (setting_of r) (Form-F.Fby a b) e p.clock p.scope p.time)
fby_ends r p e a b us vs ty first second fit defined =
    let o : (us ≡ ty ∷ []) × (vs ≡ ty ∷ []) = alike_two us vs (ty ∷ []) fit in
    before_ends r p _ _ _ (λ i. earlier_operand r p _ ty b (as_type r p b vs ty o.1 second) defined i)
    (λ n. pass_operand r p _ ty ty a (as_type r p a us ty o.0 first) (λ g. g) (λ v h. h))

pre_ends : (r : Run) (p : Point r) (e a : Expr) (us : List Ty) (ty : Ty) → Sound p.within (site_of p.scope) a p.clock us → alike (us ∷ []) ≡ Of_types (ty ∷ []) → grade p.within.grade a.form ≡ false →
    Ended r (Gives_okay p (grade_view p.within.grade (Form-F.Pre a)) ty) (form_rule (setting_of r) (Form-F.Pre a) e p.clock p.scope p.time)
pre_ends r p e a us ty sound fit defined =
    before_ends r p _ _ _ (λ i. earlier_operand r p _ ty a (as_type r p a us ty (alike_one us (ty ∷ []) fit) sound) defined i) (λ n. says (missing refl n))

-- where the clock has an earlier instant nothing is undefined
arrow_right : (r : Run) (p : Point r) (g g' : Bool) (ty : Ty) (a : Answer) → Earlier r p.clock p.scope p.time → Okay r g ty p.clock p.scope p.time a → Okay r g' ty p.clock p.scope p.time a
arrow_right r p g g' ty a e (gone h) = gone h
arrow_right r p g g' ty a e (missing i n) = absurd (n e)
arrow_right r p g g' ty a e (given f) = given f

arrow_ends : (r : Run) (p : Point r) (e a b : Expr) (us vs : List Ty) (ty : Ty) → Sound p.within (site_of p.scope) a p.clock us → Sound p.within (site_of p.scope) b p.clock vs →
    alike (us ∷ vs ∷ []) ≡ Of_types (ty ∷ []) →
    Ended r (Gives_okay p (grade_view p.within.grade (Form-F.Arrow a b)) ty) (form_rule (setting_of r) (Form-F.Arrow a b) e p.clock p.scope p.time)
arrow_ends r p e a b us vs ty first second fit =
    let o : (us ≡ ty ∷ []) × (vs ≡ ty ∷ []) = alike_two us vs (ty ∷ []) fit in
    before_ends r p _ _ _
    (λ i. asks (λ x k. says (arrow_right r p (grade p.within.grade b.form) _ ty x i (k.fits p.within ty p.stands (as_type r p b vs ty o.1 second)))))
    (λ n. pass_operand r p _ ty ty a (as_type r p a us ty o.0 first) (λ g. g) (λ v h. h))

-- ---- variables and constants

var_ends : (r : Run) (p : Point r) (e : Expr) (x : Name) (d : Decl) → Sees p.within (site_of p.scope) x d p.clock →
    Ended r (Gives_okay p (grade_view p.within.grade (Form-F.Var x)) d.ty) (form_rule (setting_of r) (Form-F.Var x) e p.clock p.scope p.time)
var_ends r p e x d sees = asks (λ a k. says (k.fits p.within d p.clock p.stands sees))

last_ends : (r : Run) (p : Point r) (e : Expr) (x : Name) (d : Decl) → Sees p.within (site_of p.scope) x d p.clock → is_some d.init ≡ true →
    Ended r (Gives_okay p (grade_view p.within.grade (Form-F.Last x)) d.ty) (form_rule (setting_of r) (Form-F.Last x) e p.clock p.scope p.time)
last_ends r p e x d sees init = asks (λ a k. says (okay_given r false d.ty p.clock p.scope p.time a (k.fits p.within d p.clock p.stands sees init)))

const_ends : (r : Run) → Texts r → (p : Point r) (v : Constant) (t : Plain_type) → type_of_const p.within.types v ≡ Some t → FitsConst v →
    IsValueOf (types_in r) (ty.Plain t) (const_value (types_in r) v)
const_ends r texts p v t e fits = texts.constant v t fits (ap (λ (k : Within). type_of_const k.types v) (sym p.stands.of_node.is) ∙ e)

get_ends : (r : Run) (p : Point r) (e a : Expr) (us : List Ty) (to : Ty) → Sound p.within (site_of p.scope) a p.clock us → get_fit (us ∷ []) ≡ Of_types (to ∷ []) →
    Ended r (Gives_okay p (grade_view p.within.grade (Form-F.Get a)) to) (form_rule (setting_of r) (Form-F.Get a) e p.clock p.scope p.time)
get_ends r p e a us to sound fit =
    let o : (t : Plain_type) × (us ≡ ty.Future t ∷ []) × (to ∷ [] ≡ ty.Plain t ∷ []) = get_fits us (to ∷ []) fit in
    pass_operand r p _ to (ty.Future o.0) a (as_type r p a us (ty.Future o.0) o.1 sound) (λ g. g) (λ v h. same_value r (ty.Plain o.0) to v (sym (head_is to (ty.Plain o.0) o.2)) h)

-- ---- clocks with one more step

pub take_front : {A : Type 0} (xs : List A) (x : A) → take (length (xs ++ x ∷ []) - 1) (xs ++ x ∷ []) ≡ xs
take_front xs x = let e : length (xs ++ x ∷ []) - 1 ≡ length xs + 0 = simp length-append (omega arith) in
    ap (λ n. take n (xs ++ x ∷ [])) e ∙ take-append-add xs (x ∷ []) 0 ∙ append-nil xs

when_ends : (r : Run) (p : Point r) (e a : Expr) (tag : Tag) (x : Name) (c : Clock) (us : List Ty) (ty : Ty) → p.clock ≡ c ++ record { tag = tag; name = x } ∷ [] →
    Sound p.within (site_of p.scope) a c us → alike (us ∷ []) ≡ Of_types (ty ∷ []) →
    Ended r (Gives_okay p (grade_view p.within.grade (Form-F.When a tag x)) ty) (form_rule (setting_of r) (Form-F.When a tag x) e p.clock p.scope p.time)
when_ends r p e a tag x c us ty is sound fit =
    let step : ClockStep = record { tag = tag; name = x } in
    let front : c ≡ take (length p.clock - 1) p.clock = sym (ap (λ (d : Clock). take (length d - 1) d) is ∙ take_front c step) in
    let inner : Sound p.within (site_of p.scope) a c (ty ∷ []) = subst (λ (ts : List Ty). Sound p.within (site_of p.scope) a c ts) (alike_one us (ty ∷ []) fit) sound in
    let was : (t : ℕ) → IsKnown r (Present p.clock p.scope t) (Is true) → IsKnown r (Present c p.scope t) (Is true) =
    λ t h. present_front r c step p.scope t (subst (λ (d : Clock). IsKnown r (Present d p.scope t) (Is true)) is h) in
    subst (λ (d : Clock). Ended r (Gives_okay p (grade_view p.within.grade (Form-F.When a tag x)) ty) (answer_to (Gives a d p.scope p.time))) front
    (asks (λ y k. says (okay_map r (grade p.within.grade a.form) _ ty ty c p.clock p.scope p.scope p.time p.time y
    (λ off. absurd (not_both r (Present c p.scope p.time) (was p.time p.here) off)) (λ g. g)
    (λ n. earlier_map r p.clock c p.scope p.scope p.time was (λ q h. h) n) (λ v h. h) (k.fits p.within ty p.stands inner))))

-- the branch that a search finds
record Found (r : Run) (p : Point r) (x : Name) (ts : List Ty) (b : MergeBranch) (test : Bool) : Type 0 where
  sound : Sound p.within (site_of p.scope) b.value (p.clock ++ record { tag = b.tag; name = x } ∷ []) ts
  defined : grade p.within.grade b.value.form ≡ false
  passes : test ≡ true

pub some_is : {A : Type 0} (a b : A) → Some a ≡ Some b → a ≡ b
some_is a b e = ap (λ o. unwrap_or o a) e

found_branch : (r : Run) (p : Point r) (x : Name) (t : Ty) (test : MergeBranch → Bool) (ts : List Ty) (bs : List MergeBranch) (tss : List (List Ty)) (b : MergeBranch) →
    SoundBranches p.within (site_of p.scope) x t p.clock bs tss → EachIs ts tss → find test bs ≡ Some b → Found r p x ts b (test b)
found_branch r p x t test ts [] tss b h each e = cc
found_branch r p x t test ts (c ∷ cs) [] b h each e = elim h [ ]
found_branch r p x t test ts (c ∷ cs) (us ∷ tss) b (a_branch tag sound defined rest) each e = go (test c) refl e (λ h. found_branch r p x t test ts cs tss b rest each.1 h)
  where
    first : test c ≡ true → Found r p x ts c (test c)
    first f = record { sound = subst (λ (y : List Ty). Sound p.within (site_of p.scope) c.value (p.clock ++ record { tag = c.tag; name = x } ∷ []) y) each.0 sound; defined = defined; passes = f }

    go : (y : Bool) → test c ≡ y → cond y (Some c) (find test cs) ≡ Some b → (find test cs ≡ Some b → Found r p x ts b (test b)) → Found r p x ts b (test b)
    go true f h later = subst (λ (z : MergeBranch). Found r p x ts z (test z)) (some_is c b h) (first f)
    go false f h later = later h

equal_back : (u v : ℕ) → (u == v) ≡ true → (v == u) ≡ true
equal_back u v e = eq-eqb v u (sym (eqb-true u v e))

merged_ends : (r : Run) (p : Point r) (g : Bool) (ty : Ty) (x : Name) (v : ℕ) (o : Option MergeBranch) → IsKnown r (Variable x p.scope p.time) (Value v) →
    ((b : MergeBranch) → o ≡ Some b → Found r p x (ty ∷ []) b (tag_value (types_in r) b.tag == v)) →
    Ended r (Gives_okay p g ty) (merged (setting_of r) o x p.clock p.scope p.time)
merged_ends r p g ty x v None here found = unknown
merged_ends r p g ty x v (Some b) here found =
    let f : Found r p x (ty ∷ []) b (tag_value (types_in r) b.tag == v) = found b refl in
    let step : ClockStep = record { tag = b.tag; name = x } in
    let present : IsKnown r (Present (p.clock ++ step ∷ []) p.scope p.time) (Is true) =
    present_more r p.clock step p.scope p.time (Value v) here (equal_back (tag_value (types_in r) b.tag) v f.passes) p.here in
    asks (λ a k. says (okay_given r g ty p.clock p.scope p.time a
    (is_given r (grade p.within.grade b.value.form) ty (p.clock ++ step ∷ []) p.scope p.time a (k.fits p.within ty p.stands f.sound) f.defined present)))

merge_ends : (r : Run) (p : Point r) (e : Expr) (x : Name) (d : Decl) (bs : List MergeBranch) (tss : List (List Ty)) (ty : Ty) → Sees p.within (site_of p.scope) x d p.clock → p.within.grade x ≡ false →
    SoundBranches p.within (site_of p.scope) x d.ty p.clock bs tss → alike tss ≡ Of_types (ty ∷ []) →
    Ended r (Gives_okay p (grade_view p.within.grade (Form-F.Merge x bs)) ty) (form_rule (setting_of r) (Form-F.Merge x bs) e p.clock p.scope p.time)
merge_ends r p e x d bs tss ty sees defined branches fit =
    let g : Bool = grade_view p.within.grade (Form-F.Merge x bs) in
    asks (λ a k. go_on_ends r (Gives_okay p g ty) (p.within.grade x) d.ty p.clock p.scope p.time a _ (k.fits p.within d p.clock p.stands sees)
    (λ off. gone off) (λ i n. absurd (let f : true ≡ false = sym i ∙ defined in cc))
    (λ v is f. merged_ends r p g ty x v _ (as_is r (Variable x p.scope p.time) a (Value v) is k.known)
    (λ b h. found_branch r p x d.ty (λ m. tag_value (types_in r) m.tag == v) (ty ∷ []) bs tss b branches (alike_each tss (ty ∷ []) fit) h)))

-- ---- calls: the first output

first_output : (r : Run) (p : Point r) (g : Bool) (e : Expr) (ty : Ty) → Stands p e ty → g ≡ false → Ended r (Gives_okay p g ty) (answer_to (Output e 0 p.clock p.scope p.time))
first_output r p g e ty sound is = asks (λ a k. says (okay_as r false g ty ty p.clock p.scope p.time a (λ i. let f : false ≡ true = i in cc) (λ v h. h) (k.fits p.within (ty ∷ []) ty p.stands sound refl)))

-- ---- all forms

by_form : (r : Run) (k : Within) (s : Scope) (e : Expr) (c : Clock) (t : ℕ) (ty : Ty) (v : Form-F Form Expr MergeBranch) → out-Form e.form ≡ v →
    Ended r (Okay r (grade_view k.grade v) ty c s t) (form_rule (setting_of r) v e c s t) → Ended r (Okay r (grade k.grade e.form) ty c s t) (form_rule (setting_of r) (out-Form e.form) e c s t)
by_form r k s e c t ty v is h =
    subst (λ (g : Bool). Ended r (Okay r g ty c s t) (form_rule (setting_of r) (out-Form e.form) e c s t)) (sym (grade_is k.grade e.form v is))
    (subst (λ (f : Form-F Form Expr MergeBranch). Ended r (Okay r (grade_view k.grade v) ty c s t) (form_rule (setting_of r) f e c s t)) (sym is) h)

-- what an expression gives where it is present
pub form_ends : (r : Run) → Texts r → (k : Within) (s : Scope) (e : Expr) (c : Clock) (t : ℕ) (u : Ty) → StandsIn r k s → Sound k (site_of s) e c (u ∷ []) → IsKnown r (Present c s t) (Is true) →
    Ended r (Okay r (grade k.grade e.form) u c s t) (form_rule (setting_of r) (out-Form e.form) e c s t)
form_ends r texts k s e c t u stands (is_constant {v = v} {t = plain} is known fits) here =
    by_form r k s e c t u (Form-F.Const v) is (says (given (const_ends r texts (record { within = k; scope = s; clock = c; time = t; stands = stands; here = here }) v plain known fits)))
form_ends r texts k s e c t u stands (is_async_constant {v = v} {t = plain} is known fits) here =
    by_form r k s e c t u (Form-F.AsyncConst v) is (says (given (const_ends r texts (record { within = k; scope = s; clock = c; time = t; stands = stands; here = here }) v plain known fits)))
form_ends r texts k s e c t u stands (is_variable {x = x} {d = d} is sees) here =
    by_form r k s e c t u (Form-F.Var x) is (var_ends r (record { within = k; scope = s; clock = c; time = t; stands = stands; here = here }) e x d sees)
form_ends r texts k s e c t u stands (is_last {x = x} {d = d} is sees init) here =
    by_form r k s e c t u (Form-F.Last x) is (last_ends r (record { within = k; scope = s; clock = c; time = t; stands = stands; here = here }) e x d sees init)
form_ends r texts k s e c t u stands (is_unary {a = a} {op = op} {us = us} is sound fit) here =
    by_form r k s e c t u (Form-F.Unary op a) is (unary_ends r (record { within = k; scope = s; clock = c; time = t; stands = stands; here = here }) e a op us u sound fit)
form_ends r texts k s e c t u stands (is_binary {a = a} {b = b} {op = op} {us = us} {vs = vs} is first second fit nonzero) here =
    by_form r k s e c t u (Form-F.Binary op a b) is (binary_ends r (record { within = k; scope = s; clock = c; time = t; stands = stands; here = here }) e a b op us vs u first second fit)
form_ends r texts k s e c t u stands (is_if {i = i} {a = a} {b = b} {is = bs} {us = us} {vs = vs} is test first second fit) here =
    by_form r k s e c t u (Form-F.If i a b) is (if_ends' r (record { within = k; scope = s; clock = c; time = t; stands = stands; here = here }) e i a b bs us vs u test first second fit)
form_ends r texts k s e c t u stands (is_fby {a = a} {b = b} {us = us} {vs = vs} is first second fit defined) here =
    by_form r k s e c t u (Form-F.Fby a b) is (fby_ends r (record { within = k; scope = s; clock = c; time = t; stands = stands; here = here }) e a b us vs u first second fit defined)
form_ends r texts k s e c t u stands (is_pre {a = a} {us = us} is sound fit defined) here =
    by_form r k s e c t u (Form-F.Pre a) is (pre_ends r (record { within = k; scope = s; clock = c; time = t; stands = stands; here = here }) e a us u sound fit defined)
form_ends r texts k s e c t u stands (is_arrow {a = a} {b = b} {us = us} {vs = vs} is first second fit) here =
    by_form r k s e c t u (Form-F.Arrow a b) is (arrow_ends r (record { within = k; scope = s; clock = c; time = t; stands = stands; here = here }) e a b us vs u first second fit)
form_ends r texts k s e c t u stands (is_when {a = a} {c = front} {tag = tag} {x = x} {us = us} is sees sound tagged has fit defined) here =
    by_form r k s e c t u (Form-F.When a tag x) is
    (when_ends r (record { within = k; scope = s; clock = c; time = t; stands = stands; here = here }) e a tag x front us u refl sound fit)
form_ends r texts k s e c t u stands (is_merge {x = x} {d = d} {bs = bs} {tss = tss} is sees tagged defined branches all fit) here =
    by_form r k s e c t u (Form-F.Merge x bs) is (merge_ends r (record { within = k; scope = s; clock = c; time = t; stands = stands; here = here }) e x d bs tss u sees defined branches fit)
form_ends r texts k s e c t u stands (is_call {f = f} {args = args} is named arguments fit leads calls) here =
    by_form r k s e c t u (Form-F.Call f args) is
    (first_output r (record { within = k; scope = s; clock = c; time = t; stands = stands; here = here }) false e u (is_call is named arguments fit leads calls) refl)
form_ends r texts k s e c t u stands (is_async_call {q = q} {f = f} {args = args} is named arguments fit leads calls) here =
    by_form r k s e c t u (Form-F.AsyncCall q f args) is
    (first_output r (record { within = k; scope = s; clock = c; time = t; stands = stands; here = here }) false e u (is_async_call is named arguments fit leads calls) refl)
form_ends r texts k s e c t u stands (is_get {a = a} {us = us} is sound fit) here =
    by_form r k s e c t u (Form-F.Get a) is (get_ends r (record { within = k; scope = s; clock = c; time = t; stands = stands; here = here }) e a us u sound fit)
