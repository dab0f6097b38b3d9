-- What a stepper needs, from what holds in a body.
use Rattle.std.proofs.Common.{◌≡◌, ◌⊎◌, inl, inr, ℕ, zero, suc, ◌<◌, ◌+◌, Bool, true, false, List, [], ◌∷◌, ◌++◌, map, length, Some, refl, sym, subst, arith, ◌∙◌}
use Rattle.std.specs.Prelude.{Contains, ◌==◌, slice_index_or}
use Rattle.std.specs.List.{find}
use Rattle.std.proofs.lemmas.Bool.{false≢true}
use Rattle.hept_ast.specs.Texts.{Name, names, tag_value}
use Rattle.hept_ast.specs.Scopes.{Clock, Scope, Top, Under, Lowered}
use Rattle.hept_ast.specs.Parts.{declaration}
use Rattle.hept_ast.specs.Meaning.{Variable, Present, Active, Answer, Absent, Value, Is}
use Rattle.hept_ast.specs.Outputs.{HaveValues, OutputsFrom, said}
use Rattle.hept_ast.proofs.Depths.{one_answer}
use Rattle.hept_ast.specs.declared.tree.ClockStep.{ClockStep}
use Rattle.hept_ast.specs.declared.tree.Decl.{Decl}
use Rattle.hept_ast.specs.declared.tree.Expr.{Expr}
use Rattle.hept_ast.specs.declared.tree.MergeBranch.{MergeBranch}
use Rattle.hept_ast.specs.declared.tree.Ty.{Ty}
use Rattle.hept_ast.specs.declared.tree.Form.{Form, out-Form}
use Rattle.hept_ast.specs.declared.tree.Form.TheOpen.{Form-F}
use Rattle.hept_ast.specs.TypedValues.{IsValueOf, RowFits, RowsFit}
use Rattle.core_rules.specs.Cores.{core_clock, core_decls}
use Rattle.core_fitting.specs.Sound.{IsCall, IsNamed, IsProper, Reads, Sound, SoundNode, Within, async, base, is_arrow, is_async_constant, is_binary, is_call, is_constant, is_fby, is_get, is_if, is_merge, is_pre, is_result, is_unary, is_variable, is_when, one_more, sync}
use Rattle.core_fitting.specs.Holding.{Run, Here, Holds, IsKnown, Okay, VariableFits, active, gone, missing, given, no_step, chosen_body, setting_of, types_in}
use Rattle.core_fitting.specs.Laws.{CallsHaveArguments, ClocksAreFirm, DefinedIsFirm, HaveArguments, IsFirm, IsFitRun, MergesAreCovered, OutputsFit, ResetsAreFirm}
use Rattle.core_fitting.proofs.Presence.{known_by, one_truth, present, present_under}
use Rattle.core_fitting.proofs.Fitting.{HasValue, TypesFit, fits_at, has_value, types_fit}
use Rattle.core_fitting.proofs.NamesRead.{not_among}
use Rattle.core_fitting.proofs.Calls.{Inputs}
use Rattle.core_fitting.proofs.Law.{arguments_at, body_of, here_in, holds_everywhere}

value_is : (v w : ℕ) → Value v ≡ Value w → v ≡ w
value_is v w e = cc

-- a variable of grade 0, where all holds
pub firm : (r : Run) (k : Within) (s : Scope) (t : ℕ) → Holds r k s t → (x : Name) (d : Decl) → declaration (core_decls k.node) x ≡ Some d → k.grade x ≡ [] → IsFirm r k s t x
firm r k s t h x d declared defined a known now = go v.present refl
  where
    sees : Reads k x d (core_clock k.node x)
    sees = record { declared = declared; clock = refl }

    v : VariableFits r k s t x d
    v = h.variables x d (core_clock k.node x) sees

    go : (b : Bool) → v.present ≡ b → (w : ℕ) × (e : Decl) × (a ≡ Value w) × (declaration (core_decls k.node) x ≡ Some e) × IsValueOf (types_in r) e.ty w
    go true is =
        let f = has_value r (Variable x s t) s t (core_clock k.node x) d.ty (k.grade x) defined (fits_at r k s t x d (core_clock k.node x) v sees true (subst (λ (b : Bool). Here r s t (core_clock k.node x) b) is v.here)) in
        (f.value, d, one_answer (setting_of r) r.rows (Variable x s t) a (Value f.value) known f.known, declared, f.fits)
    go false is = absurd (false≢true (one_truth r (Present (core_clock k.node x) s t) false true (present r s t (core_clock k.node x) false (subst (λ (b : Bool). Here r s t (core_clock k.node x) b) is v.here)) now))

-- the variable of a step of a proper clock
data StepOf (k : Within) (p : ClockStep) : Type 0 where
  step_of : {d : Decl} {c : Clock} → Reads k p.name d c → k.grade p.name ≡ [] → StepOf k p

none_contained : {A P : Type 0} (x : A) → Contains [] x → P
none_contained x h = let l = h.1 in absurd (omega arith)

last_or_front : (c : Clock) (p q : ClockStep) → Contains (c ++ p ∷ []) q → (p ≡ q) ⊎ Contains c q
last_or_front [] p q h = only_one h.0 h.1 h.2
  where
    only_one : (j : ℕ) → j < length (p ∷ []) → slice_index_or (p ∷ []) j q ≡ q → (p ≡ q) ⊎ Contains [] q
    only_one zero l e = inl e
    only_one (suc j) l e = absurd (omega arith)
last_or_front (x ∷ c) p q h = first_one h.0 h.1 h.2 (last_or_front c p q)
  where
    more : (p ≡ q) ⊎ Contains c q → (p ≡ q) ⊎ Contains (x ∷ c) q
    more (inl e) = inl e
    more (inr i) = let l = i.1 in inr (suc i.0, omega arith, i.2)

    first_one : (j : ℕ) → j < length (x ∷ c ++ p ∷ []) → slice_index_or (x ∷ c ++ p ∷ []) j q ≡ q → (Contains (c ++ p ∷ []) q → (p ≡ q) ⊎ Contains c q) → (p ≡ q) ⊎ Contains (x ∷ c) q
    first_one zero l e later = inr (0, omega arith, e)
    first_one (suc j) l e later = more (later (j, omega arith, e))

proper_step : (k : Within) (c : Clock) → IsProper k c → (p : ClockStep) → Contains c p → StepOf k p
proper_step k _ base p i = none_contained p i
proper_step k _ (one_more {c = c} q proper sees defined) p i = pick (last_or_front c q p i) (proper_step k c proper p)
  where
    pick : (q ≡ p) ⊎ Contains c p → (Contains c p → StepOf k p) → StepOf k p
    pick (inl e) later = subst (λ (z : ClockStep). StepOf k z) e (step_of sees defined)
    pick (inr j) later = later j

pub clocks_are_firm : ClocksAreFirm
clocks_are_firm r chosen run k s body t l e p i j = go (proper_step k e.clock.steps (node.equations e i).clock p j)
  where
    node : SoundNode r.core k
    node = (body_of r chosen run k s body).node

    go : StepOf k p → IsFirm r k s t p.name
    go (step_of {d = d} sees defined) = firm r k s t (holds_everywhere r chosen run k s body t l) p.name d sees.declared defined

pub resets_are_firm : ResetsAreFirm
resets_are_firm r chosen run k s body t l e x i j =
    let d = ((body_of r chosen run k s body).node.equations e i).resets x j in
    firm r k s t (holds_everywhere r chosen run k s body t l) x d.0 d.1 d.3

-- ---- merges

abbrev Covered : Run → Within → Scope → ℕ → Name → List MergeBranch → Type 0
Covered r k s t x bs = IsFirm r k s t x × ((v : ℕ) → IsKnown r (Variable x s t) (Value v) → (b : MergeBranch) × (find (λ m. tag_value (types_in r) m.tag == v) bs ≡ Some b))

not_absent : (u : ℕ) → Value u ≡ Absent → ⊥
not_absent u e = cc

-- two views of one form
no_view : {P : Type 0} (e : Expr) (u v : Form-F Form Expr MergeBranch) → out-Form e.form ≡ u → out-Form e.form ≡ v → (u ≡ v → ⊥) → P
no_view e u v h g other = absurd (other (sym h ∙ g))

abbrev View : Type 0
View = Form-F Form Expr MergeBranch

abbrev IsSameView : View → View → Type 0
IsSameView u v = u ≡ v

merge_parts : (x y : Name) (bs cs : List MergeBranch) → IsSameView (Form-F.Merge x bs) (Form-F.Merge y cs) → (x ≡ y) × (bs ≡ cs)
merge_parts x y bs cs e = (cc, cc)

merge_covered : (r : Run) (types : TypesFit r.core) (k : Within) (s : Scope) (t : ℕ) → Holds r k s t → (rs : List Name) (e : Expr) (c : Clock) (y : Ty) (n : List (List Name)) (x : Name) (bs : List MergeBranch) →
    Sound r.core k rs e c y n → out-Form e.form ≡ Form-F.Merge x bs → Covered r k s t x bs
merge_covered r types k s t h rs e c _ _ x bs (is_constant eq known fits) is = no_view e _ _ eq is (λ g. cc)
merge_covered r types k s t h rs e c _ _ x bs (is_async_constant eq known fits) is = no_view e _ _ eq is (λ g. cc)
merge_covered r types k s t h rs e c _ _ x bs (is_variable eq sees) is = no_view e _ _ eq is (λ g. cc)
merge_covered r types k s t h rs e c y n x bs (is_unary eq sound fit) is = no_view e _ _ eq is (λ g. cc)
merge_covered r types k s t h rs e c y _ x bs (is_binary eq a b fit) is = no_view e _ _ eq is (λ g. cc)
merge_covered r types k s t h rs e c y _ x bs (is_if eq i a b) is = no_view e _ _ eq is (λ g. cc)
merge_covered r types k s t h rs e c y n x bs (is_fby eq a b) is = no_view e _ _ eq is (λ g. cc)
merge_covered r types k s t h rs e c y _ x bs (is_pre eq a) is = no_view e _ _ eq is (λ g. cc)
merge_covered r types k s t h rs e c y n x bs (is_arrow eq a b within) is = no_view e _ _ eq is (λ g. cc)
merge_covered r types k s t h rs e _ y n x bs (is_when eq sees defined a) is = no_view e _ _ eq is (λ g. cc)
merge_covered r types k s t h rs e c y _ x bs (is_result (is_call (sync eq) named leads stands sound same)) is = no_view e _ _ eq is (λ g. cc)
merge_covered r types k s t h rs e c y _ x bs (is_result (is_call (async eq) named leads stands sound same)) is = no_view e _ _ eq is (λ g. cc)
merge_covered r types k s t h rs e c _ n x bs (is_get eq a) is = no_view e _ _ eq is (λ g. cc)
merge_covered r types k s t h rs e c y _ x bs (is_merge {x = z} {d = d} {bs = cs} eq sees defined tagged every sound) is =
    let p : (z ≡ x) × (cs ≡ bs) = merge_parts z x cs bs (sym eq ∙ is) in
    subst (λ (v : Name). Covered r k s t v bs) p.0 (subst (λ (l : List MergeBranch). Covered r k s t z l) p.1 (firm r k s t h z d sees.declared defined, branch_of))
  where
    v : VariableFits r k s t z d
    v = h.variables z d c sees

    small : (u : ℕ) → IsKnown r (Variable z s t) (Value u) → (a : Answer) → IsKnown r (Variable z s t) a → (b : Bool) → Okay r s t (core_clock k.node z) d.ty (k.grade z) b a → IsValueOf (types_in r) d.ty u
    small u known _ other _ gone = absurd (not_absent u (one_answer (setting_of r) r.rows (Variable z s t) (Value u) Absent known other))
    small u known _ other _ (missing {l = l} i ne) = not_among l (k.grade z) defined i
    small u known _ other _ (given {v = w} fits) = subst (λ (m : ℕ). IsValueOf (types_in r) d.ty m) (value_is w u (one_answer (setting_of r) r.rows (Variable z s t) (Value w) (Value u) other known)) fits

    branch_of : (u : ℕ) → IsKnown r (Variable z s t) (Value u) → (b : MergeBranch) × (find (λ m. tag_value (types_in r) m.tag == u) cs ≡ Some b)
    branch_of u known = let b = types.branch d.ty u cs tagged every (small u known v.fits.answer v.fits.known v.present v.fits.okay) in (b.0, b.1)

pub merges_are_covered : MergesAreCovered
merges_are_covered r chosen run k s body t l rs e c y n x bs sound is =
    merge_covered r (types_fit r.core run.sound.types run.sound.constructors) k s t (holds_everywhere r chosen run k s body t l) rs e c y n x bs sound is

-- ---- arguments

call_parts : (f h : Name) (xs ys : List Expr) → IsSameView (Form-F.Call f xs) (Form-F.Call h ys) → (f ≡ h) × (xs ≡ ys)
call_parts f h xs ys e = (cc, cc)

async_parts : (p q : ℕ) (f h : Name) (xs ys : List Expr) → IsSameView (Form-F.AsyncCall p f xs) (Form-F.AsyncCall q h ys) → (f ≡ h) × (xs ≡ ys)
async_parts p q f h xs ys e = (cc, cc)

same_call : (e : Expr) (f h : Name) (xs ys : List Expr) (a b : Bool) → IsCall e f xs a → IsCall e h ys b → (f ≡ h) × (xs ≡ ys)
same_call e f h xs ys _ _ (sync i) (sync j) = call_parts f h xs ys (sym i ∙ j)
same_call e f h xs ys _ _ (sync i) (async j) = no_view e _ _ i j (λ g. cc)
same_call e f h xs ys _ _ (async i) (sync j) = no_view e _ _ i j (λ g. cc)
same_call e f h xs ys _ _ (async {q = p} i) (async {q = q} j) = async_parts p q f h xs ys (sym i ∙ j)

as_arguments : (r : Run) (u : Scope) (t : ℕ) (c : Clock) (es : List Expr) (ds : List Decl) → Inputs r u t es c ds → HaveArguments r u t c es ds
as_arguments r u t c [] [] h = tt
as_arguments r u t c [] (d ∷ ds) h = h
as_arguments r u t c (e ∷ es) [] h = h
as_arguments r u t c (e ∷ es) (d ∷ ds) h = ((h.0.value, h.0.known, h.0.fits), as_arguments r u t c es ds h.1)

pub calls_have_arguments : CallsHaveArguments
calls_have_arguments r chosen run k s body t l rs e c _ f args future resets (is_call {f = h} {args = xs} {future = b} {g = g} call named leads stands sound same) proper other now =
    let hold : Holds r k s t = holds_everywhere r chosen run k s body t l in
    let p : (h ≡ f) × (xs ≡ args) = same_call e h f xs args b future call other in
    let here = here_in r chosen run k s c t hold proper in
    let is : here.0 ≡ true = one_truth r (Present c (Under s rs) t) here.0 true (present_under r s rs t c here.0 here.1) now in (
      g,
      subst (λ (n : Name). IsNamed r.core n g) p.0 named,
      subst (λ (es : List Expr). HaveArguments r (Under s rs) t c es g.inputs) p.1
          (as_arguments r (Under s rs) t c xs g.inputs (arguments_at r chosen run k s rs c t hold resets proper (subst (λ (b : Bool). Here r s t c b) is here.1) xs g.inputs sound)),
    )

-- ---- outputs

module _ (r : Run) (chosen : Within) (run : IsFitRun r chosen) where
  output_value : (t : ℕ) → t < length r.rows → (d : Decl) → Contains chosen.node.outputs d → HasValue r (Variable d.name (Top (Lowered chosen.node)) t) d.ty
  output_value t l d i =
      let o = run.node.outputs d i in
      let h : Holds r chosen (Top (Lowered chosen.node)) t = holds_everywhere r chosen run chosen (Top (Lowered chosen.node)) chosen_body t l in
      has_value r (Variable d.name (Top (Lowered chosen.node)) t) (Top (Lowered chosen.node)) t [] d.ty (chosen.grade d.name) o.1
      (fits_at r chosen (Top (Lowered chosen.node)) t d.name d [] (h.variables d.name d [] o.0) o.0 true (active (known_by r (Active (Top (Lowered chosen.node)) t) (Is true) tt said) no_step))

  contains_next : (x : Decl) (ds : List Decl) (d : Decl) → Contains ds d → Contains (x ∷ ds) d
  contains_next x ds d i = let l = i.1 in (suc i.0, omega arith, i.2)

  one_row : (t : ℕ) → t < length r.rows → (ds : List Decl) → ((d : Decl) → Contains ds d → Contains chosen.node.outputs d) →
      (out : List ℕ) × HaveValues (setting_of r) r.rows (map (λ x. Variable x (Top (Lowered chosen.node)) t) (names ds)) out × RowFits (types_in r) ds out
  one_row t l [] each = ([], tt, tt)
  one_row t l (d ∷ ds) each =
      let v = output_value t l d (each d (0, omega arith, refl)) in
      let rest = one_row t l ds (λ b i. each b (contains_next d ds b i)) in
      (v.value ∷ rest.0, (v.known, rest.1), (v.fits, rest.2))

  rows_from : (t : ℕ) (left : List (List ℕ)) → t + length left ≡ length r.rows → (outs : List (List ℕ)) × OutputsFrom (setting_of r) r.rows (Lowered chosen.node) t left outs × RowsFit (types_in r) chosen.node.outputs outs
  rows_from t [] e = ([], tt, tt)
  rows_from t (row ∷ left) e =
      let o = one_row t (omega arith) chosen.node.outputs (λ d i. i) in
      let rest = rows_from (suc t) left (omega arith) in
      (o.0 ∷ rest.0, (o.1, rest.1), (o.2, rest.2))

pub outputs_fit : OutputsFit
outputs_fit r chosen run = rows_from r chosen run 0 r.rows (omega arith)

pub defined_is_firm : DefinedIsFirm
defined_is_firm r chosen run k s body t l x d declared defined = firm r k s t (holds_everywhere r chosen run k s body t l) x d declared defined
