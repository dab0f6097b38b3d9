-- The cores that have not the static facts.
use Rattle.std.proofs.Common.{◌≡◌, ℕ, suc, Bool, true, false, List, [], ◌∷◌, ◌++◌, refl, sym, ap, subst, arith, ◌∙◌, length}
use Rattle.std.specs.Prelude.{codes, ◌==◌}
use Rattle.std.proofs.lemmas.Bool.{false≢true}
use Rattle.hept_ast.specs.Texts.{Name}
use Rattle.hept_ast.specs.Scopes.{Clock}
use Rattle.hept_ast.specs.Meaning.{Nil, Unknown}
use Rattle.hept_ast.specs.declared.tree.Core.{Core}
use Rattle.hept_ast.specs.declared.tree.CoreEquation.{CoreEquation}
use Rattle.hept_ast.specs.declared.tree.ClockStep.{ClockStep}
use Rattle.hept_ast.specs.declared.tree.Expr.{Expr}
use Rattle.hept_ast.specs.declared.tree.MergeBranch.{MergeBranch}
use Rattle.hept_ast.specs.declared.tree.Ty.{Ty}
use Rattle.hept_ast.specs.declared.tree.Form.{Form, out-Form}
use Rattle.hept_ast.specs.declared.tree.Form.TheVariants as form
use Rattle.hept_ast.specs.declared.tree.Form.TheOpen.{Form-F}
use Rattle.hept_ast.specs.declared.tree.Const.TheVariants.{Truth}
use Rattle.hept_ast.proofs.Unfolded.{static}
use Rattle.hept_ast.proofs.MeaningExamples.{trees}
use Rattle.sound_expressions.proofs.Forms.{out_Arrow, out_Pre, out_Var}
use Rattle.core_rules.specs.WellFormed.{expr}
use Rattle.core_facts.specs.Undefined.{Among, AreIn, AreWithin, first, Grades}
use Rattle.core_fitting.specs.Sound.{IsProper, Sound, SoundNode, SoundRight, Within, async, base, is_arrow, is_async_constant, is_binary, is_call, is_constant, is_fby, is_get, is_if, is_merge, is_pre, is_result, is_unary, is_variable, is_when, one_more, one_name, results_of, sync, within}
use Rattle.fitting_example.specs.Examples.{LooseIsNotSound, TornIsUndefined, equation, loose_core, loose_node, number, torn_arrow, torn_core, torn_node, var}
use Rattle.fitting_example.proofs.ExampleCore.{torn_is_ordered}
use Rattle.core_fitting.proofs.NamesRead.{not_among}

abbrev View : Type 0
View = Form-F Form Expr MergeBranch

abbrev IsView : View → View → Type 0
IsView u v = u ≡ v

-- what a form's grade is at least
data ArrowRight (core : Core) (k : Within) (rs : List Name) (b : Expr) : Type 0 where
  arrow_right : {c : Clock} {y : Ty} {m : List (List Name)} → Sound core k rs b c y m → AreWithin m rs → ArrowRight core k rs b

abbrev Graded : Core → Within → List Name → List (List Name) → View → Type 0
Graded core k rs n (Form-F.Pre a) = n ≡ rs ∷ []
Graded core k rs n (Form-F.Var x) = n ≡ k.grade x
Graded core k rs n (Form-F.Arrow a b) = ArrowRight core k rs b
Graded core k rs n _ = Unit {0}

graded : (core : Core) (k : Within) (rs : List Name) (e : Expr) (c : Clock) (y : Ty) (n : List (List Name)) → Sound core k rs e c y n → Graded core k rs n (out-Form e.form)
graded core k rs e c _ _ (is_constant eq known fits) = subst (Graded core k rs []) (sym eq) tt
graded core k rs e c _ _ (is_async_constant eq known fits) = subst (Graded core k rs []) (sym eq) tt
graded core k rs e c _ _ (is_variable {x = x} eq sees) = subst (Graded core k rs (k.grade x)) (sym eq) refl
graded core k rs e c y n (is_unary eq sound fit) = subst (Graded core k rs n) (sym eq) tt
graded core k rs e c y _ (is_binary {n = n} {m = m} eq a b fit) = subst (Graded core k rs (n ++ m)) (sym eq) tt
graded core k rs e c y _ (is_if {l = l} {n = n} {m = m} eq i a b) = subst (Graded core k rs (l ++ n ++ m)) (sym eq) tt
graded core k rs e c y n (is_fby eq a b) = subst (Graded core k rs n) (sym eq) tt
graded core k rs e c y _ (is_pre eq a) = subst (Graded core k rs (rs ∷ [])) (sym eq) refl
graded core k rs e c y n (is_arrow eq a b within) = subst (Graded core k rs n) (sym eq) (arrow_right b within)
graded core k rs e _ y n (is_when eq sees defined a) = subst (Graded core k rs n) (sym eq) tt
graded core k rs e c y _ (is_merge eq sees defined tagged every sound) = subst (Graded core k rs []) (sym eq) tt
graded core k rs e c y _ (is_result (is_call (sync eq) named leads stands sound same)) = subst (Graded core k rs []) (sym eq) tt
graded core k rs e c y _ (is_result (is_call (async eq) named leads stands sound same)) = subst (Graded core k rs []) (sym eq) tt
graded core k rs e c _ n (is_get eq a) = subst (Graded core k rs n) (sym eq) tt

head_is : (x y : Name) → x ∷ [] ≡ y ∷ [] → x ≡ y
head_is x y e = cc

-- a variable that is `pre` of something has a grade
pre_grade : (core : Core) (k : Within) (e : CoreEquation) (x : Name) (a : Expr) → e.left ≡ x ∷ [] → out-Form e.right.form ≡ Form-F.Pre a → SoundRight core k e → (l : List Name) × Among l (k.grade x) × AreIn e.resets l
pre_grade core k e x a left is (one_name {x = y} {n = n} same sees right allows) =
    let g : n ≡ e.resets ∷ [] = subst (Graded core k e.resets n) is (graded core k e.resets e.right e.clock.steps _ n right) in
    let h = allows e.resets (subst (λ (m : List (List Name)). Among e.resets m) (sym g) first) in
    (h.0, subst (λ (z : Name). Among h.0 (k.grade z)) (head_is y x (sym same ∙ left)) h.1, h.2)
pre_grade core k e x a left is (results_of many (is_call (sync eq) named leads stands sound same) lefts) = no_view (sym is ∙ eq)
  where
    no_view : {P : Type 0} {f : Name} {args : List Expr} → IsView (Form-F.Pre a) (Form-F.Call f args) → P
    no_view h = cc
pre_grade core k e x a left is (results_of many (is_call (async eq) named leads stands sound same) lefts) = no_view (sym is ∙ eq)
  where
    no_view : {P : Type 0} {q : ℕ} {f : Name} {args : List Expr} → IsView (Form-F.Pre a) (Form-F.AsyncCall q f args) → P
    no_view h = cc

no_length : (d : Clock) (a : ClockStep) → suc (length (d ++ a ∷ [])) ≡ 1 → ⊥
no_length [] a f = omega (arith, f)
no_length (y ∷ d) a f = omega (arith, f)

longer : (d : Clock) (a b x : ClockStep) → x ∷ d ++ a ∷ [] ≡ b ∷ [] → ⊥
longer d a b x h = no_length d a (ap length h)

-- the last step of a proper clock is never undefined
proper_last : (k : Within) (c : Clock) → IsProper k c → (p : ClockStep) → c ≡ p ∷ [] → k.grade p.name ≡ []
proper_last k _ base p e = absurd (no_step e)
  where
    no_step : [] ≡ p ∷ [] → ⊥
    no_step h = cc
proper_last k _ (one_more {c = c} q proper sees defined) p e = subst (λ (z : ClockStep). k.grade z.name ≡ []) (last_is c q p e) defined
  where
    last_is : (d : Clock) (a b : ClockStep) → d ++ a ∷ [] ≡ b ∷ [] → a ≡ b
    last_is [] a b h = cc
    last_is (x ∷ d) a b h = absurd (longer d a b x h)

pub loose_is_not_sound : LooseIsNotSound
loose_is_not_sound f grades node =
    let first_one = node.equations (equation (codes "c") [] [] (expr (form.Pre (expr (form.Const (Truth true)))))) (0, omega arith, refl) in
    let second = node.equations (equation (codes "v") _ [] _) (1, omega arith, refl) in
    let g = pre_grade loose_core (within f loose_node grades) _ (codes "c") _ refl (out_Pre (expr (form.Const (Truth true)))) first_one.right in
    let h = proper_last (within f loose_node grades) _ second.clock _ refl in
    not_among g.0 (grades (codes "c")) h g.1

-- ---- the arrow over a variable with more resets

arrow_within : (core : Core) (k : Within) (e : CoreEquation) (x : Name) (a b : Expr) → e.left ≡ x ∷ [] → out-Form e.right.form ≡ Form-F.Arrow a b → SoundRight core k e → ArrowRight core k e.resets b
arrow_within core k e x a b left is (one_name {n = n} same sees right allows) = subst (Graded core k e.resets n) is (graded core k e.resets e.right e.clock.steps _ n right)
arrow_within core k e x a b left is (results_of many call lefts) = absurd (two (length e.left == 1) (ap (λ (l : List Name). length l == 1) left) many)
  where
    two : (c : Bool) → c ≡ true → c ≡ false → ⊥
    two c g h = false≢true (sym h ∙ g)

torn_is_not_sound : (f : Name) (grades : Grades) → SoundNode torn_core (within f torn_node grades) → ⊥
torn_is_not_sound f grades node =
    let k = within f torn_node grades in
    let first_one = node.equations (equation (codes "v") [] (codes "r" ∷ []) (expr (form.Pre (var (codes "x"))))) (0, omega arith, refl) in
    let second = node.equations torn_arrow (1, omega arith, refl) in
    let g = pre_grade torn_core k _ (codes "v") _ refl (out_Pre (var (codes "x"))) first_one.right in
    go g (arrow_within torn_core k torn_arrow (codes "z") (number 0) (var (codes "v")) refl (out_Arrow (number 0) (var (codes "v"))) second.right)
  where
    go : (l : List Name) × Among l (grades (codes "v")) × AreIn (codes "r" ∷ []) l → ArrowRight torn_core (within f torn_node grades) [] (var (codes "v")) → ⊥
    go g (arrow_right {m = m} right inside) =
        let same : m ≡ grades (codes "v") = subst (Graded torn_core (within f torn_node grades) [] m) (out_Var (codes "v")) (graded torn_core (within f torn_node grades) [] (var (codes "v")) _ _ m right) in
        false≢true (inside g.0 (subst (λ (n : List (List Name)). Among g.0 n) (sym same) g.1) (codes "r") (g.2 (codes "r") refl))

no_answer : Nil ≡ Unknown → ⊥
no_answer h = cc

pub torn_is_undefined : TornIsUndefined
unfolding static trees
torn_is_undefined = record { ordered = torn_is_ordered; graded = refl; demands = refl; undefined = record { depth = 12; answer = refl; known = no_answer }; not_sound = torn_is_not_sound }
