-- What is known of scopes: under resets, of presence and restarts, and what an expression gives by its form.
use Rattle.std.proofs.Common.{◌≡◌, ◌≢◌, ℕ, zero, suc, ◌+◌, Bool, true, false, List, [], ◌∷◌, ◌++◌, refl, sym, subst, arith}
use Rattle.std.specs.Prelude.{if◌then◌else◌, ◌||◌}
use Rattle.hept_ast.specs.Texts.{Name, tag_value}
use Rattle.hept_ast.specs.Scopes.{Clock, Scope, Text, Called, Under}
use Rattle.hept_ast.specs.Meaning.{Question, Gives, Variable, Present, Active, Restarted, Answer, Unknown, Absent, Nil, Value, Is, State_at, Rule, Says, Asks, Setting, is_true, is_value, on_value, steps_hold, some_true, form_rule, if_present, count_before}
use Rattle.hept_ast.specs.Outputs.{Knows, Follows, said, asked}
use Rattle.hept_ast.specs.declared.tree.Expr.{Expr}
use Rattle.hept_ast.specs.declared.tree.MergeBranch.{MergeBranch}
use Rattle.hept_ast.specs.declared.tree.Form.{Form, out-Form}
use Rattle.hept_ast.specs.declared.tree.Form.TheOpen.{Form-F}
use Rattle.hept_ast.proofs.Depths.{by_rule, to_rule}
use Rattle.step_plans.specs.Kept.{Counted, none_before, one_more, no_more}
use Rattle.step_plans.specs.Things.{Shows, HasAnswer, HasTruth, IsAgain}
use Rattle.step_plans.specs.Plans.{IsQuiet, quiet_top, quiet_call, quiet_equation}

abbrev pub K : Setting → List (List ℕ) → Question → Answer → Type 0
K w rows = Knows w rows

pub said_is : (P : Question → Answer → Type 0) (rows : List (List ℕ)) (a b : Answer) → Follows P rows (Says a) b → a ≡ b
said_is P rows a b said = refl

-- ---- under resets

pub variable_under : (w : Setting) (rows : List (List ℕ)) (s : Scope) (resets : List Name) (t : ℕ) (x : Name) (a : Answer) →
    K w rows (Variable x s t) a → K w rows (Variable x (Under s resets) t) a
variable_under w rows s resets t x a h = to_rule w rows (Variable x (Under s resets) t) a (by_rule w rows (Variable x s t) a h) h.known

steps_under : (w : Setting) (rows : List (List ℕ)) (s : Scope) (resets : List Name) (t : ℕ) (steps : Clock) (a : Answer) →
    Follows (K w rows) rows (steps_hold w steps s t) a → Follows (K w rows) rows (steps_hold w steps (Under s resets) t) a
steps_under w rows s resets t [] a f = f
steps_under w rows s resets t (step ∷ steps) a (asked {a = x} h f) =
    asked (variable_under w rows s resets t step.name x h) (branch (steps_under w rows s resets t steps a) (is_value (tag_value w.types step.tag) x) f)
  where
    branch : (Follows (K w rows) rows (steps_hold w steps s t) a → Follows (K w rows) rows (steps_hold w steps (Under s resets) t) a) →
        (b : Bool) → Follows (K w rows) rows (if b then steps_hold w steps s t else Says (Is false)) a →
        Follows (K w rows) rows (if b then steps_hold w steps (Under s resets) t else Says (Is false)) a
    branch rest true g = rest g
    branch rest false g = g

active_under : (w : Setting) (rows : List (List ℕ)) (s : Scope) (resets : List Name) (t : ℕ) (a : Answer) → K w rows (Active s t) a → K w rows (Active (Under s resets) t) a
active_under w rows s resets t a h = to_rule w rows _ _ (asked h said) h.known

present_rule_under : (w : Setting) (rows : List (List ℕ)) (s : Scope) (resets : List Name) (t : ℕ) (c : Clock) (a : Answer) →
    Follows (K w rows) rows (Asks (Active s t) (λ x. if is_true x then steps_hold w c s t else Says (Is false))) a → a ≢ Unknown → K w rows (Present c (Under s resets) t) a
present_rule_under w rows s resets t c a (asked {a = x} h f) known =
    to_rule w rows _ _ (asked (active_under w rows s resets t x h) (branch (is_true x) f)) known
  where
    branch : (b : Bool) → Follows (K w rows) rows (if b then steps_hold w c s t else Says (Is false)) a →
        Follows (K w rows) rows (if b then steps_hold w c (Under s resets) t else Says (Is false)) a
    branch true g = steps_under w rows s resets t c a g
    branch false g = g

-- what is on a clock is present under resets where it is without them
pub present_under : (w : Setting) (rows : List (List ℕ)) (s : Scope) (resets : List Name) (t : ℕ) (c : Clock) (a : Answer) →
    K w rows (Present c s t) a → K w rows (Present c (Under s resets) t) a
present_under w rows s resets t c a h = present_rule_under w rows s resets t c a (by_rule w rows _ _ h) h.known

-- the body of a call is present where the call is
pub present_called : (w : Setting) (rows : List (List ℕ)) (c : Clock) (s : Scope) (place : ℕ) (args : List Expr) (text : Text) (t : ℕ) (b : Bool) →
    K w rows (Present c s t) (Is b) → K w rows (Present [] (Called s c place args text) t) (Is b)
present_called w rows c s place args text t b h =
    let active : K w rows (Active (Called s c place args text) t) (Is b) = to_rule w rows _ _ (asked h said) (λ e. cc) in
    by_truth b active
  where
    by_truth : (b : Bool) → K w rows (Active (Called s c place args text) t) (Is b) → K w rows (Present [] (Called s c place args text) t) (Is b)
    by_truth true k = to_rule w rows _ _ (asked k said) (λ e. cc)
    by_truth false k = to_rule w rows _ _ (asked k said) (λ e. cc)

-- ---- restarts

or_false : (b : Bool) → b ≡ (b || false)
or_false true = refl
or_false false = refl

restarted_without : (w : Setting) (rows : List (List ℕ)) (s : Scope) (t : ℕ) (r : Bool) → K w rows (Restarted s t) (Is r) → K w rows (Restarted (Under s []) t) (Is r)
restarted_without w rows s t true h = to_rule w rows _ _ (asked h said) (λ e. cc)
restarted_without w rows s t false h = to_rule w rows _ _ (asked h said) (λ e. cc)

pub again_without : (w : Setting) (rows : List (List ℕ)) (s : Scope) (t v : ℕ) → IsAgain w rows s t v → IsAgain w rows (Under s []) t v
again_without w rows s t v a = record { answer = a.answer; known = restarted_without w rows s t _ a.known; shown = a.shown }

pub again_called : (w : Setting) (rows : List (List ℕ)) (c : Clock) (s : Scope) (place : ℕ) (args : List Expr) (text : Text) (t v : ℕ) → IsAgain w rows s t v → IsAgain w rows (Called s c place args text) t v
again_called w rows c s place args text t v a = record { answer = a.answer; known = to_rule w rows _ _ (asked a.known said) (λ e. cc); shown = a.shown }

-- without resets there is no restart but by the mark
pub quiet_again : (w : Setting) (rows : List (List ℕ)) (s : Scope) (t : ℕ) → IsQuiet s → IsAgain w rows s t 0
quiet_again w rows s t (quiet_top {text = text}) = record {
  answer = false;
  known = to_rule w rows _ _ (subst (λ (b : Bool). Follows (K w rows) rows (Says (Is (w.marked t))) (Is b)) (or_false (w.marked t)) said) (λ e. cc);
  shown = refl;
}
quiet_again w rows s t (quiet_call {s = outer} {c = c} {place = place} {args = args} {text = text} q) = again_called w rows c outer place args text t 0 (quiet_again w rows outer t q)
quiet_again w rows s t (quiet_equation {s = outer} q) = again_without w rows outer t 0 (quiet_again w rows outer t q)

-- one reset more: whether the variable is true, or there is a restart without it
restart_rule_more : (w : Setting) (rows : List (List ℕ)) (s : Scope) (t : ℕ) (x : Name) (resets : List Name) (a : Answer) (d : Bool) → K w rows (Variable x s t) a →
    Follows (K w rows) rows (Asks (Restarted s t) (λ y. if is_true y then Says (Is true) else some_true w resets s t)) (Is d) →
    K w rows (Restarted (Under s (x ∷ resets)) t) (Is (d || is_true a))
restart_rule_more w rows s t x resets a d h (asked {a = y} k f) = to_rule w rows _ _ (asked k (outer (is_true y) f)) (λ e. cc)
  where
    own : (b : Bool) → Follows (K w rows) rows (some_true w resets s t) (Is d) → Follows (K w rows) rows (if b then Says (Is true) else some_true w resets s t) (Is (d || b))
    own true g = subst (λ (b : Bool). Follows (K w rows) rows (Says (Is true)) (Is b)) (or_true d) said
      where
        or_true : (b : Bool) → true ≡ (b || true)
        or_true true = refl
        or_true false = refl
    own false g = subst (λ (b : Bool). Follows (K w rows) rows (some_true w resets s t) (Is b)) (or_false d) g

    outer : (b : Bool) → Follows (K w rows) rows (if b then Says (Is true) else some_true w resets s t) (Is d) →
        Follows (K w rows) rows (if b then Says (Is true) else some_true w (x ∷ resets) s t) (Is (d || is_true a))
    outer true g = let e = said_is (K w rows) rows (Is true) (Is d) g in
        let f : true ≡ d = cc in
        subst (λ (b : Bool). Follows (K w rows) rows (Says (Is true)) (Is (b || is_true a))) f said
    outer false g = asked h (own (is_true a) g)

pub restart_more : (w : Setting) (rows : List (List ℕ)) (s : Scope) (t : ℕ) (x : Name) (resets : List Name) (a : Answer) (d : Bool) → K w rows (Variable x s t) a →
    K w rows (Restarted (Under s resets) t) (Is d) → K w rows (Restarted (Under s (x ∷ resets)) t) (Is (d || is_true a))
restart_more w rows s t x resets a d h k = restart_rule_more w rows s t x resets a d h (by_rule w rows _ _ k)

-- ---- clocks

steps_then : (w : Setting) (rows : List (List ℕ)) (s : Scope) (t : ℕ) (c more_steps : Clock) (a : Answer) → Follows (K w rows) rows (steps_hold w c s t) (Is true) →
    Follows (K w rows) rows (steps_hold w more_steps s t) a → Follows (K w rows) rows (steps_hold w (c ++ more_steps) s t) a
steps_then w rows s t [] more_steps a f g = g
steps_then w rows s t (step ∷ steps) more_steps a (asked {a = x} h f) g = asked h (branch (λ k. steps_then w rows s t steps more_steps a k g) (is_value (tag_value w.types step.tag) x) f)
  where
    branch : (Follows (K w rows) rows (steps_hold w steps s t) (Is true) → Follows (K w rows) rows (steps_hold w (steps ++ more_steps) s t) a) →
        (b : Bool) → Follows (K w rows) rows (if b then steps_hold w steps s t else Says (Is false)) (Is true) →
        Follows (K w rows) rows (if b then steps_hold w (steps ++ more_steps) s t else Says (Is false)) a
    branch rest true k = rest k
    branch rest false k = let e = said_is (K w rows) rows (Is false) (Is true) k in absurd (cc)

steps_not : (w : Setting) (rows : List (List ℕ)) (s : Scope) (t : ℕ) (c more_steps : Clock) → Follows (K w rows) rows (steps_hold w c s t) (Is false) →
    Follows (K w rows) rows (steps_hold w (c ++ more_steps) s t) (Is false)
steps_not w rows s t [] more_steps f = let e = said_is (K w rows) rows (Is true) (Is false) f in absurd (cc)
steps_not w rows s t (step ∷ steps) more_steps (asked {a = x} h f) = asked h (branch (steps_not w rows s t steps more_steps) (is_value (tag_value w.types step.tag) x) f)
  where
    branch : (Follows (K w rows) rows (steps_hold w steps s t) (Is false) → Follows (K w rows) rows (steps_hold w (steps ++ more_steps) s t) (Is false)) →
        (b : Bool) → Follows (K w rows) rows (if b then steps_hold w steps s t else Says (Is false)) (Is false) →
        Follows (K w rows) rows (if b then steps_hold w (steps ++ more_steps) s t else Says (Is false)) (Is false)
    branch rest true k = rest k
    branch rest false k = k

present_rule_then : (w : Setting) (rows : List (List ℕ)) (s : Scope) (t : ℕ) (c more_steps : Clock) (a : Answer) →
    Follows (K w rows) rows (Asks (Active s t) (λ x. if is_true x then steps_hold w c s t else Says (Is false))) (Is true) →
    Follows (K w rows) rows (steps_hold w more_steps s t) a → a ≢ Unknown → K w rows (Present (c ++ more_steps) s t) a
present_rule_then w rows s t c more_steps a (asked {a = x} k f) g known = to_rule w rows _ _ (asked k (branch (is_true x) f)) known
  where
    branch : (b : Bool) → Follows (K w rows) rows (if b then steps_hold w c s t else Says (Is false)) (Is true) →
        Follows (K w rows) rows (if b then steps_hold w (c ++ more_steps) s t else Says (Is false)) a
    branch true h = steps_then w rows s t c more_steps a h g
    branch false h = let e = said_is (K w rows) rows (Is false) (Is true) h in absurd (cc)

present_rule_not : (w : Setting) (rows : List (List ℕ)) (s : Scope) (t : ℕ) (c more_steps : Clock) →
    Follows (K w rows) rows (Asks (Active s t) (λ x. if is_true x then steps_hold w c s t else Says (Is false))) (Is false) → K w rows (Present (c ++ more_steps) s t) (Is false)
present_rule_not w rows s t c more_steps (asked {a = x} k f) = to_rule w rows _ _ (asked k (branch (is_true x) f)) (λ e. cc)
  where
    branch : (b : Bool) → Follows (K w rows) rows (if b then steps_hold w c s t else Says (Is false)) (Is false) →
        Follows (K w rows) rows (if b then steps_hold w (c ++ more_steps) s t else Says (Is false)) (Is false)
    branch true h = steps_not w rows s t c more_steps h
    branch false h = h

-- a clock with more steps: as they say where the clock is present, and absent where it isn't
pub present_then : (w : Setting) (rows : List (List ℕ)) (s : Scope) (t : ℕ) (c more_steps : Clock) (a : Answer) → K w rows (Present c s t) (Is true) →
    Follows (K w rows) rows (steps_hold w more_steps s t) a → a ≢ Unknown → K w rows (Present (c ++ more_steps) s t) a
present_then w rows s t c more_steps a h g known = present_rule_then w rows s t c more_steps a (by_rule w rows _ _ h) g known

pub present_not : (w : Setting) (rows : List (List ℕ)) (s : Scope) (t : ℕ) (c more_steps : Clock) → K w rows (Present c s t) (Is false) → K w rows (Present (c ++ more_steps) s t) (Is false)
present_not w rows s t c more_steps h = present_rule_not w rows s t c more_steps (by_rule w rows _ _ h)

-- ---- answers that numbers show

pub shown_known : (a : Answer) (v : ℕ) → Shows a v → a ≢ Unknown
shown_known Unknown v h = absurd h
shown_known Absent v h = λ e. cc
shown_known Nil v h = λ e. cc
shown_known (Value u) v h = λ e. cc
shown_known (Is b) v h = absurd h
shown_known (State_at k m) v h = absurd h

-- a rule comes to an answer that a number shows
pub record Comes (w : Setting) (rows : List (List ℕ)) (rule : Rule) (v : ℕ) : Type 0 where
  pub answer : Answer
  pub follows : Follows (K w rows) rows rule answer
  pub shown : Shows answer v

pub comes_to : (w : Setting) (rows : List (List ℕ)) (v u : ℕ) → v ≡ u → Comes w rows (Says (Value u)) v
comes_to w rows v u e = record { answer = Value u; follows = said; shown = e }

pub comes_by : (w : Setting) (rows : List (List ℕ)) (q : Question) (v : ℕ) → HasAnswer (K w rows) q v → Comes w rows (Asks q Says) v
comes_by w rows q v h = record { answer = h.answer; follows = asked h.known said; shown = h.shown }

pub comes_on : (w : Setting) (rows : List (List ℕ)) (q : Question) (go : ℕ → Rule) (u v : ℕ) → HasAnswer (K w rows) q u → Comes w rows (go u) v → Comes w rows (on_value q go) v
comes_on w rows q go u v h c = by_answer h.answer h.known h.shown
  where
    by_answer : (a : Answer) → K w rows q a → Shows a u → Comes w rows (on_value q go) v
    by_answer Unknown k f = absurd f
    by_answer Absent k f = record { answer = Absent; follows = asked k said; shown = tt }
    by_answer Nil k f = record { answer = Nil; follows = asked k said; shown = tt }
    by_answer (Value n) k f = record { answer = c.answer; follows = asked k (subst (λ (m : ℕ). Follows (K w rows) rows (go m) c.answer) f c.follows); shown = c.shown }
    by_answer (Is b) k f = absurd f
    by_answer (State_at n m) k f = absurd f

-- by how often something was present
pub comes_counted : (w : Setting) (rows : List (List ℕ)) (present : ℕ → Question) (go : ℕ → Rule) (t n v : ℕ) → Counted (K w rows) present t n → Comes w rows (go n) v →
    Comes w rows (count_before present go t) v
comes_counted w rows present go zero n v none_before c = c
comes_counted w rows present go (suc p) (suc n) v (one_more h k) c =
    let e : suc n ≡ n + 1 = omega arith in
    let r = comes_counted w rows present (λ m. go (m + 1)) p n v k (subst (λ (m : ℕ). Comes w rows (go m) v) e c) in
    record { answer = r.answer; follows = asked h r.follows; shown = r.shown }
comes_counted w rows present go (suc p) n v (no_more h k) c =
    let r = comes_counted w rows present go p n v k c in
    record { answer = r.answer; follows = asked h r.follows; shown = r.shown }

-- a question whose rule is asked where a clock is present
pub where_present : (w : Setting) (rows : List (List ℕ)) (q : Question) (present : Question) (rule : Rule) (h v : ℕ) →
    ((a : Answer) → Follows (K w rows) rows (if_present present rule) a → a ≢ Unknown → K w rows q a) →
    HasTruth (K w rows) present h → Comes w rows rule v → HasAnswer (K w rows) q v
where_present w rows q present rule h v to here comes = by_presence here.answer here.known
  where
    by_presence : (b : Bool) → K w rows present (Is b) → HasAnswer (K w rows) q v
    by_presence false k = record { answer = Absent; known = to Absent (asked k said) (λ i. cc); shown = tt }
    by_presence true k = record { answer = comes.answer; known = to comes.answer (asked k comes.follows) (shown_known comes.answer v comes.shown); shown = comes.shown }

-- what an expression gives, by its form
pub by_form : (w : Setting) (rows : List (List ℕ)) (s : Scope) (t h v : ℕ) (e : Expr) (c : Clock) (f : Form-F Form Expr MergeBranch) →
    HasTruth (K w rows) (Present c s t) h → out-Form e.form ≡ f → Comes w rows (form_rule w f e c s t) v → HasAnswer (K w rows) (Gives e c s t) v
by_form w rows s t h v e c f here is comes =
    where_present w rows (Gives e c s t) (Present c s t) _ h v (λ a g k. to_rule w rows _ _ g k) here
    (subst (λ (x : Form-F Form Expr MergeBranch). Comes w rows (form_rule w x e c s t) v) (sym is) comes)
