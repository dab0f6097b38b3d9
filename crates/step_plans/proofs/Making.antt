-- What registers stand for as the instructions are done.
use Rattle.std.proofs.Common.{◌≡◌, ℕ, Bool, true, false, List, [], ◌∷◌, ◌++◌, Option, Some, None, refl, sym, subst, ap, ◌∙◌}
use Rattle.std.specs.List.{find}
use Rattle.std.proofs.lemmas.Bool.Decides.{Decides-eqb}
use Rattle.std.specs.Prelude.{if◌then◌else◌, ◌==◌, ◌&&◌, ◌||◌, slice_get, slice_index_or}
use Rattle.hept_ast.specs.Values.{truth}
use Rattle.hept_ast.specs.Texts.{Name, is_in, names, place_in, tag_value}
use Rattle.hept_ast.specs.Scopes.{Clock, Text, Lowered, Scope, Top, Called, In_branch, In_body, In_state, Under, equation_of, outputs_of, text_of}
use Rattle.hept_ast.specs.Meaning.{Question, Gives, Output, Variable, Defined, Present, Restarted, Answer, Unknown, Absent, Nil, Value, Is, State_at, Rule, Says, Reads, Setting, form_rule, merged as merged_rule, is_true, steps_hold, clock_of_equation, defined_rule, core_rule, right_rule, answer_to, argument_rule, output_rule, outputs_rule, reply_or}
use Rattle.hept_ast.specs.Outputs.{Follows, said, asked}
use Rattle.hept_ast.specs.declared.tree.Expr.{Expr}
use Rattle.hept_ast.specs.declared.tree.MergeBranch.{MergeBranch}
use Rattle.hept_ast.specs.declared.tree.Form.{Form, out-Form}
use Rattle.hept_ast.specs.declared.tree.Form.TheOpen.{Form-F}
use Rattle.hept_ast.specs.declared.tree.CoreNode.{CoreNode}
use Rattle.hept_ast.specs.declared.tree.CoreEquation.{CoreEquation}
use Rattle.hept_ast.specs.declared.tree.ClockStep.{ClockStep}
use Rattle.hept_ast.proofs.Depths.{to_rule, one_answer}
use Rattle.step_plans.specs.Things.{Thing, Shows, HasAnswer, HasTruth, IsAgain, ShowsBranch, Holds}
use Rattle.step_plans.specs.Operations.{Register, Operation, outcome}
use Rattle.step_plans.specs.Instants.{IsFirm, IsCovered, IsCounted, HasNoReply, Known, HoldsAll, MakesHolds, MeansHolds}
use Rattle.step_plans.specs.Plans.{Ground, Entry, IsBodyOf, Tests, Calls, Makes, part, flag, no_reset, reset, reads_left, reads_seen, branch, Covers, Means, variable, sampled, last_branch, merged, defines, defines_output, variable_under, here_under, again_under, here_called, again_called, argument, result, async_call, call, made, action, also, OneActionMore, OneMeaningMore}
use Rattle.step_plans.proofs.Frames.{K, Comes, by_form, comes_by, comes_counted, where_present, variable_under as under, present_under, present_called, again_without, again_called as again_in_call, quiet_again, restart_more, present_then, present_not}
use Rattle.step_plans.proofs.Reading.{left_is, seen_is}
use Rattle.step_plans.proofs.Computing.{computes}

-- ---- variables of a body

-- how a variable of a body is asked for, in each of the two kinds of body
abbrev InBody : (P : Scope → Type 0) → Scope → CoreNode → Type 0
InBody P s node = ((text : Text) → text ≡ Lowered node → P (Top text)) →
    ((outer : Scope) (c : Clock) (place : ℕ) (args : List Expr) (text : Text) → text ≡ Lowered node → P (Called outer c place args text)) → IsBodyOf s node → P s

in_body : (P : Scope → Type 0) (s : Scope) (node : CoreNode) → InBody P s node
in_body P (Top text) node top called b = top text b
in_body P (Called s c place args text) node top called b = called s c place args text b
in_body P (In_branch s on other) node top called b = absurd b
in_body P (In_body s every block) node top called b = absurd b
in_body P (In_state s states k) node top called b = absurd b
in_body P (Under s resets) node top called b = absurd b

-- a variable is absent where its clock is
absent_variable : (w : Setting) (rows : List (List ℕ)) (s : Scope) (t : ℕ) (node : CoreNode) (x : Name) → IsBodyOf s node →
    K w rows (Present (clock_of_equation (equation_of node x)) s t) (Is false) → K w rows (Variable x s t) Absent
absent_variable w rows s t node x =
    in_body (λ (q : Scope). K w rows (Present (clock_of_equation (equation_of node x)) q t) (Is false) → K w rows (Variable x q t) Absent) s node
    (λ text b. subst (λ (u : Text). K w rows (Present (clock_of_equation (equation_of node x)) (Top u) t) (Is false) → K w rows (Variable x (Top u) t) Absent) (sym b)
    (λ h. to_rule w rows _ _ (asked h said) (λ e. cc)))
    (λ outer c p args text b. subst (λ (u : Text). K w rows (Present (clock_of_equation (equation_of node x)) (Called outer c p args u) t) (Is false) → K w rows (Variable x (Called outer c p args u) t) Absent) (sym b)
    (λ h. to_rule w rows _ _ (asked h said) (λ e. cc)))

-- and has what its definition has where it is present
abbrev AsDefined : Setting → List (List ℕ) → ℕ → CoreNode → Name → Answer → Scope → Type 0
AsDefined w rows t node x a s = K w rows (Present (clock_of_equation (equation_of node x)) s t) (Is true) → K w rows (Defined x s t) a → K w rows (Variable x s t) a

present_variable : (w : Setting) (rows : List (List ℕ)) (s : Scope) (t : ℕ) (node : CoreNode) (x : Name) (a : Answer) → is_in x (names node.inputs) ≡ false → IsBodyOf s node → AsDefined w rows t node x a s
present_variable w rows s t node x a input =
    in_body (AsDefined w rows t node x a) s node
    (λ text b. subst (λ (u : Text). AsDefined w rows t node x a (Top u)) (sym b)
    (λ h d. to_rule w rows _ _ (asked h (subst (λ (i : Bool). Follows (K w rows) rows (if i then Reads t (place_in x (names node.inputs)) else answer_to (Defined x (Top (Lowered node)) t)) a)
    (sym input) (asked d said))) d.known))
    (λ outer c p args text b. subst (λ (u : Text). AsDefined w rows t node x a (Called outer c p args u)) (sym b)
    (λ h d. to_rule w rows _ _ (asked h (subst (λ (i : Bool). Follows (K w rows) rows
    (if i then argument_rule w (slice_get args (place_in x (names node.inputs))) c outer t else answer_to (Defined x (Called outer c p args (Lowered node)) t)) a)
    (sym input) (asked d said))) d.known))

body_text : (s : Scope) (node : CoreNode) → IsBodyOf s node → text_of s ≡ Lowered node
body_text s node = in_body (λ (q : Scope). text_of q ≡ Lowered node) s node (λ text b. b) (λ outer c p args text b. b)

-- a definition gives what its right side gives its left side
defined_answer : (w : Setting) (rows : List (List ℕ)) (s : Scope) (t : ℕ) (node : CoreNode) (x : Name) (e : CoreEquation) (q : Question) (a : Answer) → IsBodyOf s node → equation_of node x ≡ Some e →
    right_rule w e.left e.right x e.clock.steps (Under s e.resets) t ≡ answer_to q → K w rows q a → K w rows (Defined x s t) a
defined_answer w rows s t node x e q a body is right h =
    to_rule w rows _ _ (subst (λ (u : Text). Follows (K w rows) rows (defined_rule w u x s t) a) (sym (body_text s node body))
    (subst (λ (o : Option CoreEquation). Follows (K w rows) rows (core_rule w o x s t) a) (sym is)
    (subst (λ (r : Rule). Follows (K w rows) rows r a) (sym right) (asked h said)))) h.known

defined_variable : (w : Setting) (rows : List (List ℕ)) (s : Scope) (t : ℕ) (node : CoreNode) (x : Name) (e : CoreEquation) (q : Question) (h v : ℕ) → IsBodyOf s node → equation_of node x ≡ Some e →
    is_in x (names node.inputs) ≡ false → right_rule w e.left e.right x e.clock.steps (Under s e.resets) t ≡ answer_to q →
    HasTruth (K w rows) (Present e.clock.steps s t) h → HasAnswer (K w rows) q v → HasAnswer (K w rows) (Variable x s t) v
defined_variable w rows s t node x e q h v body is input right here g = by_presence here.answer here.known
  where
    on_clock : (b : Bool) → K w rows (Present e.clock.steps s t) (Is b) → K w rows (Present (clock_of_equation (equation_of node x)) s t) (Is b)
    on_clock b k = subst (λ (o : Option CoreEquation). K w rows (Present (clock_of_equation o) s t) (Is b)) (sym is) k

    by_presence : (b : Bool) → K w rows (Present e.clock.steps s t) (Is b) → HasAnswer (K w rows) (Variable x s t) v
    by_presence false k = record { answer = Absent; known = absent_variable w rows s t node x body (on_clock false k); shown = tt }
    by_presence true k = record {
      answer = g.answer;
      known = present_variable w rows s t node x g.answer input body (on_clock true k) (defined_answer w rows s t node x e q g.answer body is right g.known);
      shown = g.shown;
    }

-- an input of a call is its argument
argument_has : (w : Setting) (rows : List (List ℕ)) (t : ℕ) (node : CoreNode) (x : Name) (a : Expr) (c : Clock) (s : Scope) (place : ℕ) (args : List Expr) (h v : ℕ) → is_in x (names node.inputs) ≡ true →
    equation_of node x ≡ None → slice_get args (place_in x (names node.inputs)) ≡ Some a → HasTruth (K w rows) (Present c s t) h → HasAnswer (K w rows) (Gives a c s t) v →
    HasAnswer (K w rows) (Variable x (Called s c place args (Lowered node)) t) v
argument_has w rows t node x a c s place args h v input free at here of_a =
    where_present w rows _ (Present (clock_of_equation (equation_of node x)) (Called s c place args (Lowered node)) t) _ h v (λ b g k. to_rule w rows _ _ g k)
    (record {
      answer = here.answer;
      known = subst (λ (o : Option CoreEquation). K w rows (Present (clock_of_equation o) (Called s c place args (Lowered node)) t) (Is here.answer)) (sym free)
          (present_called w rows c s place args (Lowered node) t here.answer here.known);
      shown = here.shown;
    })
    (subst (λ (i : Bool). Comes w rows (if i then argument_rule w (slice_get args (place_in x (names node.inputs))) c s t else answer_to (Defined x (Called s c place args (Lowered node)) t)) v) (sym input)
    (subst (λ (o : Option Expr). Comes w rows (argument_rule w o c s t) v) (sym at) (comes_by w rows _ v of_a)))

-- an output of a call is that of its body
result_has : (w : Setting) (rows : List (List ℕ)) (t : ℕ) (e : Expr) (f : Name) (args : List Expr) (text : Text) (j : ℕ) (c : Clock) (s : Scope) (h v : ℕ) → out-Form e.form ≡ Form-F.Call f args → w.node f ≡ Some text →
    IsCounted w rows t (Calls c s e.place.0) → HasNoReply w (Calls c s e.place.0) → HasTruth (K w rows) (Present c s t) h →
    HasAnswer (K w rows) (Variable (slice_index_or (outputs_of text) j []) (Called s c e.place.0 args text) t) v → HasAnswer (K w rows) (Output e j c s t) v
result_has w rows t e f args text j c s h v is called counted no_reply here body =
    where_present w rows (Output e j c s t) (Present c s t) _ h v (λ b g k. to_rule w rows _ _ g k) here
    (subst (λ (x : Form-F Form Expr MergeBranch). Comes w rows (outputs_rule w x e j c s t) v) (sym is)
    (subst (λ (o : Option Text). Comes w rows (output_rule w (call_with o) e.place.0 j c s t) v) (sym called)
    (comes_counted w rows (λ p. Present c s p) _ t counted.0 v counted.1
    (subst (λ (o : Option (List ℕ)). Comes w rows (reply_or w o j (answer_to (Variable (slice_index_or (outputs_of text) j []) (Called s c e.place.0 args text) t))) v) (sym (no_reply counted.0))
    (comes_by w rows _ v body)))))
  where
    call_with : Option Text → Option (List Expr × Text)
    call_with None = None
    call_with (Some u) = Some (args, u)

-- ---- clocks

-- one step more
step_truth : (w : Setting) (rows : List (List ℕ)) (s : Scope) (t k v : ℕ) (step : ClockStep) (b : Bool) → K w rows (Variable step.name s t) (Value v) → k ≡ tag_value w.types step.tag →
    (v == k) ≡ b → Follows (K w rows) rows (steps_hold w (step ∷ []) s t) (Is b)
step_truth w rows s t k v step b h is test = asked h (branch (v == tag_value w.types step.tag) (ap (λ (n : ℕ). v == n) (sym is) ∙ test))
  where
    branch : (d : Bool) → d ≡ b → Follows (K w rows) rows (if d then Says (Is true) else Says (Is false)) (Is b)
    branch true e = subst (λ (c : Bool). Follows (K w rows) rows (Says (Is true)) (Is c)) e said
    branch false e = subst (λ (c : Bool). Follows (K w rows) rows (Says (Is false)) (Is c)) e said

flag_holds : (w : Setting) (rows : List (List ℕ)) (s : Scope) (t h v k : ℕ) (node : CoreNode) (c : Clock) (step : ClockStep) → IsFirm w rows t (Tests node step.name s) →
    HasTruth (K w rows) (Present c s t) h → HasAnswer (K w rows) (Variable step.name s t) v → clock_of_equation (equation_of node step.name) ≡ c →
    k ≡ tag_value w.types step.tag → HasTruth (K w rows) (Present (c ++ step ∷ []) s t) (truth (h == 1 && v == k))
flag_holds w rows s t h v k node c step firm here x clock is = by_presence here.answer here.known here.shown
  where
    by_presence : (b : Bool) → K w rows (Present c s t) (Is b) → h ≡ truth b → HasTruth (K w rows) (Present (c ++ step ∷ []) s t) (truth (h == 1 && v == k))
    by_presence false p e = record {
      answer = false;
      known = present_not w rows s t c (step ∷ []) p;
      shown = ap (λ (n : ℕ). truth (n == 1 && v == k)) e;
    }
    by_presence true p e =
        let f = firm x.answer x.known (subst (λ (d : Clock). K w rows (Present d s t) (Is true)) (sym clock) p) in
        let known : K w rows (Variable step.name s t) (Value f.0) = subst (λ (a : Answer). K w rows (Variable step.name s t) a) f.1 x.known in
        let shown : v ≡ f.0 = subst (λ (a : Answer). Shows a v) f.1 x.shown in
        record {
          answer = f.0 == k;
          known = present_then w rows s t c (step ∷ []) (Is (f.0 == k)) p (step_truth w rows s t k f.0 step (f.0 == k) known is refl) (λ i. cc);
          shown = ap (λ (n : ℕ). truth (n == 1 && v == k)) e ∙ ap (λ (n : ℕ). truth (n == k)) shown;
        }

-- ---- merges

turned : (a b : ℕ) → (a == b) ≡ (b == a)
turned a b = both (a == b) (b == a) refl refl
  where
    both : (y z : Bool) → (a == b) ≡ y → (b == a) ≡ z → y ≡ z
    both true true e f = refl
    both false false e f = refl
    both true false e f =
        let g : a ≡ b = (Decides-eqb a b).0 e in
        let h : (b == a) ≡ true = (Decides-eqb b a).1 (sym g) in
        absurd (cc)
    both false true e f =
        let g : b ≡ a = (Decides-eqb b a).0 f in
        let h : (a == b) ≡ true = (Decides-eqb a b).1 (sym g) in
        absurd (cc)

-- one branch more
branch_more : (w : Setting) (rows : List (List ℕ)) (t : ℕ) (x : Name) (b : MergeBranch) (branches : List MergeBranch) (c : Clock) (s : Scope) (p k r q : ℕ) → HasAnswer (K w rows) (Variable x s t) p → k ≡ tag_value w.types b.tag →
    HasAnswer (K w rows) (Gives b.value (c ++ record { tag = b.tag; name = x } ∷ []) s t) r → ShowsBranch w rows x branches c s t q → ShowsBranch w rows x (b ∷ branches) c s t (if p == k then r else q)
branch_more w rows t x b branches c s p k r q var is this rest u d known at =
    let same_answer : var.answer ≡ Value u = one_answer w rows (Variable x s t) var.answer (Value u) var.known known in
    let p_is : p ≡ u = subst (λ (a : Answer). Shows a p) same_answer var.shown in
    by_test (tag_value w.types b.tag == u) (test_is p_is) at
  where
    test_is : p ≡ u → (p == k) ≡ (tag_value w.types b.tag == u)
    test_is e = ap (λ (n : ℕ). n == k) e ∙ ap (λ (n : ℕ). u == n) is ∙ turned u (tag_value w.types b.tag)

    by_test : (y : Bool) → (p == k) ≡ y → (if y then Some b else find (λ (f : MergeBranch). tag_value w.types f.tag == u) branches) ≡ Some d →
        HasAnswer (K w rows) (Gives d.value (c ++ record { tag = d.tag; name = x } ∷ []) s t) (if p == k then r else q)
    by_test true e h =
        let f : b ≡ d = cc in
        subst (λ (z : Bool). HasAnswer (K w rows) (Gives d.value (c ++ record { tag = d.tag; name = x } ∷ []) s t) (if z then r else q)) (sym e)
        (subst (λ (z : MergeBranch). HasAnswer (K w rows) (Gives z.value (c ++ record { tag = z.tag; name = x } ∷ []) s t) r) f this)
    by_test false e h =
        subst (λ (z : Bool). HasAnswer (K w rows) (Gives d.value (c ++ record { tag = d.tag; name = x } ∷ []) s t) (if z then r else q)) (sym e) (rest u d known h)

-- one branch alone
branch_alone : (w : Setting) (rows : List (List ℕ)) (t : ℕ) (x : Name) (b : MergeBranch) (c : Clock) (s : Scope) (r : ℕ) →
    HasAnswer (K w rows) (Gives b.value (c ++ record { tag = b.tag; name = x } ∷ []) s t) r → ShowsBranch w rows x (b ∷ []) c s t r
branch_alone w rows t x b c s r this u d known at = by_test (tag_value w.types b.tag == u) at
  where
    by_test : (y : Bool) → (if y then Some b else None) ≡ Some d → HasAnswer (K w rows) (Gives d.value (c ++ record { tag = d.tag; name = x } ∷ []) s t) r
    by_test true h =
        let f : b ≡ d = cc in
        subst (λ (z : MergeBranch). HasAnswer (K w rows) (Gives z.value (c ++ record { tag = z.tag; name = x } ∷ []) s t) r) f this
    by_test false h = absurd (cc)

merge_has : (w : Setting) (rows : List (List ℕ)) (t : ℕ) (e : Expr) (x : Name) (branches : List MergeBranch) (c : Clock) (s : Scope) (h p r : ℕ) → out-Form e.form ≡ Form-F.Merge x branches →
    HasTruth (K w rows) (Present c s t) h → HasAnswer (K w rows) (Variable x s t) p → IsCovered w rows t (Covers x s branches) → ShowsBranch w rows x branches c s t r → HasAnswer (K w rows) (Gives e c s t) r
merge_has w rows t e x branches c s h p r is here var covers shows =
    by_form w rows s t h r e c (Form-F.Merge x branches) here is (by_answer var.answer var.known var.shown)
  where
    by_answer : (a : Answer) → K w rows (Variable x s t) a → Shows a p → Comes w rows (form_rule w (Form-F.Merge x branches) e c s t) r
    by_answer Unknown k f = absurd f
    by_answer Absent k f = record { answer = Absent; follows = asked k said; shown = tt }
    by_answer Nil k f = record { answer = Nil; follows = asked k said; shown = tt }
    by_answer (Value u) k f =
        let b = covers u k in
        let o = comes_by w rows _ r (shows u b.0 k b.1) in
        let all : Comes w rows (merged_rule w (find (λ (d : MergeBranch). tag_value w.types d.tag == u) branches) x c s t) r = subst (λ (m : Option MergeBranch). Comes w rows (merged_rule w m x c s t) r) (sym b.1) o in
        record { answer = all.answer; follows = asked k all.follows; shown = all.shown }
    by_answer (Is b) k f = absurd f
    by_answer (State_at n m) k f = absurd f

-- ---- resets

again_holds : (w : Setting) (rows : List (List ℕ)) (s : Scope) (t g h v : ℕ) (node : CoreNode) (x : Name) (resets : List Name) → IsBodyOf s node → IsFirm w rows t (Tests node x s) →
    IsAgain w rows (Under s resets) t g → HasTruth (K w rows) (Present (clock_of_equation (equation_of node x)) s t) h → HasAnswer (K w rows) (Variable x s t) v →
    IsAgain w rows (Under s (x ∷ resets)) t (truth (g == 1 || (h == 1 && v == 1)))
again_holds w rows s t g h v node x resets body firm others here var = by_presence here.answer here.known here.shown
  where
    moved : (m a b : Bool) → ((m || a) || b) ≡ (m || (a || b))
    moved true a b = refl
    moved false a b = refl

    first : (a : Bool) → (truth a == 1) ≡ a
    first true = refl
    first false = refl

    either : (a : Answer) → K w rows (Variable x s t) a → (h == 1 && v == 1) ≡ is_true a → IsAgain w rows (Under s (x ∷ resets)) t (truth (g == 1 || (h == 1 && v == 1)))
    either a k e = record {
      answer = others.answer || is_true a;
      known = subst (λ (b : Bool). K w rows (Restarted (Under s (x ∷ resets)) t) (Is b)) (moved (w.marked t) others.answer (is_true a)) (restart_more w rows s t x resets a _ k others.known);
      shown = ap (λ (b : Bool). truth (g == 1 || b)) e ∙ ap (λ (n : ℕ). truth (n == 1 || is_true a)) others.shown ∙ ap (λ (b : Bool). truth (b || is_true a)) (first others.answer);
    }

    by_presence : (b : Bool) → K w rows (Present (clock_of_equation (equation_of node x)) s t) (Is b) → h ≡ truth b → IsAgain w rows (Under s (x ∷ resets)) t (truth (g == 1 || (h == 1 && v == 1)))
    by_presence false p e = either Absent (absent_variable w rows s t node x body p) (ap (λ (n : ℕ). n == 1 && v == 1) e)
    by_presence true p e =
        let f = firm var.answer var.known p in
        let shown : v ≡ f.0 = subst (λ (a : Answer). Shows a v) f.1 var.shown in
        either var.answer var.known (ap (λ (n : ℕ). n == 1 && v == 1) e ∙ ap (λ (n : ℕ). n == 1) shown ∙ ap is_true (sym f.1))

-- ---- one step of a plan

module _ (w : Setting) (rows : List (List ℕ)) (t : ℕ) (g : Ground) (cells now : Register → ℕ) (known : Known w rows t g cells) (entries : List Entry) where
  pub makes_thing : (o : Operation) (thing : Thing) → HoldsAll w rows t entries now → Makes g entries o thing → Holds w rows t thing (outcome cells now o)
  makes_thing o thing holds (part h e c s here does) = computes w rows t g entries cells now e c s h o known.ground.types holds known.begun here does
  makes_thing o thing holds (flag {h = h} {r = r} {k = k} node c step s q body here at tested clock is) =
      flag_holds w rows s t (now h) (now r) k node c step (known.firm q _ tested) (holds _ h here) (holds _ r at) clock
      (subst (λ ts. k ≡ tag_value ts step.tag) known.ground.types is)
  makes_thing o thing holds (no_reset s q) = quiet_again w rows s t q
  makes_thing o thing holds (reset {a = a} {h = h} {r = r} node x resets s q body others here at tested) =
      again_holds w rows s t (now a) (now h) (now r) node x resets body (known.firm q _ tested) (holds _ a others) (holds _ h here) (holds _ r at)
  makes_thing o thing holds (reads_left e c s n reads) = left_is w rows t g entries cells now e c s n o holds known.begun reads
  makes_thing o thing holds (branch {p = p} {r = r} {q = q} {k = k} x b branches c s var is this rest) =
      branch_more w rows t x b branches c s (now p) k (now r) (now q) (holds _ p var) (subst (λ ts. k ≡ tag_value ts b.tag) known.ground.types is) (holds _ r this) (holds _ q rest)
  makes_thing o thing holds (reads_seen c s reads) = seen_is w rows t g entries cells now c s o holds known.begun reads

  pub means_thing : (thing : Thing) (r : Register) → HoldsAll w rows t entries now → Means g entries thing r → Holds w rows t thing (now r)
  means_thing thing r holds (variable e x c s h is here at) = by_form w rows s t (now h) _ e c (Form-F.Var x) (holds _ h here) is (comes_by w rows _ _ (holds _ r at))
  means_thing thing r holds (sampled e a tag x c s h is here of_a) = by_form w rows s t (now h) _ e c (Form-F.When a tag x) (holds _ h here) is (comes_by w rows _ _ (holds _ r of_a))
  means_thing thing r holds (last_branch x b c s this) = branch_alone w rows t x b c s _ (holds _ r this)
  means_thing thing r holds (merged e x branches c s h p q is here var covers shows) =
      merge_has w rows t e x branches c s (now h) (now p) _ is (holds _ h here) (holds _ p var) (known.covered q _ covers) (holds _ r shows)
  means_thing thing r holds (defines node x e s h body is left input here right) =
      defined_variable w rows s t node x e _ (now h) _ body is input
      (ap (λ (xs : List Name). right_rule w xs e.right x e.clock.steps (Under s e.resets) t) left) (holds _ h here) (holds _ r right)
  means_thing thing r holds (defines_output node x e s h body is several input here right) =
      defined_variable w rows s t node x e _ (now h) _ body is input
      (ap (λ (b : Bool). if b then answer_to (Gives e.right e.clock.steps (Under s e.resets) t) else answer_to (Output e.right (place_in x e.left) e.clock.steps (Under s e.resets) t)) several)
      (holds _ h here) (holds _ r right)
  means_thing thing r holds (variable_under x s resets at) =
      let a = holds _ r at in
      record { answer = a.answer; known = under w rows s resets t x a.answer a.known; shown = a.shown }
  means_thing thing r holds (here_under c s resets here) =
      let a = holds _ r here in
      record { answer = a.answer; known = present_under w rows s resets t c _ a.known; shown = a.shown }
  means_thing thing r holds (again_under s again) = again_without w rows s t _ (holds _ r again)
  means_thing thing r holds (here_called c s place args text here) =
      let a = holds _ r here in
      record { answer = a.answer; known = present_called w rows c s place args text t a.answer a.known; shown = a.shown }
  means_thing thing r holds (again_called c s place args text again) = again_in_call w rows c s place args text t _ (holds _ r again)
  means_thing thing r holds (argument node x a c s place args h input free at here of_a) =
      argument_has w rows t node x a c s place args (now h) _ input free at (holds _ h here) (holds _ r of_a)
  means_thing thing r holds (result e f args text j c s h q is called counted here body) =
      result_has w rows t e f args text j c s (now h) _ is (known.ground.nodes f text called) (known.counted q _ counted) (known.no_reply q _ counted) (holds _ h here) (holds _ r body)
  means_thing thing r holds (async_call e queue f args c s h is here of_e) =
      by_form w rows s t (now h) _ e c (Form-F.AsyncCall queue f args) (holds _ h here) is (comes_by w rows _ _ (holds _ r of_e))
  means_thing thing r holds (call e f args c s h is here of_e) =
      by_form w rows s t (now h) _ e c (Form-F.Call f args) (holds _ h here) is (comes_by w rows _ _ (holds _ r of_e))

pub makes_holds : MakesHolds
makes_holds w rows t g cells now entries o thing known holds makes = makes_thing w rows t g cells now known entries o thing holds makes

pub means_holds : MeansHolds
means_holds w rows t g cells now entries thing r known holds means = means_thing w rows t g cells now known entries thing r holds means

-- ---- building: one step more at the end

pub one_action_more : OneActionMore
one_action_more g sites offerings p q last actions a made does = action does made
one_action_more g sites offerings p q last (b ∷ actions) a (action first rest) does = action first (one_action_more g sites offerings _ q last actions a rest does)
one_action_more g sites offerings p q last actions a (also more rest) does = also more (one_action_more g sites offerings _ q last actions a rest does)

pub one_meaning_more : OneMeaningMore
one_meaning_more g sites offerings p q last actions made more = also more made
one_meaning_more g sites offerings p q last (b ∷ actions) (action first rest) more = action first (one_meaning_more g sites offerings _ q last actions rest more)
one_meaning_more g sites offerings p q last actions (also other rest) more = also other (one_meaning_more g sites offerings _ q last actions rest more)
