-- Presence, activity and restarts of scopes, and of those inside them.
use Rattle.std.proofs.Common.{◌≡◌, ◌≢◌, ℕ, Bool, true, false, List, [], ◌∷◌, ◌++◌, refl, sym, ap, ◌∙◌}
use Rattle.std.specs.Prelude.{if◌then◌else◌}
use Rattle.hept_ast.specs.Texts.{Name, tag_value}
use Rattle.hept_ast.specs.Scopes.{Clock, Text, Scope, Top, Called, In_branch, In_body, In_state, Under}
use Rattle.hept_ast.specs.Meaning.{Question, Gives, Variable, Present, Active, Restarted, Active_state, Answer, Unknown, Absent, Is, Rule, Says, Asks, is_true, is_value, is_state, rule, steps_hold, some_true, Defines, if_defined, defines_rule}
use Rattle.hept_ast.specs.Outputs.{Knows, Follows, said, asked}
use Rattle.hept_ast.proofs.Depths.{one_answer, by_rule, to_rule}
use Rattle.hept_ast.specs.declared.tree.Expr.{Expr}
use Rattle.std.specs.List.{flat_map}
use Rattle.hept_ast.specs.declared.tree.Equation.{Equation, out-Equation}
use Rattle.hept_ast.specs.declared.tree.Equation.TheOpen.{Equation-F}
use Rattle.hept_ast.specs.declared.tree.Block.{Block}
use Rattle.hept_ast.specs.declared.tree.Branch.{Branch}
use Rattle.hept_ast.specs.declared.tree.State.{State}
use Rattle.hept_ast.specs.declared.tree.ClockStep.{ClockStep}
use Rattle.accepted_meaning.specs.Running.{Run, setting_of, IsKnown}
use Rattle.accepted_meaning.proofs.FitsWords.{Ends, says, asks, ends, every, if_ends, ends_map, on_true, IsTruth, truth_is, is_differ, as_is, EarlierBy}

abbrev pub Known : Run → Question → Answer → Type 0
Known r = Knows (setting_of r) r.rows

-- what each answer of its rule has, a known answer has
pub of_known : (r : Run) (P : Answer → Type 0) (q : Question) (a : Answer) → Ends (Known r) r.rows P (rule (setting_of r) q) → IsKnown r q a → P a
of_known r P q a e h = ends (Known r) r.rows P (rule (setting_of r) q) a e (by_rule (setting_of r) r.rows q a h) h.known

pub known_by : (r : Run) (q : Question) (a : Answer) → Follows (Known r) r.rows (rule (setting_of r) q) a → a ≢ Unknown → IsKnown r q a
known_by r q a f known = to_rule (setting_of r) r.rows q a f known

pub same_answer : (r : Run) (q : Question) (a b : Answer) → IsKnown r q a → IsKnown r q b → a ≡ b
same_answer r q a b h k = one_answer (setting_of r) r.rows q a b h k

pub not_both : (r : Run) (q : Question) → IsKnown r q (Is true) → IsKnown r q (Is false) → ⊥
not_both r q h k = is_differ (Is true) refl (same_answer r q (Is true) (Is false) h k)

-- ---- truth values

truth_of : (b : Bool) → IsTruth (Is b)
truth_of b = record { truth = b; is = refl }

steps_truth : (r : Run) (c : Clock) (s : Scope) (t : ℕ) → Ends (Known r) r.rows IsTruth (steps_hold (setting_of r) c s t)
steps_truth r [] s t = says (truth_of true)
steps_truth r (step ∷ c) s t = asks (λ a k. if_ends (is_value (tag_value (setting_of r).types step.tag) a) (λ e. steps_truth r c s t) (λ e. says (truth_of false)))

pub present_truth : (r : Run) (c : Clock) (s : Scope) (t : ℕ) (a : Answer) → IsKnown r (Present c s t) a → IsTruth a
present_truth r c s t a h = of_known r IsTruth (Present c s t) a (asks (λ b k. if_ends (is_true b) (λ e. steps_truth r c s t) (λ e. says (truth_of false)))) h

pub active_truth : (r : Run) (s : Scope) (t : ℕ) (a : Answer) → IsKnown r (Active s t) a → IsTruth a
active_truth r (Top text) t a h = of_known r IsTruth (Active (Top text) t) a (says (truth_of true)) h
active_truth r (Called s clock place args text) t a h = of_known r IsTruth (Active (Called s clock place args text) t) a (asks (λ b k. says (present_truth r clock s t b k))) h
active_truth r (In_branch s on branch) t a h = of_known r IsTruth (Active (In_branch s on branch) t) a (asks (λ b k. says (truth_of _))) h
active_truth r (In_body s on block) t a h = of_known r IsTruth (Active (In_body s on block) t) a (asks (λ b k. says (active_truth r s t b k))) h
active_truth r (In_state s states j) t a h = of_known r IsTruth (Active (In_state s states j) t) a (asks (λ b k. says (truth_of _))) h
active_truth r (Under s resets) t a h = of_known r IsTruth (Active (Under s resets) t) a (asks (λ b k. says (active_truth r s t b k))) h

some_truth : (r : Run) (xs : List Name) (s : Scope) (t : ℕ) → Ends (Known r) r.rows IsTruth (some_true (setting_of r) xs s t)
some_truth r [] s t = says (truth_of false)
some_truth r (x ∷ xs) s t = asks (λ a k. if_ends (is_true a) (λ e. says (truth_of true)) (λ e. some_truth r xs s t))

pub restarted_truth : (r : Run) (s : Scope) (t : ℕ) (a : Answer) → IsKnown r (Restarted s t) a → IsTruth a
restarted_truth r (Top text) t a h = of_known r IsTruth (Restarted (Top text) t) a (says (truth_of _)) h
restarted_truth r (Called s clock place args text) t a h = of_known r IsTruth (Restarted (Called s clock place args text) t) a (asks (λ b k. says (restarted_truth r s t b k))) h
restarted_truth r (In_branch s on branch) t a h = of_known r IsTruth (Restarted (In_branch s on branch) t) a (asks (λ b k. says (restarted_truth r s t b k))) h
restarted_truth r (In_body s on block) t a h =
    of_known r IsTruth (Restarted (In_body s on block) t) a (asks (λ b k. if_ends (is_true b) (λ e. says (truth_of true)) (λ e. asks (λ d l. says (truth_of _))))) h
restarted_truth r (In_state s states j) t a h =
    of_known r IsTruth (Restarted (In_state s states j) t) a (asks (λ b k. if_ends (is_true b) (λ e. says (truth_of true)) (λ e. asks (λ d l. says (truth_of _))))) h
restarted_truth r (Under s resets) t a h =
    of_known r IsTruth (Restarted (Under s resets) t) a (asks (λ b k. if_ends (is_true b) (λ e. says (truth_of true)) (λ e. some_truth r resets s t))) h

if_defined_truth : (r : Run) (x : Name) (es : List Equation) → Ends (Known r) r.rows IsTruth (if_defined x es (λ yes. Says (Is yes)))
if_defined_truth r x [] = says (truth_of false)
if_defined_truth r x (e ∷ es) = asks (λ a k. if_ends (is_true a) (λ y. says (truth_of true)) (λ n. if_defined_truth r x es))

defines_ends : (r : Run) (x : Name) (v : Equation-F Equation Block Branch State) → Ends (Known r) r.rows IsTruth (defines_rule (setting_of r) v x)
defines_ends r x (Equation-F.Define p left right) = says (truth_of _)
defines_ends r x (Equation-F.Switch p on branches) = if_defined_truth r x (flat_map (λ b. b.block.body) branches)
defines_ends r x (Equation-F.Reset p block every) = if_defined_truth r x block.body
defines_ends r x (Equation-F.Automaton p states) = if_defined_truth r x (flat_map (λ q. q.block.body) states)

pub defines_truth_of : (r : Run) (x : Name) (e : Equation) (a : Answer) → IsKnown r (Defines x e) a → IsTruth a
defines_truth_of r x e a h = of_known r IsTruth (Defines x e) a (defines_ends r x (out-Equation e)) h

-- ---- presence and activity

false_is_true : Is false ≡ Is true → ⊥
false_is_true e = cc

pub active_of : (r : Run) (c : Clock) (s : Scope) (t : ℕ) → IsKnown r (Present c s t) (Is true) → IsKnown r (Active s t) (Is true)
active_of r c s t h = of_known r (λ a. a ≡ Is true → IsKnown r (Active s t) (Is true)) (Present c s t) (Is true)
    (asks (λ b k. if_ends (is_true b)
    (λ e. every (Known r) r.rows (λ a. a ≡ Is true → IsKnown r (Active s t) (Is true)) _ (λ a f. as_is r (Active s t) b (Is true) (truth_is b true (active_truth r s t b k) e) k))
    (λ e. says (λ f. absurd (false_is_true f))))) h refl

pub base_present : (r : Run) (s : Scope) (t : ℕ) → IsKnown r (Active s t) (Is true) → IsKnown r (Present [] s t) (Is true)
base_present r s t h = known_by r (Present [] s t) (Is true) (asked h said) (λ e. cc)

pub off_present : (r : Run) (c : Clock) (s : Scope) (t : ℕ) → IsKnown r (Active s t) (Is false) → IsKnown r (Present c s t) (Is false)
off_present r c s t h = known_by r (Present c s t) (Is false) (asked h said) (λ e. cc)

pub base_off : (r : Run) (s : Scope) (t : ℕ) → IsKnown r (Present [] s t) (Is false) → IsKnown r (Active s t) (Is false)
base_off r s t h = of_known r (λ a. a ≡ Is false → IsKnown r (Active s t) (Is false)) (Present [] s t) (Is false)
    (asks (λ b k. if_ends (is_true b)
    (λ e. says (λ f. absurd (false_is_true (sym f))))
    (λ e. says (λ f. as_is r (Active s t) b (Is false) (truth_is b false (active_truth r s t b k) e) k)))) h refl

-- what gives anything is present
pub present_of_gives : (r : Run) (e : Expr) (c : Clock) (s : Scope) (t : ℕ) (a : Answer) → IsKnown r (Gives e c s t) a → a ≢ Absent → IsKnown r (Present c s t) (Is true)
present_of_gives r e c s t a h = of_known r (λ x. x ≢ Absent → IsKnown r (Present c s t) (Is true)) (Gives e c s t) a
    (asks (λ b k. if_ends (is_true b)
    (λ f. every (Known r) r.rows (λ x. x ≢ Absent → IsKnown r (Present c s t) (Is true)) _ (λ x g. as_is r (Present c s t) b (Is true) (truth_is b true (present_truth r c s t b k) f) k))
    (λ f. says (λ g. absurd (g refl))))) h

pub active_of_state : (r : Run) (s : Scope) (states : List State) (t : ℕ) (a : Answer) → IsKnown r (Active_state s states t) a → a ≢ Absent → IsKnown r (Active s t) (Is true)
active_of_state r s states t a h = of_known r (λ x. x ≢ Absent → IsKnown r (Active s t) (Is true)) (Active_state s states t) a
    (asks (λ b k. if_ends (is_true b)
    (λ f. every (Known r) r.rows (λ x. x ≢ Absent → IsKnown r (Active s t) (Is true)) _ (λ x g. as_is r (Active s t) b (Is true) (truth_is b true (active_truth r s t b k) f) k))
    (λ f. says (λ g. absurd (g refl))))) h

pub off_gives : (r : Run) (e : Expr) (c : Clock) (s : Scope) (t : ℕ) → IsKnown r (Present c s t) (Is false) → IsKnown r (Gives e c s t) Absent
off_gives r e c s t h = known_by r (Gives e c s t) Absent (asked h said) (λ f. cc)

pub off_state : (r : Run) (s : Scope) (states : List State) (t : ℕ) → IsKnown r (Active s t) (Is false) → IsKnown r (Active_state s states t) Absent
off_state r s states t h = known_by r (Active_state s states t) Absent (asked h said) (λ f. cc)

-- ---- scopes inside

value_not_absent : (v : ℕ) (a : Answer) → Is (is_value v a) ≡ Is true → a ≢ Absent
value_not_absent v a e f = let g : Is (is_value v Absent) ≡ Is true = sym (ap (λ x. Is (is_value v x)) f) ∙ e in false_is_true g

state_not_absent : (j : ℕ) (a : Answer) → Is (is_state j a) ≡ Is true → a ≢ Absent
state_not_absent j a e f = let g : Is (is_state j Absent) ≡ Is true = sym (ap (λ x. Is (is_state j x)) f) ∙ e in false_is_true g

pub branch_active : (r : Run) (s : Scope) (on : Expr) (b : Branch) (t : ℕ) → IsKnown r (Active (In_branch s on b) t) (Is true) → IsKnown r (Active s t) (Is true)
branch_active r s on b t h = of_known r (λ a. a ≡ Is true → IsKnown r (Active s t) (Is true)) (Active (In_branch s on b) t) (Is true)
    (asks (λ a k. says (λ e. active_of r [] s t (present_of_gives r on [] s t a k (value_not_absent _ a e))))) h refl

pub body_active : (r : Run) (s : Scope) (on : Expr) (block : Block) (t : ℕ) → IsKnown r (Active (In_body s on block) t) (Is true) → IsKnown r (Active s t) (Is true)
body_active r s on block t h = of_known r (λ a. a ≡ Is true → IsKnown r (Active s t) (Is true)) (Active (In_body s on block) t) (Is true)
    (asks (λ a k. says (λ e. as_is r (Active s t) a (Is true) e k))) h refl

pub state_active : (r : Run) (s : Scope) (states : List State) (j t : ℕ) → IsKnown r (Active (In_state s states j) t) (Is true) → IsKnown r (Active s t) (Is true)
state_active r s states j t h = of_known r (λ a. a ≡ Is true → IsKnown r (Active s t) (Is true)) (Active (In_state s states j) t) (Is true)
    (asks (λ a k. says (λ e. active_of_state r s states t a k (state_not_absent j a e)))) h refl

pub called_active : (r : Run) (s : Scope) (c : Clock) (place : ℕ) (args : List Expr) (text : Text) (t : ℕ) (b : Bool) →
    IsKnown r (Active (Called s c place args text) t) (Is b) → IsKnown r (Present c s t) (Is b)
called_active r s c place args text t b h = of_known r (λ a. a ≡ Is b → IsKnown r (Present c s t) (Is b)) (Active (Called s c place args text) t) (Is b)
    (asks (λ a k. says (λ e. as_is r (Present c s t) a (Is b) e k))) h refl

pub branch_off : (r : Run) (s : Scope) (on : Expr) (b : Branch) (t : ℕ) → IsKnown r (Active s t) (Is false) → IsKnown r (Active (In_branch s on b) t) (Is false)
branch_off r s on b t h = known_by r (Active (In_branch s on b) t) (Is false) (asked (off_gives r on [] s t (off_present r [] s t h)) said) (λ f. cc)

pub body_on : (r : Run) (s : Scope) (on : Expr) (block : Block) (t : ℕ) (a : Answer) → IsKnown r (Active s t) a → IsKnown r (Active (In_body s on block) t) a
body_on r s on block t a h = known_by r (Active (In_body s on block) t) a (asked h said) h.known

pub state_off : (r : Run) (s : Scope) (states : List State) (j t : ℕ) → IsKnown r (Active s t) (Is false) → IsKnown r (Active (In_state s states j) t) (Is false)
state_off r s states j t h = known_by r (Active (In_state s states j) t) (Is false) (asked (off_state r s states t h) said) (λ f. cc)

-- restarts of a scope restart those inside it
pub branch_quiet : (r : Run) (s : Scope) (on : Expr) (b : Branch) (t : ℕ) → IsKnown r (Restarted (In_branch s on b) t) (Is false) → IsKnown r (Restarted s t) (Is false)
branch_quiet r s on b t h = of_known r (λ a. a ≡ Is false → IsKnown r (Restarted s t) (Is false)) (Restarted (In_branch s on b) t) (Is false)
    (asks (λ a k. says (λ e. as_is r (Restarted s t) a (Is false) e k))) h refl

too_quiet : (r : Run) (s : Scope) (t : ℕ) (d : Rule) →
    Ends (Known r) r.rows (λ a. a ≡ Is false → IsKnown r (Restarted s t) (Is false)) (Asks (Restarted s t) (λ a. if is_true a then Says (Is true) else d))
too_quiet r s t d = asks (λ a k. if_ends (is_true a) (λ e. says (λ f. absurd (false_is_true (sym f))))
    (λ e. every (Known r) r.rows (λ x. x ≡ Is false → IsKnown r (Restarted s t) (Is false)) d (λ x f. as_is r (Restarted s t) a (Is false) (truth_is a false (restarted_truth r s t a k) e) k)))

pub body_quiet : (r : Run) (s : Scope) (on : Expr) (block : Block) (t : ℕ) → IsKnown r (Restarted (In_body s on block) t) (Is false) → IsKnown r (Restarted s t) (Is false)
body_quiet r s on block t h = of_known r (λ a. a ≡ Is false → IsKnown r (Restarted s t) (Is false)) (Restarted (In_body s on block) t) (Is false) (too_quiet r s t _) h refl

pub state_quiet : (r : Run) (s : Scope) (states : List State) (j t : ℕ) → IsKnown r (Restarted (In_state s states j) t) (Is false) → IsKnown r (Restarted s t) (Is false)
state_quiet r s states j t h = of_known r (λ a. a ≡ Is false → IsKnown r (Restarted s t) (Is false)) (Restarted (In_state s states j) t) (Is false) (too_quiet r s t _) h refl

-- ---- earlier instants of a clock

abbrev pub Earlier : Run → Clock → Scope → ℕ → Type 0
Earlier r c s t = EarlierBy r (λ p. Present c s p) (λ p. Restarted s p) t

pub earlier_map : (r : Run) (c d : Clock) (s u : Scope) (t : ℕ) → ((p : ℕ) → IsKnown r (Present c s p) (Is true) → IsKnown r (Present d u p) (Is true)) →
    ((p : ℕ) → IsKnown r (Restarted s p) (Is false) → IsKnown r (Restarted u p) (Is false)) → Earlier r c s t → Earlier r d u t
earlier_map r c d s u t h k e = record { instant = e.instant; before = e.before; there = h e.instant e.there; quiet = λ q low high. k q (e.quiet q low high) }

-- ---- one more step of a clock

abbrev step_value : Run → ClockStep → ℕ
step_value r step = tag_value (setting_of r).types step.tag

pub steps_front : (r : Run) (c : Clock) (step : ClockStep) (s : Scope) (t : ℕ) →
    Ends (Known r) r.rows (λ a. a ≡ Is true → Follows (Known r) r.rows (steps_hold (setting_of r) c s t) (Is true)) (steps_hold (setting_of r) (c ++ step ∷ []) s t)
steps_front r [] step s t = every (Known r) r.rows _ _ (λ a e. said)
steps_front r (first ∷ c) step s t = asks (λ a k. if_ends (is_value (step_value r first) a)
    (λ e. ends_map (Known r) r.rows (λ x. x ≡ Is true → Follows (Known r) r.rows (steps_hold (setting_of r) c s t) (Is true)) _ _
    (λ x h f. asked k (on_true (is_value (step_value r first) a) _ e (h f))) (steps_front r c step s t))
    (λ e. says (λ f. absurd (false_is_true f))))

pub present_front : (r : Run) (c : Clock) (step : ClockStep) (s : Scope) (t : ℕ) → IsKnown r (Present (c ++ step ∷ []) s t) (Is true) → IsKnown r (Present c s t) (Is true)
present_front r c step s t h = of_known r (λ a. a ≡ Is true → IsKnown r (Present c s t) (Is true)) (Present (c ++ step ∷ []) s t) (Is true)
    (asks (λ b k. if_ends (is_true b)
    (λ e. ends_map (Known r) r.rows (λ x. x ≡ Is true → Follows (Known r) r.rows (steps_hold (setting_of r) c s t) (Is true)) _ _
    (λ x g f. known_by r (Present c s t) (Is true) (asked k (on_true (is_true b) _ e (g f))) (λ i. cc)) (steps_front r c step s t))
    (λ e. says (λ f. absurd (false_is_true f))))) h refl

steps_more : (r : Run) (c : Clock) (step : ClockStep) (s : Scope) (t : ℕ) (b : Answer) → IsKnown r (Variable step.name s t) b → is_value (step_value r step) b ≡ true →
    Ends (Known r) r.rows (λ a. a ≡ Is true → Follows (Known r) r.rows (steps_hold (setting_of r) (c ++ step ∷ []) s t) (Is true)) (steps_hold (setting_of r) c s t)
steps_more r [] step s t b k e = says (λ f. asked k (on_true (is_value (step_value r step) b) _ e said))
steps_more r (first ∷ c) step s t b l i = asks (λ a k. if_ends (is_value (step_value r first) a)
    (λ e. ends_map (Known r) r.rows (λ x. x ≡ Is true → Follows (Known r) r.rows (steps_hold (setting_of r) (c ++ step ∷ []) s t) (Is true)) _ _
    (λ x h f. asked k (on_true (is_value (step_value r first) a) _ e (h f))) (steps_more r c step s t b l i))
    (λ e. says (λ f. absurd (false_is_true f))))

pub present_more : (r : Run) (c : Clock) (step : ClockStep) (s : Scope) (t : ℕ) (b : Answer) → IsKnown r (Variable step.name s t) b → is_value (step_value r step) b ≡ true →
    IsKnown r (Present c s t) (Is true) → IsKnown r (Present (c ++ step ∷ []) s t) (Is true)
present_more r c step s t b l i h = of_known r (λ a. a ≡ Is true → IsKnown r (Present (c ++ step ∷ []) s t) (Is true)) (Present c s t) (Is true)
    (asks (λ a k. if_ends (is_true a)
    (λ e. ends_map (Known r) r.rows (λ x. x ≡ Is true → Follows (Known r) r.rows (steps_hold (setting_of r) (c ++ step ∷ []) s t) (Is true)) _ _
    (λ x g f. known_by r (Present (c ++ step ∷ []) s t) (Is true) (asked k (on_true (is_true a) _ e (g f))) (λ j. cc)) (steps_more r c step s t b l i))
    (λ e. says (λ f. absurd (false_is_true f))))) h refl
