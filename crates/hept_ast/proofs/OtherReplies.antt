-- Settings that differ in their replies have the same rules, but for the outputs of calls.
use Rattle.std.proofs.Common.{◌≡◌, ℕ, ◌-◌, Bool, true, false, List, [], ◌∷◌, ◌++◌, Option, Some, None, length, take, refl, sym, ap, subst, ◌∙◌}
use Rattle.std.specs.Prelude.{if◌then◌else◌, ◌==◌, slice_get}
use Rattle.std.specs.List.{find, flat_map}
use Rattle.hept_ast.specs.Texts.{Name, same, is_in, place_in, tag_value, branch_of}
use Rattle.hept_ast.specs.Scopes.{Clock, Text, Written, Lowered, Scope, Top, Called, In_branch, In_body, In_state, Under, inputs_of, text_of, block_of, state_block, declared_in, declares, home, equation_of}
use Rattle.hept_ast.specs.Meaning.{Question, Gives, Output, Variable, Last, Defined, Present, Restarted, Left_state, Answer, Unknown, Absent, Nil, Value, Is, State_at, Rule, Says, Reads, Asks, Setting, is_true, is_value, answer_to, go_on, go_on_state, on_state, if_present, previous, if_defined, clock_in, clock_seen, steps_hold, before, merged, form_rule, right_rule, defined_or_last, branch_rule, equation_rule, defines_rule, block_rule, core_rule, defined_rule, argument_rule, own_rule, variable_rule, constant_of, initial_rule, last_rule, taken, strong_of, weak_of, from_pending, active_state_rule, left_state_rule, active_rule, some_true, restarted_too, restarted_rule, rule}
use Rattle.hept_ast.specs.Transfer as track
use Rattle.hept_ast.specs.Transfer.{Tracks}
use Rattle.hept_ast.proofs.Transfer.{previous_tracks}
use Rattle.hept_ast.specs.declared.tree.Expr.{Expr}
use Rattle.hept_ast.specs.declared.tree.MergeBranch.{MergeBranch}
use Rattle.hept_ast.specs.declared.tree.Form.{Form, out-Form}
use Rattle.hept_ast.specs.declared.tree.Form.TheOpen.{Form-F}
use Rattle.hept_ast.specs.declared.tree.Decl.{Decl}
use Rattle.hept_ast.specs.declared.tree.Init.{Init}
use Rattle.hept_ast.specs.declared.tree.Escape.{Escape}
use Rattle.hept_ast.specs.declared.tree.Block.{Block}
use Rattle.hept_ast.specs.declared.tree.Branch.{Branch}
use Rattle.hept_ast.specs.declared.tree.State.{State}
use Rattle.hept_ast.specs.declared.tree.Equation.{Equation, out-Equation}
use Rattle.hept_ast.specs.declared.tree.Equation.TheOpen.{Equation-F}
use Rattle.hept_ast.specs.declared.tree.CoreEquation.{CoreEquation}
use Rattle.hept_ast.proofs.CallAlone.{Shape, Gives_at, Output_at, Variable_at, Last_at, Defined_at, Defines_at, Present_at, Active_at, Restarted_at, Active_state_at, Left_state_at, here}

-- a setting, and other replies
pub record Pair : Type 0 where
  pub w : Setting
  pub replies : List ℕ → ℕ → Option (List ℕ)

abbrev pub other : Pair → Setting
other c = record c.w { replies = c.replies }

abbrev pub Same : Question → Question → Type 0
Same q p = q ≡ p

-- two rules that go step by step alike
pub record Leads (c : Pair) (d d' : Rule) : Type 0 where
  pub tracks : Tracks Same d d'

abbrev pub IsNoOutput : Question → Type 0
IsNoOutput (Output e j clock s t) = ⊥
IsNoOutput _ = Unit {0}

-- ---- words

says : {c : Pair} {b : Answer} → Leads c (Says b) (Says b)
says = record { tracks = track.says }

anything : {c : Pair} {d : Rule} → Leads c (Says Unknown) d
anything = record { tracks = track.unknown }

reads : {c : Pair} (t j : ℕ) → Leads c (Reads t j) (Reads t j)
reads t j = record { tracks = track.reads }

asks : {c : Pair} (t : ℕ) (shape : Shape) {go go' : Answer → Rule} → ((x : Answer) → Leads c (go x) (go' x)) → Leads c (Asks (here shape t) go) (Asks (here shape t) go')
asks t shape l = record { tracks = track.asks refl (λ a. (l a).tracks) }

if_leads : {c : Pair} (b : Bool) {d e d' e' : Rule} → Leads c d d' → Leads c e e' → Leads c (if b then d else e) (if b then d' else e')
if_leads true h k = h
if_leads false h k = k

go_on_leads : {c : Pair} (a : Answer) {go go' : ℕ → Rule} → ((v : ℕ) → Leads c (go v) (go' v)) → Leads c (go_on a go) (go_on a go')
go_on_leads (Value v) h = h v
go_on_leads Absent h = says
go_on_leads Nil h = says
go_on_leads Unknown h = says
go_on_leads (Is b) h = says
go_on_leads (State_at k m) h = says

go_on_state_leads : {c : Pair} (a : Answer) {go go' : ℕ → Bool → Rule} → ((k : ℕ) (m : Bool) → Leads c (go k m) (go' k m)) → Leads c (go_on_state a go) (go_on_state a go')
go_on_state_leads (State_at k m) h = h k m
go_on_state_leads Absent h = says
go_on_state_leads Nil h = says
go_on_state_leads Unknown h = says
go_on_state_leads (Value v) h = says
go_on_state_leads (Is b) h = says

back : {c : Pair} (t : ℕ) (shape : Shape) (s : Scope) (go go' : ℕ → Rule) (none none' : Rule) → ((u : ℕ) → Leads c (go u) (go' u)) → Leads c none none' →
    Leads c (previous (here shape) (λ p. Restarted s p) go none t) (previous (here shape) (λ p. Restarted s p) go' none' t)
back t shape s go go' none none' goes nones =
    record { tracks = previous_tracks (here shape) (λ p. Restarted s p) (here shape) (λ p. Restarted s p) t (λ p. refl) (λ p. refl) (λ p. (goes p).tracks) nones.tracks }

-- ---- what does not look at replies

same_clock : (c : Pair) (text : Text) (x : Name) → clock_in c.w text x ≡ clock_in (other c) text x
same_clock c (Written n node) x = refl
same_clock c (Lowered node) x = refl

same_seen : (c : Pair) (x : Name) (s : Scope) → clock_seen c.w x s ≡ clock_seen (other c) x s
same_seen c x (Top text) = ap (λ (q : Clock). if declares (Top text) x then q else []) (same_clock c text x)
same_seen c x (Called s clock p args text) = ap (λ (q : Clock). if declares (Called s clock p args text) x then q else []) (same_clock c text x)
same_seen c x (In_branch s on b) = ap (λ (q : Clock). if declares (In_branch s on b) x then q else []) (same_clock c (text_of s) x)
same_seen c x (In_body s every block) =
    ap (λ (q : Clock). if declares (In_body s every block) x then q else clock_seen c.w x s) (same_clock c (text_of s) x)
    ∙ ap (λ (q : Clock). if declares (In_body s every block) x then clock_in (other c) (text_of s) x else q) (same_seen c x s)
same_seen c x (In_state s states n) = ap (λ (q : Clock). if declares (In_state s states n) x then q else []) (same_clock c (text_of s) x)
same_seen c x (Under s resets) = refl

-- ---- rules

present_leads : {c : Pair} (t : ℕ) → (clock : Clock) (s : Scope) → {d d' : Rule} → Leads c d d' →
    Leads c (if_present (Present clock s t) d) (if_present (Present clock s t) d')
present_leads {c} t clock s l = asks t (Present_at clock s) (λ a. if_leads (is_true a) l says)

steps_leads : {c : Pair} (t : ℕ) → (clock : Clock) (s : Scope) → Leads c (steps_hold c.w clock s t) (steps_hold (other c) clock s t)
steps_leads {c} t [] s = says
steps_leads {c} t (one ∷ steps) s = asks t (Variable_at one.name s) (λ a. if_leads (is_value (tag_value c.w.types one.tag) a) (steps_leads t steps s) says)

merged_leads : {c : Pair} (t : ℕ) → (b : Option MergeBranch) (x : Name) (clock : Clock) (s : Scope) →
    Leads c (merged c.w b x clock s t) (merged (other c) b x clock s t)
merged_leads {c} t None x clock s = anything
merged_leads {c} t (Some b) x clock s = asks t (Gives_at b.value (clock ++ record { tag = b.tag; name = x } ∷ []) s) (λ a. says)

before_leads : {c : Pair} (t : ℕ) → (clock : Clock) (s : Scope) (go go' : ℕ → Rule) (none none' : Rule) →
    ((u : ℕ) → Leads c (go u) (go' u)) → Leads c none none' →
    Leads c (before c.w clock s t go none) (before (other c) clock s t go' none')
before_leads {c} t clock s go go' none none' goes nones = back t (Present_at clock s) s go go' none none' goes nones

form_leads : {c : Pair} (t : ℕ) → (f : Form-F Form Expr MergeBranch) (e : Expr) (clock : Clock) (s : Scope) →
    Leads c (form_rule c.w f e clock s t) (form_rule (other c) f e clock s t)
form_leads {c} t (Form-F.Const k) e clock s = says
form_leads {c} t (Form-F.Var x) e clock s = asks t (Variable_at x s) (λ a. says)
form_leads {c} t (Form-F.Last x) e clock s = asks t (Last_at x s) (λ a. says)
form_leads {c} t (Form-F.Unary op a) e clock s = asks t (Gives_at a clock s) (λ x. go_on_leads x (λ v. says))
form_leads {c} t (Form-F.Binary op a b) e clock s = asks t (Gives_at a clock s) (λ x. go_on_leads x (λ u. asks t (Gives_at b clock s) (λ y. go_on_leads y (λ v. says))))
form_leads t (Form-F.If g a b) e clock s =
    asks t (Gives_at g clock s) (λ x. go_on_leads x (λ k. asks t (Gives_at a clock s) (λ y. go_on_leads y (λ u. asks t (Gives_at b clock s) (λ z. go_on_leads z (λ v. says))))))
form_leads {c} t (Form-F.Fby a b) e clock s =
    before_leads t clock s (λ p. answer_to (Gives b clock s p)) (λ p. answer_to (Gives b clock s p)) (answer_to (Gives a clock s t)) (answer_to (Gives a clock s t))
    (λ u. asks u (Gives_at b clock s) (λ x. says)) (asks t (Gives_at a clock s) (λ x. says))
form_leads {c} t (Form-F.Pre a) e clock s =
    before_leads t clock s (λ p. answer_to (Gives a clock s p)) (λ p. answer_to (Gives a clock s p)) (Says Nil) (Says Nil)
    (λ u. asks u (Gives_at a clock s) (λ x. says)) says
form_leads {c} t (Form-F.Arrow a b) e clock s =
    before_leads t clock s (λ p. answer_to (Gives b clock s t)) (λ p. answer_to (Gives b clock s t)) (answer_to (Gives a clock s t)) (answer_to (Gives a clock s t))
    (λ u. asks t (Gives_at b clock s) (λ x. says)) (asks t (Gives_at a clock s) (λ x. says))
form_leads {c} t (Form-F.When a tag x) e clock s = asks t (Gives_at a (take (length clock - 1) clock) s) (λ b. says)
form_leads {c} t (Form-F.Merge x branches) e clock s =
    asks t (Variable_at x s) (λ a. go_on_leads a (λ v. merged_leads t (find (λ b. tag_value c.w.types b.tag == v) branches) x clock s))
form_leads {c} t (Form-F.Call f args) e clock s = asks t (Output_at e 0 clock s) (λ a. says)
form_leads {c} t (Form-F.AsyncCall q f args) e clock s = asks t (Output_at e 0 clock s) (λ a. says)
form_leads {c} t (Form-F.AsyncConst k) e clock s = says
form_leads {c} t (Form-F.Get a) e clock s = asks t (Gives_at a clock s) (λ x. says)

-- ---- definitions

right_leads : {c : Pair} (t : ℕ) → (left : List Name) (right : Expr) (x : Name) (clock : Clock) (s : Scope) →
    Leads c (right_rule c.w left right x clock s t) (right_rule (other c) left right x clock s t)
right_leads {c} t left right x clock s =
    if_leads (length left == 1) (asks t (Gives_at right clock s) (λ a. says)) (asks t (Output_at right (place_in x left) clock s) (λ a. says))

defined_leads : {c : Pair} (t : ℕ) → (x : Name) (es : List Equation) {go go' : Bool → Rule} → ((b : Bool) → Leads c (go b) (go' b)) →
    Leads c (if_defined x es go) (if_defined x es go')
defined_leads {c} t x [] l = l false
defined_leads {c} t x (e ∷ es) l = asks t (Defines_at x e) (λ a. if_leads (is_true a) (l true) (defined_leads t x es l))

last_or_leads : {c : Pair} (t : ℕ) → (b : Block) (x : Name) (inner outer : Scope) →
    Leads c (defined_or_last c.w b x inner outer t) (defined_or_last (other c) b x inner outer t)
last_or_leads {c} t b x inner outer = defined_leads t x b.body (λ yes. if_leads yes (asks t (Defined_at x inner) (λ a. says)) (asks t (Last_at x outer) (λ a. says)))

branch_leads : {c : Pair} (t : ℕ) → (b : Option Branch) (on : Expr) (x : Name) (s : Scope) →
    Leads c (branch_rule c.w b on x s t) (branch_rule (other c) b on x s t)
branch_leads {c} t None on x s = anything
branch_leads {c} t (Some b) on x s = last_or_leads t b.block x (In_branch s on b) s

equation_leads : {c : Pair} (t : ℕ) → (f : Equation-F Equation Block Branch State) (x : Name) (s : Scope) →
    Leads c (equation_rule c.w f x s t) (equation_rule (other c) f x s t)
equation_leads {c} t (Equation-F.Define p left right) x s =
    subst (λ (q : Clock). Leads c (right_rule c.w left right x q s t) (right_rule (other c) left right x (clock_seen (other c) x s) s t))
    (sym (same_seen c x s)) (right_leads t left right x (clock_seen (other c) x s) s)
equation_leads {c} t (Equation-F.Switch p on branches) x s = asks t (Gives_at on [] s) (λ a. go_on_leads a (λ v. branch_leads t (branch_of c.w.types v branches) on x s))
equation_leads {c} t (Equation-F.Reset p block every) x s = asks t (Defined_at x (In_body s every block)) (λ a. says)
equation_leads {c} t (Equation-F.Automaton p states) x s =
    asks t (Active_state_at s states) (λ a. go_on_state_leads a (λ k m. last_or_leads t (state_block states k) x (In_state s states k) s))

block_leads : {c : Pair} (t : ℕ) → (es : List Equation) (x : Name) (s : Scope) →
    Leads c (block_rule c.w es x s t) (block_rule (other c) es x s t)
block_leads {c} t [] x s = anything
block_leads {c} t (e ∷ es) x s = asks t (Defines_at x e) (λ a. if_leads (is_true a) (equation_leads t (out-Equation e) x s) (block_leads t es x s))

core_leads : {c : Pair} (t : ℕ) → (e : Option CoreEquation) (x : Name) (s : Scope) →
    Leads c (core_rule c.w e x s t) (core_rule (other c) e x s t)
core_leads {c} t None x s = anything
core_leads {c} t (Some e) x s = right_leads t e.left e.right x e.clock.steps (Under s e.resets)

text_leads : {c : Pair} (t : ℕ) → (text : Text) (x : Name) (s : Scope) →
    Leads c (defined_rule c.w text x s t) (defined_rule (other c) text x s t)
text_leads {c} t (Written n node) x s = block_leads t (block_of s).body x s
text_leads {c} t (Lowered node) x s = core_leads t (equation_of node x) x s

defined_rule_leads : {c : Pair} (t : ℕ) → (x : Name) (s : Scope) →
    Leads c (rule c.w (Defined x s t)) (rule (other c) (Defined x s t))
defined_rule_leads {c} t x s = text_leads t (text_of s) x s

defines_leads : {c : Pair} (t : ℕ) → (f : Equation-F Equation Block Branch State) (x : Name) →
    Leads c (defines_rule c.w f x) (defines_rule (other c) f x)
defines_leads {c} t (Equation-F.Define p left right) x = says
defines_leads {c} t (Equation-F.Switch p on branches) x = defined_leads t x (flat_map (λ b. b.block.body) branches) (λ yes. says)
defines_leads {c} t (Equation-F.Reset p block every) x = defined_leads t x block.body (λ yes. says)
defines_leads {c} t (Equation-F.Automaton p states) x = defined_leads t x (flat_map (λ q. q.block.body) states) (λ yes. says)

-- ---- variables

inner_leads : {c : Pair} (t : ℕ) → (d : Option Expr) (clock : Clock) (s : Scope) →
    Leads c (argument_rule c.w d clock s t) (argument_rule (other c) d clock s t)
inner_leads {c} t None clock s = anything
inner_leads {c} t (Some e) clock s = asks t (Gives_at e clock s) (λ a. says)

own_leads : {c : Pair} (t : ℕ) → (s : Scope) (x : Name) → Leads c (own_rule c.w s x t) (own_rule (other c) s x t)
own_leads {c} t (Top text) x = if_leads (is_in x (inputs_of text)) (reads t (place_in x (inputs_of text))) (asks t (Defined_at x (Top text)) (λ a. says))
own_leads {c} t (Called s clock place args text) x =
    if_leads (is_in x (inputs_of text)) (inner_leads t (slice_get args (place_in x (inputs_of text))) clock s) (asks t (Defined_at x (Called s clock place args text)) (λ a. says))
own_leads {c} t (In_branch s on b) x = asks t (Defined_at x (In_branch s on b)) (λ a. says)
own_leads {c} t (In_body s every block) x = asks t (Defined_at x (In_body s every block)) (λ a. says)
own_leads {c} t (In_state s states k) x = asks t (Defined_at x (In_state s states k)) (λ a. says)
own_leads {c} t (Under s resets) x = asks t (Defined_at x (Under s resets)) (λ a. says)

variable_leads : {c : Pair} (t : ℕ) → (x : Name) (s : Scope) →
    Leads c (variable_rule c.w x s t) (variable_rule (other c) x s t)
variable_leads {c} t x s =
    subst (λ (q : Clock). Leads c (if_present (Present q s t) (own_rule c.w s x t)) (variable_rule (other c) x s t))
    (sym (same_clock c (text_of s) x))
    (present_leads t (clock_in (other c) (text_of s) x) s (own_leads t s x))

variable_rule_leads : {c : Pair} (t : ℕ) → (x : Name) (s : Scope) →
    Leads c (rule c.w (Variable x s t)) (rule (other c) (Variable x s t))
variable_rule_leads {c} t x s = variable_leads t x (home x s)

constant_leads : {c : Pair} (i : Option Init) → Leads c (constant_of c.w i) (constant_of (other c) i)
constant_leads None = anything
constant_leads (Some i) = says

initial_leads : {c : Pair} (d : Option Decl) → Leads c (initial_rule c.w d) (initial_rule (other c) d)
initial_leads None = anything
initial_leads (Some d) = constant_leads d.init

last_leads : {c : Pair} (t : ℕ) → (x : Name) (s : Scope) → Leads c (last_rule c.w x s t) (last_rule (other c) x s t)
last_leads {c} t x s = back t (Active_at s) s (λ p. answer_to (Variable x s p)) (λ p. answer_to (Variable x s p))
    (initial_rule c.w (find (λ d. same x d.name) (declared_in s))) (initial_rule (other c) (find (λ d. same x d.name) (declared_in s)))
    (λ u. asks u (Variable_at x s) (λ a. says)) (initial_leads (find (λ d. same x d.name) (declared_in s)))

last_rule_leads : {c : Pair} (t : ℕ) → (x : Name) (s : Scope) → Leads c (rule c.w (Last x s t)) (rule (other c) (Last x s t))
last_rule_leads t x s = last_leads t x (home x s)

-- ---- automata

taken_leads : {c : Pair} (t : ℕ) → (es : List Escape) (states : List State) (none : Answer) (s : Scope) →
    Leads c (taken c.w es states none s t) (taken (other c) es states none s t)
taken_leads {c} t [] states none s = says
taken_leads {c} t (e ∷ es) states none s = asks t (Gives_at e.condition [] s) (λ a. if_leads (is_true a) says (taken_leads t es states none s))

strong_is : (c : Pair) (q : Option State) → strong_of c.w q ≡ strong_of (other c) q
strong_is c None = refl
strong_is c (Some q) = refl

weak_is : (c : Pair) (q : Option State) → weak_of c.w q ≡ weak_of (other c) q
weak_is c None = refl
weak_is c (Some q) = refl

pending_leads : {c : Pair} (t : ℕ) → (s : Scope) (states : List State) (k : ℕ) (m : Bool) →
    Leads c (from_pending c.w s states t k m) (from_pending (other c) s states t k m)
pending_leads {c} t s states k m =
    subst (λ (es : List Escape). Leads c (taken c.w es states (State_at k m) s t) (from_pending (other c) s states t k m))
    (sym (strong_is c (slice_get states k))) (taken_leads t (strong_of (other c) (slice_get states k)) states (State_at k m) s)

active_state_leads : {c : Pair} (t : ℕ) → (s : Scope) (states : List State) →
    Leads c (active_state_rule c.w s states t) (active_state_rule (other c) s states t)
active_state_leads {c} t s states = asks t (Active_at s) (λ a. if_leads (is_true a) (back t (Active_at s) s
    (λ p. on_state (Left_state s states p) (from_pending c.w s states t)) (λ p. on_state (Left_state s states p) (from_pending (other c) s states t))
    (from_pending c.w s states t 0 false) (from_pending (other c) s states t 0 false)
    (λ u. asks u (Left_state_at s states) (λ b. go_on_state_leads b (λ n m. pending_leads t s states n m))) (pending_leads t s states 0 false)) says)

left_state_leads : {c : Pair} (t : ℕ) → (s : Scope) (states : List State) →
    Leads c (left_state_rule c.w s states t) (left_state_rule (other c) s states t)
left_state_leads {c} t s states = asks t (Active_state_at s states) (λ a. go_on_state_leads a (λ k m.
    subst (λ (es : List Escape). Leads c (taken c.w es states (State_at k false) (In_state s states k) t)
    (taken (other c) (weak_of (other c) (slice_get states k)) states (State_at k false) (In_state s states k) t))
    (sym (weak_is c (slice_get states k))) (taken_leads t (weak_of (other c) (slice_get states k)) states (State_at k false) (In_state s states k))))

-- ---- scopes

active_leads : {c : Pair} (t : ℕ) (s : Scope) → Leads c (active_rule c.w s t) (active_rule (other c) s t)
active_leads t (Top text) = says
active_leads t (Called s clock place args text) = asks t (Present_at clock s) (λ a. says)
active_leads t (In_branch s on b) = asks t (Gives_at on [] s) (λ a. says)
active_leads t (In_body s every block) = asks t (Active_at s) (λ a. says)
active_leads t (In_state s states k) = asks t (Active_state_at s states) (λ a. says)
active_leads t (Under s resets) = asks t (Active_at s) (λ a. says)

some_leads : {c : Pair} (t : ℕ) (xs : List Name) (s : Scope) → Leads c (some_true c.w xs s t) (some_true (other c) xs s t)
some_leads t [] s = says
some_leads t (x ∷ xs) s = asks t (Variable_at x s) (λ a. if_leads (is_true a) says (some_leads t xs s))

too_leads : {c : Pair} (t : ℕ) (s : Scope) {d d' : Rule} → Leads c d d' → Leads c (restarted_too c.w s t d) (restarted_too (other c) s t d')
too_leads t s l = asks t (Restarted_at s) (λ a. if_leads (is_true a) says l)

restarted_leads : {c : Pair} (t : ℕ) (s : Scope) → Leads c (restarted_rule c.w s t) (restarted_rule (other c) s t)
restarted_leads t (Top text) = says
restarted_leads t (Called s clock place args text) = asks t (Restarted_at s) (λ a. says)
restarted_leads t (In_branch s on b) = asks t (Restarted_at s) (λ a. says)
restarted_leads t (In_body s every block) = too_leads t s (asks t (Gives_at every [] s) (λ a. says))
restarted_leads t (In_state s states k) = too_leads t s (asks t (Active_state_at s states) (λ a. says))
restarted_leads t (Under s resets) = too_leads t s (some_leads t resets s)

-- ---- each rule

-- the rule of each question but of a call's outputs
pub rule_leads : (c : Pair) (shape : Shape) (t : ℕ) → IsNoOutput (here shape t) → Leads c (rule c.w (here shape t)) (rule (other c) (here shape t))
rule_leads c (Gives_at e clock s) t plain = present_leads t clock s (form_leads t (out-Form e.form) e clock s)
rule_leads c (Output_at e j clock s) t plain = absurd plain
rule_leads c (Variable_at x s) t plain = variable_rule_leads t x s
rule_leads c (Last_at x s) t plain = last_rule_leads t x s
rule_leads c (Defined_at x s) t plain = defined_rule_leads t x s
rule_leads c (Defines_at x e) t plain = defines_leads t (out-Equation e) x
rule_leads c (Present_at clock s) t plain = asks t (Active_at s) (λ b. if_leads (is_true b) (steps_leads t clock s) says)
rule_leads c (Active_at s) t plain = active_leads t s
rule_leads c (Restarted_at s) t plain = restarted_leads t s
rule_leads c (Active_state_at s states) t plain = active_state_leads t s states
rule_leads c (Left_state_at s states) t plain = left_state_leads t s states
