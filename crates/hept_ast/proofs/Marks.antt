-- A restart of the chosen node forgets what was before it: a run that begins there knows what the whole run knows.
use Rattle.std.proofs.Common.{◌≡◌, ◌≢◌, ℕ, zero, suc, ◌+◌, ◌-◌, Bool, true, false, List, [], ◌∷◌, ◌++◌, Option, Some, None, map, length, length-drop, drop, take, refl, sym, ap, subst, ◌∙◌, arith, zero-add}
use Rattle.std.specs.Prelude.{if◌then◌else◌, ◌==◌, ◌||◌, slice_get, slice_index_or}
use Rattle.std.specs.List.{find, flat_map}
use mathlib.Core.Path.{fun_ext}
use Rattle.hept_ast.specs.Texts.{Name, same, is_in, place_in, tag_value, branch_of}
use Rattle.hept_ast.specs.Scopes.{Clock, Text, Written, Lowered, Scope, Top, Called, In_branch, In_body, In_state, Under, inputs_of, outputs_of, text_of, block_of, state_block, declared_in, declares, home, calls_around, equation_of}
use Rattle.hept_ast.specs.Meaning.{Question, Gives, Variable, Last, Defined, Present, Restarted, Left_state, Answer, Unknown, Absent, Nil, Value, Is, State_at, Rule, Says, Reads, Asks, Setting, is_true, is_value, answer_to, test, go_on, go_on_state, on_state, if_present, previous, count_before, if_defined, clock_in, clock_seen, steps_hold, before, merged, form_rule, reply_or, output_rule, outputs_rule, right_rule, defined_or_last, branch_rule, equation_rule, defines_rule, block_rule, core_rule, defined_rule, argument_rule, own_rule, variable_rule, constant_of, initial_rule, last_rule, taken, strong_of, weak_of, from_pending, active_state_rule, left_state_rule, active_rule, some_true, restarted_too, restarted_rule, rule, input_at}
use Rattle.hept_ast.specs.Outputs.{Knows, Follows, said, read, asked, HaveValues, OutputsFrom, Outputs}
use Rattle.hept_ast.specs.Sites.{Site, argument_questions, SentFrom, end, no_call, call, Sent}
use Rattle.hept_ast.specs.Marks.{from_instant, HasNoReplies, OutputsFromMark, SentFromMark}
use Rattle.hept_ast.specs.declared.tree.Expr.{Expr}
use Rattle.hept_ast.specs.declared.tree.MergeBranch.{MergeBranch}
use Rattle.hept_ast.specs.declared.tree.Form.{Form, out-Form}
use Rattle.hept_ast.specs.declared.tree.Form.TheOpen.{Form-F}
use Rattle.hept_ast.specs.declared.tree.Decl.{Decl}
use Rattle.hept_ast.specs.declared.tree.Init.{Init}
use Rattle.hept_ast.specs.declared.tree.Escape.{Escape}
use Rattle.hept_ast.specs.declared.tree.Block.{Block}
use Rattle.hept_ast.specs.declared.tree.Branch.{Branch}
use Rattle.hept_ast.specs.declared.tree.State.{State}
use Rattle.hept_ast.specs.declared.tree.Equation.{Equation, out-Equation}
use Rattle.hept_ast.specs.declared.tree.Equation.TheOpen.{Equation-F}
use Rattle.hept_ast.specs.declared.tree.CoreEquation.{CoreEquation}
use Rattle.hept_ast.proofs.Depths.{to_rule, one_answer, induction}
use Rattle.hept_ast.proofs.OtherReplies.{IsNoOutput}
use Rattle.hept_ast.proofs.CallAlone.{Shape, Gives_at, Output_at, Variable_at, Last_at, Defined_at, Defines_at, Present_at, Active_at, Restarted_at, Active_state_at, Left_state_at, here}

-- instant t after instant n, by recursion on t
abbrev pub later : ℕ → ℕ → ℕ
later n zero = n
later n (suc t) = suc (later n t)

later_is : (n t : ℕ) → later n t ≡ n + t
later_is n zero = omega arith
later_is n (suc t) = ap suc (later_is n t) ∙ omega arith

later_first : (n t : ℕ) → later (suc n) t ≡ suc (later n t)
later_first n zero = refl
later_first n (suc t) = ap suc (later_first n t)

input_later : (n : ℕ) (rows : List (List ℕ)) (t j : ℕ) → input_at rows (later n t) j ≡ input_at (drop n rows) t j
input_later zero rows t j = ap (λ (k : ℕ). input_at rows k j) (later_is 0 t ∙ zero-add t)
input_later (suc n) [] t j = refl
input_later (suc n) (row ∷ rows) t j = ap (λ (k : ℕ). input_at (row ∷ rows) k j) (later_first n t) ∙ input_later n rows t j

-- a run, the instant of a mark, the rows, and the replies from there on
pub record Case : Type 0 where
  pub w : Setting
  pub n : ℕ
  pub rows : List (List ℕ)
  pub later_replies : List ℕ → ℕ → Option (List ℕ)
  pub mark : w.marked n ≡ true

abbrev pub after_mark : Case → Setting
after_mark c = record c.w { marked = λ t. c.w.marked (later c.n t); replies = c.later_replies }

-- no call has a reply, before the mark and from there on
pub record NoneReplied (c : Case) : Type 0 where
  pub before : (path : List ℕ) (k : ℕ) → c.w.replies path k ≡ None
  pub from_there : (path : List ℕ) (k : ℕ) → c.later_replies path k ≡ None

abbrev pub inputs : Case → List (List ℕ)
inputs c = drop c.n c.rows

abbrev pub K : Case → Question → Answer → Type 0
K c q a = Knows c.w c.rows q a × ((shape : Shape) (t : ℕ) → q ≡ here shape (later c.n t) → Knows (after_mark c) (inputs c) (here shape t) a)

abbrev pub Whole : Case → Rule → Answer → Type 0
Whole c d a = Follows (K c) c.rows d a

abbrev pub There : Case → Rule → Answer → Type 0
There c d a = Follows (Knows (after_mark c) (inputs c)) (inputs c) d a

pub record Leads (c : Case) (d d' : Rule) : Type 0 where
  pub leads : (a : Answer) → Whole c d a → a ≢ Unknown → There c d' a

-- ---- words

says_by : (c : Case) (b a : Answer) → Whole c (Says b) a → There c (Says b) a
says_by c b a said = said

pub says : {c : Case} {b : Answer} → Leads c (Says b) (Says b)
says {c} {b} = record { leads = λ a f known. says_by c b a f }

reads_by : (c : Case) (t j : ℕ) (a : Answer) → Whole c (Reads (later c.n t) j) a → There c (Reads t j) a
reads_by c t j a (read e) = read (sym (input_later c.n c.rows t j) ∙ e)

unknown_by : (c : Case) (d : Rule) (a : Answer) → Whole c (Says Unknown) a → a ≢ Unknown → There c d a
unknown_by c d a said known = absurd (known refl)

pub anything : {c : Case} {d : Rule} → Leads c (Says Unknown) d
anything {c} {d} = record { leads = λ a f known. unknown_by c d a f known }

reads : {c : Case} (t j : ℕ) → Leads c (Reads (later c.n t) j) (Reads t j)
reads {c} t j = record { leads = λ a f known. reads_by c t j a f }

asks_by : (c : Case) (t : ℕ) (shape : Shape) (go go' : Answer → Rule) → ((x : Answer) → Leads c (go x) (go' x)) →
    (a : Answer) → Whole c (Asks (here shape (later c.n t)) go) a → a ≢ Unknown → There c (Asks (here shape t) go') a
asks_by c t shape go go' l a (asked {a = x} k f) known = asked (k.1 shape t refl) ((l x).leads a f known)

pub asks : {c : Case} (t : ℕ) (shape : Shape) {go go' : Answer → Rule} → ((x : Answer) → Leads c (go x) (go' x)) → Leads c (Asks (here shape (later c.n t)) go) (Asks (here shape t) go')
asks {c} t shape {go} {go'} l = record { leads = λ a f known. asks_by c t shape go go' l a f known }

pub if_leads : {c : Case} (b : Bool) {d e d' e' : Rule} → Leads c d d' → Leads c e e' → Leads c (if b then d else e) (if b then d' else e')
if_leads true h k = h
if_leads false h k = k

go_on_leads : {c : Case} (a : Answer) {go go' : ℕ → Rule} → ((v : ℕ) → Leads c (go v) (go' v)) → Leads c (go_on a go) (go_on a go')
go_on_leads (Value v) h = h v
go_on_leads Absent h = says
go_on_leads Nil h = says
go_on_leads Unknown h = says
go_on_leads (Is b) h = says
go_on_leads (State_at k m) h = says

go_on_state_leads : {c : Case} (a : Answer) {go go' : ℕ → Bool → Rule} → ((k : ℕ) (m : Bool) → Leads c (go k m) (go' k m)) → Leads c (go_on_state a go) (go_on_state a go')
go_on_state_leads (State_at k m) h = h k m
go_on_state_leads Absent h = says
go_on_state_leads Nil h = says
go_on_state_leads Unknown h = says
go_on_state_leads (Value v) h = says
go_on_state_leads (Is b) h = says

-- ---- at the mark every scope is restarted

restarts : (c : Case) (s : Scope) → Knows c.w c.rows (Restarted s c.n) (Is true)
restarts c (Top text) = to_rule c.w c.rows _ _ (subst (λ (b : Bool). Follows (Knows c.w c.rows) c.rows (Says (Is (c.w.marked c.n))) (Is b)) c.mark said) (λ e. cc)
restarts c (Called s clock place args text) = to_rule c.w c.rows _ _ (asked (restarts c s) said) (λ e. cc)
restarts c (In_branch s on b) = to_rule c.w c.rows _ _ (asked (restarts c s) said) (λ e. cc)
restarts c (In_body s every block) = to_rule c.w c.rows _ _ (asked (restarts c s) said) (λ e. cc)
restarts c (In_state s states k) = to_rule c.w c.rows _ _ (asked (restarts c s) said) (λ e. cc)
restarts c (Under s resets) = to_rule c.w c.rows _ _ (asked (restarts c s) said) (λ e. cc)

-- ---- looking back

first_none : (c : Case) (n : ℕ) → n ≡ c.n → (present : ℕ → Question) (s : Scope) (go : ℕ → Rule) (none : Rule) (a : Answer) →
    Whole c (previous present (λ p. Restarted s p) go none n) a → Whole c none a
first_none c zero e present s go none a f = f
first_none c (suc p) e present s go none a (asked {a = x} k f) =
    let r : Knows c.w c.rows (Restarted s (suc p)) (Is true) = subst (λ (m : ℕ). Knows c.w c.rows (Restarted s m) (Is true)) (sym e) (restarts c s) in
    let is : x ≡ Is true = one_answer c.w c.rows _ _ _ k.0 r in
    subst (λ (y : Answer). Whole c (if is_true y then none else test (present p) (λ there. if there then go p else previous present (λ m. Restarted s m) go none p)) a) is f

back_if : (c : Case) (b : Bool) (d e d' e' : Rule) (a : Answer) → (Whole c d a → There c d' a) → (Whole c e a → There c e' a) → Whole c (if b then d else e) a → There c (if b then d' else e') a
back_if c true d e d' e' a l m f = l f
back_if c false d e d' e' a l m f = m f

back_then : (c : Case) (shape : Shape) (t : ℕ) (d e d' e' : Rule) (a : Answer) → (Whole c d a → There c d' a) → (Whole c e a → There c e' a) →
    Whole c (test (here shape (later c.n t)) (λ b. if b then d else e)) a → There c (test (here shape t) (λ b. if b then d' else e')) a
back_then c shape t d e d' e' a l m (asked {a = x} k f) = asked (k.1 shape t refl) (back_if c (is_true x) d e d' e' a l m f)

back_by : (c : Case) (shape : Shape) (s : Scope) (go go' : ℕ → Rule) (none none' : Rule) → ((u : ℕ) → Leads c (go (later c.n u)) (go' u)) → Leads c none none' →
    (t : ℕ) (a : Answer) → a ≢ Unknown → Whole c (previous (here shape) (λ p. Restarted s p) go none (later c.n t)) a → There c (previous (here shape) (λ p. Restarted s p) go' none' t) a
back_by c shape s go go' none none' goes nones zero a known f = nones.leads a (first_none c c.n refl (here shape) s go none a f) known
back_by c shape s go go' none none' goes nones (suc t) a known f =
    back_then c (Restarted_at s) (suc t) none _ none' _ a (λ g. nones.leads a g known)
    (λ g. back_then c shape t (go (later c.n t)) _ (go' t) _ a (λ h. (goes t).leads a h known) (λ h. back_by c shape s go go' none none' goes nones t a known h) g) f

back : {c : Case} (t : ℕ) (shape : Shape) (s : Scope) (go go' : ℕ → Rule) (none none' : Rule) → ((u : ℕ) → Leads c (go (later c.n u)) (go' u)) → Leads c none none' →
    Leads c (previous (here shape) (λ p. Restarted s p) go none (later c.n t)) (previous (here shape) (λ p. Restarted s p) go' none' t)
back {c} t shape s go go' none none' goes nones = record { leads = λ a f known. back_by c shape s go go' none none' goes nones t a known f }

-- ---- counting: without replies the number says nothing

counted : (c : Case) (n : ℕ) (present : ℕ → Question) (go : ℕ → Rule) (a : Answer) → Whole c (count_before present go n) a → (m : ℕ) × Whole c (go m) a
counted c zero present go a f = (0, f)
counted c (suc p) present go a (asked {a = x} k f) =
    let r : (m : ℕ) × Whole c (go (if is_true x then m + 1 else m)) a = counted c p present (λ m. go (if is_true x then m + 1 else m)) a f in
    (if is_true x then r.0 + 1 else r.0, r.1)

count_by : (c : Case) (shape : Shape) (t : ℕ) (go go' : ℕ → Rule) → ((m k : ℕ) → Leads c (go m) (go' k)) → (a : Answer) → a ≢ Unknown →
    Whole c (count_before (here shape) go (later c.n t)) a → There c (count_before (here shape) go' t) a
count_by c shape zero go go' l a known f = let r : (m : ℕ) × Whole c (go m) a = counted c c.n (here shape) go a f in (l r.0 0).leads a r.1 known
count_by c shape (suc t) go go' l a known (asked {a = x} k f) =
    asked (k.1 shape t refl) (count_by c shape t _ _ (λ m j. l (if is_true x then m + 1 else m) (if is_true x then j + 1 else j)) a known f)

pub count : {c : Case} (t : ℕ) (shape : Shape) {go go' : ℕ → Rule} → ((m k : ℕ) → Leads c (go m) (go' k)) → Leads c (count_before (here shape) go (later c.n t)) (count_before (here shape) go' t)
count {c} t shape {go} {go'} l = record { leads = λ a f known. count_by c shape t go go' l a known f }

-- ---- what does not look at marks

same_clock : (c : Case) (text : Text) (x : Name) → clock_in c.w text x ≡ clock_in (after_mark c) text x
same_clock c (Written n node) x = refl
same_clock c (Lowered node) x = refl

same_seen : (c : Case) (x : Name) (s : Scope) → clock_seen c.w x s ≡ clock_seen (after_mark c) x s
same_seen c x (Top text) = ap (λ (q : Clock). if declares (Top text) x then q else []) (same_clock c text x)
same_seen c x (Called s clock p args text) = ap (λ (q : Clock). if declares (Called s clock p args text) x then q else []) (same_clock c text x)
same_seen c x (In_branch s on b) = ap (λ (q : Clock). if declares (In_branch s on b) x then q else []) (same_clock c (text_of s) x)
same_seen c x (In_body s every block) =
    ap (λ (q : Clock). if declares (In_body s every block) x then q else clock_seen c.w x s) (same_clock c (text_of s) x)
    ∙ ap (λ (q : Clock). if declares (In_body s every block) x then clock_in (after_mark c) (text_of s) x else q) (same_seen c x s)
same_seen c x (In_state s states n) = ap (λ (q : Clock). if declares (In_state s states n) x then q else []) (same_clock c (text_of s) x)
same_seen c x (Under s resets) = refl

-- ---- rules

pub present_leads : {c : Case} (t : ℕ) → (clock : Clock) (s : Scope) → {d d' : Rule} → Leads c d d' →
    Leads c (if_present (Present clock s (later c.n t)) d) (if_present (Present clock s t) d')
present_leads {c} t clock s l = asks t (Present_at clock s) (λ a. if_leads (is_true a) l says)

steps_leads : {c : Case} (t : ℕ) → (clock : Clock) (s : Scope) → Leads c (steps_hold c.w clock s (later c.n t)) (steps_hold (after_mark c) clock s t)
steps_leads {c} t [] s = says
steps_leads {c} t (one ∷ steps) s = asks t (Variable_at one.name s) (λ a. if_leads (is_value (tag_value c.w.types one.tag) a) (steps_leads t steps s) says)

merged_leads : {c : Case} (t : ℕ) → (b : Option MergeBranch) (x : Name) (clock : Clock) (s : Scope) →
    Leads c (merged c.w b x clock s (later c.n t)) (merged (after_mark c) b x clock s t)
merged_leads {c} t None x clock s = anything
merged_leads {c} t (Some b) x clock s = asks t (Gives_at b.value (clock ++ record { tag = b.tag; name = x } ∷ []) s) (λ a. says)

before_leads : {c : Case} (t : ℕ) → (clock : Clock) (s : Scope) (go go' : ℕ → Rule) (none none' : Rule) →
    ((u : ℕ) → Leads c (go (later c.n u)) (go' u)) → Leads c none none' →
    Leads c (before c.w clock s (later c.n t) go none) (before (after_mark c) clock s t go' none')
before_leads {c} t clock s go go' none none' goes nones = back t (Present_at clock s) s go go' none none' goes nones

form_leads : {c : Case} (t : ℕ) → (f : Form-F Form Expr MergeBranch) (e : Expr) (clock : Clock) (s : Scope) →
    Leads c (form_rule c.w f e clock s (later c.n t)) (form_rule (after_mark c) f e clock s t)
form_leads {c} t (Form-F.Const k) e clock s = says
form_leads {c} t (Form-F.Var x) e clock s = asks t (Variable_at x s) (λ a. says)
form_leads {c} t (Form-F.Last x) e clock s = asks t (Last_at x s) (λ a. says)
form_leads {c} t (Form-F.Unary op a) e clock s = asks t (Gives_at a clock s) (λ x. go_on_leads x (λ v. says))
form_leads {c} t (Form-F.Binary op a b) e clock s = asks t (Gives_at a clock s) (λ x. go_on_leads x (λ u. asks t (Gives_at b clock s) (λ y. go_on_leads y (λ v. says))))
form_leads t (Form-F.If g a b) e clock s =
    asks t (Gives_at g clock s) (λ x. go_on_leads x (λ k. asks t (Gives_at a clock s) (λ y. go_on_leads y (λ u. asks t (Gives_at b clock s) (λ z. go_on_leads z (λ v. says))))))
form_leads {c} t (Form-F.Fby a b) e clock s =
    before_leads t clock s (λ p. answer_to (Gives b clock s p)) (λ p. answer_to (Gives b clock s p)) (answer_to (Gives a clock s (later c.n t))) (answer_to (Gives a clock s t))
    (λ u. asks u (Gives_at b clock s) (λ x. says)) (asks t (Gives_at a clock s) (λ x. says))
form_leads {c} t (Form-F.Pre a) e clock s =
    before_leads t clock s (λ p. answer_to (Gives a clock s p)) (λ p. answer_to (Gives a clock s p)) (Says Nil) (Says Nil)
    (λ u. asks u (Gives_at a clock s) (λ x. says)) says
form_leads {c} t (Form-F.Arrow a b) e clock s =
    before_leads t clock s (λ p. answer_to (Gives b clock s (later c.n t))) (λ p. answer_to (Gives b clock s t)) (answer_to (Gives a clock s (later c.n t))) (answer_to (Gives a clock s t))
    (λ u. asks t (Gives_at b clock s) (λ x. says)) (asks t (Gives_at a clock s) (λ x. says))
form_leads {c} t (Form-F.When a tag x) e clock s = asks t (Gives_at a (take (length clock - 1) clock) s) (λ b. says)
form_leads {c} t (Form-F.Merge x branches) e clock s =
    asks t (Variable_at x s) (λ a. go_on_leads a (λ v. merged_leads t (find (λ b. tag_value c.w.types b.tag == v) branches) x clock s))
form_leads {c} t (Form-F.Call f args) e clock s = asks t (Output_at e 0 clock s) (λ a. says)
form_leads {c} t (Form-F.AsyncCall q f args) e clock s = asks t (Output_at e 0 clock s) (λ a. says)
form_leads {c} t (Form-F.AsyncConst k) e clock s = says
form_leads {c} t (Form-F.Get a) e clock s = asks t (Gives_at a clock s) (λ x. says)

-- ---- calls

reply_by : (c : Case) (o p : Option (List ℕ)) → o ≡ None → p ≡ None → (j : ℕ) {d d' : Rule} → Leads c d d' → Leads c (reply_or c.w o j d) (reply_or (after_mark c) p j d')
reply_by c None None e f j h = h
reply_by c (Some o) p e f j h = cc
reply_by c None (Some p) e f j h = cc

output_leads : {c : Case} → NoneReplied c → (t : ℕ) → (d : Option (List Expr × Text)) (place j : ℕ) (clock : Clock) (s : Scope) →
    Leads c (output_rule c.w d place j clock s (later c.n t)) (output_rule (after_mark c) d place j clock s t)
output_leads {c} nr t None place j clock s = anything
output_leads {c} nr t (Some d) place j clock s = count t (Present_at clock s) (λ m k.
    reply_by c _ _ (nr.before (calls_around s ++ place ∷ []) m) (nr.from_there (calls_around s ++ place ∷ []) k) j
    (asks t (Variable_at (slice_index_or (outputs_of d.1) j []) (Called s clock place d.0 d.1)) (λ a. says)))

outputs_leads : {c : Case} → NoneReplied c → (t : ℕ) → (f : Form-F Form Expr MergeBranch) (e : Expr) (j : ℕ) (clock : Clock) (s : Scope) →
    Leads c (outputs_rule c.w f e j clock s (later c.n t)) (outputs_rule (after_mark c) f e j clock s t)
outputs_leads {c} nr t (Form-F.Get a) e j clock s = asks t (Output_at a j clock s) (λ x. says)
outputs_leads {c} nr t (Form-F.Call f args) e j clock s = output_leads nr t _ e.place.0 j clock s
outputs_leads {c} nr t (Form-F.AsyncCall q f args) e j clock s = output_leads nr t _ e.place.0 j clock s
outputs_leads {c} nr t _ e j clock s = output_leads nr t None e.place.0 j clock s

-- ---- definitions

right_leads : {c : Case} (t : ℕ) → (left : List Name) (right : Expr) (x : Name) (clock : Clock) (s : Scope) →
    Leads c (right_rule c.w left right x clock s (later c.n t)) (right_rule (after_mark c) left right x clock s t)
right_leads {c} t left right x clock s =
    if_leads (length left == 1) (asks t (Gives_at right clock s) (λ a. says)) (asks t (Output_at right (place_in x left) clock s) (λ a. says))

defined_leads : {c : Case} (t : ℕ) → (x : Name) (es : List Equation) {go go' : Bool → Rule} → ((b : Bool) → Leads c (go b) (go' b)) →
    Leads c (if_defined x es go) (if_defined x es go')
defined_leads {c} t x [] l = l false
defined_leads {c} t x (e ∷ es) l = asks t (Defines_at x e) (λ a. if_leads (is_true a) (l true) (defined_leads t x es l))

last_or_leads : {c : Case} (t : ℕ) → (b : Block) (x : Name) (inner outer : Scope) →
    Leads c (defined_or_last c.w b x inner outer (later c.n t)) (defined_or_last (after_mark c) b x inner outer t)
last_or_leads {c} t b x inner outer = defined_leads t x b.body (λ yes. if_leads yes (asks t (Defined_at x inner) (λ a. says)) (asks t (Last_at x outer) (λ a. says)))

branch_leads : {c : Case} (t : ℕ) → (b : Option Branch) (on : Expr) (x : Name) (s : Scope) →
    Leads c (branch_rule c.w b on x s (later c.n t)) (branch_rule (after_mark c) b on x s t)
branch_leads {c} t None on x s = anything
branch_leads {c} t (Some b) on x s = last_or_leads t b.block x (In_branch s on b) s

equation_leads : {c : Case} (t : ℕ) → (f : Equation-F Equation Block Branch State) (x : Name) (s : Scope) →
    Leads c (equation_rule c.w f x s (later c.n t)) (equation_rule (after_mark c) f x s t)
equation_leads {c} t (Equation-F.Define p left right) x s =
    subst (λ (q : Clock). Leads c (right_rule c.w left right x q s (later c.n t)) (right_rule (after_mark c) left right x (clock_seen (after_mark c) x s) s t))
    (sym (same_seen c x s)) (right_leads t left right x (clock_seen (after_mark c) x s) s)
equation_leads {c} t (Equation-F.Switch p on branches) x s = asks t (Gives_at on [] s) (λ a. go_on_leads a (λ v. branch_leads t (branch_of c.w.types v branches) on x s))
equation_leads {c} t (Equation-F.Reset p block every) x s = asks t (Defined_at x (In_body s every block)) (λ a. says)
equation_leads {c} t (Equation-F.Automaton p states) x s =
    asks t (Active_state_at s states) (λ a. go_on_state_leads a (λ k m. last_or_leads t (state_block states k) x (In_state s states k) s))

block_leads : {c : Case} (t : ℕ) → (es : List Equation) (x : Name) (s : Scope) →
    Leads c (block_rule c.w es x s (later c.n t)) (block_rule (after_mark c) es x s t)
block_leads {c} t [] x s = anything
block_leads {c} t (e ∷ es) x s = asks t (Defines_at x e) (λ a. if_leads (is_true a) (equation_leads t (out-Equation e) x s) (block_leads t es x s))

core_leads : {c : Case} (t : ℕ) → (e : Option CoreEquation) (x : Name) (s : Scope) →
    Leads c (core_rule c.w e x s (later c.n t)) (core_rule (after_mark c) e x s t)
core_leads {c} t None x s = anything
core_leads {c} t (Some e) x s = right_leads t e.left e.right x e.clock.steps (Under s e.resets)

text_leads : {c : Case} (t : ℕ) → (text : Text) (x : Name) (s : Scope) →
    Leads c (defined_rule c.w text x s (later c.n t)) (defined_rule (after_mark c) text x s t)
text_leads {c} t (Written n node) x s = block_leads t (block_of s).body x s
text_leads {c} t (Lowered node) x s = core_leads t (equation_of node x) x s

defined_rule_leads : {c : Case} (t : ℕ) → (x : Name) (s : Scope) →
    Leads c (rule c.w (Defined x s (later c.n t))) (rule (after_mark c) (Defined x s t))
defined_rule_leads {c} t x s = text_leads t (text_of s) x s

defines_leads : {c : Case} (t : ℕ) → (f : Equation-F Equation Block Branch State) (x : Name) →
    Leads c (defines_rule c.w f x) (defines_rule (after_mark c) f x)
defines_leads {c} t (Equation-F.Define p left right) x = says
defines_leads {c} t (Equation-F.Switch p on branches) x = defined_leads t x (flat_map (λ b. b.block.body) branches) (λ yes. says)
defines_leads {c} t (Equation-F.Reset p block every) x = defined_leads t x block.body (λ yes. says)
defines_leads {c} t (Equation-F.Automaton p states) x = defined_leads t x (flat_map (λ q. q.block.body) states) (λ yes. says)

-- ---- variables

inner_leads : {c : Case} (t : ℕ) → (d : Option Expr) (clock : Clock) (s : Scope) →
    Leads c (argument_rule c.w d clock s (later c.n t)) (argument_rule (after_mark c) d clock s t)
inner_leads {c} t None clock s = anything
inner_leads {c} t (Some e) clock s = asks t (Gives_at e clock s) (λ a. says)

own_leads : {c : Case} (t : ℕ) → (s : Scope) (x : Name) → Leads c (own_rule c.w s x (later c.n t)) (own_rule (after_mark c) s x t)
own_leads {c} t (Top text) x = if_leads (is_in x (inputs_of text)) (reads t (place_in x (inputs_of text))) (asks t (Defined_at x (Top text)) (λ a. says))
own_leads {c} t (Called s clock place args text) x =
    if_leads (is_in x (inputs_of text)) (inner_leads t (slice_get args (place_in x (inputs_of text))) clock s) (asks t (Defined_at x (Called s clock place args text)) (λ a. says))
own_leads {c} t (In_branch s on b) x = asks t (Defined_at x (In_branch s on b)) (λ a. says)
own_leads {c} t (In_body s every block) x = asks t (Defined_at x (In_body s every block)) (λ a. says)
own_leads {c} t (In_state s states k) x = asks t (Defined_at x (In_state s states k)) (λ a. says)
own_leads {c} t (Under s resets) x = asks t (Defined_at x (Under s resets)) (λ a. says)

variable_leads : {c : Case} (t : ℕ) → (x : Name) (s : Scope) →
    Leads c (variable_rule c.w x s (later c.n t)) (variable_rule (after_mark c) x s t)
variable_leads {c} t x s =
    subst (λ (q : Clock). Leads c (if_present (Present q s (later c.n t)) (own_rule c.w s x (later c.n t))) (variable_rule (after_mark c) x s t))
    (sym (same_clock c (text_of s) x))
    (present_leads t (clock_in (after_mark c) (text_of s) x) s (own_leads t s x))

variable_rule_leads : {c : Case} (t : ℕ) → (x : Name) (s : Scope) →
    Leads c (rule c.w (Variable x s (later c.n t))) (rule (after_mark c) (Variable x s t))
variable_rule_leads {c} t x s = variable_leads t x (home x s)

constant_leads : {c : Case} (i : Option Init) → Leads c (constant_of c.w i) (constant_of (after_mark c) i)
constant_leads None = anything
constant_leads (Some i) = says

initial_leads : {c : Case} (d : Option Decl) → Leads c (initial_rule c.w d) (initial_rule (after_mark c) d)
initial_leads None = anything
initial_leads (Some d) = constant_leads d.init

last_leads : {c : Case} (t : ℕ) → (x : Name) (s : Scope) → Leads c (last_rule c.w x s (later c.n t)) (last_rule (after_mark c) x s t)
last_leads {c} t x s = back t (Active_at s) s (λ p. answer_to (Variable x s p)) (λ p. answer_to (Variable x s p))
    (initial_rule c.w (find (λ d. same x d.name) (declared_in s))) (initial_rule (after_mark c) (find (λ d. same x d.name) (declared_in s)))
    (λ u. asks u (Variable_at x s) (λ a. says)) (initial_leads (find (λ d. same x d.name) (declared_in s)))

last_rule_leads : {c : Case} (t : ℕ) → (x : Name) (s : Scope) → Leads c (rule c.w (Last x s (later c.n t))) (rule (after_mark c) (Last x s t))
last_rule_leads t x s = last_leads t x (home x s)

-- ---- automata

taken_leads : {c : Case} (t : ℕ) → (es : List Escape) (states : List State) (none : Answer) (s : Scope) →
    Leads c (taken c.w es states none s (later c.n t)) (taken (after_mark c) es states none s t)
taken_leads {c} t [] states none s = says
taken_leads {c} t (e ∷ es) states none s = asks t (Gives_at e.condition [] s) (λ a. if_leads (is_true a) says (taken_leads t es states none s))

strong_is : (c : Case) (q : Option State) → strong_of c.w q ≡ strong_of (after_mark c) q
strong_is c None = refl
strong_is c (Some q) = refl

weak_is : (c : Case) (q : Option State) → weak_of c.w q ≡ weak_of (after_mark c) q
weak_is c None = refl
weak_is c (Some q) = refl

pending_leads : {c : Case} (t : ℕ) → (s : Scope) (states : List State) (k : ℕ) (m : Bool) →
    Leads c (from_pending c.w s states (later c.n t) k m) (from_pending (after_mark c) s states t k m)
pending_leads {c} t s states k m =
    subst (λ (es : List Escape). Leads c (taken c.w es states (State_at k m) s (later c.n t)) (from_pending (after_mark c) s states t k m))
    (sym (strong_is c (slice_get states k))) (taken_leads t (strong_of (after_mark c) (slice_get states k)) states (State_at k m) s)

active_state_leads : {c : Case} (t : ℕ) → (s : Scope) (states : List State) →
    Leads c (active_state_rule c.w s states (later c.n t)) (active_state_rule (after_mark c) s states t)
active_state_leads {c} t s states = asks t (Active_at s) (λ a. if_leads (is_true a) (back t (Active_at s) s
    (λ p. on_state (Left_state s states p) (from_pending c.w s states (later c.n t))) (λ p. on_state (Left_state s states p) (from_pending (after_mark c) s states t))
    (from_pending c.w s states (later c.n t) 0 false) (from_pending (after_mark c) s states t 0 false)
    (λ u. asks u (Left_state_at s states) (λ b. go_on_state_leads b (λ n m. pending_leads t s states n m))) (pending_leads t s states 0 false)) says)

left_state_leads : {c : Case} (t : ℕ) → (s : Scope) (states : List State) →
    Leads c (left_state_rule c.w s states (later c.n t)) (left_state_rule (after_mark c) s states t)
left_state_leads {c} t s states = asks t (Active_state_at s states) (λ a. go_on_state_leads a (λ k m.
    subst (λ (es : List Escape). Leads c (taken c.w es states (State_at k false) (In_state s states k) (later c.n t))
    (taken (after_mark c) (weak_of (after_mark c) (slice_get states k)) states (State_at k false) (In_state s states k) t))
    (sym (weak_is c (slice_get states k))) (taken_leads t (weak_of (after_mark c) (slice_get states k)) states (State_at k false) (In_state s states k))))

-- ---- scopes

active_leads : {c : Case} (t : ℕ) (s : Scope) → Leads c (active_rule c.w s (later c.n t)) (active_rule (after_mark c) s t)
active_leads t (Top text) = says
active_leads t (Called s clock place args text) = asks t (Present_at clock s) (λ a. says)
active_leads t (In_branch s on b) = asks t (Gives_at on [] s) (λ a. says)
active_leads t (In_body s every block) = asks t (Active_at s) (λ a. says)
active_leads t (In_state s states k) = asks t (Active_state_at s states) (λ a. says)
active_leads t (Under s resets) = asks t (Active_at s) (λ a. says)

some_leads : {c : Case} (t : ℕ) (xs : List Name) (s : Scope) → Leads c (some_true c.w xs s (later c.n t)) (some_true (after_mark c) xs s t)
some_leads t [] s = says
some_leads t (x ∷ xs) s = asks t (Variable_at x s) (λ a. if_leads (is_true a) says (some_leads t xs s))

too_leads : {c : Case} (t : ℕ) (s : Scope) {d d' : Rule} → Leads c d d' → Leads c (restarted_too c.w s (later c.n t) d) (restarted_too (after_mark c) s t d')
too_leads t s l = asks t (Restarted_at s) (λ a. if_leads (is_true a) says l)

restarted_leads : {c : Case} (t : ℕ) (s : Scope) → Leads c (restarted_rule c.w s (later c.n t)) (restarted_rule (after_mark c) s t)
restarted_leads t (Top text) = says
restarted_leads t (Called s clock place args text) = asks t (Restarted_at s) (λ a. says)
restarted_leads t (In_branch s on b) = asks t (Restarted_at s) (λ a. says)
restarted_leads t (In_body s every block) = too_leads t s (asks t (Gives_at every [] s) (λ a. says))
restarted_leads t (In_state s states k) = too_leads t s (asks t (Active_state_at s states) (λ a. says))
restarted_leads t (Under s resets) = too_leads t s (some_leads t resets s)

-- ---- each rule

-- the rule of each question but of a call's outputs
pub plain_leads : (c : Case) (shape : Shape) (t : ℕ) → IsNoOutput (here shape t) → Leads c (rule c.w (here shape (later c.n t))) (rule (after_mark c) (here shape t))
plain_leads c (Gives_at e clock s) t plain = present_leads t clock s (form_leads t (out-Form e.form) e clock s)
plain_leads c (Output_at e j clock s) t plain = absurd plain
plain_leads c (Variable_at x s) t plain = variable_rule_leads t x s
plain_leads c (Last_at x s) t plain = last_rule_leads t x s
plain_leads c (Defined_at x s) t plain = defined_rule_leads t x s
plain_leads c (Defines_at x e) t plain = defines_leads t (out-Equation e) x
plain_leads c (Present_at clock s) t plain = asks t (Active_at s) (λ b. if_leads (is_true b) (steps_leads t clock s) says)
plain_leads c (Active_at s) t plain = active_leads t s
plain_leads c (Restarted_at s) t plain = restarted_leads t s
plain_leads c (Active_state_at s states) t plain = active_state_leads t s states
plain_leads c (Left_state_at s states) t plain = left_state_leads t s states

rule_leads : (c : Case) → NoneReplied c → (shape : Shape) (t : ℕ) → Leads c (rule c.w (here shape (later c.n t))) (rule (after_mark c) (here shape t))
rule_leads c nr (Output_at e j clock s) t = present_leads t clock s (outputs_leads nr t (out-Form e.form) e j clock s)
rule_leads c nr (Gives_at e clock s) t = plain_leads c (Gives_at e clock s) t tt
rule_leads c nr (Variable_at x s) t = plain_leads c (Variable_at x s) t tt
rule_leads c nr (Last_at x s) t = plain_leads c (Last_at x s) t tt
rule_leads c nr (Defined_at x s) t = plain_leads c (Defined_at x s) t tt
rule_leads c nr (Defines_at x e) t = plain_leads c (Defines_at x e) t tt
rule_leads c nr (Present_at clock s) t = plain_leads c (Present_at clock s) t tt
rule_leads c nr (Active_at s) t = plain_leads c (Active_at s) t tt
rule_leads c nr (Restarted_at s) t = plain_leads c (Restarted_at s) t tt
rule_leads c nr (Active_state_at s states) t = plain_leads c (Active_state_at s states) t tt
rule_leads c nr (Left_state_at s states) t = plain_leads c (Left_state_at s states) t tt

pub firsts : (c : Case) {d : Rule} {a : Answer} → Whole c d a → Follows (Knows c.w c.rows) c.rows d a
firsts c said = said
firsts c (read e) = read e
firsts c (asked k f) = asked k.0 (firsts c f)

keeps : (c : Case) → NoneReplied c → (q : Question) (a : Answer) → Whole c (rule c.w q) a → a ≢ Unknown → K c q a
keeps c nr q a f known = (
  to_rule c.w c.rows q a (firsts c f) known,
  λ shape t e. to_rule (after_mark c) (inputs c) (here shape t) a ((rule_leads c nr shape t).leads a (subst (λ (p : Question). Whole c (rule c.w p) a) e f) known) known,
)

-- what the whole run knows from the mark on is known of the run that begins there
pub known_later : (c : Case) → NoneReplied c → (shape : Shape) (t : ℕ) (a : Answer) → Knows c.w c.rows (here shape (later c.n t)) a → Knows (after_mark c) (inputs c) (here shape t) a
known_later c nr shape t a h = (induction (K c) c.w c.rows (keeps c nr) (here shape (later c.n t)) a h).1 shape t refl

-- ---- outputs and what is sent

abbrev truth_in : Answer → Bool
truth_in (Is b) = b
truth_in _ = false

is_injective : {b c : Bool} → Is b ≡ Is c → b ≡ c
is_injective e = ap truth_in e

-- what is known of these questions is known from the mark on
abbrev pub Goes : (c : Case) → (Question → Type 0) → Type 0
Goes c P = (shape : Shape) (t : ℕ) (a : Answer) → P (here shape (later c.n t)) → Knows c.w c.rows (here shape (later c.n t)) a → Knows (after_mark c) (inputs c) (here shape t) a

values_later : (c : Case) (P : Question → Type 0) → Goes c P → (text : Text) → ((x : Name) (t : ℕ) → P (Variable x (Top text) t)) → (t : ℕ) (xs : List Name) (vs : List ℕ) →
    HaveValues c.w c.rows (map (λ x. Variable x (Top text) (later c.n t)) xs) vs → HaveValues (after_mark c) (inputs c) (map (λ x. Variable x (Top text) t) xs) vs
values_later c P goes text tops t [] [] h = tt
values_later c P goes text tops t [] (v ∷ vs) h = elim h [ ]
values_later c P goes text tops t (x ∷ xs) [] h = elim h [ ]
values_later c P goes text tops t (x ∷ xs) (v ∷ vs) h = (goes (Variable_at x (Top text)) t (Value v) (tops x (later c.n t)) h.0, values_later c P goes text tops t xs vs h.1)

pub outputs_later : (c : Case) (P : Question → Type 0) → Goes c P → (text : Text) → ((x : Name) (t : ℕ) → P (Variable x (Top text) t)) → (t : ℕ) (left outs : List (List ℕ)) →
    OutputsFrom c.w c.rows text (later c.n t) left outs → OutputsFrom (after_mark c) (inputs c) text t left outs
outputs_later c P goes text tops t [] [] h = tt
outputs_later c P goes text tops t [] (out ∷ outs) h = elim h [ ]
outputs_later c P goes text tops t (row ∷ left) [] h = elim h [ ]
outputs_later c P goes text tops t (row ∷ left) (out ∷ outs) h = (values_later c P goes text tops t (outputs_of text) out h.0, outputs_later c P goes text tops (suc t) left outs h.1)

-- the outputs from a later instant on
pub outputs_dropped : (w : Setting) (rows : List (List ℕ)) (text : Text) (n t : ℕ) (left outs : List (List ℕ)) →
    OutputsFrom w rows text t left outs → OutputsFrom w rows text (n + t) (drop n left) (drop n outs)
outputs_dropped w rows text zero t left outs h = subst (λ (k : ℕ). OutputsFrom w rows text k left outs) (sym (zero-add t)) h
outputs_dropped w rows text (suc n) t [] [] h = tt
outputs_dropped w rows text (suc n) t [] (out ∷ outs) h = elim h [ ]
outputs_dropped w rows text (suc n) t (row ∷ left) [] h = elim h [ ]
outputs_dropped w rows text (suc n) t (row ∷ left) (out ∷ outs) h =
    let e : n + suc t ≡ suc n + t = omega arith in
    subst (λ (k : ℕ). OutputsFrom w rows text k (drop n left) (drop n outs)) e (outputs_dropped w rows text n (suc t) left outs h.1)

setting_is : (n : ℕ) (w : Setting) → record w { marked = λ t. w.marked (later n t) } ≡ from_instant n w
setting_is n w = ap (λ (f : ℕ → Bool). record w { marked = f }) (fun_ext (λ t. ap w.marked (later_is n t)))

-- the outputs from the mark on
pub outputs_from : (c : Case) (P : Question → Type 0) → Goes c P → (text : Text) → ((x : Name) (t : ℕ) → P (Variable x (Top text) t)) → (outs : List (List ℕ)) →
    Outputs c.w text c.rows outs → Outputs (after_mark c) text (drop c.n c.rows) (drop c.n outs)
outputs_from c P goes text tops outs h =
    let e : c.n + 0 ≡ later c.n 0 = omega arith in
    outputs_later c P goes text tops 0 (drop c.n c.rows) (drop c.n outs)
    (subst (λ (k : ℕ). OutputsFrom c.w c.rows text k (drop c.n c.rows) (drop c.n outs)) e (outputs_dropped c.w c.rows text c.n 0 c.rows outs h))

abbrev Any_question : Question → Type 0
Any_question q = Unit {0}

abbrev silent : (w : Setting) (n : ℕ) (rows : List (List ℕ)) → w.marked n ≡ true → Case
silent w n rows mark = record { w = w; n = n; rows = rows; later_replies = w.replies; mark = mark }

none_replied : (w : Setting) (n : ℕ) (rows : List (List ℕ)) (mark : w.marked n ≡ true) → HasNoReplies w → NoneReplied (silent w n rows mark)
none_replied w n rows mark none = record { before = none; from_there = none }

silent_goes : (w : Setting) (n : ℕ) (rows : List (List ℕ)) (mark : w.marked n ≡ true) → HasNoReplies w → Goes (silent w n rows mark) Any_question
silent_goes w n rows mark none shape t a any h = known_later (silent w n rows mark) (none_replied w n rows mark none) shape t a h

pub outputs_from_mark : OutputsFromMark
outputs_from_mark w n text rows outs none mark h =
    subst (λ (v : Setting). Outputs v text (drop n rows) (drop n outs)) (setting_is n w)
    (outputs_from (silent w n rows mark) Any_question (silent_goes w n rows mark none) text (λ x t. tt) outs h)

-- the calls before an instant, and those from it on
record Split (w : Setting) (rows : List (List ℕ)) (site : Site) (n left : ℕ) (calls : List (Bool × List ℕ)) : Type 0 where
  first : List (Bool × List ℕ)
  rest : List (Bool × List ℕ)
  again : Bool
  joined : calls ≡ first ++ rest
  sent : SentFrom w rows site again n left rest

sent_split : (w : Setting) (rows : List (List ℕ)) (site : Site) (n : ℕ) (again : Bool) (t left : ℕ) (calls : List (Bool × List ℕ)) →
    SentFrom w rows site again t left calls → Split w rows site (n + t) (left - n) calls
sent_split w rows site zero again t left calls h =
    let e : t ≡ 0 + t = omega arith in
    let f : left ≡ left - 0 = omega arith in
    record {
      first = [];
      rest = calls;
      again = again;
      joined = refl;
      sent = subst (λ (k : ℕ). SentFrom w rows site again (0 + t) k calls) f (subst (λ (k : ℕ). SentFrom w rows site again k left calls) e h);
    }
sent_split w rows site (suc n) again t _ _ end =
    let e : 0 ≡ 0 - suc n = omega arith in
    record { first = []; rest = []; again = again; joined = refl; sent = subst (λ (k : ℕ). SentFrom w rows site again (suc n + t) k []) e end }
sent_split w rows site (suc n) again t _ calls (no_call {left = left} r p more) =
    let s : Split w rows site (n + suc t) (left - n) calls = sent_split w rows site n _ (suc t) left calls more in
    let e : n + suc t ≡ suc n + t = omega arith in
    let f : left - n ≡ suc left - suc n = omega arith in
    record {
      first = s.first;
      rest = s.rest;
      again = s.again;
      joined = s.joined;
      sent = subst (λ (k : ℕ). SentFrom w rows site s.again (suc n + t) k s.rest) f (subst (λ (k : ℕ). SentFrom w rows site s.again k (left - n) s.rest) e s.sent);
    }
sent_split w rows site (suc n) again t _ _ (call {restarted = now} {left = left} {args = args} {calls = calls} r p v more) =
    let s : Split w rows site (n + suc t) (left - n) calls = sent_split w rows site n _ (suc t) left calls more in
    let e : n + suc t ≡ suc n + t = omega arith in
    let f : left - n ≡ suc left - suc n = omega arith in
    record {
      first = (again || now, args) ∷ s.first;
      rest = s.rest;
      again = s.again;
      joined = ap (λ (xs : List (Bool × List ℕ)). (again || now, args) ∷ xs) s.joined;
      sent = subst (λ (k : ℕ). SentFrom w rows site s.again (suc n + t) k s.rest) f (subst (λ (k : ℕ). SentFrom w rows site s.again k (left - n) s.rest) e s.sent);
    }

either_true : (b c : Bool) → (b || true) ≡ (c || true)
either_true true true = refl
either_true true false = refl
either_true false true = refl
either_true false false = refl

-- at the mark it doesn't matter whether there was a restart before
sent_at_mark : (c : Case) (site : Site) (again other : Bool) (left : ℕ) (calls : List (Bool × List ℕ)) →
    SentFrom c.w c.rows site again c.n left calls → SentFrom c.w c.rows site other c.n left calls
sent_at_mark c site again other _ _ end = end
sent_at_mark c site again other _ calls (no_call {restarted = now} {left = left} r p more) = no_call (restarts c site.scope) p (marked now (same_mark now r) more)
  where
    same_mark : (b : Bool) → Knows c.w c.rows (Restarted site.scope c.n) (Is b) → b ≡ true
    same_mark b k = is_injective (one_answer c.w c.rows _ _ _ k (restarts c site.scope))

    marked : (b : Bool) → b ≡ true → SentFrom c.w c.rows site (again || b) (suc c.n) left calls → SentFrom c.w c.rows site (other || true) (suc c.n) left calls
    marked b e k = subst (λ (x : Bool). SentFrom c.w c.rows site x (suc c.n) left calls) (ap (λ (x : Bool). again || x) e ∙ either_true again other) k
sent_at_mark c site again other _ _ (call {restarted = now} {left = left} {args = args} {calls = calls} r p v more) =
    subst (λ (x : Bool). SentFrom c.w c.rows site other c.n (suc left) ((x, args) ∷ calls))
    (either_true other again ∙ ap (λ (x : Bool). again || x) (sym (is_injective (one_answer c.w c.rows _ _ _ r (restarts c site.scope)))))
    (call (restarts c site.scope) p v more)

arguments_later : (c : Case) (P : Question → Type 0) → Goes c P → (site : Site) (t : ℕ) (es : List Expr) (vs : List ℕ) →
    ((j : ℕ) (e : Expr) → slice_get es j ≡ Some e → P (Gives e site.clock site.scope (later c.n t))) →
    HaveValues c.w c.rows (map (λ e. Gives e site.clock site.scope (later c.n t)) es) vs → HaveValues (after_mark c) (inputs c) (map (λ e. Gives e site.clock site.scope t) es) vs
arguments_later c P goes site t [] [] all h = tt
arguments_later c P goes site t [] (v ∷ vs) all h = elim h [ ]
arguments_later c P goes site t (e ∷ es) [] all h = elim h [ ]
arguments_later c P goes site t (e ∷ es) (v ∷ vs) all h =
    (goes (Gives_at e site.clock site.scope) t (Value v) (all 0 e refl) h.0, arguments_later c P goes site t es vs (λ j d is. all (suc j) d is) h.1)

-- what is asked of a site
pub record Site_asked (P : Question → Type 0) (site : Site) : Type 0 where
  pub restart : (t : ℕ) → P (Restarted site.scope t)
  pub presence : (t : ℕ) → P (Present site.clock site.scope t)
  pub argument : (t j : ℕ) (e : Expr) → slice_get site.args j ≡ Some e → P (Gives e site.clock site.scope t)

sent_later : (c : Case) (P : Question → Type 0) → Goes c P → (site : Site) → Site_asked P site → (again : Bool) (t u left : ℕ) → u ≡ later c.n t → (calls : List (Bool × List ℕ)) →
    SentFrom c.w c.rows site again u left calls → SentFrom (after_mark c) (inputs c) site again t left calls
sent_later c P goes site asked_of again t u _ e _ end = end
sent_later c P goes site asked_of again t u _ e calls (no_call {restarted = now} {left = left} r p more) = no_call
    (goes (Restarted_at site.scope) t _ (asked_of.restart (later c.n t)) (subst (λ (k : ℕ). Knows c.w c.rows (Restarted site.scope k) (Is now)) e r))
    (goes (Present_at site.clock site.scope) t _ (asked_of.presence (later c.n t)) (subst (λ (k : ℕ). Knows c.w c.rows (Present site.clock site.scope k) (Is false)) e p))
    (sent_later c P goes site asked_of _ (suc t) (suc u) left (ap suc e) calls more)
sent_later c P goes site asked_of again t u _ e _ (call {restarted = now} {left = left} {args = args} {calls = calls} r p v more) = call
    (goes (Restarted_at site.scope) t _ (asked_of.restart (later c.n t)) (subst (λ (k : ℕ). Knows c.w c.rows (Restarted site.scope k) (Is now)) e r))
    (goes (Present_at site.clock site.scope) t _ (asked_of.presence (later c.n t)) (subst (λ (k : ℕ). Knows c.w c.rows (Present site.clock site.scope k) (Is true)) e p))
    (arguments_later c P goes site t site.args args (λ j d is. asked_of.argument (later c.n t) j d is) (subst (λ (k : ℕ). HaveValues c.w c.rows (argument_questions site k) args) e v))
    (sent_later c P goes site asked_of false (suc t) (suc u) left (ap suc e) calls more)

-- what is sent from the mark on
pub sent_from : (c : Case) (P : Question → Type 0) → Goes c P → (site : Site) → Site_asked P site → (calls : List (Bool × List ℕ)) → Sent c.w c.rows site calls →
    (before later : List (Bool × List ℕ)) × (calls ≡ before ++ later) × Sent (after_mark c) (drop c.n c.rows) site later
sent_from c P goes site asked_of calls h =
    let s : Split c.w c.rows site (c.n + 0) (length c.rows - c.n) calls = sent_split c.w c.rows site c.n false 0 (length c.rows) calls h in
    let e : c.n + 0 ≡ c.n = omega arith in
    let at : SentFrom c.w c.rows site s.again c.n (length c.rows - c.n) s.rest = subst (λ (k : ℕ). SentFrom c.w c.rows site s.again k (length c.rows - c.n) s.rest) e s.sent in
    let there : SentFrom (after_mark c) (drop c.n c.rows) site false 0 (length c.rows - c.n) s.rest =
    sent_later c P goes site asked_of false 0 c.n (length c.rows - c.n) refl s.rest (sent_at_mark c site s.again false (length c.rows - c.n) s.rest at) in (
      s.first,
      s.rest,
      s.joined,
      subst (λ (k : ℕ). SentFrom (after_mark c) (drop c.n c.rows) site false 0 k s.rest) (sym (length-drop c.n c.rows)) there,
    )

pub sent_from_mark : SentFromMark
sent_from_mark w n rows site calls none mark h =
    let s : (before later : List (Bool × List ℕ)) × (calls ≡ before ++ later) × Sent (after_mark (silent w n rows mark)) (drop n rows) site later =
    sent_from (silent w n rows mark) Any_question (silent_goes w n rows mark none) site (record { restart = λ t. tt; presence = λ t. tt; argument = λ t j e is. tt }) calls h in
    (s.0, s.1, s.2, subst (λ (v : Setting). Sent v (drop n rows) site s.1) (setting_is n w) s.3)
