-- Each output that is asked of a call is one of the called node's.
use Rattle.std.proofs.Common.{◌≡◌, ℕ, zero, suc, ◌+◌, ◌-◌, ◌<◌, Bool, true, false, List, [], ◌∷◌, ◌++◌, Option, Some, None, length, map, take, refl, sym, ap, subst, ◌∙◌, arith}
use Rattle.std.specs.Prelude.{⊤, if◌then◌else◌, ◌==◌, Contains, slice_get, slice_index_or}
use Rattle.std.specs.List.{find, flat_map}
use Rattle.hept_ast.specs.Texts.{Name, is_in, place_in, tag_value, branch_of}
use Rattle.hept_ast.specs.Scopes.{Clock, Text, Written, Scope, Top, Called, In_branch, In_body, In_state, Under, text_of, block_of, block_or_none, declares, home, inputs_of, outputs_of}
use Rattle.hept_ast.specs.Types.{types_of, future_of}
use Rattle.hept_ast.specs.Meaning.{Question, Gives, Output, Variable, Last, Defined, Defines, Present, Active, Restarted, Active_state, Left_state, Answer, Unknown, Absent, Nil, Value, Is, State_at, Rule, Says, Reads, Asks, Setting, is_true, is_value, go_on, go_on_state, previous, count_before, if_defined, if_present, steps_hold, before, merged, form_rule, call_of, reply_or, output_rule, outputs_rule, right_rule, defined_or_last, branch_rule, equation_rule, defines_rule, block_rule, defined_rule, argument_rule, own_rule, constant_of, initial_rule, taken, strong_of, weak_of, active_state_rule, left_state_rule, active_rule, restarted_rule, rule, answer_to, clock_in, clock_seen}
use Rattle.hept_ast.specs.Outputs.{Knows, Follows, said}
use Rattle.hept_ast.specs.OwnReplies.{AskedBy, at_once, after_answer, Reached, of_top, of_restart, of_presence, of_argument, of_rule, OutputsFit}
use Rattle.hept_ast.specs.Sites.{Piece, Expression, expressions, form_pieces, Body, Site, Sites, SitesOf, SitesOfAll, whole, none as no_pieces, first, pieces, async_site, form_site, own_site}
use Rattle.hept_ast.specs.declared.name.Place.{Place}
use Rattle.hept_ast.specs.declared.tree.Init.{Init}
use Rattle.hept_ast.specs.declared.tree.Decl.{Decl}
use Rattle.hept_ast.specs.declared.tree.Expr.{Expr}
use Rattle.hept_ast.specs.declared.tree.MergeBranch.{MergeBranch}
use Rattle.hept_ast.specs.declared.tree.Block.{Block}
use Rattle.hept_ast.specs.declared.tree.Branch.{Branch}
use Rattle.hept_ast.specs.declared.tree.State.{State}
use Rattle.hept_ast.specs.declared.tree.Escape.{Escape}
use Rattle.hept_ast.specs.declared.tree.Ty.{Ty}
use Rattle.hept_ast.specs.declared.tree.Form.{Form, out-Form}
use Rattle.hept_ast.specs.declared.tree.Form.TheOpen.{Form-F}
use Rattle.hept_ast.specs.declared.tree.Equation.{Equation, out-Equation}
use Rattle.hept_ast.specs.declared.tree.Equation.TheOpen.{Equation-F}
use Rattle.std.proofs.lemmas.List.{length-map}
use Rattle.accepted_meaning.proofs.TextLists.{no_some}
use Rattle.sound_expressions.specs.Sound.{Within, Sound, is_constant, is_async_constant, is_variable, is_last, is_unary, is_binary, is_if, is_fby, is_pre, is_arrow, is_when, is_merge, is_call, is_async_call, is_get}
use Rattle.accepted_meaning.specs.SoundNodes.{SoundProgram}
use Rattle.sound_expressions.proofs.FittedTypes.{get_fits}
use Rattle.accepted_meaning.proofs.FitsForms.{some_is}
use Rattle.accepted_meaning.proofs.FitsTexts.{branch_outside, body_outside, state_outside, sound_define, sound_switch, sound_reset, sound_weak, sound_strong, clock_here}
use Rattle.accepted_meaning.proofs.FitsInterfaces.{caller_of, call_of_node, async_call_of_node, of_call}
use Rattle.accepted_meaning.proofs.FitsStates.{state_stands}
use Rattle.accepted_meaning.proofs.FitsDefined.{Left_at, left_at, left_length}
use Rattle.accepted_meaning.proofs.StaticCalls.{node_of_name}
use Rattle.accepted_meaning.proofs.KnownTrees.{call_single}
use Rattle.sound_expressions.proofs.Values.{place_small}
use Rattle.accepted_meaning.proofs.FitsScopes.{find_parts}
use Rattle.accepted_meaning.proofs.FitsWords.{IsTruth}
use Rattle.accepted_meaning.proofs.FitsTruths.{Known, known_by, same_answer, defines_truth_of}
use Rattle.accepted_meaning.proofs.SentSites.{HasLefts}
use Rattle.std.proofs.lemmas.List.Elements.{Contains-append_right}
use Rattle.accepted_meaning.specs.Placing.{site_of, at_branch, at_reset}
use Rattle.accepted_meaning.specs.Running.{Run, IsSoundRun, StandsIn, IsKnown, setting_of, text_run}
use Rattle.accepted_meaning.specs.Structure.{IsEquationOf}
use Rattle.accepted_meaning.proofs.TextPieces.{SoundExpression, AllSound, sound_one, sound_arguments, body_stands, sound_pieces, SoundBody, IsSoundPiece, top_sound}

-- all that a rule asks, after answers that are known, is P
data Only (w : Setting) (rows : List (List ℕ)) (P : Question → Type 0) : Rule → Type 0 where
  says_any : {a : Answer} → Only w rows P (Says a)
  reads_any : {t j : ℕ} → Only w rows P (Reads t j)
  asks_good : {q : Question} {go : Answer → Rule} → P q → ((a : Answer) → Knows w rows q a → Only w rows P (go a)) → Only w rows P (Asks q go)

only : (w : Setting) (rows : List (List ℕ)) (P : Question → Type 0) (d : Rule) (p : Question) → Only w rows P d → AskedBy w rows d p → P p
only w rows P d p says_any x = elim x [ ]
only w rows P d p reads_any x = elim x [ ]
only w rows P d p (asks_good {q = q} {go = go} h k) at_once = h
only w rows P d p (asks_good {q = q} {go = go} h k) (after_answer {a = a} known rest) = only w rows P (go a) p (k a known) rest

-- ---- what is good to ask

record Standing (r : Run) (s : Scope) : Type 0 where
  within : Within
  stands : StandsIn r within s

record Sound_output (r : Run) (e : Expr) (j : ℕ) (c : Clock) (s : Scope) : Type 0 where
  within : Within
  types : List Ty
  stands : StandsIn r within s
  sound : Sound within (site_of s) e c types
  less : j < length types

record Sound_states (r : Run) (s : Scope) (states : List State) : Type 0 where
  within : Within
  equation : Equation
  place : Place
  stands : IsEquationOf r within s equation
  is : out-Equation equation ≡ Equation-F.Automaton place states

abbrev Good : Run → Question → Type 0
Good r (Gives e c s t) = SoundExpression r e c s
Good r (Output e j c s t) = Sound_output r e j c s
Good r (Variable x s t) = Standing r s
Good r (Last x s t) = Standing r s
Good r (Defined x s t) = Standing r s
Good r (Defines x e) = Unit {0}
Good r (Present c s t) = Standing r s
Good r (Active s t) = Standing r s
Good r (Restarted s t) = Standing r s
Good r (Active_state s states t) = Sound_states r s states
Good r (Left_state s states t) = Sound_states r s states

abbrev Asks_good : Run → Rule → Type 0
Asks_good r d = Only (setting_of r) r.rows (Good r) d

-- ---- words

if_good : (r : Run) (b : Bool) (d e : Rule) → (b ≡ true → Asks_good r d) → (b ≡ false → Asks_good r e) → Asks_good r (if b then d else e)
if_good r true d e h k = h refl
if_good r false d e h k = k refl

answer_good : (r : Run) (q : Question) → Good r q → Asks_good r (answer_to q)
answer_good r q h = asks_good h (λ a k. says_any)

go_on_good : (r : Run) (a : Answer) (go : ℕ → Rule) → ((v : ℕ) → a ≡ Value v → Asks_good r (go v)) → Asks_good r (go_on a go)
go_on_good r (Value v) go h = h v refl
go_on_good r Absent go h = says_any
go_on_good r Nil go h = says_any
go_on_good r Unknown go h = says_any
go_on_good r (Is b) go h = says_any
go_on_good r (State_at j m) go h = says_any

go_on_state_good : (r : Run) (a : Answer) (go : ℕ → Bool → Rule) → ((j : ℕ) (m : Bool) → Asks_good r (go j m)) → Asks_good r (go_on_state a go)
go_on_state_good r (State_at j m) go h = h j m
go_on_state_good r Absent go h = says_any
go_on_state_good r Nil go h = says_any
go_on_state_good r Unknown go h = says_any
go_on_state_good r (Value v) go h = says_any
go_on_state_good r (Is b) go h = says_any

previous_good : (r : Run) (present restarted : ℕ → Question) (go : ℕ → Rule) (none : Rule) (t : ℕ) → ((p : ℕ) → Good r (present p)) → ((p : ℕ) → Good r (restarted p)) → ((p : ℕ) → Asks_good r (go p)) → Asks_good r none →
    Asks_good r (previous present restarted go none t)
previous_good r present restarted go none zero f g h k = k
previous_good r present restarted go none (suc p) f g h k = asks_good (g (suc p)) (λ a i. if_good r (is_true a) none _ (λ e. k)
    (λ e. asks_good (f p) (λ b j. if_good r (is_true b) (go p) (previous present restarted go none p) (λ x. h p) (λ x. previous_good r present restarted go none p f g h k))))

count_good : (r : Run) (present : ℕ → Question) (go : ℕ → Rule) (t : ℕ) → ((p : ℕ) → Good r (present p)) → ((n : ℕ) → Asks_good r (go n)) → Asks_good r (count_before present go t)
count_good r present go zero f h = h 0
count_good r present go (suc p) f h = asks_good (f p) (λ a i. count_good r present (λ n. go (if is_true a then n + 1 else n)) p f (λ n. h (if is_true a then n + 1 else n)))

defined_good : (r : Run) (x : Name) (es : List Equation) (go : Bool → Rule) → Asks_good r (go true) → Asks_good r (go false) → Asks_good r (if_defined x es go)
defined_good r x [] go h k = k
defined_good r x (e ∷ es) go h k = asks_good tt (λ a i. if_good r (is_true a) (go true) (if_defined x es go) (λ y. h) (λ n. defined_good r x es go h k))

present_good : (r : Run) (q : Question) (d : Rule) → Good r q → Asks_good r d → Asks_good r (if_present q d)
present_good r q d h k = asks_good h (λ a i. if_good r (is_true a) d (Says Absent) (λ e. k) (λ e. says_any))

-- ---- expressions

standing_of : (r : Run) (e : Expr) (c : Clock) (s : Scope) → SoundExpression r e c s → Standing r s
standing_of r e c s h = record { within = h.within; stands = h.stands }

some_less : (ts : List Ty) → (ts ≡ [] → ⊥) → 0 < length ts
some_less [] h = absurd (h refl)
some_less (t ∷ ts) h = omega arith

first_output : (r : Run) (e : Expr) (c : Clock) (s : Scope) (t : ℕ) → SoundExpression r e c s → Asks_good r (answer_to (Output e 0 c s t))
first_output r e c s t h = answer_good r (Output e 0 c s t) (record { within = h.within; types = h.types; stands = h.stands; sound = h.sound; less = some_less h.types h.some })

before_good : (r : Run) (c : Clock) (s : Scope) (t : ℕ) (go : ℕ → Rule) (none : Rule) → Standing r s → ((p : ℕ) → Asks_good r (go p)) → Asks_good r none → Asks_good r (before (setting_of r) c s t go none)
before_good r c s t go none st h k = previous_good r (λ p. Present c s p) (λ p. Restarted s p) go none t (λ p. st) (λ p. st) h k

merged_good : (r : Run) (x : Name) (c : Clock) (s : Scope) (t : ℕ) (p : MergeBranch → Bool) (bs : List MergeBranch) → AllSound r (map (λ b. Expression b.value (c ++ record { tag = b.tag; name = x } ∷ []) s) bs) →
    Asks_good r (merged (setting_of r) (find p bs) x c s t)
merged_good r x c s t p [] h = says_any
merged_good r x c s t p (b ∷ bs) h = go (p b) (merged_good r x c s t p bs h.1)
  where
    go : (y : Bool) → Asks_good r (merged (setting_of r) (find p bs) x c s t) → Asks_good r (merged (setting_of r) (if y then Some b else find p bs) x c s t)
    go true k = answer_good r (Gives b.value (c ++ record { tag = b.tag; name = x } ∷ []) s t) h.0
    go false k = k

form_good : (r : Run) (e : Expr) (c : Clock) (s : Scope) (t : ℕ) (v : Form-F Form Expr MergeBranch) → SoundExpression r e c s → AllSound r (form_pieces (setting_of r) v e c s) → Asks_good r (form_rule (setting_of r) v e c s t)
form_good r e c s t (Form-F.Const k) h ps = says_any
form_good r e c s t (Form-F.Var x) h ps = answer_good r (Variable x s t) (standing_of r e c s h)
form_good r e c s t (Form-F.Last x) h ps = answer_good r (Last x s t) (standing_of r e c s h)
form_good r e c s t (Form-F.Unary op a) h ps = asks_good ps.0 (λ x i. go_on_good r x _ (λ v y. says_any))
form_good r e c s t (Form-F.Binary op a b) h ps = asks_good ps.0 (λ x i. go_on_good r x _ (λ u y. asks_good ps.1.0 (λ z j. go_on_good r z _ (λ v n. says_any))))
form_good r e c s t (Form-F.If k a b) h ps =
    asks_good ps.0 (λ x i. go_on_good r x _ (λ u y. asks_good ps.1.0 (λ z j. go_on_good r z _ (λ v n. asks_good ps.1.1.0 (λ l m. go_on_good r l _ (λ o w. says_any))))))
form_good r e c s t (Form-F.Fby a b) h ps = before_good r c s t _ _ (standing_of r e c s h) (λ p. answer_good r (Gives b c s p) ps.1.0) (answer_good r (Gives a c s t) ps.0)
form_good r e c s t (Form-F.Pre a) h ps = before_good r c s t _ _ (standing_of r e c s h) (λ p. answer_good r (Gives a c s p) ps.0) says_any
form_good r e c s t (Form-F.Arrow a b) h ps = before_good r c s t _ _ (standing_of r e c s h) (λ p. answer_good r (Gives b c s t) ps.1.0) (answer_good r (Gives a c s t) ps.0)
form_good r e c s t (Form-F.When a tag x) h ps = answer_good r (Gives a (take (length c - 1) c) s t) ps.0
form_good r e c s t (Form-F.Merge x bs) h ps = asks_good (standing_of r e c s h) (λ a i. go_on_good r a _ (λ v y. merged_good r x c s t (λ b. tag_value (setting_of r).types b.tag == v) bs ps))
form_good r e c s t (Form-F.Call f args) h ps = first_output r e c s t h
form_good r e c s t (Form-F.AsyncCall q f args) h ps = first_output r e c s t h
form_good r e c s t (Form-F.AsyncConst k) h ps = says_any
form_good r e c s t (Form-F.Get a) h ps = answer_good r (Gives a c s t) ps.0

-- ---- outputs of calls

abbrev got : Expr → Form-F Form Expr MergeBranch
got x = Form-F.Get x

abbrev operand_of : Form-F Form Expr MergeBranch → Expr → Expr
operand_of (Form-F.Get a) x = a
operand_of _ x = x

abbrev is_get_form : Form-F Form Expr MergeBranch → Bool
is_get_form (Form-F.Get a) = true
is_get_form _ = false

true_is_false : {P : Type 0} → true ≡ false → P
true_is_false e = cc

not_get : {P : Type 0} (f v : Form-F Form Expr MergeBranch) (a : Expr) → f ≡ v → f ≡ got a → is_get_form v ≡ false → P
not_get f v a e h n = true_is_false (ap is_get_form (sym h ∙ e) ∙ n)

get_operand : (r : Run) (k : Within) (s : Scope) (e a : Expr) (j : ℕ) (c : Clock) (ts : List Ty) → StandsIn r k s → Sound k (site_of s) e c ts → out-Form e.form ≡ Form-F.Get a → j < length ts → Sound_output r a j c s
get_operand r k s e a j c ts stands (is_get {a = b} {us = us} is sound fit) get less =
    let o = get_fits us ts fit in
    let same_length : length ts ≡ length us = ap (λ (x : List Ty). length x) o.2 ∙ sym (ap (λ (x : List Ty). length x) o.1) in
    record { within = k; types = us; stands = stands; sound = subst (λ (x : Expr). Sound k (site_of s) x c us) (operand_is b a (sym is ∙ get)) sound; less = subst (λ (n : ℕ). j < n) same_length less }
  where
    operand_is : (x y : Expr) → got x ≡ got y → x ≡ y
    operand_is x y f = ap (λ (v : Form-F Form Expr MergeBranch). operand_of v x) f
get_operand r k s e a j c ts stands (is_constant {v = v} is known fits) get less = not_get (out-Form e.form) (Form-F.Const v) a is get refl
get_operand r k s e a j c ts stands (is_async_constant {v = v} is known fits) get less = not_get (out-Form e.form) (Form-F.AsyncConst v) a is get refl
get_operand r k s e a j c ts stands (is_variable {x = x} is sees) get less = not_get (out-Form e.form) (Form-F.Var x) a is get refl
get_operand r k s e a j c ts stands (is_last {x = x} is sees init) get less = not_get (out-Form e.form) (Form-F.Last x) a is get refl
get_operand r k s e a j c ts stands (is_unary {a = b} {op = op} is sound fit) get less = not_get (out-Form e.form) (Form-F.Unary op b) a is get refl
get_operand r k s e a j c ts stands (is_binary {a = b} {b = d} {op = op} is left right fit nonzero) get less = not_get (out-Form e.form) (Form-F.Binary op b d) a is get refl
get_operand r k s e a j c ts stands (is_if {i = i} {a = b} {b = d} is test left right fit) get less = not_get (out-Form e.form) (Form-F.If i b d) a is get refl
get_operand r k s e a j c ts stands (is_fby {a = b} {b = d} is left right fit defined) get less = not_get (out-Form e.form) (Form-F.Fby b d) a is get refl
get_operand r k s e a j c ts stands (is_pre {a = b} is sound fit defined) get less = not_get (out-Form e.form) (Form-F.Pre b) a is get refl
get_operand r k s e a j c ts stands (is_arrow {a = b} {b = d} is left right fit) get less = not_get (out-Form e.form) (Form-F.Arrow b d) a is get refl
get_operand r k s e a j c ts stands (is_when {a = b} {tag = tag} {x = x} is sees sound tagged has fit defined) get less = not_get (out-Form e.form) (Form-F.When b tag x) a is get refl
get_operand r k s e a j c ts stands (is_merge {x = x} {bs = bs} is sees tagged defined parts_of_merge all fit) get less = not_get (out-Form e.form) (Form-F.Merge x bs) a is get refl
get_operand r k s e a j c ts stands (is_call {f = f} {args = args} is named given fit leads calls) get less = not_get (out-Form e.form) (Form-F.Call f args) a is get refl
get_operand r k s e a j c ts stands (is_async_call {q = q} {f = f} {args = args} is named given fit leads calls) get less = not_get (out-Form e.form) (Form-F.AsyncCall q f args) a is get refl

reply_good : (r : Run) (j : ℕ) (o : Option (List ℕ)) (d : Rule) → Asks_good r d → Asks_good r (reply_or (setting_of r) o j d)
reply_good r j None d h = h
reply_good r j (Some outs) d h = says_any

call_good : (r : Run) → SoundProgram r.program → (e : Expr) (j : ℕ) (c : Clock) (s : Scope) (t : ℕ) (o : Option (List Expr × Text)) → Sound_output r e j c s → call_of (setting_of r) (out-Form e.form) ≡ o →
    Asks_good r (output_rule (setting_of r) o e.place.0 j c s t)
call_good r program e j c s t None h is = says_any
call_good r program e j c s t (Some call) h is =
    let body = body_stands r program h.within s e c h.types call.0 call.1 h.stands h.sound is in
    count_good r (λ p. Present c s p) _ t (λ p. record { within = h.within; stands = h.stands })
    (λ n. reply_good r j _ _ (answer_good r (Variable (slice_index_or (outputs_of call.1) j []) (Called s c e.place.0 call.0 call.1) t) (record { within = body.within; stands = body.stands })))

outputs_good : (r : Run) → SoundProgram r.program → (e : Expr) (j : ℕ) (c : Clock) (s : Scope) (t : ℕ) (v : Form-F Form Expr MergeBranch) → Sound_output r e j c s → out-Form e.form ≡ v → Asks_good r (outputs_rule (setting_of r) v e j c s t)
outputs_good r program e j c s t (Form-F.Get a) h is = answer_good r (Output a j c s t) (get_operand r h.within s e a j c h.types h.stands h.sound is h.less)
outputs_good r program e j c s t (Form-F.Const k) h is = says_any
outputs_good r program e j c s t (Form-F.Var x) h is = says_any
outputs_good r program e j c s t (Form-F.Last x) h is = says_any
outputs_good r program e j c s t (Form-F.Unary op a) h is = says_any
outputs_good r program e j c s t (Form-F.Binary op a b) h is = says_any
outputs_good r program e j c s t (Form-F.If k a b) h is = says_any
outputs_good r program e j c s t (Form-F.Fby a b) h is = says_any
outputs_good r program e j c s t (Form-F.Pre a) h is = says_any
outputs_good r program e j c s t (Form-F.Arrow a b) h is = says_any
outputs_good r program e j c s t (Form-F.When a tag x) h is = says_any
outputs_good r program e j c s t (Form-F.Merge x bs) h is = says_any
outputs_good r program e j c s t (Form-F.AsyncConst k) h is = says_any
outputs_good r program e j c s t (Form-F.Call f args) h is = call_good r program e j c s t (call_of (setting_of r) (Form-F.Call f args)) h (ap (call_of (setting_of r)) is)
outputs_good r program e j c s t (Form-F.AsyncCall q f args) h is = call_good r program e j c s t (call_of (setting_of r) (Form-F.AsyncCall q f args)) h (ap (call_of (setting_of r)) is)

-- ---- scopes

branch_around : (r : Run) (s : Scope) (on : Expr) (b : Branch) → Standing r (In_branch s on b) → Standing r s
branch_around r s on b h = let o = branch_outside r h.within s on b h.stands in record { within = h.within; stands = o.3.stands }

body_around : (r : Run) (s : Scope) (every : Expr) (block : Block) → Standing r (In_body s every block) → Standing r s
body_around r s every block h = let o = body_outside r h.within s every block h.stands in record { within = h.within; stands = o.2.stands }

state_around : (r : Run) (s : Scope) (states : List State) (j : ℕ) → Standing r (In_state s states j) → Standing r s
state_around r s states j h = let o = state_outside r h.within s states j h.stands in record { within = h.within; stands = o.3.stands }

under_none : {P : Type 0} (r : Run) (s : Scope) (resets : List Name) → Standing r (Under s resets) → P
under_none r s resets h = elim h.stands.placed [ ]

-- the scrutinee, condition or automaton around a scope
scrutinee : (r : Run) (s : Scope) (on : Expr) (b : Branch) → Standing r (In_branch s on b) → SoundExpression r on [] s
scrutinee r s on b h =
    let o = branch_outside r h.within s on b h.stands in
    let w = sound_switch r h.within s o.0 o.1 on o.2 o.3 o.4 in
    sound_one r h.within s [] on (w.type ∷ []) o.3.stands w.sound (record { type = w.type; is = refl })

condition : (r : Run) (s : Scope) (every : Expr) (block : Block) → Standing r (In_body s every block) → SoundExpression r every [] s
condition r s every block h =
    let o = body_outside r h.within s every block h.stands in
    let w = sound_reset r h.within s o.0 o.1 block every o.2 o.3 in
    sound_one r h.within s [] every _ o.2.stands w.0.sound (record { type = _; is = refl })

states_around : (r : Run) (s : Scope) (states : List State) (j : ℕ) → Standing r (In_state s states j) → Sound_states r s states
states_around r s states j h =
    let o = state_outside r h.within s states j h.stands in
    record { within = h.within; equation = o.0; place = o.1; stands = o.3; is = o.4 }

module _ (r : Run) (run : IsSoundRun r) where
  caller_standing : (s : Scope) (c : Clock) (place : ℕ) (args : List Expr) (text : Text) → Standing r (Called s c place args text) → Standing r s
  caller_standing s c place args text h =
      let o = caller_of r run (node_of_name r run) h.within s c place args text h.stands in
      record { within = o.0; stands = o.3 }

  active_good : (s : Scope) (t : ℕ) → Standing r s → Asks_good r (active_rule (setting_of r) s t)
  active_good (Top text) t h = says_any
  active_good (Called s c place args text) t h = answer_good r (Present c s t) (caller_standing s c place args text h)
  active_good (In_branch s on b) t h = asks_good (scrutinee r s on b h) (λ a i. says_any)
  active_good (In_body s every block) t h = answer_good r (Active s t) (body_around r s every block h)
  active_good (In_state s states j) t h = asks_good (states_around r s states j h) (λ a i. says_any)
  active_good (Under s resets) t h = under_none r s resets h

  restarted_good : (s : Scope) (t : ℕ) → Standing r s → Asks_good r (restarted_rule (setting_of r) s t)
  restarted_good (Top text) t h = says_any
  restarted_good (Called s c place args text) t h = answer_good r (Restarted s t) (caller_standing s c place args text h)
  restarted_good (In_branch s on b) t h = answer_good r (Restarted s t) (branch_around r s on b h)
  restarted_good (In_body s every block) t h =
      asks_good (body_around r s every block h) (λ a i. if_good r (is_true a) _ _ (λ e. says_any) (λ e. asks_good (condition r s every block h) (λ b l. says_any)))
  restarted_good (In_state s states j) t h =
      asks_good (state_around r s states j h) (λ a i. if_good r (is_true a) _ _ (λ e. says_any) (λ e. asks_good (states_around r s states j h) (λ b l. says_any)))
  restarted_good (Under s resets) t h = under_none r s resets h

  steps_good : (c : Clock) (s : Scope) (t : ℕ) → Standing r s → Asks_good r (steps_hold (setting_of r) c s t)
  steps_good [] s t h = says_any
  steps_good (step ∷ c) s t h = asks_good h (λ a i. if_good r (is_value (tag_value (setting_of r).types step.tag) a) _ _ (λ e. steps_good c s t h) (λ e. says_any))

  -- ---- variables

  either_standing : (b : Bool) (s u : Scope) → Standing r s → Standing r u → Standing r (if b then s else u)
  either_standing true s u h k = h
  either_standing false s u h k = k

  home_standing : (x : Name) (s : Scope) → Standing r s → Standing r (home x s)
  home_standing x (Top text) h = h
  home_standing x (Called s c place args text) h = h
  home_standing x (In_branch s on b) h = either_standing (declares (In_branch s on b) x) (In_branch s on b) (home x s) h (home_standing x s (branch_around r s on b h))
  home_standing x (In_body s every block) h = either_standing (declares (In_body s every block) x) (In_body s every block) (home x s) h (home_standing x s (body_around r s every block h))
  home_standing x (In_state s states j) h = either_standing (declares (In_state s states j) x) (In_state s states j) (home x s) h (home_standing x s (state_around r s states j h))
  home_standing x (Under s resets) h = under_none r s resets h

  -- an argument of a call
  argument_sound : (k : Within) (s : Scope) (c : Clock) (args : List Expr) (tss : List (List Ty)) → StandsIn r k s → AllSound r (expressions args c s) → (j : ℕ) (e : Expr) → slice_get args j ≡ Some e → SoundExpression r e c s
  argument_sound k s c [] tss stands all j e at = no_some at
  argument_sound k s c (a ∷ args) tss stands all zero e at = subst (λ (x : Expr). SoundExpression r x c s) (some_is a e at) all.0
  argument_sound k s c (a ∷ args) tss stands all (suc j) e at = argument_sound k s c args tss stands all.1 j e at

  argument_good : (s : Scope) (c : Clock) (place : ℕ) (args : List Expr) (text : Text) (t j : ℕ) → Standing r (Called s c place args text) → (o : Option Expr) → slice_get args j ≡ o → Asks_good r (argument_rule (setting_of r) o c s t)
  argument_good s c place args text t j h None at = says_any
  argument_good s c place args text t j h (Some e) at =
      let o = caller_of r run (node_of_name r run) h.within s c place args text h.stands in
      let all : AllSound r (expressions args c s) = sound_arguments r o.0 s c args o.5.given o.3 o.5.arguments (call_single h.within.node o.5.given _ o.5.fits) in
      answer_good r (Gives e c s t) (argument_sound o.0 s c args o.5.given o.3 all j e at)

  own_good : (s : Scope) (x : Name) (t : ℕ) → Standing r s → Asks_good r (own_rule (setting_of r) s x t)
  own_good (Top text) x t h = if_good r (is_in x (inputs_of text)) _ _ (λ e. reads_any) (λ e. answer_good r (Defined x (Top text) t) h)
  own_good (Called s c place args text) x t h = if_good r (is_in x (inputs_of text)) _ _ (λ e. argument_good s c place args text t (place_in x (inputs_of text)) h _ refl) (λ e. answer_good r (Defined x (Called s c place args text) t) h)
  own_good (In_branch s on b) x t h = answer_good r (Defined x (In_branch s on b) t) h
  own_good (In_body s every block) x t h = answer_good r (Defined x (In_body s every block) t) h
  own_good (In_state s states j) x t h = answer_good r (Defined x (In_state s states j) t) h
  own_good (Under s resets) x t h = under_none r s resets h

  initial_good : (o : Option Decl) → Asks_good r (initial_rule (setting_of r) o)
  initial_good None = says_any
  initial_good (Some d) = constant_good d.init
    where
      constant_good : (o : Option Init) → Asks_good r (constant_of (setting_of r) o)
      constant_good None = says_any
      constant_good (Some i) = says_any

  -- ---- what a block defines

  right_good : (s : Scope) (x : Name) (t : ℕ) (e : Equation) (p : Place) (left : List Name) (right : Expr) (k : Within) → IsEquationOf r k s e → out-Equation e ≡ Equation-F.Define p left right → is_in x left ≡ true →
      Asks_good r (right_rule (setting_of r) left right x (clock_seen (setting_of r) x s) s t)
  right_good s x t e p left right k h is defines =
      let o = sound_define r k s e p left right h is in
      let l : Left_at k (site_of s) o.0 x left o.1 = left_at k (site_of s) o.0 x left o.1 o.3 defines in
      let long : length left ≡ length o.1 = left_length k (site_of s) o.0 left o.1 o.3 in
      let less : place_in x left < length o.1 = subst (λ (n : ℕ). place_in x left < n) long (place_small x left defines) in
      subst (λ (c : Clock). Asks_good r (right_rule (setting_of r) left right x c s t)) (sym (clock_here r k s x l.decl o.0 h.stands l.sees))
      (if_good r (length left == 1) _ _
      (λ one. answer_good r (Gives right o.0 s t) (record { within = k; types = o.1; stands = h.stands; sound = o.2; some = not_empty o.1 less }))
      (λ more. answer_good r (Output right (place_in x left) o.0 s t) (record { within = k; types = o.1; stands = h.stands; sound = o.2; less = less })))
    where
      not_empty : (ts : List Ty) → place_in x left < length ts → ts ≡ [] → ⊥
      not_empty ts less e = let f : length ts ≡ 0 = ap (λ (y : List Ty). length y) e in absurd (omega (arith, less, f))

  last_or_defined : (block : Block) (x : Name) (i s : Scope) (t : ℕ) → Standing r i → Standing r s → Asks_good r (defined_or_last (setting_of r) block x i s t)
  last_or_defined block x i s t h k = defined_good r x block.body _ (answer_good r (Defined x i t) h) (answer_good r (Last x s t) k)

  branch_good : (s : Scope) (x : Name) (t v : ℕ) (e : Equation) (p : Place) (on : Expr) (branches : List Branch) (k : Within) → IsEquationOf r k s e → out-Equation e ≡ Equation-F.Switch p on branches → (o : Option Branch) →
      branch_of (setting_of r).types v branches ≡ o → Asks_good r (branch_rule (setting_of r) o on x s t)
  branch_good s x t v e p on branches k h is None found = says_any
  branch_good s x t v e p on branches k h is (Some b) found =
      let inside = find_parts (λ (y : Branch). tag_value (setting_of r).types y.tag == v) branches b found in
      last_or_defined b.block x (In_branch s on b) s t
      (record { within = k; stands = record { number = h.stands.number; of_node = h.stands.of_node; text = h.stands.text; placed = at_branch h.stands.placed h.in_block is inside.0 } }) (record { within = k; stands = h.stands })

  state_good : (s : Scope) (x : Name) (t j : ℕ) (e : Equation) (p : Place) (states : List State) (k : Within) → IsEquationOf r k s e → out-Equation e ≡ Equation-F.Automaton p states → (o : Option State) → slice_get states j ≡ o →
      Asks_good r (defined_or_last (setting_of r) (block_or_none o) x (In_state s states j) s t)
  state_good s x t j e p states k h is None at = answer_good r (Last x s t) (record { within = k; stands = h.stands })
  state_good s x t j e p states k h is (Some q) at = last_or_defined q.block x (In_state s states j) s t (record { within = k; stands = state_stands r k s e p states j q h is at }) (record { within = k; stands = h.stands })

  equation_good : (s : Scope) (x : Name) (t : ℕ) (e : Equation) (k : Within) → IsEquationOf r k s e → IsKnown r (Defines x e) (Is true) → (v : Equation-F Equation Block Branch State) → out-Equation e ≡ v →
      Asks_good r (equation_rule (setting_of r) v x s t)
  equation_good s x t e k h defines (Equation-F.Define p left right) is = right_good s x t e p left right k h is (in_left (same_answer r (Defines x e) (Is true) (Is (is_in x left)) defines here))
    where
      here : IsKnown r (Defines x e) (Is (is_in x left))
      here = known_by r (Defines x e) (Is (is_in x left)) (subst (λ (v : Equation-F Equation Block Branch State). Follows (Known r) r.rows (defines_rule (setting_of r) v x) (Is (is_in x left))) (sym is) said) (λ f. cc)

      in_left : Is true ≡ Is (is_in x left) → is_in x left ≡ true
      in_left f = sym (ap is_true f)
  equation_good s x t e k h defines (Equation-F.Switch p on branches) is =
      let w = sound_switch r k s e p on branches h is in
      asks_good (sound_one r k s [] on (w.type ∷ []) h.stands w.sound (record { type = w.type; is = refl })) (λ a i. go_on_good r a _ (λ v y. branch_good s x t v e p on branches k h is _ refl))
  equation_good s x t e k h defines (Equation-F.Reset p block every) is = answer_good r (Defined x (In_body s every block) t)
      (record { within = k; stands = record { number = h.stands.number; of_node = h.stands.of_node; text = h.stands.text; placed = at_reset h.stands.placed h.in_block is } })
  equation_good s x t e k h defines (Equation-F.Automaton p states) is =
      asks_good (record { within = k; equation = e; place = p; stands = h; is = is }) (λ a i. go_on_state_good r a _ (λ j m. state_good s x t j e p states k h is (slice_get states j) refl))

  defines_known : (x : Name) (e : Equation) (a : Answer) → IsKnown r (Defines x e) a → is_true a ≡ true → IsKnown r (Defines x e) (Is true)
  defines_known x e (Is true) h i = h
  defines_known x e (Is false) h i = cc
  defines_known x e (Value v) h i = absurd (no_value v h)
    where
      no_value : (v : ℕ) → IsKnown r (Defines x e) (Value v) → ⊥
      no_value v h = let t : IsTruth (Value v) = defines_truth_of r x e (Value v) h in let f : Value v ≡ Is t.truth = t.is in cc
  defines_known x e Unknown h i = cc
  defines_known x e Absent h i = cc
  defines_known x e Nil h i = cc
  defines_known x e (State_at j m) h i = cc

  block_good : (k : Within) (s : Scope) (x : Name) (t : ℕ) → StandsIn r k s → (es : List Equation) → ((e : Equation) → Contains es e → Contains (block_of s).body e) → Asks_good r (block_rule (setting_of r) es x s t)
  block_good k s x t stands [] inside = says_any
  block_good k s x t stands (e ∷ es) inside = asks_good tt (λ a i. if_good r (is_true a) _ _
      (λ y. equation_good s x t e k (record { stands = stands; in_block = inside e (0, omega arith, refl) }) (defines_known x e a i y) (out-Equation e) refl)
      (λ n. block_good k s x t stands es (λ f g. inside f (Contains-append_right (e ∷ []) es f g))))

  defined_rule_good : (s : Scope) (x : Name) (t : ℕ) → Standing r s → Asks_good r (defined_rule (setting_of r) (text_of s) x s t)
  defined_rule_good s x t h = subst (λ (text : Text). Asks_good r (defined_rule (setting_of r) text x s t)) (sym h.stands.text) (block_good h.within s x t h.stands (block_of s).body (λ e i. i))

  defines_good : (x : Name) (v : Equation-F Equation Block Branch State) → Asks_good r (defines_rule (setting_of r) v x)
  defines_good x (Equation-F.Define p left right) = says_any
  defines_good x (Equation-F.Switch p on branches) = defined_good r x (flat_map (λ b. b.block.body) branches) _ says_any says_any
  defines_good x (Equation-F.Reset p block every) = defined_good r x block.body _ says_any says_any
  defines_good x (Equation-F.Automaton p states) = defined_good r x (flat_map (λ q. q.block.body) states) _ says_any says_any

  -- ---- automata

  taken_good : (k : Within) (s : Scope) (states : List State) (none : Answer) (t : ℕ) → StandsIn r k s → (es : List Escape) → ((e : Escape) → Contains es e → SoundExpression r e.condition [] s) → Asks_good r (taken (setting_of r) es states none s t)
  taken_good k s states none t stands [] each = says_any
  taken_good k s states none t stands (e ∷ es) each =
      asks_good (each e (0, omega arith, refl)) (λ a i. if_good r (is_true a) _ _ (λ y. says_any) (λ n. taken_good k s states none t stands es (λ f g. each f (Contains-append_right (e ∷ []) es f g))))

  strong_good : (s : Scope) (states : List State) (t j : ℕ) (m : Bool) → Sound_states r s states → (o : Option State) → slice_get states j ≡ o → Asks_good r (taken (setting_of r) (strong_of (setting_of r) o) states (State_at j m) s t)
  strong_good s states t j m h None at = says_any
  strong_good s states t j m h (Some q) at = taken_good h.within s states (State_at j m) t h.stands.stands q.strong
      (λ f g. sound_one r h.within s [] f.condition _ h.stands.stands (sound_strong r h.within s h.equation h.place states j q f h.stands h.is at g).0.sound (record { type = _; is = refl }))

  weak_good : (s : Scope) (states : List State) (t j : ℕ) → Sound_states r s states → (o : Option State) → slice_get states j ≡ o → Asks_good r (taken (setting_of r) (weak_of (setting_of r) o) states (State_at j false) (In_state s states j) t)
  weak_good s states t j h None at = says_any
  weak_good s states t j h (Some q) at =
      let inner = state_stands r h.within s h.equation h.place states j q h.stands h.is at in
      taken_good h.within (In_state s states j) states (State_at j false) t inner q.weak
      (λ f g. sound_one r h.within (In_state s states j) [] f.condition _ inner (sound_weak r h.within s h.equation h.place states j q f h.stands h.is at g).0.sound (record { type = _; is = refl }))

  active_state_good : (s : Scope) (states : List State) (t : ℕ) → Sound_states r s states → Asks_good r (active_state_rule (setting_of r) s states t)
  active_state_good s states t h =
      let st : Standing r s = record { within = h.within; stands = h.stands.stands } in
      present_good r (Active s t) _ st (previous_good r (λ p. Active s p) (λ p. Restarted s p) _ _ t (λ p. st) (λ p. st)
      (λ p. asks_good h (λ a i. go_on_state_good r a _ (λ j m. strong_good s states t j m h (slice_get states j) refl))) (strong_good s states t 0 false h (slice_get states 0) refl))

  left_state_good : (s : Scope) (states : List State) (t : ℕ) → Sound_states r s states → Asks_good r (left_state_rule (setting_of r) s states t)
  left_state_good s states t h = asks_good h (λ a i. go_on_state_good r a _ (λ j m. weak_good s states t j h (slice_get states j) refl))

  -- ---- all rules

  all_good : HasLefts r → (q : Question) → Good r q → Asks_good r (rule (setting_of r) q)
  all_good lefts (Gives e c s t) h = present_good r (Present c s t) _ (standing_of r e c s h) (form_good r e c s t (out-Form e.form) h (sound_pieces r run.sound lefts (Expression e c s) h))
  all_good lefts (Output e j c s t) h = present_good r (Present c s t) _ (record { within = h.within; stands = h.stands }) (outputs_good r run.sound e j c s t (out-Form e.form) h refl)
  all_good lefts (Variable x s t) h =
      let own = home_standing x s h in
      present_good r (Present (clock_in (setting_of r) (text_of (home x s)) x) (home x s) t) _ own (own_good (home x s) x t own)
  all_good lefts (Last x s t) h =
      let own = home_standing x s h in
      previous_good r (λ p. Active (home x s) p) (λ p. Restarted (home x s) p) _ _ t (λ p. own) (λ p. own) (λ p. answer_good r (Variable x (home x s) p) own) (initial_good _)
  all_good lefts (Defined x s t) h = defined_rule_good s x t h
  all_good lefts (Defines x e) h = defines_good x (out-Equation e)
  all_good lefts (Present c s t) h = asks_good h (λ a i. if_good r (is_true a) _ _ (λ e. steps_good c s t h) (λ e. says_any))
  all_good lefts (Active s t) h = active_good s t h
  all_good lefts (Restarted s t) h = restarted_good s t h
  all_good lefts (Active_state s states t) h = active_state_good s states t h
  all_good lefts (Left_state s states t) h = left_state_good s states t h

-- ---- sites

-- the scope of a site stands, and its arguments are sound there
record Good_site (r : Run) (site : Site) : Type 0 where
  standing : Standing r site.scope
  arguments : AllSound r (expressions site.args site.clock site.scope)

abbrev Good_sites : Run → List Site → Type 0
Good_sites r [] = ⊤
Good_sites r (site ∷ sites) = Good_site r site × Good_sites r sites

good_sites_append : (r : Run) (xs ys : List Site) → Good_sites r xs → Good_sites r ys → Good_sites r (xs ++ ys)
good_sites_append r [] ys h k = k
good_sites_append r (x ∷ xs) ys h k = (h.0, good_sites_append r xs ys h.1 k)

good_site_at : (r : Run) (sites : List Site) (i : ℕ) (site : Site) → Good_sites r sites → slice_get sites i ≡ Some site → Good_site r site
good_site_at r [] i site h at = no_some at
good_site_at r (x ∷ xs) zero site h at = subst (λ (y : Site). Good_site r y) (some_is x site at) h.0
good_site_at r (x ∷ xs) (suc i) site h at = good_site_at r xs i site h.1 at

async_good : (r : Run) (q place : ℕ) (args : List Expr) (c : Clock) (s : Scope) (o : Option Text) → Standing r s → AllSound r (expressions args c s) → Good_sites r (async_site (setting_of r) o q args place c s)
async_good r q place args c s None h k = tt
async_good r q place args c s (Some text) h k = (record { standing = h; arguments = k }, tt)

form_sites_good : (r : Run) (e : Expr) (c : Clock) (s : Scope) (v : Form-F Form Expr MergeBranch) → Standing r s → AllSound r (form_pieces (setting_of r) v e c s) → Good_sites r (form_site (setting_of r) v e c s)
form_sites_good r e c s (Form-F.AsyncCall q f args) h k = async_good r q e.place.0 args c s _ h k
form_sites_good r e c s _ h k = tt

own_sites_good : (r : Run) (p : Piece) → IsSoundPiece r p → AllSound r (pieces (setting_of r) p) → Good_sites r (own_site (setting_of r) p)
own_sites_good r (Expression e c s) h k = form_sites_good r e c s (out-Form e.form) (standing_of r e c s h) k
own_sites_good r _ h k = tt

module _ (r : Run) (run : IsSoundRun r) (lefts : HasLefts r) where
  mutual
    good_sites_of : (p : Piece) (sites : List Site) → SitesOf (setting_of r) p sites → IsSoundPiece r p → Good_sites r sites
    good_sites_of p sites (whole {sites = inner} h) good = good_sites_append r (own_site (setting_of r) p) inner (own_sites_good r p good (sound_pieces r run.sound lefts p good))
        (good_sites_of_all (pieces (setting_of r) p) inner h (sound_pieces r run.sound lefts p good))

    good_sites_of_all : (ps : List Piece) (sites : List Site) → SitesOfAll (setting_of r) ps sites → AllSound r ps → Good_sites r sites
    good_sites_of_all ps sites no_pieces good = tt
    good_sites_of_all ps sites (first {piece = p} {rest = rest} {sites = xs} {others = ys} h hs) good = good_sites_append r xs ys (good_sites_of p xs h good.0) (good_sites_of_all rest ys hs good.1)

  top_standing : SoundBody r (Top (text_run r))
  top_standing = top_sound r run.sound run.chosen

  all_sites_good : (sites : List Site) → Sites (setting_of r) (text_run r) sites → Good_sites r sites
  all_sites_good sites h = subst (λ (xs : List Site). Good_sites r xs) h.order (good_sites_of (Body (Top (text_run r))) h.found h.all top_standing)

  -- whatever is reached is good
  reached_good : (sites : List Site) → Good_sites r sites → (q : Question) → Reached (setting_of r) r.rows (text_run r) sites q → Good r q
  reached_good sites all q (of_top {x = x} {t = t}) = record { within = top_standing.within; stands = top_standing.stands }
  reached_good sites all q (of_restart i {t = t} {site = site} at) = (good_site_at r sites i site all at).standing
  reached_good sites all q (of_presence i {t = t} {site = site} at) = (good_site_at r sites i site all at).standing
  reached_good sites all q (of_argument i j {t = t} {site = site} {e = e} at arg) =
      let g = good_site_at r sites i site all at in
      argument_sound r run g.standing.within site.scope site.clock site.args [] g.standing.stands g.arguments j e arg
  reached_good sites all q (of_rule {q = p} h a) = only (setting_of r) r.rows (Good r) (rule (setting_of r) p) q (all_good r run lefts p (reached_good sites all p h)) a

  -- ---- outputs of calls

  types_long : (text : Text) (n : ℕ) (k : Within) → text ≡ Written n k.node → length (types_of k.node.outputs) ≡ length (outputs_of text)
  types_long text n k is = length-map k.node.outputs (λ (d : Decl). d.ty) ∙ sym (length-map k.node.outputs (λ (d : Decl). d.name)) ∙ sym (ap (λ (x : Text). length (outputs_of x)) is)

  call_is : (us : List Expr) (text : Text) (call : List Expr × Text) → Some (of_call us text) ≡ Some call → text ≡ call.1
  call_is us text call e = ap (λ (x : List Expr × Text). x.1) (some_is (of_call us text) call e)

  call_long : (k : Within) (s : Scope) (e : Expr) (c : Clock) (ts : List Ty) (call : List Expr × Text) (v : Form-F Form Expr MergeBranch) → StandsIn r k s → Sound k (site_of s) e c ts → out-Form e.form ≡ v →
      call_of (setting_of r) v ≡ Some call → length ts ≡ length (outputs_of call.1)
  call_long k s e c ts call (Form-F.Call f args) stands sound is h =
      let o = call_of_node r run (node_of_name r run) k s e c ts f args stands sound is in
      ap (λ (x : List Ty). length x) o.3 ∙ types_long o.0 o.2.number o.1 o.2.text_is
      ∙ ap (λ (x : Text). length (outputs_of x)) (call_is args o.0 call (sym o.2.call ∙ ap (call_of (setting_of r)) is ∙ h))
  call_long k s e c ts call (Form-F.AsyncCall q f args) stands sound is h =
      let o = async_call_of_node r run (node_of_name r run) k s e c ts q f args stands sound is in
      ap (λ (x : List Ty). length x) o.3 ∙ length-map (types_of o.1.node.outputs) future_of ∙ types_long o.0 o.2.number o.1 o.2.text_is
      ∙ ap (λ (x : Text). length (outputs_of x)) (call_is args o.0 call (sym o.2.call ∙ ap (call_of (setting_of r)) is ∙ h))
  call_long k s e c ts call _ stands sound is h = no_some h

  pub outputs_fit : (sites : List Site) → Sites (setting_of r) (text_run r) sites → OutputsFit (setting_of r) r.rows (text_run r) sites
  outputs_fit sites h e j clock s t call reached calls =
      let g : Sound_output r e j clock s = reached_good sites (all_sites_good sites h) (Output e j clock s t) reached in
      subst (λ (n : ℕ). j < n) (call_long g.within s e clock g.types call (out-Form e.form) g.stands g.sound refl calls) g.less
