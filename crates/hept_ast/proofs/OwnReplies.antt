-- Replies that are the sites' own values change nothing: what is known without them is known under them.
use Rattle.std.proofs.Common.{◌≡◌, ◌≢◌, ℕ, zero, suc, ◌+◌, ◌≤◌, ◌<◌, Bool, true, false, ◌||◌, List, [], ◌∷◌, ◌++◌, Option, Some, None, map, length, refl, sym, ap, subst, arith, ◌∙◌}
use Rattle.std.specs.Prelude.{if◌then◌else◌, slice_get, slice_index, slice_index_or}
use Rattle.std.specs.Str.{bytes_eq}
use Rattle.std.proofs.lemmas.Slice.Eq.{bytes_eq-Decides}
use Rattle.hept_ast.specs.Texts.{Name}
use Rattle.hept_ast.specs.Scopes.{Clock, Text, Scope, Top, Called, outputs_of, calls_around}
use Rattle.hept_ast.specs.Meaning.{Question, Gives, Output, Variable, Last, Defined, Defines, Present, Active, Restarted, Active_state, Left_state, Answer, Unknown, Absent, Value, Is, Rule, Says, Setting, is_true, answer_to, count_before, reply_or, output_rule, outputs_rule, call_of, rule, input_at}
use Rattle.hept_ast.specs.Outputs.{Knows, Follows, said, read, asked, HaveValues, OutputsFrom}
use Rattle.hept_ast.specs.Sites.{Site, path_of, SentFrom, end, no_call, call, Sent, by_site, with_replies}
use Rattle.hept_ast.specs.Calls.{marks_of, GivenOutputs}
use Rattle.hept_ast.specs.Marks.{HasNoReplies}
use Rattle.hept_ast.specs.OwnReplies.{AskedBy, at_once, after_answer, Reached, of_top, of_restart, of_presence, of_argument, of_rule, IsCallOf, PathsTell, OutputsFit, AreOwn, OwnRepliesKeepOutputs, OwnRepliesKeepSent}
use Rattle.hept_ast.specs.declared.tree.Expr.{Expr}
use Rattle.hept_ast.specs.declared.tree.MergeBranch.{MergeBranch}
use Rattle.hept_ast.specs.declared.tree.Form.{Form, out-Form}
use Rattle.hept_ast.specs.declared.tree.Form.TheOpen.{Form-F}
use Rattle.hept_ast.proofs.Depths.{to_rule, one_answer, induction}
use Rattle.hept_ast.proofs.Transfer.{Tied, tracked}
use Rattle.hept_ast.proofs.Marks.{later}
use Rattle.hept_ast.proofs.OtherReplies.{Pair, Same, IsNoOutput, rule_leads}
use Rattle.hept_ast.proofs.CallAlone.{Case, Shape, Gives_at, Variable_at, Last_at, Defined_at, Defines_at, Present_at, Active_at, Restarted_at, Active_state_at, Left_state_at, here, there, Lifted, Within, Here, Till, start, skip, step, Off, facts_of, lifted, Ties, ties_rest, shift, alone_of, seen_of}

-- a meaning without replies, and the own values as replies
pub record Run : Type 0 where
  pub w : Setting
  pub text : Text
  pub sites : List Site
  pub lists : List (List (List ℕ))
  pub rows : List (List ℕ)
  pub no_replies : HasNoReplies w
  pub tell : PathsTell w rows text sites
  pub fit : OutputsFit w rows text sites
  pub own : AreOwn w sites lists rows

abbrev pub under : Run → Setting
under r = with_replies r.w r.sites r.lists

abbrev pub case_at : Run → Site → List (Bool × List ℕ) → Case
case_at r site calls = record { w = r.w; rows = r.rows; site = site; marks = marks_of calls; inputs = map (λ d. d.1) calls; seen = by_site r.sites r.lists }

abbrev pub IsReached : Run → Question → Type 0
IsReached r q = Reached r.w r.rows r.text r.sites q

-- what is known under the replies, and alone within the calls of a site
pub record Known (r : Run) (q : Question) (a : Answer) : Type 0 where
  pub under_replies : Knows (under r) r.rows q a
  pub within : (site : Site) (calls : List (Bool × List ℕ)) (shape : Shape) (t n : ℕ) (again : Bool) → Here (case_at r site calls) t n again →
      q ≡ there site shape t → Lifted (case_at r site calls) shape n again a

abbrev K : Run → Question → Answer → Type 0
K r q a = Knows r.w r.rows q a × (IsReached r q → Known r q a)

abbrev There : Run → Rule → Answer → Type 0
There r d a = Follows (Known r) r.rows d a

abbrev Under : Run → Rule → Answer → Type 0
Under r d a = Follows (Knows (under r) r.rows) r.rows d a

reach : (r : Run) (d : Rule) (a : Answer) → ((p : Question) → AskedBy r.w r.rows d p → IsReached r p) → Follows (K r) r.rows d a → There r d a
reach r d a h said = said
reach r d a h (read e) = read e
reach r d a h (asked {q = q} {go = go} {a = b} k f) = asked (k.1 (h q at_once)) (reach r (go b) a (λ p m. h p (after_answer k.0 m)) f)

within_of : (r : Run) (site : Site) (calls : List (Bool × List ℕ)) {d : Rule} {a : Answer} → There r d a → Within (case_at r site calls) d a
within_of r site calls said = said
within_of r site calls (read e) = read e
within_of r site calls (asked k f) = asked (k.under_replies, λ shape t n again h e. k.within site calls shape t n again h e) (within_of r site calls f)

tied_of : (r : Run) {d : Rule} {a : Answer} → There r d a → Follows (Tied (under r) r.rows Same) r.rows d a
tied_of r said = said
tied_of r (read e) = read e
tied_of r (asked {a = b} k f) = asked (λ p e. subst (λ (x : Question). Knows (under r) r.rows x b) e k.under_replies) (tied_of r f)

-- ---- questions but for outputs

abbrev pair_of : Run → Pair
pair_of r = record { w = r.w; replies = by_site r.sites r.lists }

plain_known : (r : Run) (shape : Shape) (t : ℕ) → IsNoOutput (here shape t) → (a : Answer) → a ≢ Unknown → There r (rule r.w (here shape t)) a → Knows (under r) r.rows (here shape t) a
plain_known r shape t plain a known f = to_rule (under r) r.rows (here shape t) a
    (tracked (under r) r.rows Same (rule r.w (here shape t)) (rule (under r) (here shape t)) a (rule_leads (pair_of r) shape t plain).tracks (tied_of r f) known) known

-- ---- where an instant stands among the calls of a site

data Position (c : Case) (outs : List (List ℕ)) (t : ℕ) : Type 0 where
  off_call : Off c t → Position c outs t
  on_call : (n : ℕ) (again : Bool) (out : List ℕ) → Here c t n again → slice_get outs n ≡ Some out →
      HaveValues (alone_of c) c.inputs (map (λ x. Variable x (Top c.site.text) n) (outputs_of c.site.text)) out → Position c outs t
  past_calls : (m u n : ℕ) (again : Bool) → Till c u n again → t ≡ later u m → n ≡ length outs → Position c outs t

shift_later : (m t : ℕ) → shift m t ≡ later t m
shift_later zero t = refl
shift_later (suc m) t = shift_later m (suc t) ∙ first m t
  where
    first : (k u : ℕ) → later (suc u) k ≡ suc (later u k)
    first zero u = refl
    first (suc k) u = ap suc (first k u)

position : (c : Case) (t left n : ℕ) (again : Bool) (calls : List (Bool × List ℕ)) (outs all : List (List ℕ)) → Till c t n again → Ties c n calls →
    SentFrom (seen_of c) c.rows c.site again t left calls → OutputsFrom (alone_of c) c.inputs c.site.text n (map (λ d. d.1) calls) outs →
    ((k : ℕ) → slice_get all (shift k n) ≡ slice_get outs k) → n + length outs ≡ length all → (m : ℕ) → Position c all (shift m t)
position c t left n again calls [] all till ties end h link size m = past_calls m t n again till (shift_later m t) (omega arith)
position c t left n again calls (out ∷ outs) all till ties end h link size m = elim h [ ]
position c t left n again calls outs all till ties (no_call r p s) h link size zero = off_call p
position c t left n again calls outs all till ties (no_call {restarted = now} {left = l} r p s) h link size (suc m) =
    position c (suc t) l n (again || now) calls outs all (skip till r p) ties s h link size m
position c t left n again calls [] all till ties (call r p v s) h link size m = elim h [ ]
position c t left n again calls (out ∷ outs) all till ties (call {restarted = now} {left = l} {args = vs} {calls = rest} r p v s) h link size zero =
    on_call n again out (record { till = till; facts = facts_of c t n again now vs rest ties r p v }) (link 0) h.0
position c t left n again calls (out ∷ outs) all till ties (call {restarted = now} {left = l} {args = vs} {calls = rest} r p v s) h link size (suc m) =
    position c (suc t) l (suc n) false rest outs all (step till (facts_of c t n again now vs rest ties r p v)) (ties_rest c n (again || now, vs) rest ties) s h.1
    (λ k. link (suc k)) (omega arith) m

shift_zero : (k n : ℕ) → shift k n ≡ k + n
shift_zero zero n = omega arith
shift_zero (suc k) n = shift_zero k (suc n) ∙ omega arith

ties_at : (r : Run) (site : Site) (calls : List (Bool × List ℕ)) → Ties (case_at r site calls) 0 calls
ties_at r site calls = record {
  marks = λ n. ap (marks_of calls) (shift_zero n 0 ∙ omega arith);
  inputs = λ n j. ap (λ (m : ℕ). input_at (map (λ d. d.1) calls) m j) (shift_zero n 0 ∙ omega arith);
}

position_of : (r : Run) (site : Site) (calls : List (Bool × List ℕ)) (outs : List (List ℕ)) → Sent (under r) r.rows site calls → GivenOutputs r.w site calls outs →
    (t : ℕ) → Position (case_at r site calls) outs t
position_of r site calls outs sent given t =
    subst (λ (k : ℕ). Position (case_at r site calls) outs k) (let e : shift t 0 ≡ t = shift_zero t 0 ∙ omega arith in e)
    (position (case_at r site calls) 0 (length r.rows) 0 false calls outs outs start (ties_at r site calls) sent given
    (λ k. ap (λ (j : ℕ). slice_get outs j) (shift_zero k 0 ∙ omega arith)) (omega arith) t)

-- ---- counting the calls before an instant

abbrev Hand : Run → (go go' : ℕ → Rule) → Answer → ℕ → Type 0
Hand r go go' a n = There r (go n) a → Under r (go' n) a

count_same : (r : Run) (a : Answer) (present : ℕ → Question) (t : ℕ) (go go' : ℕ → Rule) → ((n : ℕ) → Hand r go go' a n) →
    There r (count_before present go t) a → Under r (count_before present go' t) a
count_same r a present zero go go' h f = h 0 f
count_same r a present (suc t) go go' h (asked {a = x} k f) =
    asked k.under_replies (count_same r a present t _ _ (λ n. h (if is_true x then n + 1 else n)) f)

abbrev presence : Site → ℕ → Question
presence site p = Present site.clock site.scope p

count_on : (r : Run) (site : Site) (calls : List (Bool × List ℕ)) (a : Answer) (t n : ℕ) (again : Bool) → Till (case_at r site calls) t n again → (go go' : ℕ → Rule) →
    Hand r go go' a n → There r (count_before (presence site) go t) a → Under r (count_before (presence site) go' t) a
count_on r site calls a t n again start go go' h f = h f
count_on r site calls a t n again (skip {t = p} {i = j} {again = before} till o off) go go' h (asked {a = x} k f) =
    let e : x ≡ Is false = one_answer (under r) r.rows _ _ _ k.under_replies off in
    let number : (if is_true x then j + 1 else j) ≡ j = ap (λ (y : Answer). if is_true y then j + 1 else j) e in
    asked k.under_replies (count_on r site calls a p j before till (λ m. go (if is_true x then m + 1 else m)) (λ m. go' (if is_true x then m + 1 else m))
    (subst (λ (m : ℕ). Hand r go go' a m) (sym number) h) f)
count_on r site calls a t n again (step {t = p} {i = j} {again = before} till facts) go go' h (asked {a = x} k f) =
    let e : x ≡ Is true = one_answer (under r) r.rows _ _ _ k.under_replies facts.present in
    let number : (if is_true x then j + 1 else j) ≡ suc j = ap (λ (y : Answer). if is_true y then j + 1 else j) e ∙ omega arith in
    asked k.under_replies (count_on r site calls a p j before till (λ m. go (if is_true x then m + 1 else m)) (λ m. go' (if is_true x then m + 1 else m))
    (subst (λ (m : ℕ). Hand r go go' a m) (sym number) h) f)

no_less : (b : Bool) (n k : ℕ) → n ≤ k → n ≤ (if b then k + 1 else k)
no_less true n k h = omega arith
no_less false n k h = h

count_past : (r : Run) (site : Site) (calls : List (Bool × List ℕ)) (a : Answer) (u n : ℕ) (again : Bool) → Till (case_at r site calls) u n again → (m : ℕ) (go go' : ℕ → Rule) →
    ((k : ℕ) → n ≤ k → Hand r go go' a k) → There r (count_before (presence site) go (later u m)) a → Under r (count_before (presence site) go' (later u m)) a
count_past r site calls a u n again till zero go go' h f = count_on r site calls a u n again till go go' (h n (omega arith)) f
count_past r site calls a u n again till (suc m) go go' h (asked {a = x} k f) =
    asked k.under_replies (count_past r site calls a u n again till m _ _ (λ j l. h (if is_true x then j + 1 else j) (no_less (is_true x) n j l)) f)

-- ---- the replies to a call

beyond : {A : Type 0} (xs : List A) (k : ℕ) → length xs ≤ k → slice_get xs k ≡ None
beyond [] k h = refl
beyond (x ∷ xs) zero h = absurd (omega arith)
beyond (x ∷ xs) (suc k) h = beyond xs k (omega arith)

value_at : (w : Setting) (rows : List (List ℕ)) (text : Text) (n : ℕ) (xs : List Name) (out : List ℕ) (j : ℕ) → j < length xs →
    HaveValues w rows (map (λ x. Variable x (Top text) n) xs) out → Knows w rows (Variable (slice_index_or xs j []) (Top text) n) (Value (slice_index out j))
value_at w rows text n [] out j less h = absurd (omega arith)
value_at w rows text n (x ∷ xs) [] j less h = elim h [ ]
value_at w rows text n (x ∷ xs) (v ∷ out) zero less h = h.0
value_at w rows text n (x ∷ xs) (v ∷ out) (suc j) less h = value_at w rows text n xs out j (omega arith) h.1

-- the variable that output j of a site's call asks for
abbrev asked_for : Site → ℕ → ℕ → Question
asked_for site j t = Variable (slice_index_or (outputs_of site.text) j []) (Called site.scope site.clock site.place site.args site.text) t

value_is : (r : Run) (site : Site) (calls : List (Bool × List ℕ)) (j t n : ℕ) (again : Bool) (out : List ℕ) (a : Answer) → j < length (outputs_of site.text) →
    Here (case_at r site calls) t n again → HaveValues (alone_of (case_at r site calls)) (map (λ d. d.1) calls) (map (λ x. Variable x (Top site.text) n) (outputs_of site.text)) out →
    There r (answer_to (asked_for site j t)) a → Under r (Says (Value (slice_index out j))) a
value_is r site calls j t n again out a less h values (asked {a = v} k said) =
    let e : Value (slice_index out j) ≡ v = one_answer (alone_of (case_at r site calls)) (map (λ d. d.1) calls) _ _ _
    (value_at (alone_of (case_at r site calls)) (map (λ d. d.1) calls) site.text n (outputs_of site.text) out j less values)
    (k.within site calls (Variable_at (slice_index_or (outputs_of site.text) j []) (Top site.text)) t n again h refl) in
    subst (λ (x : Answer). Under r (Says (Value (slice_index out j))) x) e said

pass : (r : Run) (q : Question) (a : Answer) → There r (answer_to q) a → Under r (answer_to q) a
pass r q a (asked k said) = asked k.under_replies said

-- with no reply here and there, or with a reply there
reply_none : (r : Run) (o p : Option (List ℕ)) (j : ℕ) (q : Question) (a : Answer) → o ≡ None → p ≡ None →
    There r (reply_or r.w o j (answer_to q)) a → Under r (reply_or (under r) p j (answer_to q)) a
reply_none r None None j q a e f h = pass r q a h
reply_none r (Some x) p j q a e f h = cc
reply_none r None (Some x) j q a e f h = cc

reply_some : (r : Run) (o p : Option (List ℕ)) (j : ℕ) (q : Question) (out : List ℕ) (a : Answer) → o ≡ None → p ≡ Some out →
    (There r (answer_to q) a → Under r (Says (Value (slice_index out j))) a) → There r (reply_or r.w o j (answer_to q)) a → Under r (reply_or (under r) p j (answer_to q)) a
reply_some r None (Some x) j q out a e f h k = subst (λ (o : List ℕ). Under r (Says (Value (slice_index o j))) a) (let g : out ≡ x = cc in g) (h k)
reply_some r (Some x) p j q out a e f h k = cc
reply_some r None None j q out a e f h k = cc

same_bytes : (xs ys : List ℕ) → bytes_eq xs ys ≡ true → xs ≡ ys
same_bytes xs ys e = (bytes_eq-Decides xs ys).0 e

-- the replies that a path has
data Replied (sites : List Site) (lists : List (List (List ℕ))) (path : List ℕ) : Type 0 where
  no_reply : ((n : ℕ) → by_site sites lists path n ≡ None) → Replied sites lists path
  replied : (i : ℕ) (site : Site) (outs : List (List ℕ)) → slice_get sites i ≡ Some site → slice_get lists i ≡ Some outs → path_of site ≡ path →
      ((n : ℕ) → by_site sites lists path n ≡ slice_get outs n) → Replied sites lists path

replied_first : (site : Site) (sites : List Site) (outs : List (List ℕ)) (lists : List (List (List ℕ))) (path : List ℕ) (b : Bool) → bytes_eq (path_of site) path ≡ b →
    Replied sites lists path → Replied (site ∷ sites) (outs ∷ lists) path
replied_first site sites outs lists path true e h =
    replied 0 site outs refl refl (same_bytes (path_of site) path e) (λ n. ap (λ (x : Bool). if x then slice_get outs n else by_site sites lists path n) e)
replied_first site sites outs lists path false e (no_reply h) =
    no_reply (λ n. ap (λ (x : Bool). if x then slice_get outs n else by_site sites lists path n) e ∙ h n)
replied_first site sites outs lists path false e (replied i other others f g p h) =
    replied (suc i) other others f g p (λ n. ap (λ (x : Bool). if x then slice_get outs n else by_site sites lists path n) e ∙ h n)

replied_by : (sites : List Site) (lists : List (List (List ℕ))) (path : List ℕ) → Replied sites lists path
replied_by [] lists path = no_reply (λ n. refl)
replied_by (site ∷ sites) [] path = no_reply (λ n. refl)
replied_by (site ∷ sites) (outs ∷ lists) path = replied_first site sites outs lists path (bytes_eq (path_of site) path) refl (replied_by sites lists path)

-- ---- the outputs of a call

-- the site as a call's parts
abbrev site_of : Site → (s : Scope) → Clock → (place : ℕ) → (call : List Expr × Text) → Site
site_of site s clock place d = record { scope = s; clock = clock; place = place; queue = site.queue; args = d.0; text = d.1 }

site_is : (site : Site) (s : Scope) (clock : Clock) (place : ℕ) (d : List Expr × Text) → IsCallOf site s clock place d → site ≡ site_of site s clock place d
site_is site s clock place d h =
    ap (λ (x : Scope). record { scope = x; clock = site.clock; place = site.place; queue = site.queue; args = site.args; text = site.text }) h.scope
    ∙ ap (λ (x : Clock). record { scope = s; clock = x; place = site.place; queue = site.queue; args = site.args; text = site.text }) h.clocks
    ∙ ap (λ (x : ℕ). record { scope = s; clock = clock; place = x; queue = site.queue; args = site.args; text = site.text }) h.places
    ∙ ap (λ (x : List Expr). record { scope = s; clock = clock; place = place; queue = site.queue; args = x; text = site.text }) h.args
    ∙ ap (λ (x : Text). record { scope = s; clock = clock; place = place; queue = site.queue; args = d.0; text = x }) h.text

-- the rule for output j of a site's call, with the replies to its path
abbrev call_rule : (Setting) → Site → ℕ → ℕ → Rule
call_rule w site j t = count_before (presence site) (λ n. reply_or w (w.replies (path_of site) n) j (answer_to (asked_for site j t))) t

-- with the replies of a site
replied_rule : (r : Run) (site : Site) (calls : List (Bool × List ℕ)) (outs : List (List ℕ)) (j t : ℕ) (x a : Answer) → j < length (outputs_of site.text) →
    Knows (under r) r.rows (presence site t) x → is_true x ≡ true → ((n : ℕ) → by_site r.sites r.lists (path_of site) n ≡ slice_get outs n) →
    Position (case_at r site calls) outs t → There r (call_rule r.w site j t) a → Under r (call_rule (under r) site j t) a
replied_rule r site calls outs j t x a less k holds e (off_call off) f =
    let same : x ≡ Is false = one_answer (under r) r.rows _ _ _ k off in
    let none_here : is_true x ≡ false = ap is_true same in cc
replied_rule r site calls outs j t x a less k holds e (on_call n again out h is values) f =
    count_on r site calls a t n again h.till _ _
    (reply_some r _ _ j (asked_for site j t) out a (r.no_replies (path_of site) n) (e n ∙ is) (λ g. value_is r site calls j t n again out a less h values g)) f
replied_rule r site calls outs j t x a less k holds e (past_calls m u n again till is many) f =
    subst (λ (p : ℕ). Under r (count_before (presence site) (λ i. reply_or (under r) (by_site r.sites r.lists (path_of site) i) j (answer_to (asked_for site j t))) p) a) (sym is)
    (count_past r site calls a u n again till m _ _
    (λ i le. reply_none r _ _ j (asked_for site j t) a (r.no_replies (path_of site) i) (e i ∙ beyond outs i (let l : length outs ≤ i = omega arith in l)))
    (subst (λ (p : ℕ). There r (count_before (presence site) (λ i. reply_or r.w (r.w.replies (path_of site) i) j (answer_to (asked_for site j t))) p) a) is f))

site_rule : (r : Run) (i : ℕ) (site : Site) (outs : List (List ℕ)) (j t : ℕ) (x a : Answer) → slice_get r.sites i ≡ Some site → slice_get r.lists i ≡ Some outs →
    j < length (outputs_of site.text) → Knows (under r) r.rows (presence site t) x → is_true x ≡ true → ((n : ℕ) → by_site r.sites r.lists (path_of site) n ≡ slice_get outs n) →
    There r (call_rule r.w site j t) a → Under r (call_rule (under r) site j t) a
site_rule r i site outs j t x a at list less k holds e f =
    let o : (calls : List (Bool × List ℕ)) × (others : List (List ℕ)) × (slice_get r.lists i ≡ Some others) × Sent (under r) r.rows site calls × GivenOutputs r.w site calls others = r.own i site at in
    let same : o.1 ≡ outs = some_same (sym o.2 ∙ list) in
    replied_rule r site o.0 outs j t x a less k holds e (position_of r site o.0 outs o.3 (subst (λ (z : List (List ℕ)). GivenOutputs r.w site o.0 z) same o.4) t) f
  where
    some_same : {p q : List (List ℕ)} → Some p ≡ Some q → p ≡ q
    some_same h = cc

-- what is known of a call's expression
abbrev Tells : Run → (s : Scope) → Clock → (place j : ℕ) → Option (List Expr × Text) → Type 0
Tells r s clock place j d = (c : List Expr × Text) (i : ℕ) (site : Site) → d ≡ Some c → slice_get r.sites i ≡ Some site → path_of site ≡ calls_around s ++ place ∷ [] →
    IsCallOf site s clock place c × (j < length (outputs_of c.1))

call_known : (r : Run) (c : List Expr × Text) (place j : ℕ) (clock : Clock) (s : Scope) (t : ℕ) (x a : Answer) → Tells r s clock place j (Some c) →
    Knows (under r) r.rows (Present clock s t) x → is_true x ≡ true → Replied r.sites r.lists (calls_around s ++ place ∷ []) →
    There r (output_rule r.w (Some c) place j clock s t) a → Under r (output_rule (under r) (Some c) place j clock s t) a
call_known r c place j clock s t x a tell k holds (no_reply none) f =
    count_same r a (λ p. Present clock s p) t _ _
    (λ n. reply_none r _ _ j (Variable (slice_index_or (outputs_of c.1) j []) (Called s clock place c.0 c.1) t) a (r.no_replies (calls_around s ++ place ∷ []) n) (none n)) f
call_known r c place j clock s t x a tell k holds (replied i site outs at list path e) f =
    let told : IsCallOf site s clock place c × (j < length (outputs_of c.1)) = tell c i site refl at path in
    let here_is : slice_get r.sites i ≡ Some (site_of site s clock place c) = at ∙ ap Some (site_is site s clock place c told.0) in
    site_rule r i (site_of site s clock place c) outs j t x a here_is list told.1 k holds e f

nothing : (r : Run) (d : Rule) (a : Answer) → a ≢ Unknown → There r (Says Unknown) a → Under r d a
nothing r d a known said = absurd (known refl)

output_known : (r : Run) (d : Option (List Expr × Text)) (place j : ℕ) (clock : Clock) (s : Scope) (t : ℕ) (x a : Answer) → a ≢ Unknown → Tells r s clock place j d →
    Knows (under r) r.rows (Present clock s t) x → is_true x ≡ true → There r (output_rule r.w d place j clock s t) a → Under r (output_rule (under r) d place j clock s t) a
output_known r None place j clock s t x a known tell k holds f = nothing r (Says Unknown) a known f
output_known r (Some c) place j clock s t x a known tell k holds f = call_known r c place j clock s t x a tell k holds (replied_by r.sites r.lists (calls_around s ++ place ∷ [])) f

outputs_known : (r : Run) (f : Form-F Form Expr MergeBranch) (e : Expr) (j : ℕ) (clock : Clock) (s : Scope) (t : ℕ) (x a : Answer) → a ≢ Unknown → Tells r s clock e.place.0 j (call_of r.w f) →
    Knows (under r) r.rows (Present clock s t) x → is_true x ≡ true → There r (outputs_rule r.w f e j clock s t) a → Under r (outputs_rule (under r) f e j clock s t) a
outputs_known r (Form-F.Get b) e j clock s t x a known tell k holds g = pass r (Output b j clock s t) a g
outputs_known r (Form-F.Call f args) e j clock s t x a known tell k holds g = output_known r (call_of r.w (Form-F.Call f args)) e.place.0 j clock s t x a known tell k holds g
outputs_known r (Form-F.AsyncCall q f args) e j clock s t x a known tell k holds g = output_known r (call_of r.w (Form-F.AsyncCall q f args)) e.place.0 j clock s t x a known tell k holds g
outputs_known r _ e j clock s t x a known tell k holds g = nothing r (Says Unknown) a known g

present_if : (r : Run) (b : Bool) (d d' : Rule) (a : Answer) → (b ≡ true → There r d a → Under r d' a) → There r (if b then d else Says Absent) a → Under r (if b then d' else Says Absent) a
present_if r true d d' a h f = h refl f
present_if r false d d' a h said = said

output_by : (r : Run) (e : Expr) (j : ℕ) (clock : Clock) (s : Scope) (t : ℕ) (a : Answer) → a ≢ Unknown → Tells r s clock e.place.0 j (call_of r.w (out-Form e.form)) →
    There r (rule r.w (Output e j clock s t)) a → Under r (rule (under r) (Output e j clock s t)) a
output_by r e j clock s t a known tell (asked {a = x} k f) =
    asked k.under_replies (present_if r (is_true x) (outputs_rule r.w (out-Form e.form) e j clock s t) (outputs_rule (under r) (out-Form e.form) e j clock s t) a
    (λ holds g. outputs_known r (out-Form e.form) e j clock s t x a known tell k.under_replies holds g) f)

-- ---- each question

known_under : (r : Run) (q : Question) (a : Answer) → a ≢ Unknown → IsReached r q → There r (rule r.w q) a → Knows (under r) r.rows q a
known_under r (Gives e clock s t) a known reached f = plain_known r (Gives_at e clock s) t tt a known f
known_under r (Output e j clock s t) a known reached f =
    to_rule (under r) r.rows (Output e j clock s t) a (output_by r e j clock s t a known (λ c i site is at path. (r.tell e j clock s t c i site reached is at path, r.fit e j clock s t c reached is)) f) known
known_under r (Variable x s t) a known reached f = plain_known r (Variable_at x s) t tt a known f
known_under r (Last x s t) a known reached f = plain_known r (Last_at x s) t tt a known f
known_under r (Defined x s t) a known reached f = plain_known r (Defined_at x s) t tt a known f
known_under r (Defines x e) a known reached f = plain_known r (Defines_at x e) 0 tt a known f
known_under r (Present clock s t) a known reached f = plain_known r (Present_at clock s) t tt a known f
known_under r (Active s t) a known reached f = plain_known r (Active_at s) t tt a known f
known_under r (Restarted s t) a known reached f = plain_known r (Restarted_at s) t tt a known f
known_under r (Active_state s states t) a known reached f = plain_known r (Active_state_at s states) t tt a known f
known_under r (Left_state s states t) a known reached f = plain_known r (Left_state_at s states) t tt a known f

firsts : (r : Run) {d : Rule} {a : Answer} → Follows (K r) r.rows d a → Follows (Knows r.w r.rows) r.rows d a
firsts r said = said
firsts r (read e) = read e
firsts r (asked k f) = asked k.0 (firsts r f)

keep_reached : (r : Run) (q : Question) (a : Answer) → Follows (K r) r.rows (rule r.w q) a → a ≢ Unknown → IsReached r q → Known r q a
keep_reached r q a f known reached =
    let g : There r (rule r.w q) a = reach r (rule r.w q) a (λ p m. of_rule reached m) f in
    record {
      under_replies = known_under r q a known reached g;
      within = λ site calls shape t n again h e.
          lifted (case_at r site calls) shape t n again h a (subst (λ (p : Question). Within (case_at r site calls) (rule r.w p) a) e (within_of r site calls g)) known;
    }

keep : (r : Run) (q : Question) (a : Answer) → Follows (K r) r.rows (rule r.w q) a → a ≢ Unknown → K r q a
keep r q a f known = (to_rule r.w r.rows q a (firsts r f) known, λ reached. keep_reached r q a f known reached)

-- what is known without replies of a question that may be reached is known under them
pub known_with_replies : (r : Run) (q : Question) (a : Answer) → IsReached r q → Knows r.w r.rows q a → Knows (under r) r.rows q a
known_with_replies r q a reached h = ((induction (K r) r.w r.rows (keep r) q a h).1 reached).under_replies

-- ---- outputs and what is sent

values_under : (r : Run) (t : ℕ) (xs : List Name) (vs : List ℕ) → HaveValues r.w r.rows (map (λ x. Variable x (Top r.text) t) xs) vs →
    HaveValues (under r) r.rows (map (λ x. Variable x (Top r.text) t) xs) vs
values_under r t [] [] h = tt
values_under r t [] (v ∷ vs) h = elim h [ ]
values_under r t (x ∷ xs) [] h = elim h [ ]
values_under r t (x ∷ xs) (v ∷ vs) h = (known_with_replies r (Variable x (Top r.text) t) (Value v) of_top h.0, values_under r t xs vs h.1)

outputs_under : (r : Run) (t : ℕ) (left outs : List (List ℕ)) → OutputsFrom r.w r.rows r.text t left outs → OutputsFrom (under r) r.rows r.text t left outs
outputs_under r t [] [] h = tt
outputs_under r t [] (out ∷ outs) h = elim h [ ]
outputs_under r t (row ∷ left) [] h = elim h [ ]
outputs_under r t (row ∷ left) (out ∷ outs) h = (values_under r t (outputs_of r.text) out h.0, outputs_under r (suc t) left outs h.1)

pub own_replies_keep_outputs : OwnRepliesKeepOutputs
own_replies_keep_outputs w text sites lists rows outs none tell fit own h =
    outputs_under (record { w = w; text = text; sites = sites; lists = lists; rows = rows; no_replies = none; tell = tell; fit = fit; own = own }) 0 rows outs h

arguments_under : (r : Run) (i : ℕ) (site : Site) (t : ℕ) (es : List Expr) (vs : List ℕ) → slice_get r.sites i ≡ Some site →
    ((j : ℕ) (e : Expr) → slice_get es j ≡ Some e → IsReached r (Gives e site.clock site.scope t)) →
    HaveValues r.w r.rows (map (λ e. Gives e site.clock site.scope t) es) vs → HaveValues (under r) r.rows (map (λ e. Gives e site.clock site.scope t) es) vs
arguments_under r i site t [] [] at reached h = tt
arguments_under r i site t [] (v ∷ vs) at reached h = elim h [ ]
arguments_under r i site t (e ∷ es) [] at reached h = elim h [ ]
arguments_under r i site t (e ∷ es) (v ∷ vs) at reached h =
    (known_with_replies r (Gives e site.clock site.scope t) (Value v) (reached 0 e refl) h.0, arguments_under r i site t es vs at (λ j d is. reached (suc j) d is) h.1)

sent_under : (r : Run) (i : ℕ) (site : Site) → slice_get r.sites i ≡ Some site → (again : Bool) (t left : ℕ) (calls : List (Bool × List ℕ)) →
    SentFrom r.w r.rows site again t left calls → SentFrom (under r) r.rows site again t left calls
sent_under r i site at again t left calls end = end
sent_under r i site at again t left calls (no_call {restarted = now} {left = l} h p more) = no_call
    (known_with_replies r (Restarted site.scope t) (Is now) (of_restart i at) h) (known_with_replies r (Present site.clock site.scope t) (Is false) (of_presence i at) p)
    (sent_under r i site at (again || now) (suc t) l calls more)
sent_under r i site at again t left calls (call {restarted = now} {left = l} {args = args} {calls = rest} h p v more) = call
    (known_with_replies r (Restarted site.scope t) (Is now) (of_restart i at) h) (known_with_replies r (Present site.clock site.scope t) (Is true) (of_presence i at) p)
    (arguments_under r i site t site.args args at (λ j e is. of_argument i j at is) v)
    (sent_under r i site at false (suc t) l rest more)

pub own_replies_keep_sent : OwnRepliesKeepSent
own_replies_keep_sent w text sites lists rows i site calls none tell fit own at h =
    sent_under (record { w = w; text = text; sites = sites; lists = lists; rows = rows; no_replies = none; tell = tell; fit = fit; own = own }) i site at false 0 (length rows) calls h
