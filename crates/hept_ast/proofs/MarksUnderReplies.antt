-- A restart of the chosen node under replies.
use Rattle.std.proofs.Common.{◌≡◌, ◌≢◌, ℕ, zero, suc, ◌+◌, ◌≤◌, Bool, true, false, ◌||◌, List, [], ◌∷◌, ◌++◌, Option, Some, None, length, length-take, take, drop, refl, sym, ap, subst, arith, ◌∙◌}
use Rattle.std.specs.Prelude.{if◌then◌else◌, slice_get, slice_index_or}
use Rattle.std.specs.Str.{bytes_eq}
use Rattle.std.proofs.lemmas.Slice.Eq.{bytes_eq-Decides}
use mathlib.Core.Path.{fun_ext}
use Rattle.hept_ast.specs.Scopes.{Clock, Text, Scope, Called, outputs_of, calls_around}
use Rattle.hept_ast.specs.Meaning.{Question, Variable, Present, Answer, Unknown, Is, Rule, Setting, is_true, answer_to, count_before, reply_or, call_of, output_rule, outputs_rule, rule}
use Rattle.hept_ast.specs.Outputs.{Knows, Follows, said, read, asked, Outputs}
use Rattle.hept_ast.specs.Sites.{Site, path_of, SentFrom, end, no_call, call, Sent, by_site, with_replies}
use Rattle.hept_ast.specs.Marks.{from_instant}
use Rattle.hept_ast.specs.OwnReplies.{AskedBy, at_once, after_answer, Reached, of_top, of_restart, of_presence, of_argument, of_rule, IsCallOf, PathsTell}
use Rattle.hept_ast.specs.MarksReplied.{AreLeft, OutputsFromMarkReplied, SentFromMarkReplied}
use Rattle.hept_ast.specs.declared.tree.Expr.{Expr}
use Rattle.hept_ast.specs.declared.tree.MergeBranch.{MergeBranch}
use Rattle.hept_ast.specs.declared.tree.Form.{Form, out-Form}
use Rattle.hept_ast.specs.declared.tree.Form.TheOpen.{Form-F}
use Rattle.hept_ast.proofs.Depths.{to_rule, one_answer, kept_by_rows, induction}
use Rattle.hept_ast.proofs.CallAlone.{Shape, Gives_at, Output_at, Variable_at, Last_at, Defined_at, Defines_at, Present_at, Active_at, Restarted_at, Active_state_at, Left_state_at, here, shift}
use Rattle.hept_ast.proofs.Marks.{Case, after_mark, inputs, later, K, Whole, There, Leads, says, anything, asks, present_leads, plain_leads, count, Goes, outputs_from, sent_from}

pub record Run : Type 0 where
  pub w : Setting
  pub n : ℕ
  pub text : Text
  pub sites : List Site
  pub lists : List (List (List ℕ))
  pub others : List (List (List ℕ))
  pub rows : List (List ℕ)
  pub short : n ≤ length rows
  pub mark : w.marked n ≡ true
  pub tell : PathsTell (with_replies w sites lists) rows text sites
  pub left : AreLeft w sites lists others rows n

abbrev whole : Run → Setting
whole r = with_replies r.w r.sites r.lists

abbrev case_of : Run → Case
case_of r = record { w = whole r; n = r.n; rows = r.rows; later_replies = by_site r.sites r.others; mark = r.mark }

abbrev IsReached : Run → Question → Type 0
IsReached r q = Reached (whole r) r.rows r.text r.sites q

abbrev KR : Run → Question → Answer → Type 0
KR r q a = Knows (whole r) r.rows q a × (IsReached r q → K (case_of r) q a)

reach : (r : Run) (d : Rule) (a : Answer) → ((p : Question) → AskedBy (whole r) r.rows d p → IsReached r p) → Follows (KR r) r.rows d a → Whole (case_of r) d a
reach r d a h said = said
reach r d a h (read e) = read e
reach r d a h (asked {q = q} {go = go} {a = b} k f) = asked (k.1 (h q at_once)) (reach r (go b) a (λ p m. h p (after_answer k.0 m)) f)

knows_of : (r : Run) {d : Rule} {a : Answer} → Follows (KR r) r.rows d a → Follows (Knows (whole r) r.rows) r.rows d a
knows_of r said = said
knows_of r (read e) = read e
knows_of r (asked k f) = asked k.0 (knows_of r f)

-- ---- how many calls a site has before an instant

data Count (r : Run) (site : Site) : ℕ → ℕ → Type 0 where
  at_first : Count r site 0 0
  without : {t k : ℕ} → Count r site t k → Knows (whole r) r.rows (Present site.clock site.scope t) (Is false) → Count r site (suc t) k
  with_one : {t k : ℕ} → Count r site t k → Knows (whole r) r.rows (Present site.clock site.scope t) (Is true) → Count r site (suc t) (suc k)

split_at : {A : Type 0} (n : ℕ) (xs : List A) → take n xs ++ drop n xs ≡ xs
split_at zero xs = refl
split_at (suc n) [] = refl
split_at (suc n) (x ∷ xs) = ap (λ (l : List _). x ∷ l) (split_at n xs)

on_all : (r : Run) (q : Question) (a : Answer) → Knows (whole r) (take r.n r.rows) q a → Knows (whole r) r.rows q a
on_all r q a h = subst (λ (l : List (List ℕ)). Knows (whole r) l q a) (split_at r.n r.rows) (kept_by_rows (whole r) (take r.n r.rows) (drop r.n r.rows) q a h)

count_sent : (r : Run) (site : Site) (again : Bool) (t left k : ℕ) (calls : List (Bool × List ℕ)) → Count r site t k → SentFrom (whole r) (take r.n r.rows) site again t left calls →
    Count r site (shift left t) (shift (length calls) k)
count_sent r site again t left k calls c end = c
count_sent r site again t left k calls c (no_call {restarted = now} {left = l} h p more) =
    count_sent r site (again || now) (suc t) l k calls (without c (on_all r (Present site.clock site.scope t) (Is false) p)) more
count_sent r site again t left k calls c (call {left = l} {calls = rest} h p v more) =
    count_sent r site false (suc t) l (suc k) rest (with_one c (on_all r (Present site.clock site.scope t) (Is true) p)) more

shift_zero : (k n : ℕ) → shift k n ≡ k + n
shift_zero zero n = omega arith
shift_zero (suc k) n = shift_zero k (suc n) ∙ omega arith

count_at_mark : (r : Run) (site : Site) (calls : List (Bool × List ℕ)) → Sent (whole r) (take r.n r.rows) site calls → Count r site r.n (length calls)
count_at_mark r site calls h =
    let short : r.n ≤ length r.rows = r.short in
    let size : length (take r.n r.rows) ≡ r.n = simp length-take (omega arith) in
    let e : shift (length (take r.n r.rows)) 0 ≡ r.n = shift_zero (length (take r.n r.rows)) 0 ∙ omega (arith, size) in
    let f : shift (length calls) 0 ≡ length calls = shift_zero (length calls) 0 ∙ omega arith in
    subst (λ (m : ℕ). Count r site r.n m) f (subst (λ (m : ℕ). Count r site m (shift (length calls) 0)) e
    (count_sent r site false 0 (length (take r.n r.rows)) 0 calls at_first h))

abbrev presence : Site → ℕ → Question
presence site p = Present site.clock site.scope p

counted : (r : Run) (site : Site) (t k : ℕ) → Count r site t k → (go : ℕ → Rule) (a : Answer) → Whole (case_of r) (count_before (presence site) go t) a → Whole (case_of r) (go k) a
counted r site t k at_first go a f = f
counted r site t k (without {t = p} {k = j} c h) go a (asked {a = x} q f) =
    let e : x ≡ Is false = one_answer (whole r) r.rows _ _ _ q.0 h in
    subst (λ (m : ℕ). Whole (case_of r) (go m) a) (let g : (if is_true x then j + 1 else j) ≡ j = ap (λ (y : Answer). if is_true y then j + 1 else j) e in g)
    (counted r site p j c (λ m. go (if is_true x then m + 1 else m)) a f)
counted r site t k (with_one {t = p} {k = j} c h) go a (asked {a = x} q f) =
    let e : x ≡ Is true = one_answer (whole r) r.rows _ _ _ q.0 h in
    subst (λ (m : ℕ). Whole (case_of r) (go m) a) (let g : (if is_true x then j + 1 else j) ≡ suc j = ap (λ (y : Answer). if is_true y then j + 1 else j) e ∙ omega arith in g)
    (counted r site p j c (λ m. go (if is_true x then m + 1 else m)) a f)

one_more : (r : Run) (b : Bool) (k j : ℕ) (go go' : ℕ → Rule) → ((i : ℕ) → Leads (case_of r) (go (k + i)) (go' i)) →
    Leads (case_of r) (go (if b then (k + j) + 1 else k + j)) (go' (if b then j + 1 else j))
one_more r true k j go go' l = subst (λ (m : ℕ). Leads (case_of r) (go m) (go' (j + 1))) (let e : k + (j + 1) ≡ (k + j) + 1 = omega arith in e) (l (j + 1))
one_more r false k j go go' l = l j

count_later : (r : Run) (site : Site) (k : ℕ) → Count r site r.n k → (t : ℕ) (go go' : ℕ → Rule) → ((j : ℕ) → Leads (case_of r) (go (k + j)) (go' j)) → (a : Answer) → a ≢ Unknown →
    Whole (case_of r) (count_before (presence site) go (later r.n t)) a → There (case_of r) (count_before (presence site) go' t) a
count_later r site k c zero go go' l a known f =
    (l 0).leads a (subst (λ (m : ℕ). Whole (case_of r) (go m) a) (let e : k ≡ k + 0 = omega arith in e) (counted r site r.n k c go a f)) known
count_later r site k c (suc t) go go' l a known (asked {a = x} q f) =
    asked (q.1 (Present_at site.clock site.scope) t refl)
    (count_later r site k c t (λ m. go (if is_true x then m + 1 else m)) (λ m. go' (if is_true x then m + 1 else m)) (λ j. one_more r (is_true x) k j go go' l) a known f)

-- ---- replies here and there

reply_alike : (r : Run) (o p : Option (List ℕ)) (j : ℕ) {d d' : Rule} → o ≡ p → Leads (case_of r) d d' → Leads (case_of r) (reply_or (whole r) o j d) (reply_or (after_mark (case_of r)) p j d')
reply_alike r None None j e l = l
reply_alike r (Some x) (Some y) j {d} {d'} e l =
    subst (λ (z : Option (List ℕ)). Leads (case_of r) (reply_or (whole r) (Some x) j d) (reply_or (after_mark (case_of r)) z j d')) e says
reply_alike r None (Some y) j e l = cc
reply_alike r (Some x) None j e l = cc

get_drop : {A : Type 0} (k j : ℕ) (xs : List A) → slice_get (drop k xs) j ≡ slice_get xs (shift k j)
get_drop zero j xs = refl
get_drop (suc k) j [] = refl
get_drop (suc k) j (x ∷ xs) = get_drop k j xs ∙ ap (λ (m : ℕ). slice_get (x ∷ xs) m) (let e : suc (shift k j) ≡ shift k (suc j) = later_shift k j in e)
  where
    later_shift : (m i : ℕ) → suc (shift m i) ≡ shift m (suc i)
    later_shift zero i = refl
    later_shift (suc m) i = later_shift m (suc i)

-- the replies of a path before the mark and from it on
data Replied (sites : List Site) (lists others : List (List (List ℕ))) (path : List ℕ) : Type 0 where
  no_reply : ((n : ℕ) → by_site sites lists path n ≡ None) → ((n : ℕ) → by_site sites others path n ≡ None) → Replied sites lists others path
  replied : (i : ℕ) (site : Site) (outs rest : List (List ℕ)) → slice_get sites i ≡ Some site → slice_get lists i ≡ Some outs → slice_get others i ≡ Some rest → path_of site ≡ path →
      ((n : ℕ) → by_site sites lists path n ≡ slice_get outs n) → ((n : ℕ) → by_site sites others path n ≡ slice_get rest n) → Replied sites lists others path

replied_first : (site : Site) (sites : List Site) (outs rest : List (List ℕ)) (lists others : List (List (List ℕ))) (path : List ℕ) (b : Bool) → bytes_eq (path_of site) path ≡ b →
    Replied sites lists others path → Replied (site ∷ sites) (outs ∷ lists) (rest ∷ others) path
replied_first site sites outs rest lists others path true e h =
    replied 0 site outs rest refl refl refl ((bytes_eq-Decides (path_of site) path).0 e) (λ n. ap (λ (x : Bool). if x then slice_get outs n else by_site sites lists path n) e)
    (λ n. ap (λ (x : Bool). if x then slice_get rest n else by_site sites others path n) e)
replied_first site sites outs rest lists others path false e (no_reply h k) =
    no_reply (λ n. ap (λ (x : Bool). if x then slice_get outs n else by_site sites lists path n) e ∙ h n) (λ n. ap (λ (x : Bool). if x then slice_get rest n else by_site sites others path n) e ∙ k n)
replied_first site sites outs rest lists others path false e (replied i s o q at list other is h k) =
    replied (suc i) s o q at list other is (λ n. ap (λ (x : Bool). if x then slice_get outs n else by_site sites lists path n) e ∙ h n)
    (λ n. ap (λ (x : Bool). if x then slice_get rest n else by_site sites others path n) e ∙ k n)

-- each site has replies in both lists
abbrev Both : List Site → (lists others : List (List (List ℕ))) → Type 0
Both sites lists others = (i : ℕ) (site : Site) → slice_get sites i ≡ Some site → (outs : List (List ℕ)) × (rest : List (List ℕ)) × (slice_get lists i ≡ Some outs) × (slice_get others i ≡ Some rest)

no_some : {A : Type 0} {x : A} → None ≡ Some x → ⊥
no_some e = cc

replied_by : (sites : List Site) (lists others : List (List (List ℕ))) (path : List ℕ) → Both sites lists others → Replied sites lists others path
replied_by [] lists others path h = no_reply (λ n. refl) (λ n. refl)
replied_by (site ∷ sites) [] others path h = absurd (no_some (h 0 site refl).2)
replied_by (site ∷ sites) (outs ∷ lists) [] path h = absurd (no_some (h 0 site refl).3)
replied_by (site ∷ sites) (outs ∷ lists) (rest ∷ others) path h =
    replied_first site sites outs rest lists others path (bytes_eq (path_of site) path) refl (replied_by sites lists others path (λ i s at. h (suc i) s at))

both_of : (r : Run) → Both r.sites r.lists r.others
both_of r i site at =
    let l : (calls : List (Bool × List ℕ)) × (outs : List (List ℕ)) × Sent (whole r) (take r.n r.rows) site calls × (slice_get r.lists i ≡ Some outs) × (slice_get r.others i ≡ Some (drop (length calls) outs)) = r.left i site at in
    (l.1, drop (length l.0) l.1, l.3, l.4)

-- ---- the outputs of a call

abbrev site_of : Site → (s : Scope) → Clock → (place : ℕ) → (call : List Expr × Text) → Site
site_of site s clock place d = record { scope = s; clock = clock; place = place; queue = site.queue; args = d.0; text = d.1 }

site_is : (site : Site) (s : Scope) (clock : Clock) (place : ℕ) (d : List Expr × Text) → IsCallOf site s clock place d → site ≡ site_of site s clock place d
site_is site s clock place d h =
    ap (λ (x : Scope). record { scope = x; clock = site.clock; place = site.place; queue = site.queue; args = site.args; text = site.text }) h.scope
    ∙ ap (λ (x : Clock). record { scope = s; clock = x; place = site.place; queue = site.queue; args = site.args; text = site.text }) h.clocks
    ∙ ap (λ (x : ℕ). record { scope = s; clock = clock; place = x; queue = site.queue; args = site.args; text = site.text }) h.places
    ∙ ap (λ (x : List Expr). record { scope = s; clock = clock; place = place; queue = site.queue; args = x; text = site.text }) h.args
    ∙ ap (λ (x : Text). record { scope = s; clock = clock; place = place; queue = site.queue; args = d.0; text = x }) h.text

abbrev call_rule : Setting → Site → ℕ → ℕ → Rule
call_rule w site j t =
    count_before (presence site) (λ n. reply_or w (w.replies (path_of site) n) j
    (answer_to (Variable (slice_index_or (outputs_of site.text) j []) (Called site.scope site.clock site.place site.args site.text) t))) t

same_some : {A : Type 0} {x y : A} → Some x ≡ Some y → x ≡ y
same_some e = cc

site_leads : (r : Run) (i : ℕ) (site : Site) (outs rest : List (List ℕ)) (j t : ℕ) → slice_get r.sites i ≡ Some site → slice_get r.lists i ≡ Some outs → slice_get r.others i ≡ Some rest →
    ((n : ℕ) → by_site r.sites r.lists (path_of site) n ≡ slice_get outs n) → ((n : ℕ) → by_site r.sites r.others (path_of site) n ≡ slice_get rest n) →
    Leads (case_of r) (call_rule (whole r) site j (later r.n t)) (call_rule (after_mark (case_of r)) site j t)
site_leads r i site outs rest j t at list other here_is there_is =
    let l : (calls : List (Bool × List ℕ)) × (given : List (List ℕ)) × Sent (whole r) (take r.n r.rows) site calls × (slice_get r.lists i ≡ Some given) × (slice_get r.others i ≡ Some (drop (length calls) given)) = r.left i site at in
    let e : l.1 ≡ outs = same_some (sym l.3 ∙ list) in
    let f : rest ≡ drop (length l.0) outs = same_some (sym other ∙ l.4) ∙ ap (λ (x : List (List ℕ)). drop (length l.0) x) e in
    record {
      leads = λ a g known.
          count_later r site (length l.0) (count_at_mark r site l.0 l.2) t
          (λ n. reply_or (whole r) (by_site r.sites r.lists (path_of site) n) j (answer_to (Variable (slice_index_or (outputs_of site.text) j []) (Called site.scope site.clock site.place site.args site.text) (later r.n t))))
          (λ n. reply_or (after_mark (case_of r)) (by_site r.sites r.others (path_of site) n) j (answer_to (Variable (slice_index_or (outputs_of site.text) j []) (Called site.scope site.clock site.place site.args site.text) t)))
          (λ n. reply_alike r _ _ j
          (here_is (length l.0 + n) ∙ ap (λ (m : ℕ). slice_get outs m) (sym (shift_zero (length l.0) n)) ∙ sym (get_drop (length l.0) n outs)
          ∙ ap (λ (x : List (List ℕ)). slice_get x n) (sym f) ∙ sym (there_is n))
          (asks t (Variable_at (slice_index_or (outputs_of site.text) j []) (Called site.scope site.clock site.place site.args site.text)) (λ b. says))) a known g;
    }

none_alike : (r : Run) (o p : Option (List ℕ)) (j : ℕ) {d d' : Rule} → o ≡ None → p ≡ None → Leads (case_of r) d d' → Leads (case_of r) (reply_or (whole r) o j d) (reply_or (after_mark (case_of r)) p j d')
none_alike r o p j e f l = reply_alike r o p j (e ∙ sym f) l

abbrev Tells : Run → (s : Scope) → Clock → (place : ℕ) → Option (List Expr × Text) → Type 0
Tells r s clock place d = (c : List Expr × Text) (i : ℕ) (site : Site) → d ≡ Some c → slice_get r.sites i ≡ Some site → path_of site ≡ calls_around s ++ place ∷ [] → IsCallOf site s clock place c

call_leads : (r : Run) (c : List Expr × Text) (place j : ℕ) (clock : Clock) (s : Scope) (t : ℕ) → Tells r s clock place (Some c) → Replied r.sites r.lists r.others (calls_around s ++ place ∷ []) →
    Leads (case_of r) (output_rule (whole r) (Some c) place j clock s (later r.n t)) (output_rule (after_mark (case_of r)) (Some c) place j clock s t)
call_leads r c place j clock s t tell (no_reply none left) =
    count t (Present_at clock s) (λ m k. none_alike r _ _ j (none m) (left k) (asks t (Variable_at (slice_index_or (outputs_of c.1) j []) (Called s clock place c.0 c.1)) (λ a. says)))
call_leads r c place j clock s t tell (replied i site outs rest at list other path h k) =
    site_leads r i (site_of site s clock place c) outs rest j t (at ∙ ap Some (site_is site s clock place c (tell c i site refl at path))) list other h k

output_leads : (r : Run) (d : Option (List Expr × Text)) (place j : ℕ) (clock : Clock) (s : Scope) (t : ℕ) → Tells r s clock place d →
    Leads (case_of r) (output_rule (whole r) d place j clock s (later r.n t)) (output_rule (after_mark (case_of r)) d place j clock s t)
output_leads r None place j clock s t tell = anything
output_leads r (Some c) place j clock s t tell = call_leads r c place j clock s t tell (replied_by r.sites r.lists r.others (calls_around s ++ place ∷ []) (both_of r))

outputs_leads : (r : Run) (f : Form-F Form Expr MergeBranch) (e : Expr) (j : ℕ) (clock : Clock) (s : Scope) (t : ℕ) → Tells r s clock e.place.0 (call_of (whole r) f) →
    Leads (case_of r) (outputs_rule (whole r) f e j clock s (later r.n t)) (outputs_rule (after_mark (case_of r)) f e j clock s t)
outputs_leads r (Form-F.Get a) e j clock s t tell = asks t (Output_at a j clock s) (λ x. says)
outputs_leads r (Form-F.Call f args) e j clock s t tell = output_leads r (call_of (whole r) (Form-F.Call f args)) e.place.0 j clock s t tell
outputs_leads r (Form-F.AsyncCall q f args) e j clock s t tell = output_leads r (call_of (whole r) (Form-F.AsyncCall q f args)) e.place.0 j clock s t tell
outputs_leads r _ e j clock s t tell = anything

-- ---- each question

question_leads : (r : Run) (shape : Shape) (t : ℕ) → IsReached r (here shape (later r.n t)) → Leads (case_of r) (rule (whole r) (here shape (later r.n t))) (rule (after_mark (case_of r)) (here shape t))
question_leads r (Output_at e j clock s) t reached =
    present_leads t clock s (outputs_leads r (out-Form e.form) e j clock s t (λ c i site is at path. r.tell e j clock s (later r.n t) c i site reached is at path))
question_leads r (Gives_at e clock s) t reached = plain_leads (case_of r) (Gives_at e clock s) t tt
question_leads r (Variable_at x s) t reached = plain_leads (case_of r) (Variable_at x s) t tt
question_leads r (Last_at x s) t reached = plain_leads (case_of r) (Last_at x s) t tt
question_leads r (Defined_at x s) t reached = plain_leads (case_of r) (Defined_at x s) t tt
question_leads r (Defines_at x e) t reached = plain_leads (case_of r) (Defines_at x e) t tt
question_leads r (Present_at clock s) t reached = plain_leads (case_of r) (Present_at clock s) t tt
question_leads r (Active_at s) t reached = plain_leads (case_of r) (Active_at s) t tt
question_leads r (Restarted_at s) t reached = plain_leads (case_of r) (Restarted_at s) t tt
question_leads r (Active_state_at s states) t reached = plain_leads (case_of r) (Active_state_at s states) t tt
question_leads r (Left_state_at s states) t reached = plain_leads (case_of r) (Left_state_at s states) t tt

keep_reached : (r : Run) (q : Question) (a : Answer) → Follows (KR r) r.rows (rule (whole r) q) a → a ≢ Unknown → IsReached r q → K (case_of r) q a
keep_reached r q a f known reached =
    let g : Whole (case_of r) (rule (whole r) q) a = reach r (rule (whole r) q) a (λ p m. of_rule reached m) f in (
      to_rule (whole r) r.rows q a (knows_of r f) known,
      λ shape t e. to_rule (after_mark (case_of r)) (inputs (case_of r)) (here shape t) a
          ((question_leads r shape t (subst (λ (p : Question). IsReached r p) e reached)).leads a (subst (λ (p : Question). Whole (case_of r) (rule (whole r) p) a) e g) known) known,
    )

keep : (r : Run) (q : Question) (a : Answer) → Follows (KR r) r.rows (rule (whole r) q) a → a ≢ Unknown → KR r q a
keep r q a f known = (to_rule (whole r) r.rows q a (knows_of r f) known, λ reached. keep_reached r q a f known reached)

goes : (r : Run) → Goes (case_of r) (IsReached r)
goes r shape t a reached h = ((induction (KR r) (whole r) r.rows (keep r) (here shape (later r.n t)) a h).1 reached).1 shape t refl

later_is : (n t : ℕ) → later n t ≡ n + t
later_is n zero = omega arith
later_is n (suc t) = ap suc (later_is n t) ∙ omega arith

-- the setting from the mark on
setting_is : (r : Run) → after_mark (case_of r) ≡ with_replies (from_instant r.n r.w) r.sites r.others
setting_is r = ap (λ (f : ℕ → Bool). record r.w { marked = f; replies = by_site r.sites r.others }) (fun_ext (λ t. ap r.w.marked (later_is r.n t)))

pub outputs_from_mark_replied : OutputsFromMarkReplied
outputs_from_mark_replied w n text sites lists others rows outs short mark tell left h =
    let r : Run = record { w = w; n = n; text = text; sites = sites; lists = lists; others = others; rows = rows; short = short; mark = mark; tell = tell; left = left } in
    subst (λ (v : Setting). Outputs v text (drop n rows) (drop n outs)) (setting_is r) (outputs_from (case_of r) (IsReached r) (goes r) text (λ x t. of_top) outs h)

pub sent_from_mark_replied : SentFromMarkReplied
sent_from_mark_replied w n text sites lists others rows i site calls short mark tell left at h =
    let r : Run = record { w = w; n = n; text = text; sites = sites; lists = lists; others = others; rows = rows; short = short; mark = mark; tell = tell; left = left } in
    let s : (before after : List (Bool × List ℕ)) × (calls ≡ before ++ after) × Sent (after_mark (case_of r)) (drop n rows) site after =
    sent_from (case_of r) (IsReached r) (goes r) site
    (record { restart = λ t. of_restart i at; presence = λ t. of_presence i at; argument = λ t j e is. of_argument i j at is }) calls h in
    (s.0, s.1, s.2, subst (λ (v : Setting). Sent v (drop n rows) site s.1) (setting_is r) s.3)
