-- What is known of one meaning is known of another.
use Rattle.std.proofs.Common.{◌≡◌, ◌≢◌, ℕ, zero, suc, ◌+◌, Bool, true, false, List, [], ◌∷◌, refl, sym, subst}
use Rattle.std.specs.Prelude.{if◌then◌else◌}
use Rattle.hept_ast.specs.Texts.{Name}
use Rattle.hept_ast.specs.Meaning.{Question, Defines, Answer, Unknown, Absent, Nil, Value, Is, State_at, Rule, Setting, rule, is_true, go_on, go_on_state, previous, count_before, if_defined, if_present}
use Rattle.hept_ast.specs.Outputs.{Knows, Follows, said, read, asked}
use Rattle.hept_ast.specs.Transfer.{Matched, Transfer, Tracks, unknown, says, reads, asks, TransferByRules}
use Rattle.hept_ast.specs.declared.tree.Equation.{Equation}
use Rattle.hept_ast.proofs.Depths.{to_rule, induction}

pub transfer : Transfer
transfer w other rows others match step q a h = induction (Matched other others match) w rows step q a h

-- what is tied to a question is known of a setting with its answer
abbrev pub Tied : Setting → List (List ℕ) → (R : Question → Question → Type 0) → Question → Answer → Type 0
Tied w rows R q a = (p : Question) → R q p → Knows w rows p a

-- a tracked rule comes to what the first comes to
pub tracked : (other : Setting) (rows : List (List ℕ)) (R : Question → Question → Type 0) (d e : Rule) (a : Answer) → Tracks R d e →
    Follows (Tied other rows R) rows d a → a ≢ Unknown → Follows (Knows other rows) rows e a
tracked other rows R d e a unknown said known = absurd (known refl)
tracked other rows R d e a says said known = said
tracked other rows R d e a reads (read i) known = read i
tracked other rows R d e a (asks {p = p} {go = go} {others = others} tie h) (asked {a = b} k f) known =
    asked (k p tie) (tracked other rows R (go b) (others b) a (h b) f known)

-- Where the rules of tied questions track each other, whatever is known of the first setting is known of the second.
pub transfer_tied : (w other : Setting) (rows : List (List ℕ)) (R : Question → Question → Type 0) →
    ((q p : Question) → R q p → Tracks R (rule w q) (rule other p)) →
    (q p : Question) (a : Answer) → R q p → Knows w rows q a → Knows other rows p a
transfer_tied w other rows R tracks q p a tie h =
    induction (Tied other rows R) w rows
    (λ r b f known e s. to_rule other rows e b (tracked other rows R (rule w r) (rule other e) b (tracks r e s) f known) known) q a h p tie

pub transfer_by_rules : TransferByRules
transfer_by_rules w other rows match tracks q a h =
    transfer_tied w other rows (λ p r. r ≡ match p)
    (λ p r e. subst (λ (x : Question). Tracks (λ y z. z ≡ match y) (rule w p) (rule other x)) (sym e) (tracks p)) q (match q) a refl h

-- ---- one lemma for each word of rules

pub if_tracks : {R : Question → Question → Type 0} (b : Bool) {d e d' e' : Rule} → Tracks R d d' → Tracks R e e' → Tracks R (if b then d else e) (if b then d' else e')
if_tracks true h k = h
if_tracks false h k = k

pub go_on_tracks : {R : Question → Question → Type 0} (a : Answer) {go go' : ℕ → Rule} → ((v : ℕ) → Tracks R (go v) (go' v)) → Tracks R (go_on a go) (go_on a go')
go_on_tracks (Value v) h = h v
go_on_tracks Absent h = says
go_on_tracks Nil h = says
go_on_tracks Unknown h = says
go_on_tracks (Is b) h = says
go_on_tracks (State_at k m) h = says

pub go_on_state_tracks : {R : Question → Question → Type 0} (a : Answer) {go go' : ℕ → Bool → Rule} →
    ((k : ℕ) (m : Bool) → Tracks R (go k m) (go' k m)) → Tracks R (go_on_state a go) (go_on_state a go')
go_on_state_tracks (State_at k m) h = h k m
go_on_state_tracks Absent h = says
go_on_state_tracks Nil h = says
go_on_state_tracks Unknown h = says
go_on_state_tracks (Value v) h = says
go_on_state_tracks (Is b) h = says

pub present_tracks : {R : Question → Question → Type 0} (q p : Question) {d d' : Rule} → R q p → Tracks R d d' → Tracks R (if_present q d) (if_present p d')
present_tracks q p tie h = asks tie (λ a. if_tracks (is_true a) h says)

pub previous_tracks : {R : Question → Question → Type 0} (present restarted present' restarted' : ℕ → Question) {go go' : ℕ → Rule} {none none' : Rule} (t : ℕ) →
    ((p : ℕ) → R (present p) (present' p)) → ((p : ℕ) → R (restarted p) (restarted' p)) →
    ((p : ℕ) → Tracks R (go p) (go' p)) → Tracks R none none' →
    Tracks R (previous present restarted go none t) (previous present' restarted' go' none' t)
previous_tracks present restarted present' restarted' zero f g h k = k
previous_tracks present restarted present' restarted' (suc p) f g h k =
    asks (g (suc p)) (λ a. if_tracks (is_true a) k (asks (f p) (λ b. if_tracks (is_true b) (h p) (previous_tracks present restarted present' restarted' p f g h k))))

pub count_tracks : {R : Question → Question → Type 0} (present present' : ℕ → Question) (t : ℕ) (go go' : ℕ → Rule) →
    ((p : ℕ) → R (present p) (present' p)) → ((n : ℕ) → Tracks R (go n) (go' n)) →
    Tracks R (count_before present go t) (count_before present' go' t)
count_tracks present present' zero go go' f h = h 0
count_tracks present present' (suc p) go go' f h = asks (f p) (λ a. count_tracks present present' p _ _ f (λ n. h (if is_true a then n + 1 else n)))

pub defined_tracks : {R : Question → Question → Type 0} (x : Name) (es : List Equation) {go go' : Bool → Rule} → ((e : Equation) → R (Defines x e) (Defines x e)) →
    ((b : Bool) → Tracks R (go b) (go' b)) → Tracks R (if_defined x es go) (if_defined x es go')
defined_tracks x [] f h = h false
defined_tracks x (e ∷ es) f h = asks (f e) (λ a. if_tracks (is_true a) (h true) (defined_tracks x es f h))
