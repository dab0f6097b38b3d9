-- Two rules that go step by step alike, over tied questions: each tracks the other.
use Rattle.std.proofs.Common.{ℕ, zero, suc, ◌+◌, Bool, true, false}
use Rattle.std.specs.Prelude.{if◌then◌else◌}
use Rattle.hept_ast.specs.Meaning.{Question, Answer, Unknown, Absent, Nil, Value, Is, State_at, Rule, Says, Reads, Asks, is_true, go_on, previous, count_before, if_present}
use Rattle.hept_ast.specs.Transfer as transfer
use Rattle.hept_ast.specs.Transfer.{Tracks}

pub data Matches (R : Question → Question → Type 0) : Rule → Rule → Type 0 where
  says : {a : Answer} → Matches R (Says a) (Says a)
  reads : {t j : ℕ} → Matches R (Reads t j) (Reads t j)
  asks : {q p : Question} {go others : Answer → Rule} → R q p → ((a : Answer) → Matches R (go a) (others a)) → Matches R (Asks q go) (Asks p others)

pub there : {R : Question → Question → Type 0} {d e : Rule} → Matches R d e → Tracks R d e
there says = transfer.says
there reads = transfer.reads
there (asks tie h) = transfer.asks tie (λ a. there (h a))

pub back : {R : Question → Question → Type 0} {d e : Rule} → Matches R d e → Tracks (λ p q. R q p) e d
back says = transfer.says
back reads = transfer.reads
back (asks tie h) = transfer.asks tie (λ a. back (h a))

-- ---- one lemma for each word of rules

pub if_matches : {R : Question → Question → Type 0} (b : Bool) {d e d' e' : Rule} → Matches R d d' → Matches R e e' → Matches R (if b then d else e) (if b then d' else e')
if_matches true h k = h
if_matches false h k = k

pub go_on_matches : {R : Question → Question → Type 0} (a : Answer) {go go' : ℕ → Rule} → ((v : ℕ) → Matches R (go v) (go' v)) → Matches R (go_on a go) (go_on a go')
go_on_matches (Value v) h = h v
go_on_matches Absent h = says
go_on_matches Nil h = says
go_on_matches Unknown h = says
go_on_matches (Is b) h = says
go_on_matches (State_at k m) h = says

pub present_matches : {R : Question → Question → Type 0} (q p : Question) {d d' : Rule} → R q p → Matches R d d' → Matches R (if_present q d) (if_present p d')
present_matches q p tie h = asks tie (λ a. if_matches (is_true a) h says)

pub previous_matches : {R : Question → Question → Type 0} (present restarted present' restarted' : ℕ → Question) {go go' : ℕ → Rule} {none none' : Rule} (t : ℕ) →
    ((p : ℕ) → R (present p) (present' p)) → ((p : ℕ) → R (restarted p) (restarted' p)) →
    ((p : ℕ) → Matches R (go p) (go' p)) → Matches R none none' →
    Matches R (previous present restarted go none t) (previous present' restarted' go' none' t)
previous_matches present restarted present' restarted' zero f g h k = k
previous_matches present restarted present' restarted' (suc p) f g h k =
    asks (g (suc p)) (λ a. if_matches (is_true a) k (asks (f p) (λ b. if_matches (is_true b) (h p) (previous_matches present restarted present' restarted' p f g h k))))

pub count_matches : {R : Question → Question → Type 0} (present present' : ℕ → Question) (t : ℕ) (go go' : ℕ → Rule) →
    ((p : ℕ) → R (present p) (present' p)) → ((n : ℕ) → Matches R (go n) (go' n)) →
    Matches R (count_before present go t) (count_before present' go' t)
count_matches present present' zero go go' f h = h 0
count_matches present present' (suc p) go go' f h = asks (f p) (λ a. count_matches present present' p _ _ f (λ n. h (if is_true a then n + 1 else n)))
