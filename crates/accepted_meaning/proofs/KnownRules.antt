-- Rules that come to an answer, rule by rule.
use Rattle.std.proofs.Common.{◌≡◌, ◌≢◌, ℕ, zero, suc, ◌+◌, ◌<◌, ◌≤◌, Bool, true, false, arith}
use Rattle.std.specs.Prelude.{if◌then◌else◌}
use Rattle.hept_ast.specs.Meaning.{Question, Answer, Unknown, Absent, Nil, Value, Is, State_at, Rule, Says, Reads, Asks, is_true, is_value, answer_to, test, has_value, go_on, on_value, go_on_state, on_state, if_present, previous, count_before, input_at, rule}
use Rattle.hept_ast.specs.Outputs.{Knows, Follows, said, read, asked}
use Rattle.hept_ast.proofs.Depths.{to_rule}
use Rattle.accepted_meaning.specs.Running.{Run, IsKnown, setting_of}

-- some answer is known
abbrev pub Known : Run → Question → Type 0
Known r q = (a : Answer) × IsKnown r q a

-- a rule comes to an answer
pub record Ends (r : Run) (d : Rule) : Type 0 where
  pub answer : Answer
  pub follows : Follows (Knows (setting_of r) r.rows) r.rows d answer
  pub known : answer ≢ Unknown

-- an answer that is not Unknown
abbrev pub Tells : Answer → Type 0
Tells Unknown = ⊥
Tells _ = Unit {0}

pub tells : (a : Answer) → Tells a → a ≢ Unknown
tells Unknown h e = h
tells Absent h e = cc
tells Nil h e = cc
tells (Value v) h e = cc
tells (Is b) h e = cc
tells (State_at k m) h e = cc

pub known_by : (r : Run) (q : Question) → Ends r (rule (setting_of r) q) → Known r q
known_by r q h = (h.answer, to_rule (setting_of r) r.rows q h.answer h.follows h.known)

pub says : (r : Run) (a : Answer) → Tells a → Ends r (Says a)
says r a h = record { answer = a; follows = said; known = tells a h }

pub reads : (r : Run) (t j v : ℕ) → input_at r.rows t j ≡ Value v → Ends r (Reads t j)
reads r t j v e = record { answer = Value v; follows = read e; known = tells (Value v) tt }

pub asks : (r : Run) (q : Question) (go : Answer → Rule) → Known r q → ((a : Answer) → IsKnown r q a → Ends r (go a)) → Ends r (Asks q go)
asks r q go h next = let n : Ends r (go h.0) = next h.0 h.1 in record { answer = n.answer; follows = asked h.1 n.follows; known = n.known }

pub answers : (r : Run) (q : Question) → Known r q → Ends r (answer_to q)
answers r q h = record { answer = h.0; follows = asked h.1 said; known = h.1.known }

pub tests : (r : Run) (q : Question) (go : Bool → Rule) → Known r q → ((b : Bool) → Ends r (go b)) → Ends r (test q go)
tests r q go h next = asks r q _ h (λ a k. next (is_true a))

pub chosen : (r : Run) (b : Bool) (c d : Rule) → Ends r c → Ends r d → Ends r (if b then c else d)
chosen r true c d h k = h
chosen r false c d h k = k

pub with_value : (r : Run) (q : Question) (v : ℕ) (go : Bool → Rule) → Known r q → ((b : Bool) → Ends r (go b)) → Ends r (has_value q v go)
with_value r q v go h next = asks r q _ h (λ a k. next (is_value v a))

pub where_present : (r : Run) (q : Question) (d : Rule) → Known r q → Ends r d → Ends r (if_present q d)
where_present r q d h k = tests r q _ h (λ b. chosen r b d (Says Absent) k (says r Absent tt))

-- absent, undefined, or a value
pub data IsDatum : Answer → Type 0 where
  absent : IsDatum Absent
  undefined : IsDatum Nil
  a_value : {v : ℕ} → IsDatum (Value v)

-- absent, or a state
pub data IsStanding : Answer → Type 0 where
  no_state : IsStanding Absent
  a_state : {k : ℕ} {m : Bool} → IsStanding (State_at k m)

value_next : (r : Run) (q : Question) (go : ℕ → Rule) (a : Answer) → IsDatum a → IsKnown r q a → ((v : ℕ) → IsKnown r q (Value v) → Ends r (go v)) → Ends r (go_on a go)
value_next r q go Absent absent k next = says r Absent tt
value_next r q go Nil undefined k next = says r Nil tt
value_next r q go (Value v) a_value k next = next v k
value_next r q go Unknown h k next = elim h [ ]
value_next r q go (Is b) h k next = elim h [ ]
value_next r q go (State_at j m) h k next = elim h [ ]

pub values : (r : Run) (q : Question) (go : ℕ → Rule) → Known r q → ((a : Answer) → IsKnown r q a → IsDatum a) → ((v : ℕ) → IsKnown r q (Value v) → Ends r (go v)) → Ends r (on_value q go)
values r q go h fit next = asks r q _ h (λ a k. value_next r q go a (fit a k) k next)

state_next : (r : Run) (q : Question) (go : ℕ → Bool → Rule) (a : Answer) → IsStanding a → IsKnown r q a → ((j : ℕ) (m : Bool) → IsKnown r q (State_at j m) → Ends r (go j m)) → Ends r (go_on_state a go)
state_next r q go Absent no_state k next = says r Absent tt
state_next r q go (State_at j m) a_state k next = next j m k
state_next r q go Unknown h k next = elim h [ ]
state_next r q go Nil h k next = elim h [ ]
state_next r q go (Value v) h k next = elim h [ ]
state_next r q go (Is b) h k next = elim h [ ]

pub states : (r : Run) (q : Question) (go : ℕ → Bool → Rule) → Known r q → ((a : Answer) → IsKnown r q a → IsStanding a) → ((j : ℕ) (m : Bool) → IsKnown r q (State_at j m) → Ends r (go j m)) → Ends r (on_state q go)
states r q go h fit next = asks r q _ h (λ a k. state_next r q go a (fit a k) k next)

at_most : (p t : ℕ) → p ≤ t → p ≤ suc t
at_most p t h = omega arith

below_suc : (p t : ℕ) → p < t → p < suc t
below_suc p t h = omega arith

-- the previous instant
pub earlier : (r : Run) (present restarted : ℕ → Question) (go : ℕ → Rule) (none : Rule) (t : ℕ) →
    ((p : ℕ) → p < t → Known r (present p)) → ((p : ℕ) → p ≤ t → Known r (restarted p)) → ((p : ℕ) → p < t → Ends r (go p)) → Ends r none →
    Ends r (previous present restarted go none t)
earlier r present restarted go none zero here again next last = last
earlier r present restarted go none (suc p) here again next last =
    tests r (restarted (suc p)) _ (again (suc p) (omega arith))
    (λ b. chosen r b none _ last
    (tests r (present p) _ (here p (omega arith))
    (λ c. chosen r c (go p) _ (next p (omega arith))
    (earlier r present restarted go none p (λ q l. here q (below_suc q p l)) (λ q l. again q (at_most q p l)) (λ q l. next q (below_suc q p l)) last))))

-- how many instants before have it present
pub counted : (r : Run) (present : ℕ → Question) (t : ℕ) (go : ℕ → Rule) → ((p : ℕ) → p < t → Known r (present p)) → ((n : ℕ) → Ends r (go n)) → Ends r (count_before present go t)
counted r present zero go here next = next 0
counted r present (suc p) go here next =
    tests r (present p) _ (here p (omega arith)) (λ b. counted r present p _ (λ q l. here q (below_suc q p l)) (λ n. next (if b then n + 1 else n)))
