-- What holds of every answer that a rule comes to, by the words of rules.
use Rattle.std.proofs.Common.{◌≡◌, ◌≢◌, ℕ, zero, suc, ◌<◌, ◌≤◌, ◌+◌, Bool, true, false, List, [], ◌∷◌, refl, sym, ap, subst, ◌∙◌, arith, ◌⊎◌, inl, inr}
use Rattle.std.specs.Prelude.{if◌then◌else◌}
use Rattle.hept_ast.specs.Meaning.{Question, Answer, Unknown, Value, Is, Rule, Says, Reads, Asks, is_true, previous, count_before, input_at}
use Rattle.hept_ast.specs.Outputs.{Follows, said, read, asked}
use Rattle.hept_ast.proofs.Depths.{one_answer}
use Rattle.accepted_meaning.specs.Running.{Run, setting_of, IsKnown}

-- each known answer of a rule is P, where K says which questions have which answers
pub data Ends (K : Question → Answer → Type 0) (rows : List (List ℕ)) (P : Answer → Type 0) : Rule → Type 0 where
  unknown : Ends K rows P (Says Unknown)
  says : {a : Answer} → P a → Ends K rows P (Says a)
  reads : {t j : ℕ} → ((v : ℕ) → input_at rows t j ≡ Value v → P (Value v)) → Ends K rows P (Reads t j)
  asks : {q : Question} {go : Answer → Rule} → ((a : Answer) → K q a → Ends K rows P (go a)) → Ends K rows P (Asks q go)

input_value : (rows : List (List ℕ)) (t j : ℕ) (a : Answer) → input_at rows t j ≡ a → a ≢ Unknown → (v : ℕ) × (a ≡ Value v)
input_value [] t j a e known = absurd (known (sym e))
input_value (row ∷ rows) zero j a e known = (_, sym e)
input_value (row ∷ rows) (suc t) j a e known = input_value rows t j a e known

pub ends : (K : Question → Answer → Type 0) (rows : List (List ℕ)) (P : Answer → Type 0) (d : Rule) (a : Answer) → Ends K rows P d → Follows K rows d a → a ≢ Unknown → P a
ends K rows P d a unknown said known = absurd (known refl)
ends K rows P d a (says p) said known = p
ends K rows P d a (reads {t = t} {j = j} h) (read e) known =
    let (v, f) = input_value rows t j a e known in
    subst P (sym f) (h v (e ∙ f))
ends K rows P d a (asks {go = go} h) (asked {a = x} k f) known = ends K rows P (go x) a (h x k) f known

-- where P holds of all answers
pub every : (K : Question → Answer → Type 0) (rows : List (List ℕ)) (P : Answer → Type 0) (d : Rule) → ((a : Answer) → P a) → Ends K rows P d
every K rows P (Says a) h = says (h a)
every K rows P (Reads t j) h = reads (λ v e. h (Value v))
every K rows P (Asks q go) h = asks (λ a k. every K rows P (go a) h)

pub if_ends : {K : Question → Answer → Type 0} {rows : List (List ℕ)} {P : Answer → Type 0} (b : Bool) {d e : Rule} →
    (b ≡ true → Ends K rows P d) → (b ≡ false → Ends K rows P e) → Ends K rows P (if b then d else e)
if_ends true h k = h refl
if_ends false h k = k refl

-- ---- truth values

pub record IsTruth (a : Answer) : Type 0 where
  pub truth : Bool
  pub is : a ≡ Is truth

is_of : (b c : Bool) → b ≡ c → Is b ≡ Is c
is_of b c e = ap Is e

pub truth_is : (a : Answer) (b : Bool) → IsTruth a → is_true a ≡ b → a ≡ Is b
truth_is a b t e = t.is ∙ is_of t.truth b (sym (ap is_true t.is) ∙ e)

pub is_differ : (a : Answer) → a ≡ Is true → a ≡ Is false → ⊥
is_differ a e f = cc

-- ---- what was before

-- an instant before t at which something is present, and since which there was no restart
pub record EarlierBy (r : Run) (present restarted : ℕ → Question) (t : ℕ) : Type 0 where
  pub instant : ℕ
  pub before : instant < t
  pub there : IsKnown r (present instant) (Is true)
  pub quiet : (q : ℕ) → instant < q → q ≤ t → IsKnown r (restarted q) (Is false)

pub as_is : (r : Run) (q : Question) (a b : Answer) → a ≡ b → IsKnown r q a → IsKnown r q b
as_is r q a b e h = subst (λ (x : Answer). IsKnown r q x) e h

later_by : (r : Run) (present restarted : ℕ → Question) (p : ℕ) → IsKnown r (restarted (suc p)) (Is false) → EarlierBy r present restarted p → EarlierBy r present restarted (suc p)
later_by r present restarted p stays e = record {
  instant = e.instant;
  before = let h = e.before in omega (arith, h);
  there = e.there;
  quiet = λ q low high. go q low (split q high);
}
  where
    split : (q : ℕ) → q ≤ suc p → (q ≤ p) ⊎ (q ≡ suc p)
    split q h = grind arith

    go : (q : ℕ) → e.instant < q → (q ≤ p) ⊎ (q ≡ suc p) → IsKnown r (restarted q) (Is false)
    go q low (inl h) = e.quiet q low h
    go q low (inr h) = subst (λ (x : ℕ). IsKnown r (restarted x) (Is false)) (sym h) stays

none_by : (r : Run) (present restarted : ℕ → Question) (p : ℕ) → IsKnown r (present p) (Is false) → (EarlierBy r present restarted p → ⊥) → EarlierBy r present restarted (suc p) → ⊥
none_by r present restarted p stays none e = go (split e.instant e.before)
  where
    split : (i : ℕ) → i < suc p → (i < p) ⊎ (i ≡ p)
    split i h = grind arith

    go : (e.instant < p) ⊎ (e.instant ≡ p) → ⊥
    go (inl h) = none (record { instant = e.instant; before = h; there = e.there; quiet = λ q low high. e.quiet q low (omega (arith, high)) })
    go (inr h) = is_differ _ (one_answer (setting_of r) r.rows (present p) (Is true) (Is true) (subst (λ (x : ℕ). IsKnown r (present x) (Is true)) h e.there) (subst (λ (x : ℕ). IsKnown r (present x) (Is true)) h e.there))
        (one_answer (setting_of r) r.rows (present p) (Is true) (Is false) (subst (λ (x : ℕ). IsKnown r (present x) (Is true)) h e.there) stays)

never_by : (r : Run) (present restarted : ℕ → Question) → EarlierBy r present restarted 0 → ⊥
never_by r present restarted e = let h = e.before in absurd (omega (arith, h))

-- a relation of which what is known is a part
pub record Keeping (r : Run) (K : Question → Answer → Type 0) : Type 0 where
  pub known : (q : Question) (a : Answer) → K q a → IsKnown r q a

pub previous_ends : (r : Run) (K : Question → Answer → Type 0) (P : Answer → Type 0) → Keeping r K → (present restarted : ℕ → Question) (go : ℕ → Rule) (none : Rule) →
    ((p : ℕ) (a : Answer) → IsKnown r (present p) a → IsTruth a) → ((p : ℕ) (a : Answer) → IsKnown r (restarted p) a → IsTruth a) → (t : ℕ) →
    ((e : EarlierBy r present restarted t) → Ends K r.rows P (go e.instant)) → ((EarlierBy r present restarted t → ⊥) → Ends K r.rows P none) →
    Ends K r.rows P (previous present restarted go none t)
unfolding later_by
previous_ends r K P keeping present restarted go none truth again zero h k = k (never_by r present restarted)
previous_ends r K P keeping present restarted go none truth again (suc p) h k = asks (λ a now. if_ends (is_true a)
    (λ e. k (λ earlier. is_differ a (truth_is a true (again (suc p) a (keeping.known _ a now)) e)
    (one_answer (setting_of r) r.rows (restarted (suc p)) a (Is false) (keeping.known _ a now) (earlier.quiet (suc p) earlier.before (omega arith)))))
    (λ e. let stays : IsKnown r (restarted (suc p)) (Is false) = as_is r _ a (Is false) (truth_is a false (again (suc p) a (keeping.known _ a now)) e) (keeping.known _ a now) in
    asks (λ b then'. if_ends (is_true b)
    (λ f. h (record {
      instant = p;
      before = omega arith;
      there = as_is r _ b (Is true) (truth_is b true (truth p b (keeping.known _ b then')) f) (keeping.known _ b then');
      quiet = λ q low high. let g : suc p ≡ q = omega (arith, low, high) in subst (λ (x : ℕ). IsKnown r (restarted x) (Is false)) g stays;
    }))
    (λ f. previous_ends r K P keeping present restarted go none truth again p
    (λ e. h (later_by r present restarted p stays e))
    (λ n. k (none_by r present restarted p (as_is r _ b (Is false) (truth_is b false (truth p b (keeping.known _ b then')) f) (keeping.known _ b then')) n))))))

-- ---- counts

pub count_ends : (K : Question → Answer → Type 0) (rows : List (List ℕ)) (P : Answer → Type 0) (present : ℕ → Question) (go : ℕ → Rule) (t : ℕ) →
    ((n : ℕ) → Ends K rows P (go n)) → Ends K rows P (count_before present go t)
count_ends K rows P present go zero h = h 0
count_ends K rows P present go (suc p) h = asks (λ a k. count_ends K rows P present (λ n. go (if is_true a then n + 1 else n)) p (λ n. h (if is_true a then n + 1 else n)))

pub ends_map : (K : Question → Answer → Type 0) (rows : List (List ℕ)) (P Q : Answer → Type 0) (d : Rule) → ((a : Answer) → P a → Q a) → Ends K rows P d → Ends K rows Q d
ends_map K rows P Q d h unknown = unknown
ends_map K rows P Q d h (says p) = says (h _ p)
ends_map K rows P Q d h (reads f) = reads (λ v e. h (Value v) (f v e))
ends_map K rows P Q d h (asks {go = go} f) = asks (λ a k. ends_map K rows P Q (go a) h (f a k))

-- a rule comes to what it comes to
pub itself : (K : Question → Answer → Type 0) (rows : List (List ℕ)) (d : Rule) → Ends K rows (λ a. Follows K rows d a) d
itself K rows (Says a) = says said
itself K rows (Reads t j) = reads (λ v e. read e)
itself K rows (Asks q go) = asks (λ a k. ends_map K rows (λ b. Follows K rows (go a) b) (λ b. Follows K rows (Asks q go) b) (go a) (λ b f. asked k f) (itself K rows (go a)))

pub on_true : {K : Question → Answer → Type 0} {rows : List (List ℕ)} (b : Bool) {d : Rule} (e : Rule) {a : Answer} → b ≡ true → Follows K rows d a → Follows K rows (if b then d else e) a
on_true true e h f = f
on_true false e h f = cc

pub on_false : {K : Question → Answer → Type 0} {rows : List (List ℕ)} (b : Bool) (d : Rule) {e : Rule} {a : Answer} → b ≡ false → Follows K rows e a → Follows K rows (if b then d else e) a
on_false true d h f = cc
on_false false d h f = f
