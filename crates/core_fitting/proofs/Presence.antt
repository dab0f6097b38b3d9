-- Presence of clocks, restarts and the previous instant.
use Rattle.std.proofs.Common.{◌≡◌, ◌≢◌, ◌⊎◌, inl, inr, ℕ, zero, suc, ◌<◌, ◌≤◌, ◌+◌, Bool, true, false, ◌||◌, List, [], ◌∷◌, ◌++◌, refl, sym, ap, subst, ◌∙◌, arith}
use Rattle.std.specs.Prelude.{if◌then◌else◌}
use Rattle.std.proofs.lemmas.Bool.{false≢true}
use Rattle.hept_ast.specs.Texts.{Name, same, is_in, tag_value}
use Rattle.hept_ast.specs.Scopes.{Clock, Scope, Under}
use Rattle.hept_ast.specs.Meaning.{Question, Variable, Present, Active, Restarted, Answer, Unknown, Absent, Nil, Value, Is, State_at, Rule, answer_to, is_true, is_value, steps_hold, some_true, previous, count_before, rule}
use Rattle.hept_ast.specs.Outputs.{Knows, Follows, said, asked}
use Rattle.hept_ast.proofs.Depths.{by_rule, to_rule, one_answer}
use Rattle.hept_ast.specs.declared.tree.ClockStep.{ClockStep}
use Rattle.core_rules.proofs.Ends.{same_is, same_self}
use Rattle.core_fitting.specs.Holding.{Run, IsKnown, setting_of, types_in, Steps, no_step, holds, fails, Here, inactive, active, Quiet, Earlier}

-- what a rule comes to
abbrev pub Comes : Run → Rule → Answer → Type 0
Comes r d a = Follows (Knows (setting_of r) r.rows) r.rows d a

abbrev pub Tells : Answer → Type 0
Tells Unknown = ⊥
Tells _ = Unit {0}

pub tells : (a : Answer) → Tells a → a ≢ Unknown
tells Unknown h e = h
tells Absent h e = cc
tells Nil h e = cc
tells (Value v) h e = cc
tells (Is b) h e = cc
tells (State_at k m) h e = cc

pub known_by : (r : Run) (q : Question) (a : Answer) → Tells a → Comes r (rule (setting_of r) q) a → IsKnown r q a
known_by r q a h f = to_rule (setting_of r) r.rows q a f (tells a h)

pub answers : (r : Run) (q : Question) (a : Answer) → IsKnown r q a → Comes r (answer_to q) a
answers r q a h = asked h said

-- a question with the rule of another has its answer
pub alike : (r : Run) (p q : Question) (a : Answer) → rule (setting_of r) p ≡ rule (setting_of r) q → IsKnown r p a → IsKnown r q a
alike r p q a e h = to_rule (setting_of r) r.rows q a (subst (λ (d : Rule). Comes r d a) e (by_rule (setting_of r) r.rows p a h)) h.known

pub if_is : (r : Run) (b c : Bool) (d e : Rule) (a : Answer) → b ≡ c → Comes r (if c then d else e) a → Comes r (if b then d else e) a
if_is r b c d e a h f = subst (λ (x : Bool). Comes r (if x then d else e) a) (sym h) f

pub variable_under : (r : Run) (s : Scope) (resets : List Name) (x : Name) (t : ℕ) (a : Answer) → IsKnown r (Variable x s t) a → IsKnown r (Variable x (Under s resets) t) a
variable_under r s resets x t a h = alike r (Variable x s t) (Variable x (Under s resets) t) a refl h

is_same : (b c : Bool) → Is b ≡ Is c → b ≡ c
is_same b c e = ap is_true e

pub one_truth : (r : Run) (q : Question) (b c : Bool) → IsKnown r q (Is b) → IsKnown r q (Is c) → b ≡ c
one_truth r q b c h k = is_same b c (one_answer (setting_of r) r.rows q (Is b) (Is c) h k)

-- ---- steps

steps_come : (r : Run) (s : Scope) (t : ℕ) (c : Clock) (b : Bool) → Steps r s t c b → Comes r (steps_hold (setting_of r) c s t) (Is b)
steps_come r s t _ _ no_step = said
steps_come r s t _ b (holds {steps = steps} k e h) = asked k (if_is r _ true _ _ _ e (steps_come r s t steps b h))
steps_come r s t _ _ (fails k e) = asked k (if_is r _ false _ _ _ e said)

steps_under : (r : Run) (s : Scope) (resets : List Name) (t : ℕ) (c : Clock) (b : Bool) → Steps r s t c b → Steps r (Under s resets) t c b
steps_under r s resets t _ _ no_step = no_step
steps_under r s resets t _ b (holds {steps = steps} k e h) = holds (variable_under r s resets _ t _ k) e (steps_under r s resets t steps b h)
steps_under r s resets t _ _ (fails k e) = fails (variable_under r s resets _ t _ k) e

here_under : (r : Run) (s : Scope) (resets : List Name) (t : ℕ) (c : Clock) (b : Bool) → Here r s t c b → Here r (Under s resets) t c b
here_under r s resets t c _ (inactive k) = inactive (known_by r (Active (Under s resets) t) (Is false) tt (asked k said))
here_under r s resets t c b (active k h) = active (known_by r (Active (Under s resets) t) (Is true) tt (asked k said)) (steps_under r s resets t c b h)

pub present : (r : Run) (s : Scope) (t : ℕ) (c : Clock) (b : Bool) → Here r s t c b → IsKnown r (Present c s t) (Is b)
present r s t c _ (inactive k) = known_by r (Present c s t) (Is false) tt (asked k said)
present r s t c b (active k h) = known_by r (Present c s t) (Is b) tt (asked k (steps_come r s t c b h))

pub present_under : (r : Run) (s : Scope) (resets : List Name) (t : ℕ) (c : Clock) (b : Bool) → Here r s t c b → IsKnown r (Present c (Under s resets) t) (Is b)
present_under r s resets t c b h = present r (Under s resets) t c b (here_under r s resets t c b h)

pub same_here : (r : Run) (s : Scope) (t : ℕ) (c : Clock) (b d : Bool) → Here r s t c b → Here r s t c d → b ≡ d
same_here r s t c b d h k = one_truth r (Present c s t) b d (present r s t c b h) (present r s t c d k)

-- fewer steps
steps_front : (r : Run) (s : Scope) (t : ℕ) (c : Clock) (p : ClockStep) → Steps r s t (c ++ p ∷ []) true → Steps r s t c true
steps_front r s t [] p h = no_step
steps_front r s t (x ∷ c) p (holds k e h) = holds k e (steps_front r s t c p h)

pub here_front : (r : Run) (s : Scope) (t : ℕ) (c : Clock) (p : ClockStep) → Here r s t (c ++ p ∷ []) true → Here r s t c true
here_front r s t c p (active k h) = active k (steps_front r s t c p h)

-- one step more
last_step : (r : Run) (s : Scope) (t : ℕ) (p : ClockStep) (a : Answer) (b : Bool) → IsKnown r (Variable p.name s t) a → is_value (tag_value (types_in r) p.tag) a ≡ b → Steps r s t (p ∷ []) b
last_step r s t p a true k e = holds k e no_step
last_step r s t p a false k e = fails k e

steps_grow : (r : Run) (s : Scope) (t : ℕ) (c : Clock) (p : ClockStep) (a : Answer) (b : Bool) → IsKnown r (Variable p.name s t) a → is_value (tag_value (types_in r) p.tag) a ≡ b →
    Steps r s t c true → Steps r s t (c ++ p ∷ []) b
steps_grow r s t _ p a b k e no_step = last_step r s t p a b k e
steps_grow r s t _ p a b k e (holds {steps = steps} j f h) = holds j f (steps_grow r s t steps p a b k e h)

steps_off : (r : Run) (s : Scope) (t : ℕ) (c : Clock) (p : ClockStep) → Steps r s t c false → Steps r s t (c ++ p ∷ []) false
steps_off r s t _ p (holds {steps = steps} k e h) = holds k e (steps_off r s t steps p h)
steps_off r s t _ p (fails k e) = fails k e

pub here_grow : (r : Run) (s : Scope) (t : ℕ) (c : Clock) (p : ClockStep) (a : Answer) (b : Bool) → IsKnown r (Variable p.name s t) a → is_value (tag_value (types_in r) p.tag) a ≡ b →
    Here r s t c true → Here r s t (c ++ p ∷ []) b
here_grow r s t c p a b k e (active j h) = active j (steps_grow r s t c p a b k e h)

pub here_off : (r : Run) (s : Scope) (t : ℕ) (c : Clock) (p : ClockStep) → Here r s t c false → Here r s t (c ++ p ∷ []) false
here_off r s t c p (inactive k) = inactive k
here_off r s t c p (active k h) = active k (steps_off r s t c p h)

-- ---- restarts

-- by the scope or by resets, whose variables are known
pub data Restarts (r : Run) (s : Scope) (t : ℕ) (resets : List Name) : Type 0 where
  calm : IsKnown r (Restarted (Under s resets) t) (Is false) → Quiet r s t resets → Restarts r s t resets
  loud : IsKnown r (Restarted (Under s resets) t) (Is true) → (Quiet r s t resets → ⊥) → Restarts r s t resets

data SomeTrue (r : Run) (s : Scope) (t : ℕ) (xs : List Name) : Type 0 where
  none_true : Comes r (some_true (setting_of r) xs s t) (Is false) → ((x : Name) → is_in x xs ≡ true → (a : Answer) × IsKnown r (Variable x s t) a × (is_true a ≡ false)) → SomeTrue r s t xs
  one_true : Comes r (some_true (setting_of r) xs s t) (Is true) → (x : Name) → is_in x xs ≡ true → (a : Answer) → IsKnown r (Variable x s t) a → is_true a ≡ true → SomeTrue r s t xs

in_later : (x y : Name) (xs : List Name) → is_in x xs ≡ true → is_in x (y ∷ xs) ≡ true
in_later x y xs h = go (same x y)
  where
    go : (b : Bool) → b || is_in x xs ≡ true
    go true = refl
    go false = h

in_head : (x : Name) (xs : List Name) → is_in x (x ∷ xs) ≡ true
in_head x xs = ap (λ b. b || is_in x xs) (same_self x)

same_name : (x y : Name) → same x y ≡ true → x ≡ y
same_name x y e = same_is x y e

or_cases : (b c : Bool) → (b || c) ≡ true → (b ≡ true) ⊎ (c ≡ true)
or_cases true c e = inl refl
or_cases false c e = inr e

some_more : (r : Run) (s : Scope) (t : ℕ) (x : Name) (xs : List Name) (a : Answer) (b : Bool) → IsKnown r (Variable x s t) a → is_true a ≡ b → SomeTrue r s t xs → SomeTrue r s t (x ∷ xs)
some_more r s t x xs a true k e h = one_true (asked k (if_is r _ true _ _ _ e said)) x (in_head x xs) a k e
some_more r s t x xs a false k e (one_true f y i c m g) = one_true (asked k (if_is r _ false _ _ _ e f)) y (in_later y x xs i) c m g
some_more r s t x xs a false k e (none_true f each) = none_true (asked k (if_is r _ false _ _ _ e f)) (λ y i. split y (or_cases (same y x) (is_in y xs) i))
  where
    split : (y : Name) → (same y x ≡ true) ⊎ (is_in y xs ≡ true) → (c : Answer) × IsKnown r (Variable y s t) c × (is_true c ≡ false)
    split y (inl g) = (a, subst (λ (z : Name). IsKnown r (Variable z s t) a) (sym (same_name y x g)) k, e)
    split y (inr i) = each y i

some_known : (r : Run) (s : Scope) (t : ℕ) (xs : List Name) → ((x : Name) → is_in x xs ≡ true → (a : Answer) × IsKnown r (Variable x s t) a) → SomeTrue r s t xs
some_known r s t [] h = none_true said (λ x i. absurd (false≢true i))
some_known r s t (x ∷ xs) h = let k = h x (in_head x xs) in some_more r s t x xs k.0 _ k.1 refl (some_known r s t xs (λ y i. h y (in_later y x xs i)))

some_under : (r : Run) (s : Scope) (resets : List Name) (t : ℕ) (xs : List Name) (b : Bool) → Comes r (some_true (setting_of r) xs s t) (Is b) → IsKnown r (Restarted s t) (Is false) → xs ≡ resets →
    IsKnown r (Restarted (Under s resets) t) (Is b)
some_under r s resets t xs b f k e = known_by r (Restarted (Under s resets) t) (Is b) tt (asked k (subst (λ (ys : List Name). Comes r (some_true (setting_of r) ys s t) (Is b)) e f))

differ : (b : Bool) → b ≡ true → b ≡ false → ⊥
differ b e f = false≢true (sym f ∙ e)

restarts_by : (r : Run) (s : Scope) (resets : List Name) (t : ℕ) → IsKnown r (Restarted s t) (Is false) → SomeTrue r s t resets → Restarts r s t resets
restarts_by r s resets t k (none_true f each) = calm (some_under r s resets t resets false f k refl) (record { scope = k; names = each })
restarts_by r s resets t k (one_true f x i a m e) = loud (some_under r s resets t resets true f k refl)
    (λ q. let n = q.names x i in differ (is_true a) e (subst (λ (c : Answer). is_true c ≡ false) (one_answer (setting_of r) r.rows (Variable x s t) n.0 a n.1 m) n.2))

pub restarts : (r : Run) (s : Scope) (resets : List Name) (t : ℕ) (b : Bool) → IsKnown r (Restarted s t) (Is b) →
    ((x : Name) → is_in x resets ≡ true → (a : Answer) × IsKnown r (Variable x s t) a) → Restarts r s t resets
restarts r s resets t true k h = loud (known_by r (Restarted (Under s resets) t) (Is true) tt (asked k said)) (λ q. false≢true (one_truth r (Restarted s t) false true q.scope k))
restarts r s resets t false k h = restarts_by r s resets t k (some_known r s t resets h)

pub restarted_under : (r : Run) (s : Scope) (resets : List Name) (t : ℕ) → Restarts r s t resets → (b : Bool) × IsKnown r (Restarted (Under s resets) t) (Is b)
restarted_under r s resets t (calm k q) = (false, k)
restarted_under r s resets t (loud k n) = (true, k)

pub quiet_fewer : (r : Run) (s : Scope) (t : ℕ) (xs ys : List Name) → ((x : Name) → is_in x xs ≡ true → is_in x ys ≡ true) → Quiet r s t ys → Quiet r s t xs
quiet_fewer r s t xs ys h q = record { scope = q.scope; names = λ x i. q.names x (h x i) }

-- ---- the previous instant

pub earlier_fewer : (r : Run) (s : Scope) (t : ℕ) (c : Clock) (xs ys : List Name) → ((x : Name) → is_in x xs ≡ true → is_in x ys ≡ true) → Earlier r s t c ys → Earlier r s t c xs
earlier_fewer r s t c xs ys h e = record { instant = e.instant; before = e.before; here = e.here; quiet = λ q low high. quiet_fewer r s q xs ys h (e.quiet q low high) }

pub earlier_front : (r : Run) (s : Scope) (t : ℕ) (c : Clock) (p : ClockStep) (xs : List Name) → Earlier r s t (c ++ p ∷ []) xs → Earlier r s t c xs
earlier_front r s t c p xs e = record { instant = e.instant; before = e.before; here = here_front r s e.instant c p e.here; quiet = e.quiet }

last_or_before : (q t : ℕ) → q ≤ suc t → (q ≡ suc t) ⊎ (q ≤ t)
last_or_before q t h = grind arith

pub below_or_same : (q t : ℕ) → q < suc t → (q ≡ t) ⊎ (q < t)
below_or_same q t h = grind arith

-- the rule of the previous instant goes there, if there is one
pub data Before (r : Run) (s : Scope) (t : ℕ) (c : Clock) (xs : List Name) (go : ℕ → Rule) (none d : Rule) : Type 0 where
  found : (e : Earlier r s t c xs) → ((a : Answer) → Comes r (go e.instant) a → Comes r d a) → Before r s t c xs go none d
  nothing : (Earlier r s t c xs → ⊥) → ((a : Answer) → Comes r none a → Comes r d a) → Before r s t c xs go none d

module _ (r : Run) (s : Scope) (c : Clock) (xs : List Name) (go : ℕ → Rule) (none : Rule) where
  abbrev before_rule : ℕ → Rule
  before_rule t = previous (λ p. Present c (Under s xs) p) (λ p. Restarted (Under s xs) p) go none t

  longer : (p : ℕ) → Quiet r s (suc p) xs → Earlier r s p c xs → Earlier r s (suc p) c xs
  longer p q e = record { instant = e.instant; before = let h = e.before in omega arith; here = e.here; quiet = λ i low high. split i low (last_or_before i p high) }
    where
      split : (i : ℕ) → e.instant < i → (i ≡ suc p) ⊎ (i ≤ p) → Quiet r s i xs
      split i low (inl g) = subst (λ (j : ℕ). Quiet r s j xs) (sym g) q
      split i low (inr h) = e.quiet i low h

  no_earlier : (p : ℕ) → Here r s p c false → (Earlier r s p c xs → ⊥) → Earlier r s (suc p) c xs → ⊥
  no_earlier p off n e = split (below_or_same e.instant p e.before)
    where
      split : (e.instant ≡ p) ⊎ (e.instant < p) → ⊥
      split (inl g) = false≢true (same_here r s p c false true off (subst (λ (j : ℕ). Here r s j c true) g e.here))
      split (inr h) = n (record { instant = e.instant; before = h; here = e.here; quiet = λ i low high. e.quiet i low (omega arith) })

  at_before : (p : ℕ) → Here r s p c true → Quiet r s (suc p) xs → Earlier r s (suc p) c xs
  at_before p h q = record { instant = p; before = omega arith; here = h; quiet = λ i low high. let e : suc p ≡ i = omega arith in subst (λ (j : ℕ). Quiet r s j xs) e q }

  goes_on : (p : ℕ) → IsKnown r (Restarted (Under s xs) (suc p)) (Is false) → Quiet r s (suc p) xs → Here r s p c false → Before r s p c xs go none (before_rule p) → Before r s (suc p) c xs go none (before_rule (suc p))
  unfolding longer
  goes_on p k q off (found e f) = found (longer p q e) (λ a g. asked k (asked (present_under r s xs p c false off) (f a g)))
  goes_on p k q off (nothing n f) = nothing (no_earlier p off n) (λ a g. asked k (asked (present_under r s xs p c false off) (f a g)))

  by_presence : (p : ℕ) → IsKnown r (Restarted (Under s xs) (suc p)) (Is false) → Quiet r s (suc p) xs → (b : Bool) → Here r s p c b → Before r s p c xs go none (before_rule p) → Before r s (suc p) c xs go none (before_rule (suc p))
  unfolding at_before
  by_presence p k q true h rest = found (at_before p h q) (λ a g. asked k (asked (present_under r s xs p c true h) g))
  by_presence p k q false h rest = goes_on p k q h rest

  by_restart : (p : ℕ) → Restarts r s (suc p) xs → (b : Bool) × Here r s p c b → Before r s p c xs go none (before_rule p) → Before r s (suc p) c xs go none (before_rule (suc p))
  by_restart p (loud k n) h rest = nothing (λ e. n (e.quiet (suc p) e.before (omega arith))) (λ a g. asked k g)
  by_restart p (calm k q) h rest = by_presence p k q h.0 h.1 rest

  pub before : (t : ℕ) → ((p : ℕ) → p < t → (b : Bool) × Here r s p c b) → ((p : ℕ) → p ≤ t → Restarts r s p xs) → Before r s t c xs go none (before_rule t)
  before zero here again = nothing (λ e. let h = e.before in absurd (omega arith)) (λ a g. g)
  before (suc p) here again = by_restart p (again (suc p) (omega arith)) (here p (omega arith)) (before p (λ q l. here q (omega arith)) (λ q l. again q (omega arith)))

-- ---- counting

if_one : Bool → ℕ → ℕ
if_one b n = if b then n + 1 else n

pub record Counted (r : Run) (go : ℕ → Rule) (d : Rule) : Type 0 where
  pub number : ℕ
  pub comes : (a : Answer) → Comes r (go number) a → Comes r d a

pub counts : (r : Run) (s : Scope) (c : Clock) (xs : List Name) (go : ℕ → Rule) (t : ℕ) → ((p : ℕ) → p < t → (b : Bool) × Here r s p c b) → Counted r go (count_before (λ p. Present c (Under s xs) p) go t)
counts r s c xs go zero here = record { number = 0; comes = λ a f. f }
counts r s c xs go (suc p) here =
    let h = here p (omega arith) in
    let n = counts r s c xs (λ m. go (if h.0 then m + 1 else m)) p (λ q l. here q (omega arith)) in
    record { number = if h.0 then n.number + 1 else n.number; comes = λ a f. asked (present_under r s xs p c h.0 h.1) (n.comes a f) }
