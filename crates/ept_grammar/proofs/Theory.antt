-- What is so of any grammar that can be read with one token of look-ahead.
use Rattle.std.specs.Prelude.{◌≡◌, Bool, true, false, not, ◌&&◌, if◌then◌else◌, List, [], ◌∷◌, ◌++◌, Option, Some, None, refl, ◌⊎◌}
use Rattle.std.proofs.Common.{inl, inr, sym, ap, subst, ◌∙◌}
use Rattle.std.specs.List.{list_any}
use Rattle.ept_tokens.specs.declared.token.Kind.{Kind}
use Rattle.ept_tokens.specs.declared.token.Token.{Token}
use Rattle.ept_grammar.specs.declared.parts.Role.{Role}
use Rattle.ept_grammar.specs.Grammar.{Among, here, there, Part, Symbol, word, part, Values, Rule, rules, joined, place_of, Spells}
use Rattle.ept_grammar.specs.Reading.{look, empties, is_empty, begins, first, begin, skip, foremost, or_else, chosen, may_begin}
use Rattle.ept_tokens.proofs.Bools.{true≢false, or_cases, or_left, or_right, and_both, and_of, implies, implied}
use Rattle.ept_grammar.proofs.Among.{all_of, any_of}
use Rattle.ept_grammar.proofs.EachKind.{is_same}
use Rattle.ept_grammar.proofs.Table.{after, follows, one, is_fine, is_fine_empty}

-- ---- what the table says

abbrev pub starts : List Symbol → Kind → Bool
starts = begins first

first_of : (n : Part) (k : Kind) {r : Rule n} → Among r (rules n) → starts r.right k ≡ true → first n k ≡ true
first_of n k i e = implied (list_any (λ r. starts r.right k) (rules n)) (first n k) (and_both _ _ (and_both _ _ (is_fine n k)).0).0 (any_of (λ r. starts r.right k) i e)

one_begins : (n : Part) (k : Kind) → one (λ r. starts r.right k) (rules n) ≡ true
one_begins n k = (and_both _ _ (and_both _ _ (is_fine n k)).0).1

not_after : (n : Part) (k : Kind) → not (is_empty n && first n k && after n k) ≡ true
not_after n k = (and_both _ _ (and_both _ _ (is_fine n k)).1).0

rules_follow : (n : Part) (k : Kind) {r : Rule n} → Among r (rules n) → follows n r.right k ≡ true
rules_follow n k i = all_of (λ r. follows n r.right k) i (and_both _ _ (and_both _ _ (is_fine n k)).1).1

empty_of : (n : Part) {r : Rule n} → Among r (rules n) → empties is_empty r.right ≡ true → is_empty n ≡ true
empty_of n i e = implied (list_any (λ r. empties is_empty r.right) (rules n)) (is_empty n) (and_both _ _ (is_fine_empty n)).0 (any_of (λ r. empties is_empty r.right) i e)

one_empty : (n : Part) → one (λ r. empties is_empty r.right) (rules n) ≡ true
one_empty n = (and_both _ _ (is_fine_empty n)).1

-- ---- what a text begins with

starts_joined : (a b : List Symbol) (k : Kind) → starts (a ++ b) k ≡ true → (starts a k ≡ true) ⊎ ((empties is_empty a ≡ true) × (starts b k ≡ true))
starts_joined [] b k e = inr (refl, e)
starts_joined (word r j ∷ a) b k e = inl e
starts_joined (part n ∷ a) b k e = by_cases (or_cases (first n k) _ e) (λ f. starts_joined a b k f)
  where
    later : (is_empty n ≡ true) → (starts a k ≡ true) ⊎ ((empties is_empty a ≡ true) × (starts b k ≡ true)) → (starts (part n ∷ a) k ≡ true) ⊎ ((empties is_empty (part n ∷ a) ≡ true) × (starts b k ≡ true))
    later f (inl g) = inl (or_right (first n k) _ (and_of (is_empty n) _ f g))
    later f (inr g) = inr (and_of (is_empty n) _ f g.0, g.1)

    by_cases : (first n k ≡ true) ⊎ (is_empty n && starts (a ++ b) k ≡ true)
        → (starts (a ++ b) k ≡ true → (starts a k ≡ true) ⊎ ((empties is_empty a ≡ true) × (starts b k ≡ true)))
        → (starts (part n ∷ a) k ≡ true) ⊎ ((empties is_empty (part n ∷ a) ≡ true) × (starts b k ≡ true))
    by_cases (inl f) ih = inl (or_left (first n k) _ f)
    by_cases (inr f) ih = later (and_both (is_empty n) _ f).0 (ih (and_both (is_empty n) _ f).1)

empties_joined : (a b : List Symbol) → empties is_empty (a ++ b) ≡ true → (empties is_empty a ≡ true) × (empties is_empty b ≡ true)
empties_joined [] b e = (refl, e)
empties_joined (word r j ∷ a) b e = true≢false (sym e)
empties_joined (part n ∷ a) b e =
    let both = and_both (is_empty n) _ e in
    let rest = empties_joined a b both.1 in
    (and_of (is_empty n) _ both.0 rest.0, rest.1)

-- The symbols may begin with what the tokens begin with.
abbrev pub Starts : List Symbol → List Token → Type 0
Starts ss [] = empties is_empty ss ≡ true
Starts ss (t ∷ ts) = starts ss t.kind ≡ true

starts_by : (n : Part) (ss : List Symbol) (ts : List Token) {r : Rule n} → Among r (rules n) → Starts (r.right ++ ss) ts → Starts (part n ∷ ss) ts
starts_by n ss [] {r = r} i e =
    let both = empties_joined r.right ss e in
    and_of (is_empty n) _ (empty_of n i both.0) both.1
starts_by n ss (t ∷ ts) {r = r} i e = by_cases (starts_joined r.right ss t.kind e)
  where
    by_cases : (starts r.right t.kind ≡ true) ⊎ ((empties is_empty r.right ≡ true) × (starts ss t.kind ≡ true)) → starts (part n ∷ ss) t.kind ≡ true
    by_cases (inl f) = or_left (first n t.kind) _ (first_of n t.kind i f)
    by_cases (inr f) = or_right (first n t.kind) _ (and_of (is_empty n) _ (empty_of n i f.0) f.1)

pub starts_with : {ss : List Symbol} {vs : Values ss} {ts : List Token} {rs : List Role} → Spells ss vs ts rs → Starts ss ts
starts_with Spells.none = refl
starts_with (Spells.token {k = k} {t = t} e d) = is_same k t.kind (sym e)
starts_with (Spells.by {n = n} {ss = ss} {ts = ts} r i us d) = starts_by n ss ts i (starts_with d)

-- ---- which rule it is

one_other : (a b : Bool) → implies a (not b) ≡ true → b ≡ true → a ≡ false
one_other true true e f = true≢false (sym e)
one_other true false e f = true≢false (sym f)
one_other false b e f = refl

begin_finds : {n : Part} (k : Kind) {r : Rule n} {rs : List (Rule n)} → Among r rs → starts r.right k ≡ true → one (λ q. starts q.right k) rs ≡ true → begin k rs ≡ Some r
begin_finds k here e o = rw e
begin_finds k (there {y = y} {xs = xs} i) e o =
    let both = and_both (implies (starts y.right k) (not (list_any (λ q. starts q.right k) xs))) (one (λ q. starts q.right k) xs) o in
    let no : starts y.right k ≡ false = one_other _ _ both.0 (any_of (λ q. starts q.right k) i e) in
    rw no (begin_finds k i e both.1)

skip_finds : {n : Part} {r : Rule n} {rs : List (Rule n)} → Among r rs → empties is_empty r.right ≡ true → one (λ q. empties is_empty q.right) rs ≡ true → skip rs ≡ Some r
skip_finds here e o = rw e
skip_finds (there {y = y} {xs = xs} i) e o =
    let both = and_both (implies (empties is_empty y.right) (not (list_any (λ q. empties is_empty q.right) xs))) (one (λ q. empties is_empty q.right) xs) o in
    let no : empties is_empty y.right ≡ false = one_other _ _ both.0 (any_of (λ q. empties is_empty q.right) i e) in
    rw no (skip_finds i e both.1)

begin_none : {n : Part} (k : Kind) (rs : List (Rule n)) → ((r : Rule n) → Among r rs → starts r.right k ≡ true → ⊥) → begin k rs ≡ None
begin_none k [] h = refl
begin_none k (r ∷ rs) h = go (starts r.right k) refl (begin_none k rs (λ q i. h q (there i)))
  where
    go : (b : Bool) → starts r.right k ≡ b → begin k rs ≡ None → (if b then Some r else begin k rs) ≡ None
    go true e ih = absurd (h r here e)
    go false e ih = ih

begin_among : {n : Part} (k : Kind) (rs : List (Rule n)) {r : Rule n} → begin k rs ≡ Some r → Among r rs
begin_among k [] e = absurd cc
begin_among k (q ∷ rs) {r = r} e = go (starts q.right k) e (λ f. begin_among k rs f)
  where
    go : (b : Bool) → (if b then Some q else begin k rs) ≡ Some r → (begin k rs ≡ Some r → Among r rs) → Among r (q ∷ rs)
    go true f ih = let same : q ≡ r = cc in subst (λ x. Among x (q ∷ rs)) same here
    go false f ih = there (ih f)

skip_among : {n : Part} (rs : List (Rule n)) {r : Rule n} → skip rs ≡ Some r → Among r rs
skip_among [] e = absurd cc
skip_among (q ∷ rs) {r = r} e = go (empties is_empty q.right) e (λ f. skip_among rs f)
  where
    go : (b : Bool) → (if b then Some q else skip rs) ≡ Some r → (skip rs ≡ Some r → Among r rs) → Among r (q ∷ rs)
    go true f ih = let same : q ≡ r = cc in subst (λ x. Among x (q ∷ rs)) same here
    go false f ih = there (ih f)

foremost_among : {n : Part} (rs : List (Rule n)) {r : Rule n} → foremost rs ≡ Some r → Among r rs
foremost_among [] e = absurd cc
foremost_among (q ∷ rs) {r = r} e = let same : q ≡ r = cc in subst (λ x. Among x (q ∷ rs)) same here

or_among : {n : Part} {r : Rule n} (a b : Option (Rule n)) → (a ≡ Some r → Among r (rules n)) → (b ≡ Some r → Among r (rules n)) → or_else a b ≡ Some r → Among r (rules n)
or_among (Some q) b f g e = f e
or_among None b f g e = g e

pub chosen_among : (n : Part) (o : Option Kind) {r : Rule n} → chosen n o ≡ Some r → Among r (rules n)
unfolding chosen
chosen_among n None {r = r} e = or_among (skip (rules n)) (foremost (rules n)) (λ f. skip_among (rules n) f) (λ f. foremost_among (rules n) f) e
chosen_among n (Some k) {r = r} e =
    or_among (begin k (rules n)) _ (λ f. begin_among k (rules n) f) (λ g. or_among (skip (rules n)) (foremost (rules n)) (λ f. skip_among (rules n) f) (λ f. foremost_among (rules n) f) g) e

-- what comes after each part may come after it
abbrev pub Good : List Symbol → Type 0
Good [] = Unit {0}
Good (word r k ∷ ss) = Good ss
Good (part n ∷ ss) = ((k : Kind) → starts ss k ≡ true → after n k ≡ true) × Good ss

good_right : (n : Part) (ss : List Symbol) → Good (part n ∷ ss) → (a : List Symbol) → ((k : Kind) → follows n a k ≡ true) → Good (a ++ ss)
good_right n ss g [] f = g.1
good_right n ss g (word r j ∷ a) f = good_right n ss g a f
good_right n ss g (part m ∷ a) f = (λ k e. go k (starts_joined a ss k e), good_right n ss g a (λ k. (and_both _ _ (f k)).1))
  where
    go : (k : Kind) → (starts a k ≡ true) ⊎ ((empties is_empty a ≡ true) × (starts ss k ≡ true)) → after m k ≡ true
    go k (inl e) = implied _ (after m k) (and_both _ _ (f k)).0 (or_left (starts a k) _ e)
    go k (inr e) = implied _ (after m k) (and_both _ _ (f k)).0 (or_right (starts a k) _ (and_of (empties is_empty a) _ e.0 (g.0 k e.1)))

pub good_by : (n : Part) (ss : List Symbol) {r : Rule n} → Among r (rules n) → Good (part n ∷ ss) → Good (r.right ++ ss)
good_by n ss {r = r} i g = good_right n ss g r.right (λ k. rules_follow n k i)

not_all : (a b c : Bool) → not (a && b && c) ≡ true → a ≡ true → b ≡ true → c ≡ true → ⊥
not_all true true true n e f g = true≢false (sym n)
not_all true true false n e f g = true≢false (sym g)
not_all true false c n e f g = true≢false (sym f)
not_all false b c n e f g = true≢false (sym e)

pub chosen_by : (n : Part) (ss : List Symbol) (ts : List Token) {r : Rule n} → Among r (rules n) → Good (part n ∷ ss) → Starts (r.right ++ ss) ts → chosen n (look ts) ≡ Some r
unfolding chosen
chosen_by n ss [] {r = r} i g e = rw (skip_finds i (empties_joined r.right ss e).0 (one_empty n)) refl
chosen_by n ss (t ∷ ts) {r = r} i g e = by_cases (starts_joined r.right ss t.kind e)
  where
    by_cases : (starts r.right t.kind ≡ true) ⊎ ((empties is_empty r.right ≡ true) × (starts ss t.kind ≡ true)) → or_else (begin t.kind (rules n)) (or_else (skip (rules n)) (foremost (rules n))) ≡ Some r
    by_cases (inl f) = rw (begin_finds t.kind i f (one_begins n t.kind)) refl
    by_cases (inr f) =
        let no : begin t.kind (rules n) ≡ None = begin_none t.kind (rules n) (λ q j h. not_all _ _ _ (not_after n t.kind) (empty_of n i f.0) (first_of n t.kind j h) (g.0 t.kind f.1)) in
        let yes : skip (rules n) ≡ Some r = skip_finds i f.0 (one_empty n) in
        rw no (rw yes refl)

-- the rule, by the next token alone
pub chosen_begins : (n : Part) (k : Kind) {r : Rule n} → Among r (rules n) → starts r.right k ≡ true → chosen n (Some k) ≡ Some r
unfolding chosen
chosen_begins n k i e = rw (begin_finds k i e (one_begins n k)) refl

pub chosen_skips : (n : Part) (o : Option Kind) {r : Rule n} → Among r (rules n) → empties is_empty r.right ≡ true → may_begin n o ≡ false → chosen n o ≡ Some r
unfolding chosen
chosen_skips n None i e f = rw (skip_finds i e (one_empty n)) refl
chosen_skips n (Some k) i e f =
    let no : begin k (rules n) ≡ None = begin_none k (rules n) (λ q j h. true≢false (sym (first_of n k j h) ∙ f)) in
    rw no (rw (skip_finds i e (one_empty n)) refl)

-- ---- one text stands for one tree

-- a derivation of a part, taken apart
pub record By (n : Part) (ss : List Symbol) (ws : Values (part n ∷ ss)) (ts : List Token) (rs : List Role) : Type 0 where
  pub rule : Rule n
  pub among : Among rule (rules n)
  pub values : Values rule.right
  pub spells : Spells (rule.right ++ ss) (joined rule.right ss values ws.1) ts rs
  pub value : ws.0 ≡ rule.gives (place_of ts) values

pub by_of : {n : Part} {ss : List Symbol} {ws : Values (part n ∷ ss)} {ts : List Token} {rs : List Role} → Spells (part n ∷ ss) ws ts rs → By n ss ws ts rs
by_of (Spells.by r i us d) = record { rule = r; among = i; values = us; spells = d; value = refl }

-- a derivation of a token, taken apart
pub record Of (r : Role) (k : Kind) (ss : List Symbol) (ws : Values (word r k ∷ ss)) (t : Token) (ts : List Token) (rs : List Role) : Type 0 where
  pub first : ws.0 ≡ t
  pub kind : t.kind ≡ k
  pub roles : List Role
  pub whole : rs ≡ r ∷ roles
  pub spells : Spells ss ws.1 ts roles

pub token_of : {r : Role} {k : Kind} {ss : List Symbol} {ws : Values (word r k ∷ ss)} {t : Token} {ts : List Token} {rs : List Role}
    → Spells (word r k ∷ ss) ws (t ∷ ts) rs → Of r k ss ws t ts rs
token_of (Spells.token {rs = rs} e d) = record { first = refl; kind = e; roles = rs; whole = refl; spells = d }

pair : {A B : Type 0} (x y : A × B) → x.0 ≡ y.0 → x.1 ≡ y.1 → x ≡ y
pair {A = A} {B = B} x y p q =
    let f : A → A × B = λ a. (a, x.1) in
    let g : B → A × B = λ b. (y.0, b) in
    ap f p ∙ ap g q

joined_parts : (a b : List Symbol) (us us' : Values a) (vs vs' : Values b) → joined a b us vs ≡ joined a b us' vs' → (us ≡ us') × (vs ≡ vs')
joined_parts [] b us us' vs vs' e = (refl, e)
joined_parts (word r k ∷ a) b us us' vs vs' e =
    let rest = joined_parts a b us.1 us'.1 vs vs' (ap (λ p. p.1) e) in
    (pair us us' (ap (λ p. p.0) e) rest.0, rest.1)
joined_parts (part n ∷ a) b us us' vs vs' e =
    let rest = joined_parts a b us.1 us'.1 vs vs' (ap (λ p. p.1) e) in
    (pair us us' (ap (λ p. p.0) e) rest.0, rest.1)

pub only : {ss : List Symbol} {vs : Values ss} {ts : List Token} {rs : List Role} → Spells ss vs ts rs → (vs' : Values ss) (rs' : List Role) → Spells ss vs' ts rs' → Good ss → vs ≡ vs'
only Spells.none vs' rs' d' g = refl
only (Spells.token {r = r} {k = k} {ss = ss} {vs = vs} {t = t} {ts = ts} e d) vs' rs' d' g = go vs' d' (λ ws qs f. only d ws qs f g)
  where
    go : (ws : Values (word r k ∷ ss)) → Spells (word r k ∷ ss) ws (t ∷ ts) rs' → ((xs : Values ss) (qs : List Role) → Spells ss xs ts qs → vs ≡ xs) → (t, vs) ≡ ws
    go ws f ih = let i = token_of f in pair (t, vs) ws (sym i.first) (ih ws.1 i.roles i.spells)
only (Spells.by {n = n} {ss = ss} {vs = vs} {ts = ts} r i us d) vs' rs' d' g =
    go vs' d' (λ ws qs f. only d ws qs f (good_by n ss i g)) (starts_with d)
  where
    go : (ws : Values (part n ∷ ss)) → Spells (part n ∷ ss) ws ts rs' → ((xs : Values (r.right ++ ss)) (qs : List Role) → Spells (r.right ++ ss) xs ts qs → joined r.right ss us vs ≡ xs)
        → Starts (r.right ++ ss) ts → (r.gives (place_of ts) us, vs) ≡ ws
    go ws f ih s =
        let b = by_of f in
        let same : r ≡ b.rule = cc (chosen_by n ss ts i g s, chosen_by n ss ts b.among g (starts_with b.spells)) in
        let P : Rule n → Type 0 = λ q. (xs : Values q.right) → Spells (q.right ++ ss) (joined q.right ss xs ws.1) ts rs' → (r.gives (place_of ts) us ≡ q.gives (place_of ts) xs) × (vs ≡ ws.1) in
        let here_too : P r = λ xs h. let parts = joined_parts r.right ss us xs vs ws.1 (ih _ _ h) in (ap (r.gives (place_of ts)) parts.0, parts.1) in
        let both = subst P same here_too b.values b.spells in
        pair (r.gives (place_of ts) us, vs) ws (both.0 ∙ sym b.value) both.1
