-- A text is refused nowhere, and another one at one place alone.
use Rattle.std.specs.Prelude.{◌≡◌, ◌≢◌, ℕ, suc, true, false, List, [], ◌∷◌, ◌++◌, length, Some, refl, ◌⊎◌, Result}
use Rattle.std.specs.Result.{IsErrAnd}
use Rattle.std.proofs.lemmas.Result.{err_from_is_err_and}
use Rattle.std.proofs.Common.{sym, ap, subst, ◌∙◌, append_assoc, append-nil, arith, inl, inr}
use Rattle.ept_tokens.specs.declared.token.Token.{Token}
use Rattle.ept_grammar.specs.declared.parts.Role.{Role}
use Rattle.ept_grammar.specs.declared.parts.Counts.{Counts}
use Rattle.ept_grammar.specs.declared.parts.Fault.{Fault}
use Rattle.ept_grammar.specs.declared.parts.Fault.TheVariants.{Unexpected, TooDeep, Memory}
use Rattle.ept_grammar.specs.Grammar.{Part, Symbol, part, Value, Values, Rule, joined, Spells, after, allows, within}
use Rattle.ept_grammar.specs.Reading.{look, chosen}
use Rattle.ept_grammar.specs.Text.{none_yet, IsText, Begins, IsWrong, IsUnexpected, IsTooDeep, IsRefused, RefusesExactly}
use Rattle.ept_tokens.proofs.Bools.{and_of, and_both, true≢false}
use Rattle.ept_grammar.proofs.Theory.{Good, good_by, chosen_by, by_of, token_of, starts_with}
use Rattle.ept_grammar.proofs.Places.{good_alone}

one_role_each : {ss : List Symbol} {vs : Values ss} {ts : List Token} {rs : List Role} → Spells ss vs ts rs → length rs ≡ length ts
one_role_each Spells.none = refl
one_role_each (Spells.token e d) = ap suc (one_role_each d)
one_role_each (Spells.by r i us d) = one_role_each d

-- a list cut where another one is
halves : (rs : List Role) (a b : List Token) → length rs ≡ length (a ++ b) → (x : List Role) × (y : List Role) × (rs ≡ x ++ y) × (length x ≡ length a)
halves rs [] b e = ([], rs, refl, refl)
halves [] (t ∷ a) b e = absurd cc
halves (r ∷ rs) (t ∷ a) b e =
    let less : length rs ≡ length (a ++ b) = omega arith in
    let h = halves rs a b less in
    (r ∷ h.0, h.1, ap (λ z. r ∷ z) h.2, ap suc h.3)

-- Two texts that begin alike have the same roles there.
same_roles : {ss : List Symbol} {vs : Values ss} {ts : List Token} {rs : List Role} → Spells ss vs ts rs → Good ss
    → (b x : List Token) → ts ≡ b ++ x → (q y : List Role) → rs ≡ q ++ y → length q ≡ length b
    → (vs' : Values ss) (x' : List Token) (q' y' : List Role) → Spells ss vs' (b ++ x') (q' ++ y') → length q' ≡ length b → q ≡ q'
same_roles d g [] x e [] y f l vs' x' [] y' d' l' = refl
same_roles d g [] x e [] y f l vs' x' (r ∷ q') y' d' l' = absurd cc
same_roles d g [] x e (r ∷ q) y f l vs' x' q' y' d' l' = absurd cc
same_roles d g (t ∷ b) x e [] y f l vs' x' q' y' d' l' = absurd cc
same_roles d g (t ∷ b) x e (r ∷ q) y f l vs' x' [] y' d' l' = absurd cc
same_roles Spells.none g (t ∷ b) x e (r ∷ q) y f l vs' x' (r' ∷ q') y' d' l' = absurd cc
same_roles (Spells.token {r = o} {ss = ss} {ts = ts} {rs = rs} k d) g (t ∷ b) x e (r ∷ q) y f l vs' x' (r' ∷ q') y' d' l' =
    let i = token_of d' in
    let tail : ts ≡ b ++ x = cc in
    let roles : rs ≡ q ++ y = cc in
    let mine : o ≡ r = cc in
    let yours : r' ∷ (q' ++ y') ≡ o ∷ i.roles = i.whole in
    let yours_first : r' ≡ o = cc in
    let yours_rest : q' ++ y' ≡ i.roles = cc in
    let less : length q ≡ length b = omega arith in
    let less' : length q' ≡ length b = omega arith in
    let rest = same_roles d g b x tail q y roles less vs'.1 x' q' y' (subst (λ z. Spells ss vs'.1 (b ++ x') z) (sym yours_rest) i.spells) less' in
    cc
same_roles (Spells.by {n = n} {ss = ss} {vs = vs} {ts = ts} {rs = rs} p i us d) g (t ∷ b) x e (r ∷ q) y f l vs' x' (r' ∷ q') y' d' l' =
    go d' (λ ws h. same_roles d (good_by n ss i g) (t ∷ b) x e (r ∷ q) y f l ws x' (r' ∷ q') y' h l') (chosen_by n ss ts i g (starts_with d))
  where
    go : Spells (part n ∷ ss) vs' (t ∷ b ++ x') (r' ∷ q' ++ y')
        → ((ws : Values (p.right ++ ss)) → Spells (p.right ++ ss) ws (t ∷ b ++ x') (r' ∷ q' ++ y') → r ∷ q ≡ r' ∷ q')
        → chosen n (look ts) ≡ Some p → r ∷ q ≡ r' ∷ q'
    go h ih c =
        let m = by_of h in
        let yours : chosen n (Some t.kind) ≡ Some m.rule = chosen_by n ss (t ∷ b ++ x') m.among g (starts_with m.spells) in
        let looks : look ts ≡ Some t.kind = ap look e in
        let same : m.rule ≡ p = cc in
        let P : Rule n → Type 0 = λ z. (xs : Values z.right) → Spells (z.right ++ ss) (joined z.right ss xs vs'.1) (t ∷ b ++ x') (r' ∷ q' ++ y') → r ∷ q ≡ r' ∷ q' in
        let here_too : P p = λ xs k. ih _ k in
        subst P (sym same) here_too m.values m.spells

within_front : (c : Counts) (x y : List Role) → within c (x ++ y) ≡ true → within c x ≡ true
within_front c [] y e = refl
within_front c (r ∷ x) y e =
    let both = and_both (allows r c) _ e in
    and_of (allows r c) _ both.0 (within_front (after r c) x y both.1)

-- what is read of a text begins it
front_of : {n : Part} {ts : List Token} {rs : List Role} {v : Value n} → Spells (part n ∷ []) (v, tt) ts rs → (a b : List Token) → ts ≡ a ++ b → (x : List Role) × Begins n a x × ((y : List Role) × (rs ≡ x ++ y))
front_of {n = n} {ts = ts} {rs = rs} {v = v} d a b e =
    let h = halves rs a b (one_role_each d ∙ ap length e) in (
      h.0,
      record {
        more = b;
        later = h.1;
        value = v;
        spells = subst (λ z. Spells (part n ∷ []) (v, tt) (a ++ b) z) h.2 (subst (λ z. Spells (part n ∷ []) (v, tt) z rs) e d);
        one_each = h.3;
      },
      (h.1, h.2),
    )

-- tokens that begin a text: those before them do
shorter : {n : Part} {rs : List Role} (a : List Token) (t : Token) (m : List Token) → Begins n (a ++ t ∷ m) rs → (x : List Role) × Begins n (a ++ t ∷ []) x
shorter a t m b =
    let f = front_of b.spells (a ++ t ∷ []) (m ++ b.more) (append_assoc a (t ∷ m) b.more ∙ sym (append_assoc a (t ∷ []) (m ++ b.more))) in
    (f.0, f.1)

-- tokens that begin two texts have the same roles in both
pub alike : {n : Part} {a : List Token} {x y : List Role} → Begins n a x → Begins n a y → x ≡ y
alike {n = n} {a = a} {x = x} {y = y} b b' =
    same_roles b.spells (good_alone n) a b.more refl x b.later refl b.one_each (b'.value, tt) b'.more y b'.later b'.spells b'.one_each

text_not_unexpected : {n : Part} {ts : List Token} {left : ℕ} (v : Value n) → IsText n ts v → IsUnexpected n ts left → ⊥
text_not_unexpected {n = n} {ts = ts} v a u = go u.before u.rest u.whole u.wrong
  where
    go : (before rest : List Token) → ts ≡ before ++ rest → IsWrong n before rest → ⊥
    go before [] e w = w v a.0 (subst (λ x. Spells (part n ∷ []) (v, tt) x a.0) (e ∙ append-nil before) a.1)
    go before (t ∷ rest) e w =
        let f = front_of a.1 (before ++ t ∷ []) rest (e ∙ sym (append_assoc before (t ∷ []) rest)) in
        w f.0 f.1

text_not_too_deep : {n : Part} {ts : List Token} {left : ℕ} (v : Value n) → IsText n ts v → IsTooDeep n ts left → ⊥
text_not_too_deep {n = n} {ts = ts} v a o =
    let f = front_of a.1 (o.before ++ o.next ∷ []) o.rest (o.whole ∙ sym (append_assoc o.before (o.next ∷ []) o.rest)) in
    let same = alike f.1 o.begins in
    let in_bounds : within none_yet f.0 ≡ true = within_front none_yet f.0 f.2.0 (sym (ap (within none_yet) f.2.1) ∙ a.2) in
    true≢false (sym in_bounds ∙ ap (within none_yet) same ∙ o.passes)

-- a text is refused for want of memory alone
pub text_refused : (n : Part) (ts : List Token) (v : Value n) (f : Fault) → IsText n ts v → IsRefused n ts f → f ≡ Memory
text_refused n ts v (Unexpected left) a r = absurd (text_not_unexpected v a r)
text_refused n ts v (TooDeep left) a r = absurd (text_not_too_deep v a r)
text_refused n ts v Memory a r = refl

-- ---- one place alone

-- two ways to cut a list: at one place, or one before the other
abbrev Cuts : (a b c d : List Token) → Type 0
Cuts a b c d = ((a ≡ c) × (b ≡ d)) ⊎ (((t : Token) × (m : List Token) × (c ≡ a ++ t ∷ m) × (b ≡ t ∷ m ++ d)) ⊎ ((t : Token) × (m : List Token) × (a ≡ c ++ t ∷ m) × (d ≡ t ∷ m ++ b)))

further : (t : Token) (a b c d : List Token) → Cuts a b c d → Cuts (t ∷ a) b (t ∷ c) d
further t a b c d (inl e) = inl (ap (λ x. t ∷ x) e.0, e.1)
further t a b c d (inr (inl e)) = inr (inl (e.0, e.1, ap (λ x. t ∷ x) e.2, e.3))
further t a b c d (inr (inr e)) = inr (inr (e.0, e.1, ap (λ x. t ∷ x) e.2, e.3))

cuts : (a b c d : List Token) → a ++ b ≡ c ++ d → Cuts a b c d
cuts [] b [] d e = inl (refl, e)
cuts [] b (t ∷ c) d e = inr (inl (t, c, refl, e))
cuts (t ∷ a) b [] d e = inr (inr (t, a, refl, sym e))
cuts (t ∷ a) b (t' ∷ c) d e =
    let same : t ≡ t' = cc in
    let rest : a ++ b ≡ c ++ d = cc in
    subst (λ x. Cuts (t ∷ a) b (x ∷ c) d) same (further t a b c d (cuts a b c d rest))

-- no text begins with more than what is wrong
no_further : {n : Part} {rs : List Role} (a b c : List Token) (t : Token) (m d : List Token) → IsWrong n a b → b ≡ t ∷ m ++ d → c ≡ a ++ t ∷ m → Begins n c rs → ⊥
no_further {n = n} {rs = rs} a [] c t m d w e f g = absurd cc
no_further {n = n} {rs = rs} a (s ∷ b) c t m d w e f g =
    let same : t ≡ s = cc in
    let x = shorter a t m (subst (λ z. Begins n z rs) f g) in
    w x.0 (subst (λ z. Begins n (a ++ z ∷ []) x.0) same x.1)

one_unexpected : {n : Part} {ts : List Token} {k l : ℕ} → IsUnexpected n ts k → IsUnexpected n ts l → k ≡ l
one_unexpected {k = k} {l = l} u v = go (cuts u.before u.rest v.before v.rest (sym u.whole ∙ v.whole))
  where
    go : Cuts u.before u.rest v.before v.rest → k ≡ l
    go (inl e) = u.place ∙ ap length e.1 ∙ sym v.place
    go (inr (inl e)) = absurd (no_further u.before u.rest v.before e.0 e.1 v.rest u.wrong e.3 e.2 v.begins)
    go (inr (inr e)) = absurd (no_further v.before v.rest u.before e.0 e.1 u.rest v.wrong e.3 e.2 u.begins)

-- what begins a text begins with what begins one
front_begins : {n : Part} {x : List Role} (a m : List Token) → Begins n (a ++ m) x → (q : List Role) × Begins n a q × ((y : List Role) × (x ≡ q ++ y))
front_begins {n = n} {x = x} a m b =
    let h = halves x a m b.one_each in
    let tokens : (a ++ m) ++ b.more ≡ a ++ (m ++ b.more) = append_assoc a m b.more in
    let roles : x ++ b.later ≡ h.0 ++ (h.1 ++ b.later) = ap (λ z. z ++ b.later) h.2 ∙ append_assoc h.0 h.1 b.later in (
      h.0,
      record {
        more = m ++ b.more;
        later = h.1 ++ b.later;
        value = b.value;
        spells = subst (λ z. Spells (part n ∷ []) (b.value, tt) (a ++ (m ++ b.more)) z) roles (subst (λ z. Spells (part n ∷ []) (b.value, tt) z (x ++ b.later)) tokens b.spells);
        one_each = h.3;
      },
      (h.1, h.2),
    )

-- Tokens within the bounds don't go past one that passes a bound.
within_over : {n : Part} {x : List Role} (before : List Token) (next : Token) (roles : List Role) (role : Role) → Begins n (before ++ next ∷ []) (roles ++ role ∷ []) → within none_yet (roles ++ role ∷ []) ≡ false
    → (a m : List Token) → a ≡ before ++ next ∷ m → Begins n a x → within none_yet x ≡ true → ⊥
within_over {n = n} {x = x} before next roles role b over a m e begins fit =
    let f = front_begins (before ++ next ∷ []) m (subst (λ z. Begins n z x) (e ∙ sym (append_assoc before (next ∷ []) m)) begins) in
    let in_bounds : within none_yet f.0 ≡ true = within_front none_yet f.0 f.2.0 (sym (ap (within none_yet) f.2.1) ∙ fit) in
    true≢false (sym in_bounds ∙ ap (within none_yet) (alike f.1 b) ∙ over)

not_both : {n : Part} {ts : List Token} {k l : ℕ} → IsUnexpected n ts k → IsTooDeep n ts l → ⊥
not_both {n = n} u o = go (cuts u.before u.rest o.before (o.next ∷ o.rest) (sym u.whole ∙ o.whole))
  where
    go : Cuts u.before u.rest o.before (o.next ∷ o.rest) → ⊥
    go (inl e) = no_further u.before u.rest (o.before ++ o.next ∷ []) o.next [] o.rest u.wrong e.1 (ap (λ z. z ++ o.next ∷ []) (sym e.0)) o.begins
    go (inr (inl e)) =
        no_further u.before u.rest (o.before ++ o.next ∷ []) e.0 (e.1 ++ o.next ∷ []) o.rest u.wrong
        (e.3 ∙ ap (λ z. e.0 ∷ z) (sym (append_assoc e.1 (o.next ∷ []) o.rest)))
        (ap (λ z. z ++ o.next ∷ []) e.2 ∙ append_assoc u.before (e.0 ∷ e.1) (o.next ∷ [])) o.begins
    go (inr (inr e)) =
        let same : e.0 ≡ o.next = cc in
        within_over o.before o.next o.roles o.role o.begins o.passes u.before e.1 (e.2 ∙ ap (λ z. o.before ++ z ∷ e.1) same) u.begins u.fits

-- the tokens before the one that passes a bound begin a text
before_begins : {n : Part} {ts : List Token} {l : ℕ} (o : IsTooDeep n ts l) → Begins n o.before o.roles
before_begins {n = n} o =
    let b = o.begins in
    record {
      more = o.next ∷ b.more;
      later = o.role ∷ b.later;
      value = b.value;
      spells = subst (λ z. Spells (part n ∷ []) (b.value, tt) (o.before ++ o.next ∷ b.more) z) (append_assoc o.roles (o.role ∷ []) b.later)
          (subst (λ z. Spells (part n ∷ []) (b.value, tt) z ((o.roles ++ o.role ∷ []) ++ b.later)) (append_assoc o.before (o.next ∷ []) b.more) b.spells);
      one_each = o.as_long;
    }

one_too_deep : {n : Part} {ts : List Token} {k l : ℕ} → IsTooDeep n ts k → IsTooDeep n ts l → k ≡ l
one_too_deep {k = k} {l = l} u o = go (cuts u.before (u.next ∷ u.rest) o.before (o.next ∷ o.rest) (sym u.whole ∙ o.whole))
  where
    go : Cuts u.before (u.next ∷ u.rest) o.before (o.next ∷ o.rest) → k ≡ l
    go (inl e) = u.place ∙ ap length e.1 ∙ sym o.place
    go (inr (inl e)) =
        let same : e.0 ≡ u.next = cc in
        absurd (within_over u.before u.next u.roles u.role u.begins u.passes o.before e.1 (e.2 ∙ ap (λ z. u.before ++ z ∷ e.1) same) (before_begins o) o.fits)
    go (inr (inr e)) =
        let same : e.0 ≡ o.next = cc in
        absurd (within_over o.before o.next o.roles o.role o.begins o.passes u.before e.1 (e.2 ∙ ap (λ z. o.before ++ z ∷ e.1) same) (before_begins u) u.fits)

-- Two refusals for the same tokens are one, but for want of memory.
pub one_refusal : (n : Part) (ts : List Token) (f g : Fault) → IsRefused n ts f → IsRefused n ts g → f ≢ Memory → (g ≡ f) ⊎ (g ≡ Memory)
one_refusal n ts f Memory a b m = inr refl
one_refusal n ts Memory (Unexpected l) a b m = absurd (m refl)
one_refusal n ts Memory (TooDeep l) a b m = absurd (m refl)
one_refusal n ts (Unexpected k) (Unexpected l) a b m = inl (ap (λ x. Unexpected x) (one_unexpected b a))
one_refusal n ts (Unexpected k) (TooDeep l) a b m = absurd (not_both a b)
one_refusal n ts (TooDeep k) (Unexpected l) a b m = absurd (not_both b a)
one_refusal n ts (TooDeep k) (TooDeep l) a b m = inl (ap (λ x. TooDeep x) (one_too_deep b a))

-- one answer alone
pub exact_err : {A : Type 0} (n : Part) (ts : List Token) (r : Result A Fault) (g : Fault) → IsErrAnd r (λ y. y ≡ g) → IsRefused n ts g → RefusesExactly n ts r
exact_err n ts r g i a = let p = err_from_is_err_and r i in
    λ f m b. rw p.1 (one_refusal n ts f p.0 b (subst (IsRefused n ts) (sym p.2) a) m)

pub exact_ok : (n : Part) (ts : List Token) (v : Value n) → IsText n ts v → (f : Fault) → f ≢ Memory → IsRefused n ts f → ⊥
exact_ok n ts v a f m b = m (text_refused n ts v f a b)
