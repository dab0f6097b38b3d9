-- The longest token that some bytes begin with, by their first byte.
use Rattle.std.specs.Prelude.{◌≡◌, ℕ, zero, suc, ◌<◌, ◌≤◌, Bool, true, false, not, ◌&&◌, if◌then◌else◌, List, [], ◌∷◌, length, take, Option, Some, None, unwrap_or, refl, ◌⊎◌}
use Rattle.std.specs.List.{prefix_len, list_all}
use Rattle.std.specs.Str.{bytes_eq}
use Rattle.std.proofs.Common.{arith, sym, ap, inl, inr, subst, get_or, ◌∙◌}
use Rattle.std.proofs.lemmas.List.Sums.{prefix_len-le-length}
use Rattle.std.proofs.lemmas.Bool.Decides.{nat_tests}
use Rattle.std.proofs.lemmas.Slice.Eq.{bytes_eq-Decides}
use Rattle.ept_tokens.specs.declared.token.Kind.{Kind}
use Rattle.ept_tokens.specs.declared.token.Kind.TheVariants.{Number, Lower, Upper}
use Rattle.ept_tokens.specs.Tokens.{Bytes, fixed, is_digit, is_small, is_capital, in_name, is_number, is_name, fixed_kind, or_else, kind_of, or_shorter, longest, IsSign}
use Rattle.ept_tokens.specs.Kinds.{is}
use Rattle.ept_tokens.proofs.Bools.{true≢false, implies, and_both, and_of}

-- ---- fronts

at_or_below : (m n : ℕ) → m ≤ suc n → (m ≡ suc n) ⊎ (m ≤ n)
at_or_below zero n le = inr (omega arith)
at_or_below (suc m) zero le = inl (omega arith)
at_or_below (suc m) (suc n) le = go (at_or_below m n (omega arith))
  where
    go : (m ≡ suc n) ⊎ (m ≤ n) → (suc m ≡ suc (suc n)) ⊎ (suc m ≤ suc n)
    go (inl e) = inl (ap suc e)
    go (inr e) = inr (omega arith)

-- no front between these lengths is a token
pub longest_down : (n m : ℕ) (bs : Bytes) → m ≤ n → ((k : ℕ) → m < k → k ≤ n → kind_of (take k bs) ≡ None) → longest n bs ≡ longest m bs
longest_down zero m bs le none = let e : m ≡ 0 = omega arith in rw e refl
longest_down (suc n) m bs le none = go (at_or_below m n le) (λ e. longest_down n m bs e (λ k a b. none k a (omega arith)))
  where
    go : (m ≡ suc n) ⊎ (m ≤ n) → (m ≤ n → longest n bs ≡ longest m bs) → longest (suc n) bs ≡ longest m bs
    go (inl e) ih = ap (λ x. longest x bs) (sym e)
    go (inr e) ih = rw (none (suc n) (omega arith) (omega arith)) (ih e)

pub longest_at : (m : ℕ) (bs : Bytes) (k : Kind) → 0 < m → kind_of (take m bs) ≡ Some k → longest m bs ≡ Some (m, k)
longest_at zero bs k h e = absurd (omega arith)
longest_at (suc m) bs k h e = rw e refl

-- a run of bytes
prefix_more : (p : ℕ → Bool) (b : ℕ) (bs : Bytes) → p b ≡ true → prefix_len p (b ∷ bs) ≡ suc (prefix_len p bs)
prefix_more p b bs e = rw e (omega arith)

prefix_none : (p : ℕ → Bool) (b : ℕ) (bs : Bytes) → p b ≡ false → prefix_len p (b ∷ bs) ≡ 0
prefix_none p b bs e = rw e refl

take_run : (p : ℕ → Bool) (bs : Bytes) → list_all p (take (prefix_len p bs) bs) ≡ true
take_run p [] = refl
take_run p (b ∷ bs) = go (p b) refl (take_run p bs)
  where
    go : (x : Bool) → p b ≡ x → list_all p (take (prefix_len p bs) bs) ≡ true → list_all p (take (prefix_len p (b ∷ bs)) (b ∷ bs)) ≡ true
    go true e ih = subst (λ n. list_all p (take n (b ∷ bs)) ≡ true) (sym (prefix_more p b bs e)) (and_of (p b) _ e ih)
    go false e ih = subst (λ n. list_all p (take n (b ∷ bs)) ≡ true) (sym (prefix_none p b bs e)) refl

take_beyond : (p : ℕ → Bool) (bs : Bytes) (k : ℕ) → prefix_len p bs < k → k ≤ length bs → list_all p (take k bs) ≡ false
take_beyond p [] k a b = absurd (omega arith)
take_beyond p (b ∷ bs) zero a c = absurd (omega arith)
take_beyond p (b ∷ bs) (suc k) a c = go (p b) refl (take_beyond p bs k)
  where
    go : (x : Bool) → p b ≡ x → (prefix_len p bs < k → k ≤ length bs → list_all p (take k bs) ≡ false) → p b && list_all p (take k bs) ≡ false
    go true e ih = rw e (ih (omega (arith, prefix_more p b bs e)) (omega arith))
    go false e ih = rw e refl

-- the run is the longest token, where no longer front is one
run_longest : (p : ℕ → Bool) (b : ℕ) (bs : Bytes) (k : Kind) → p b ≡ true → kind_of (take (prefix_len p (b ∷ bs)) (b ∷ bs)) ≡ Some k
    → ((w : Bytes) → list_all p (b ∷ w) ≡ false → kind_of (b ∷ w) ≡ None) → longest (length (b ∷ bs)) (b ∷ bs) ≡ Some (prefix_len p (b ∷ bs), k)
run_longest p b bs k e is none =
    longest_down (length (b ∷ bs)) (prefix_len p (b ∷ bs)) (b ∷ bs) (prefix_len-le-length p (b ∷ bs)) (λ j above within. longer j above (take_beyond p (b ∷ bs) j above within))
    ∙ longest_at (prefix_len p (b ∷ bs)) (b ∷ bs) k (omega (arith, prefix_more p b bs e)) is
  where
    longer : (j : ℕ) → prefix_len p (b ∷ bs) < j → list_all p (take j (b ∷ bs)) ≡ false → kind_of (take j (b ∷ bs)) ≡ None
    longer zero above f = absurd (omega arith)
    longer (suc j) above f = none (take j bs) f

-- ---- spellings

-- what no spelling is has no kind by them
not_fixed : (q : Bytes → Bool) (ks : List (Kind × Bytes)) → list_all (λ e. q e.1) ks ≡ true → (w : Bytes) → q w ≡ false → fixed_kind ks w ≡ None
not_fixed q [] all w fails = refl
not_fixed q (k ∷ ks) all w fails = go (bytes_eq k.1 w) refl (not_fixed q ks (and_both (q k.1) _ all).1 w fails)
  where
    go : (x : Bool) → bytes_eq k.1 w ≡ x → fixed_kind ks w ≡ None → (if x then Some k.0 else fixed_kind ks w) ≡ None
    go true e ih =
        let same : k.1 ≡ w = (bytes_eq-Decides k.1 w).0 e in
        true≢false (sym (and_both (q k.1) _ all).0 ∙ ap q same ∙ fails)
    go false e ih = ih

-- tests that each spelling passes
word_test : Bytes → Bool
word_test [] = true
word_test (b ∷ w) = implies (is_small b) (list_all in_name (b ∷ w))

digit_test : Bytes → Bool
digit_test [] = true
digit_test (b ∷ w) = not (is_digit b)

capital_test : Bytes → Bool
capital_test [] = true
capital_test (b ∷ w) = not (is_capital b)

short_test : Bytes → Bool
short_test (b ∷ c ∷ d ∷ w) = is_small b
short_test _ = true

words_fit : list_all (λ e. word_test e.1) fixed ≡ true
unfolding word_test
words_fit = refl

digits_fit : list_all (λ e. digit_test e.1) fixed ≡ true
unfolding digit_test
digits_fit = refl

capitals_fit : list_all (λ e. capital_test e.1) fixed ≡ true
unfolding capital_test
capitals_fit = refl

shorts_fit : list_all (λ e. short_test e.1) fixed ≡ true
unfolding short_test
shorts_fit = refl

-- ---- the kind of a spelling, by its first byte

-- the kind of a number or a name
abbrev open_kind : Bytes → Option Kind
open_kind w = if is_number w then Some Number else (if is_name is_small w then Some Lower else (if is_name is_capital w then Some Upper else None))

by_fixed : (w : Bytes) (o : Option Kind) → fixed_kind fixed w ≡ o → kind_of w ≡ or_else o (open_kind w)
by_fixed w o e = ap (λ x. or_else x (open_kind w)) e

by_first : (b : ℕ) (w : Bytes) (d s c : Bool) → is_digit b ≡ d → is_small b ≡ s → is_capital b ≡ c
    → open_kind (b ∷ w) ≡ (if d && list_all is_digit w then Some Number else (if s && list_all in_name w then Some Lower else (if c && list_all in_name w then Some Upper else None)))
by_first b w d s c e f g =
    ap (λ x. if x && list_all is_digit w then Some Number else (if is_small b && list_all in_name w then Some Lower else (if is_capital b && list_all in_name w then Some Upper else None))) e
    ∙ ap (λ x. if d && list_all is_digit w then Some Number else (if x && list_all in_name w then Some Lower else (if is_capital b && list_all in_name w then Some Upper else None))) f
    ∙ ap (λ x. if d && list_all is_digit w then Some Number else (if s && list_all in_name w then Some Lower else (if x && list_all in_name w then Some Upper else None))) g

small_alone : (b : ℕ) → is_small b ≡ true → (is_digit b ≡ false) × (is_capital b ≡ false)
small_alone b e = (grind (arith, nat_tests), grind (arith, nat_tests))

capital_alone : (b : ℕ) → is_capital b ≡ true → (is_digit b ≡ false) × (is_small b ≡ false)
capital_alone b e = (grind (arith, nat_tests), grind (arith, nat_tests))

digit_alone : (b : ℕ) → is_digit b ≡ true → (is_small b ≡ false) × (is_capital b ≡ false)
digit_alone b e = (grind (arith, nat_tests), grind (arith, nat_tests))

small_in_name : (b : ℕ) → is_small b ≡ true → in_name b ≡ true
small_in_name b e = rw e refl

capital_in_name : (b : ℕ) → is_capital b ≡ true → in_name b ≡ true
capital_in_name b e = rw ((capital_alone b e).1, e) refl

not_true : (a : Bool) → a ≡ true → not a ≡ false
not_true a e = rw e refl

-- ---- words

abbrev pub kind_or_lower : Option Kind → Kind
kind_or_lower (Some k) = k
kind_or_lower None = Lower

word_kind : (b : ℕ) (w : Bytes) → is_small b ≡ true → list_all in_name (b ∷ w) ≡ true → kind_of (b ∷ w) ≡ Some (kind_or_lower (fixed_kind fixed (b ∷ w)))
word_kind b w small all = go (fixed_kind fixed (b ∷ w)) refl
  where
    lower : open_kind (b ∷ w) ≡ Some Lower
    lower = by_first b w false true false (small_alone b small).0 small (small_alone b small).1 ∙ rw ((and_both (in_name b) _ all).1) refl

    go : (o : Option Kind) → fixed_kind fixed (b ∷ w) ≡ o → kind_of (b ∷ w) ≡ Some (kind_or_lower o)
    go (Some k) e = by_fixed (b ∷ w) (Some k) e
    go None e = by_fixed (b ∷ w) None e ∙ lower

implies_false : (a b : Bool) → a ≡ true → b ≡ false → implies a b ≡ false
implies_false a b e f = rw (e, f) refl

no_word : (b : ℕ) (w : Bytes) → is_small b ≡ true → list_all in_name (b ∷ w) ≡ false → kind_of (b ∷ w) ≡ None
unfolding word_test
no_word b w small fails =
    let rest : list_all in_name w ≡ false = sym (ap (λ x. x && list_all in_name w) (small_in_name b small)) ∙ fails in
    by_fixed (b ∷ w) None (not_fixed word_test fixed words_fit (b ∷ w) (implies_false (is_small b) (list_all in_name (b ∷ w)) small fails))
    ∙ by_first b w false true false (small_alone b small).0 small (small_alone b small).1 ∙ rw rest refl

capital_kind : (b : ℕ) (w : Bytes) → is_capital b ≡ true → kind_of (b ∷ w) ≡ (if list_all in_name w then Some Upper else None)
unfolding capital_test
capital_kind b w capital =
    by_fixed (b ∷ w) None (not_fixed capital_test fixed capitals_fit (b ∷ w) (not_true (is_capital b) capital))
    ∙ by_first b w false false true (capital_alone b capital).0 (capital_alone b capital).1 capital

digit_kind : (b : ℕ) (w : Bytes) → is_digit b ≡ true → kind_of (b ∷ w) ≡ (if list_all is_digit w then Some Number else None)
unfolding digit_test
digit_kind b w digit =
    by_fixed (b ∷ w) None (not_fixed digit_test fixed digits_fit (b ∷ w) (not_true (is_digit b) digit))
    ∙ by_first b w true false false digit (digit_alone b digit).0 (digit_alone b digit).1

sign_kind : (b : ℕ) (w : Bytes) → is_digit b ≡ false → is_small b ≡ false → is_capital b ≡ false → kind_of (b ∷ w) ≡ fixed_kind fixed (b ∷ w)
sign_kind b w digit small capital = go (fixed_kind fixed (b ∷ w)) refl
  where
    go : (o : Option Kind) → fixed_kind fixed (b ∷ w) ≡ o → kind_of (b ∷ w) ≡ o
    go (Some k) e = by_fixed (b ∷ w) (Some k) e
    go None e = by_fixed (b ∷ w) None e ∙ by_first b w false false false digit small capital

-- ---- the longest token, by the first byte

tail_of : (p : ℕ → Bool) (b : ℕ) (w : Bytes) (x : Bool) → p b ≡ true → list_all p (b ∷ w) ≡ x → list_all p w ≡ x
tail_of p b w x e f = sym (ap (λ y. y && list_all p w) e) ∙ f

-- the front of a run, with its first byte
run_front : (p : ℕ → Bool) (b : ℕ) (bs : Bytes) → p b ≡ true → (w : Bytes) × (take (prefix_len p (b ∷ bs)) (b ∷ bs) ≡ b ∷ w) × (list_all p (b ∷ w) ≡ true)
run_front p b bs e =
    let same : take (prefix_len p (b ∷ bs)) (b ∷ bs) ≡ b ∷ take (prefix_len p bs) bs = ap (λ n. take n (b ∷ bs)) (prefix_more p b bs e) in
    (take (prefix_len p bs) bs, same, ap (λ w. list_all p w) (sym same) ∙ take_run p (b ∷ bs))

pub word_longest : (bs : Bytes) (n : ℕ) → 0 < length bs → is_small (get_or bs 0 0) ≡ true → n ≡ prefix_len in_name bs → longest (length bs) bs ≡ Some (n, kind_or_lower (fixed_kind fixed (take n bs)))
word_longest [] n h small e = absurd (omega arith)
word_longest (b ∷ bs) n h small e =
    let named = small_in_name b small in
    let front = run_front in_name b bs named in
    let is : kind_of (take (prefix_len in_name (b ∷ bs)) (b ∷ bs)) ≡ Some (kind_or_lower (fixed_kind fixed (take (prefix_len in_name (b ∷ bs)) (b ∷ bs)))) =
    subst (λ w. kind_of w ≡ Some (kind_or_lower (fixed_kind fixed w))) (sym front.1) (word_kind b front.0 small front.2) in
    subst (λ m. longest (length (b ∷ bs)) (b ∷ bs) ≡ Some (m, kind_or_lower (fixed_kind fixed (take m (b ∷ bs))))) (sym e)
    (run_longest in_name b bs _ named is (λ w f. no_word b w small f))

pub capital_longest : (bs : Bytes) (n : ℕ) → 0 < length bs → is_capital (get_or bs 0 0) ≡ true → n ≡ prefix_len in_name bs → longest (length bs) bs ≡ Some (n, Upper)
capital_longest [] n h capital e = absurd (omega arith)
capital_longest (b ∷ bs) n h capital e =
    let named = capital_in_name b capital in
    let front = run_front in_name b bs named in
    let all : list_all in_name front.0 ≡ true = tail_of in_name b front.0 true named front.2 in
    let is : kind_of (take (prefix_len in_name (b ∷ bs)) (b ∷ bs)) ≡ Some Upper =
    ap kind_of front.1 ∙ capital_kind b front.0 capital ∙ ap (λ x. if x then Some Upper else None) all in
    subst (λ m. longest (length (b ∷ bs)) (b ∷ bs) ≡ Some (m, Upper)) (sym e)
    (run_longest in_name b bs Upper named is (λ w f. capital_kind b w capital ∙ ap (λ x. if x then Some Upper else None) (tail_of in_name b w false named f)))

pub number_longest : (bs : Bytes) (n : ℕ) → 0 < length bs → is_digit (get_or bs 0 0) ≡ true → n ≡ prefix_len is_digit bs → longest (length bs) bs ≡ Some (n, Number)
number_longest [] n h digit e = absurd (omega arith)
number_longest (b ∷ bs) n h digit e =
    let front = run_front is_digit b bs digit in
    let all : list_all is_digit front.0 ≡ true = tail_of is_digit b front.0 true digit front.2 in
    let is : kind_of (take (prefix_len is_digit (b ∷ bs)) (b ∷ bs)) ≡ Some Number =
    ap kind_of front.1 ∙ digit_kind b front.0 digit ∙ ap (λ x. if x then Some Number else None) all in
    subst (λ m. longest (length (b ∷ bs)) (b ∷ bs) ≡ Some (m, Number)) (sym e)
    (run_longest is_digit b bs Number digit is (λ w f. digit_kind b w digit ∙ ap (λ x. if x then Some Number else None) (tail_of is_digit b w false digit f)))

-- ---- signs

-- no sign is longer than two bytes
long_sign : (b c d : ℕ) (w : Bytes) → IsSign b → kind_of (b ∷ c ∷ d ∷ w) ≡ None
unfolding short_test
long_sign b c d w s = sign_kind b (c ∷ d ∷ w) s.digit s.small s.capital ∙ not_fixed short_test fixed shorts_fit (b ∷ c ∷ d ∷ w) s.small

take_three : (b : ℕ) (bs : Bytes) (k : ℕ) → IsSign b → 2 < k → k ≤ length (b ∷ bs) → kind_of (take k (b ∷ bs)) ≡ None
take_three b bs zero s above within = absurd (omega arith)
take_three b bs (suc zero) s above within = absurd (omega arith)
take_three b bs (suc (suc zero)) s above within = absurd (omega arith)
take_three b [] (suc (suc (suc k))) s above within = absurd (omega arith)
take_three b (c ∷ []) (suc (suc (suc k))) s above within = absurd (omega arith)
take_three b (c ∷ d ∷ w) (suc (suc (suc k))) s above within = long_sign b c d (take k w) s

pub two_longest : (bs : Bytes) (k : Kind) → 1 < length bs → IsSign (get_or bs 0 0) → fixed_kind fixed (take 2 bs) ≡ Some k → longest (length bs) bs ≡ Some (2, k)
two_longest [] k h s e = absurd (omega arith)
two_longest (b ∷ []) k h s e = absurd (omega arith)
two_longest (b ∷ c ∷ bs) k h s e =
    longest_down (length (b ∷ c ∷ bs)) 2 (b ∷ c ∷ bs) (omega arith) (λ j above within. take_three b (c ∷ bs) j s above within)
    ∙ longest_at 2 (b ∷ c ∷ bs) k (omega arith) (sign_kind b (c ∷ []) s.digit s.small s.capital ∙ e)

one_only : (b : ℕ) (bs : Bytes) → IsSign b → (1 < length (b ∷ bs) → fixed_kind fixed (take 2 (b ∷ bs)) ≡ None) → (k : ℕ) → 1 < k → k ≤ length (b ∷ bs) → kind_of (take k (b ∷ bs)) ≡ None
one_only b bs s two zero above within = absurd (omega arith)
one_only b bs s two (suc zero) above within = absurd (omega arith)
one_only b [] s two (suc (suc k)) above within = absurd (omega arith)
one_only b (c ∷ bs) s two (suc (suc zero)) above within = sign_kind b (c ∷ []) s.digit s.small s.capital ∙ two (omega arith)
one_only b (c ∷ bs) s two (suc (suc (suc k))) above within = take_three b (c ∷ bs) (suc (suc (suc k))) s (omega arith) within

pub one_longest : (bs : Bytes) → 0 < length bs → IsSign (get_or bs 0 0) → (1 < length bs → fixed_kind fixed (take 2 bs) ≡ None) → (o : Option Kind) → fixed_kind fixed (take 1 bs) ≡ o → longest (length bs) bs ≡ or_shorter 1 o None
one_longest [] h s two o e = absurd (omega arith)
one_longest (b ∷ bs) h s two o e =
    longest_down (length (b ∷ bs)) 1 (b ∷ bs) (omega arith) (one_only b bs s two) ∙ ap (λ x. or_shorter 1 x None) (sign_kind b [] s.digit s.small s.capital ∙ e)

-- ---- how long it is

-- what is so of the parts of a pair
pair_parts : (n m : ℕ) (j k : Kind) (P : ℕ → Kind → Type 0) → ◌≡◌ {A = Option (ℕ × Kind)} (Some (n, j)) (Some (m, k)) → P n j → P m k
pair_parts n m j k P e h =
    let none : ℕ × Kind = (n, j) in
    subst (λ (x : ℕ × Kind). P x.0 x.1) (ap (λ (o : Option (ℕ × Kind)). unwrap_or o none) e) h

or_shorter_is : (n m : ℕ) (k : Kind) (o : Option Kind) (r : Option (ℕ × Kind)) → or_shorter n o r ≡ Some (m, k) → (n ≡ m) ⊎ (r ≡ Some (m, k))
or_shorter_is n m k (Some j) r e = let p : (n, j) ≡ (m, k) = cc in inl (ap (λ (x : ℕ × Kind). x.0) p)
or_shorter_is n m k None r e = inr e

pub longest_within : (n : ℕ) (bs : Bytes) (m : ℕ) (k : Kind) → longest n bs ≡ Some (m, k) → (0 < m) × (m ≤ n)
longest_within zero bs m k e = absurd cc
longest_within (suc n) bs m k e = go (or_shorter_is (suc n) m k (kind_of (take (suc n) bs)) (longest n bs) e) (λ f. longest_within n bs m k f)
  where
    go : (suc n ≡ m) ⊎ (longest n bs ≡ Some (m, k)) → (longest n bs ≡ Some (m, k) → (0 < m) × (m ≤ n)) → (0 < m) × (m ≤ suc n)
    go (inl f) ih = (omega arith, omega arith)
    go (inr f) ih = let r = ih f in (r.0, omega (arith, r.1))

-- ---- what it is

pub longest_kind : (n : ℕ) (bs : Bytes) (m : ℕ) (k : Kind) → longest n bs ≡ Some (m, k) → kind_of (take m bs) ≡ Some k
longest_kind zero bs m k e = absurd cc
longest_kind (suc n) bs m k e = go (kind_of (take (suc n) bs)) refl e (λ f. longest_kind n bs m k f)
  where
    go : (o : Option Kind) → kind_of (take (suc n) bs) ≡ o → or_shorter (suc n) o (longest n bs) ≡ Some (m, k) → (longest n bs ≡ Some (m, k) → kind_of (take m bs) ≡ Some k) → kind_of (take m bs) ≡ Some k
    go (Some j) is f ih = pair_parts (suc n) m j k (λ i l. kind_of (take i bs) ≡ Some l) f is
    go None is f ih = ih f

fixed_among : (q : Kind → Bool) (ks : List (Kind × Bytes)) → list_all (λ e. q e.0) ks ≡ true → (w : Bytes) (k : Kind) → fixed_kind ks w ≡ Some k → q k ≡ true
fixed_among q [] all w k e = absurd cc
fixed_among q (j ∷ ks) all w k e = go (bytes_eq j.1 w) e (λ f. fixed_among q ks (and_both (q j.0) _ all).1 w k f)
  where
    go : (x : Bool) → (if x then Some j.0 else fixed_kind ks w) ≡ Some k → (fixed_kind ks w ≡ Some k → q k ≡ true) → q k ≡ true
    go true f ih = let same : j.0 ≡ k = cc in ap q (sym same) ∙ (and_both (q j.0) _ all).0
    go false f ih = ih f

not_numbers : list_all (λ e. not (is Number e.0)) fixed ≡ true
not_numbers = refl

number_digits : (w : Bytes) → kind_of w ≡ Some Number → list_all is_digit w ≡ true
number_digits w e = go (fixed_kind fixed w) refl e
  where
    open_number : (w : Bytes) → open_kind w ≡ Some Number → list_all is_digit w ≡ true
    open_number [] f = refl
    open_number (b ∷ w) f = which (list_all is_digit (b ∷ w)) (is_name is_small (b ∷ w)) (is_name is_capital (b ∷ w)) refl f
      where
        which : (x y z : Bool) → list_all is_digit (b ∷ w) ≡ x → (if x then Some Number else (if y then Some Lower else (if z then Some Upper else None))) ≡ Some Number → list_all is_digit (b ∷ w) ≡ true
        which true y z f g = f
        which false true z f g = absurd cc
        which false false true f g = absurd cc
        which false false false f g = absurd cc

    go : (o : Option Kind) → fixed_kind fixed w ≡ o → or_else o (open_kind w) ≡ Some Number → list_all is_digit w ≡ true
    go (Some k) f g =
        let same : k ≡ Number = cc in
        true≢false (sym (fixed_among (λ k. not (is Number k)) fixed not_numbers w k f) ∙ ap (λ x. not (is Number x)) same)
    go None f g = open_number w g

pub longest_number : (n : ℕ) (bs : Bytes) (m : ℕ) (k : Kind) → longest n bs ≡ Some (m, k) → k ≡ Number → list_all is_digit (take m bs) ≡ true
longest_number n bs m k e same = number_digits (take m bs) (longest_kind n bs m k e ∙ ap (λ x. Some x) same)
