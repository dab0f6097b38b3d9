-- The words of a text, from its front.
use Rattle.std.proofs.Common.{◌≡◌, ℕ, ◌+◌, ◌-◌, ◌<◌, ◌≤◌, suc, true, false, not, cond, eqb, List, [], ◌∷◌, length, take, drop, get_or, sym, refl, ap, ◌∙◌, subst, arith, add-zero, length-drop}
use Rattle.std.specs.Bool.{⊤}
use Rattle.std.specs.List.{prefix_len, position_or_len, slice_range}
use Rattle.std.proofs.lemmas.List.{drop-drop, get_or-drop, take_all}
use Rattle.std.proofs.lemmas.List.Sums.{prefix_len_stops, prefix_len-le-length}
use Rattle.std.proofs.lemmas.Bool.Decides.{nat_tests}
use Rattle.trace_io.specs.RowText.{is_blank, Word, word_at, put_before, words_from}

-- the first word begins at a place or after it
abbrev BeginFrom : ℕ → List Word → Type 0
BeginFrom n [] = ⊤
BeginFrom n (w ∷ ws) = n ≤ w.at

begin-put_before : (n b : ℕ) (ws : List Word) → BeginFrom n (put_before n b ws)
begin-put_before n b [] = omega arith
begin-put_before n b (w ∷ ws) = elim (eqb w.at (n + 1)) as (λ v. BeginFrom n (cond v (record { at = n; bytes = b ∷ w.bytes } ∷ ws) (record { at = n; bytes = b ∷ [] } ∷ w ∷ ws)))
    [ true ↦ omega arith | false ↦ omega arith ]

earlier : (m n : ℕ) (ws : List Word) → m ≤ n → BeginFrom n ws → BeginFrom m ws
earlier m n [] l h = tt
earlier m n (w ∷ ws) l h = omega arith

begin-words_from : (n : ℕ) (bs : List ℕ) → BeginFrom n (words_from n bs)
begin-words_from n [] = tt
begin-words_from n (b ∷ bs) = elim (is_blank b) as (λ v. BeginFrom n (cond v (words_from (n + 1) bs) (put_before n b (words_from (n + 1) bs))))
    [ true ↦ earlier n (n + 1) _ (omega arith) (begin-words_from (n + 1) bs) | false ↦ begin-put_before n b _ ]

blank_step : (n b : ℕ) (bs : List ℕ) → is_blank b ≡ true → words_from n (b ∷ bs) ≡ words_from (n + 1) bs
blank_step n b bs e = rw e

word_step : (n b : ℕ) (bs : List ℕ) → is_blank b ≡ false → words_from n (b ∷ bs) ≡ put_before n b (words_from (n + 1) bs)
word_step n b bs e = rw e

skip : (n p b : ℕ) (bs : List ℕ) → words_from (n + (1 + p)) (drop (1 + p) (b ∷ bs)) ≡ words_from (n + 1 + p) (drop p bs)
skip n p b bs =
    let e : 1 + p ≡ suc p = omega arith in
    let f : n + suc p ≡ n + 1 + p = omega arith in
    rw (e, f)

-- blanks in front hold no word
pub words_after_blanks : (n : ℕ) (bs : List ℕ) → words_from (n + prefix_len is_blank bs) (drop (prefix_len is_blank bs) bs) ≡ words_from n bs
words_after_blanks n [] = refl
words_after_blanks n (b ∷ bs) = (elim (is_blank b) as (λ v. is_blank b ≡ v → words_from (n + cond v (1 + prefix_len is_blank bs) 0) (drop (cond v (1 + prefix_len is_blank bs) 0) (b ∷ bs)) ≡ words_from n (b ∷ bs)) [
  | true ↦ λ e. skip n (prefix_len is_blank bs) b bs ∙ words_after_blanks (n + 1) bs ∙ sym (blank_step n b bs e)
  | false ↦ λ e. ap (λ m. words_from m (b ∷ bs)) (add-zero n)
]) refl

put_apart : (n b : ℕ) (ws : List Word) → BeginFrom (n + 1 + 1) ws → put_before n b ws ≡ word_at n (b ∷ []) ∷ ws
put_apart n b [] h = refl
put_apart n b (w ∷ ws) h = let e : eqb w.at (n + 1) ≡ false = grind (arith, nat_tests) in rw e

put_onto : (n b m : ℕ) (bs : List ℕ) (ws : List Word) → m ≡ n + 1 → put_before n b (word_at m bs ∷ ws) ≡ word_at n (b ∷ bs) ∷ ws
put_onto n b m bs ws h = let e : eqb m (n + 1) ≡ true = grind (arith, nat_tests) in rw e

take_step : (p b : ℕ) (bs : List ℕ) → take (1 + p) (b ∷ bs) ≡ b ∷ take p bs
take_step p b bs = let e : 1 + p ≡ suc p = omega arith in rw e

-- a word in front is the bytes up to the first blank
pub first_word : (n b : ℕ) (bs : List ℕ) → is_blank b ≡ false →
    words_from n (b ∷ bs) ≡ word_at n (b ∷ take (position_or_len is_blank bs) bs) ∷ words_from (n + 1 + position_or_len is_blank bs) (drop (position_or_len is_blank bs) bs)
first_word n b [] e = rw e
first_word n b (c ∷ cs) e = (elim (is_blank c) as (λ v. is_blank c ≡ v →
    words_from n (b ∷ c ∷ cs) ≡ word_at n (b ∷ take (cond (not v) (1 + position_or_len is_blank cs) 0) (c ∷ cs)) ∷ words_from (n + 1 + cond (not v) (1 + position_or_len is_blank cs) 0) (drop (cond (not v) (1 + position_or_len is_blank cs) 0) (c ∷ cs))) [
      | true ↦ λ f. word_step n b (c ∷ cs) e ∙ put_apart n b (words_from (n + 1) (c ∷ cs)) (subst (BeginFrom (n + 1 + 1)) (sym (blank_step (n + 1) c cs f)) (begin-words_from (n + 1 + 1) cs)) ∙ ap (λ m. word_at n (b ∷ []) ∷ words_from m (c ∷ cs)) (sym (add-zero (n + 1)))
      | false ↦ λ f. word_step n b (c ∷ cs) e ∙ ap (put_before n b) (first_word (n + 1) c cs f) ∙ put_onto n b (n + 1) _ _ refl
          ∙ ap (λ bs. word_at n (b ∷ bs) ∷ words_from (n + 1 + 1 + position_or_len is_blank cs) (drop (position_or_len is_blank cs) cs)) (sym (take_step (position_or_len is_blank cs) c cs))
          ∙ ap (λ ws. word_at n (b ∷ take (1 + position_or_len is_blank cs) (c ∷ cs)) ∷ ws) (sym (skip (n + 1) (position_or_len is_blank cs) c cs))
    ]) refl

cut : (n : ℕ) (bs : List ℕ) → 0 < length bs → is_blank (get_or bs 0 0) ≡ false →
    words_from n bs ≡ word_at n (take (position_or_len is_blank bs) bs) ∷ words_from (n + position_or_len is_blank bs) (drop (position_or_len is_blank bs) bs)
cut n [] l e = absurd (omega arith)
cut n (b ∷ bs) l e = first_word n b bs e
    ∙ ap (λ w. word_at n w ∷ words_from (n + 1 + position_or_len is_blank bs) (drop (position_or_len is_blank bs) bs)) (sym (take_step (position_or_len is_blank bs) b bs))
    ∙ ap (λ ws. word_at n (take (1 + position_or_len is_blank bs) (b ∷ bs)) ∷ ws) (sym (skip n (position_or_len is_blank bs) b bs))
    ∙ ap (λ v. word_at n (take (cond (not v) (1 + position_or_len is_blank bs) 0) (b ∷ bs)) ∷ words_from (n + cond (not v) (1 + position_or_len is_blank bs) 0) (drop (cond (not v) (1 + position_or_len is_blank bs) 0) (b ∷ bs))) (sym e)

-- ---- at a place of a line

pub start_words : (line : List ℕ) (from p : ℕ) → p ≡ prefix_len is_blank (drop from line) → words_from (from + p) (drop (from + p) line) ≡ words_from from (drop from line)
start_words line from p e = ap (words_from (from + p)) (sym (drop-drop p from line)) ∙ ap (λ q. words_from (from + q) (drop q (drop from line))) e ∙ words_after_blanks from (drop from line)

pub start_stops : (line : List ℕ) (from p : ℕ) → p ≡ prefix_len is_blank (drop from line) → from + p < length line → is_blank (get_or line (from + p) 0) ≡ false
start_stops line from p e l =
    ap is_blank (sym (get_or-drop from line p 0)) ∙ ap (λ q. is_blank (get_or (drop from line) q 0)) e
    ∙ prefix_len_stops is_blank (drop from line) 0 (omega (arith, length-drop from line))

pub start_within : (line : List ℕ) (from p : ℕ) → from ≤ length line → p ≡ prefix_len is_blank (drop from line) → from + p ≤ length line
start_within line from p l e = omega (arith, length-drop from line, prefix_len-le-length is_blank (drop from line))

first_of : (line : List ℕ) (start : ℕ) → is_blank (get_or (drop start line) 0 0) ≡ is_blank (get_or line start 0)
first_of line start = ap is_blank (get_or-drop start line 0 0 ∙ ap (λ k. get_or line k 0) (add-zero start))

pub end_words : (line : List ℕ) (start p : ℕ) → start < length line → is_blank (get_or line start 0) ≡ false → p ≡ position_or_len is_blank (drop start line) →
    words_from start (drop start line) ≡ word_at start (take p (drop start line)) ∷ words_from (start + p) (drop (start + p) line)
end_words line start p l b e =
    cut start (drop start line) (omega (arith, length-drop start line)) (first_of line start ∙ b)
    ∙ ap (λ q. word_at start (take q (drop start line)) ∷ words_from (start + q) (drop q (drop start line))) (sym e)
    ∙ ap (λ bs. word_at start (take p (drop start line)) ∷ words_from (start + p) bs) (drop-drop p start line)

pub end_within : (line : List ℕ) (start p : ℕ) → start ≤ length line → p ≡ position_or_len is_blank (drop start line) → start + p ≤ length line
end_within line start p l e = omega (arith, length-drop start line, prefix_len-le-length (λ b. not (is_blank b)) (drop start line))

forward : (bs : List ℕ) → 0 < length bs → is_blank (get_or bs 0 0) ≡ false → 0 < position_or_len is_blank bs
forward [] l e = absurd (omega arith)
forward (b ∷ bs) l e = subst (λ v. 0 < cond (not v) (1 + position_or_len is_blank bs) 0) (sym e) (omega arith)

pub end_forward : (line : List ℕ) (start p : ℕ) → start < length line → is_blank (get_or line start 0) ≡ false → p ≡ position_or_len is_blank (drop start line) → 0 < p
end_forward line start p l b e = omega (arith, forward (drop start line) (omega (arith, length-drop start line)) (first_of line start ∙ b))

pub whole : (line : List ℕ) (from : ℕ) → take (length line - from) (drop from line) ≡ drop from line
whole line from = take_all (length line - from) (drop from line) (omega (arith, length-drop from line))

pub end_range : (line : List ℕ) (start p : ℕ) → start < length line → is_blank (get_or line start 0) ≡ false → p ≡ position_or_len is_blank (drop start line) →
    words_from start (drop start line) ≡ word_at start (slice_range line start (start + p)) ∷ words_from (start + p) (drop (start + p) line)
end_range line start p l b e = let f : p ≡ start + p - start = omega arith in
    end_words line start p l b e ∙ ap (λ q. word_at start (take q (drop start line)) ∷ words_from (start + p) (drop (start + p) line)) f

-- the first word at a place that is no blank begins there
pub begins_there : (line : List ℕ) (at : ℕ) → at < length line → is_blank (get_or line at 0) ≡ false →
    words_from at (drop at line) ≡ word_at at (take (position_or_len is_blank (drop at line)) (drop at line)) ∷ words_from (at + position_or_len is_blank (drop at line)) (drop (at + position_or_len is_blank (drop at line)) line)
begins_there line at l b = end_words line at (position_or_len is_blank (drop at line)) l b refl
