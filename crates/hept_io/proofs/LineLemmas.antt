-- Newlines in parts of bytes.
use Rattle.std.proofs.Common.{◌≡◌, ◌≢◌, ℕ, ◌+◌, ◌-◌, ◌<◌, ◌≤◌, List, [], ◌∷◌, ◌++◌, length, take, drop, get_or, slice_range, refl, sym, ap, ◌∙◌, subst, arith, take-append-drop, length-take, length-take-le}
use Rattle.std.specs.Prelude.{Option}
use Rattle.std.proofs.lemmas.List.{drop-take, take-take, drop-append-le, take_at, drop_at, append-nil, drop-drop, drop_more}
use Rattle.std.proofs.lemmas.List.Elements.{All-append}
use Rattle.std.proofs.lemmas.Slice.{between_is}
use Rattle.std.proofs.Math.Seq.{take-add}
use Rattle.std.specs.Io.KnownBytes.{Consumes}
use Rattle.std.proofs.KnownBytes.{Consumes-nil, Consumes-more}
use Rattle.std.proofs.Transfers.{starts_with_trans}
use Rattle.hept_io.specs.Lines.{HasNoNewline}
use Rattle.hept_io.specs.Unread.{Came, unread}
use Rattle.hept_io.specs.declared.ahead.Ahead.{Ahead}

-- none in the front and none in the rest
pub HasNoNewline-parts : (n : ℕ) (bytes : List ℕ) → HasNoNewline (take n bytes) → HasNoNewline (drop n bytes) → HasNoNewline bytes
HasNoNewline-parts n bytes front rest =
    subst HasNoNewline (take-append-drop n bytes) (All-append (λ b. b ≢ 10) (take n bytes) (drop n bytes) front rest)

-- none in the front, and none before a place of the rest
pub HasNoNewline-further : (n m : ℕ) (bytes : List ℕ) → HasNoNewline (take n bytes) → HasNoNewline (take m (drop n bytes)) → HasNoNewline (take (n + m) bytes)
HasNoNewline-further n m bytes front rest =
    subst HasNoNewline (sym (take-add n m bytes)) (All-append (λ b. b ≢ 10) (take n bytes) (take m (drop n bytes)) front rest)

-- ---- a part of a buffer that is written behind it

pub slice_range-same : (xs ys : List ℕ) (s e : ℕ) → take e ys ≡ take e xs → slice_range ys s e ≡ slice_range xs s e
slice_range-same xs ys s e same = between_is ys s e ∙ ap (drop s) same ∙ sym (between_is xs s e)

pub slice_range-grown : (xs ys : List ℕ) (s e n : ℕ) → s ≤ e → e ≤ length ys → take e ys ≡ take e xs → slice_range ys s (e + n) ≡ slice_range xs s e ++ take n (drop e ys)
slice_range-grown xs ys s e n ordered within same =
    between_is ys s (e + n)
    ∙ ap (drop s) (take-add e n ys)
    ∙ drop-append-le s (take e ys) (take n (drop e ys)) (omega (arith, length-take-le e ys within))
    ∙ ap (λ l. drop s l ++ take n (drop e ys)) same
    ∙ ap (λ l. l ++ take n (drop e ys)) (sym (between_is xs s e))

pub Came-more : (a b : Option (List ℕ)) (old new more : List ℕ) → new ≡ old ++ more → Consumes a b more → Came old new a b
Came-more a b old new more is taken = (
  ap (take (length old)) is ∙ take_at old more (length old) refl,
  subst (Consumes a b) (sym (ap (drop (length old)) is ∙ drop_at old more (length old) refl)) taken,
)

pub Came-none : (a : Option (List ℕ)) (bytes : List ℕ) → Came bytes bytes a a
Came-none a bytes = Came-more a a bytes bytes [] (sym (append-nil bytes)) (Consumes-nil a)

pub Came-trans : (a b c : Option (List ℕ)) (old mid new : List ℕ) → Came old mid a b → Came mid new b c → Came old new a c
Came-trans a b c old mid new p q = (starts_with_trans _ _ _ q.0 p.0, Consumes-more a b c old mid new p.0 q.0 p.1 q.1)

-- ---- a line and what is behind it

slice_range-front : (xs : List ℕ) (s e at : ℕ) → s + at < e → slice_range xs s (s + at) ≡ take at (slice_range xs s e)
slice_range-front xs s e at h =
    ap (λ n. take n (drop s xs)) {x = s + at - s} {y = at} (omega arith) ∙ sym (take-take at (e - s) (drop s xs) (omega arith))

slice_range-behind : (xs : List ℕ) (s e at : ℕ) → s + at < e → slice_range xs (s + at + 1) e ≡ drop (at + 1) (slice_range xs s e)
slice_range-behind xs s e at h =
    let all : e - s ≡ (at + 1) + (e - (s + at + 1)) = omega arith in
    let place : s + at + 1 ≡ s + (at + 1) = omega arith in
    ap (λ n. take (e - (s + at + 1)) (drop n xs)) place
    ∙ ap (take (e - (s + at + 1))) (sym (drop-drop (at + 1) s xs))
    ∙ sym (drop-take (at + 1) (e - (s + at + 1)) (drop s xs))
    ∙ ap (λ n. drop (at + 1) (take n (drop s xs))) (sym all)

cut_at : (xs : List ℕ) (at : ℕ) → at < length xs → get_or xs at 0 ≡ 10 → xs ≡ take at xs ++ 10 ∷ drop (at + 1) xs
cut_at xs at within is =
    sym (take-append-drop at xs) ∙ ap (λ l. take at xs ++ l) (drop_more xs at 0 within ∙ ap (λ b. b ∷ drop (at + 1) xs) is)

-- at most one buffer is pending
pub few_unread : (a : Ahead) → length (unread a) ≤ 65536
few_unread a =
    let taken = length-take (a.end - a.start) (drop a.start a.buf.items) in
    let few : length (take (a.end - a.start) (drop a.start a.buf.items)) ≤ 65536 = omega (arith, taken, a.in_bounds, a.whole) in
    few
