-- The lines of bytes, one after another.
use Rattle.std.proofs.Common.{◌≡◌, ◌≢◌, ℕ, ◌<◌, ◌≤◌, Bool, true, false, cond, eqb, List, [], ◌∷◌, ◌++◌, None, Some, Option, IfSome, ◌⊎◌, length, drop, refl, sym, ap, ◌∙◌, subst, arith, inl, inr, append_assoc, length-append}
use Rattle.std.proofs.lemmas.List.{append-nil}
use Rattle.std.proofs.lemmas.List.Elements.{All-head, All-tail}
use Rattle.std.proofs.lemmas.Bool.Decides.{eqb_tells}
use Rattle.std.proofs.KnownBytes.{starts_with_rest}
use Rattle.std.specs.Io.KnownBytes.{Consumes, IsAtEnd, prepend_known}
use Rattle.hept_io.specs.Lines.{HasNoNewline, with_first, lines_of, IsFirstLine, FirstIsTooLong, LosesLine, Reading, GivesUp}
use Rattle.hept_io.specs.LineLaws.{AllGiven, JoinedIsLines, NoneGiven, OneMoreGiven, joined}
use Rattle.hept_io.specs.Unread.{Came, TakesLine}

eqb-other : (a b : ℕ) → a ≢ b → eqb a b ≡ false
eqb-other a b other = elim (eqb_tells a b) [ inl h ↦ absurd (other h.1) | inr h ↦ h.0 ]

-- a byte that is no newline stands before the first line
lines_of-cons : (b : ℕ) (bytes : List ℕ) → b ≢ 10 → lines_of (b ∷ bytes) ≡ with_first b (lines_of bytes)
unfolding lines_of
lines_of-cons b bytes other = ap (λ (t : Bool). cond t ([] ∷ lines_of bytes) (with_first b (lines_of bytes))) (eqb-other b 10 other)

pub lines_of-line : (line rest : List ℕ) → HasNoNewline line → lines_of (line ++ 10 ∷ rest) ≡ line ∷ lines_of rest
unfolding lines_of
lines_of-line [] rest clean = refl
lines_of-line (b ∷ line) rest clean =
    lines_of-cons b (line ++ 10 ∷ rest) (All-head (λ c. c ≢ 10) b line clean)
    ∙ ap (with_first b) (lines_of-line line rest (All-tail (λ c. c ≢ 10) b line clean))

pub lines_of-none : lines_of [] ≡ []
unfolding lines_of
lines_of-none = refl

pub lines_of-last : (line : List ℕ) → HasNoNewline line → 0 < length line → lines_of line ≡ line ∷ []
lines_of-last [] clean some = absurd (omega arith)
lines_of-last (b ∷ []) clean some = lines_of-cons b [] (All-head (λ c. c ≢ 10) b [] clean) ∙ ap (with_first b) lines_of-none
lines_of-last (b ∷ c ∷ line) clean some =
    lines_of-cons b (c ∷ line) (All-head (λ d. d ≢ 10) b (c ∷ line) clean)
    ∙ ap (with_first b) (lines_of-last (c ∷ line) (All-tail (λ d. d ≢ 10) b (c ∷ line) clean) (omega arith))

-- the first line begins with bytes that hold no newline
record BeginsWith (front all : List ℕ) : Type 0 where
  pub first : List ℕ
  pub others : List (List ℕ)
  pub lines : lines_of all ≡ first ∷ others
  pub long : length front ≤ length first

begins_one : (b : ℕ) (lines : List (List ℕ)) → (first : List ℕ) × (others : List (List ℕ)) × (with_first b lines ≡ first ∷ others) × (1 ≤ length first)
begins_one b [] = (b ∷ [], [], refl, omega arith)
begins_one b (line ∷ others) = (b ∷ line, others, refl, omega arith)

begins_with : (front rest : List ℕ) → HasNoNewline front → 0 < length front → BeginsWith front (front ++ rest)
begins_with [] rest clean some = absurd (omega arith)
begins_with (b ∷ []) rest clean some =
    let one = begins_one b (lines_of rest) in
    record { first = one.0; others = one.1; lines = lines_of-cons b rest (All-head (λ c. c ≢ 10) b [] clean) ∙ one.2; long = one.3 }
begins_with (b ∷ c ∷ front) rest clean some =
    let more = begins_with (c ∷ front) rest (All-tail (λ d. d ≢ 10) b (c ∷ front) clean) (omega arith) in
    record {
      first = b ∷ more.first;
      others = more.others;
      lines = lines_of-cons b (c ∷ front ++ rest) (All-head (λ d. d ≢ 10) b (c ∷ front) clean) ∙ ap (with_first b) more.lines;
      long = omega (arith, more.long);
    }

pub FirstIsTooLong-front : (front rest : List ℕ) → HasNoNewline front → length front ≡ 65536 → FirstIsTooLong (front ++ rest)
FirstIsTooLong-front front rest clean long =
    let begins = begins_with front rest clean (omega arith) in
    record { first = begins.first; others = begins.others; lines = begins.lines; long = omega (arith, begins.long) }

-- ---- what a reader does

first_line : (bytes line rest : List ℕ) → HasNoNewline line → bytes ≡ line ++ 10 ∷ rest → IsFirstLine bytes line rest
first_line bytes line rest clean is = record { cut = inl is; lines = ap lines_of is ∙ lines_of-line line rest clean }

last_line : (bytes line rest : List ℕ) → HasNoNewline line → bytes ≡ line → rest ≡ [] → 0 < length line → IsFirstLine bytes line rest
last_line bytes line rest clean is none some = record {
  cut = inr (is, none, some);
  lines = ap lines_of is ∙ lines_of-last line clean some ∙ ap (λ l. line ∷ l) (sym (ap lines_of none ∙ lines_of-none));
}

taken : (old line new came rest : List ℕ) → HasNoNewline line
    → (old ++ came ≡ line ++ 10 ∷ new) ⊎ ((old ++ came ≡ line) × (new ≡ []) × (0 < length line) × (rest ≡ []))
    → IsFirstLine (old ++ (came ++ rest)) line (new ++ rest)
taken old line new came rest clean (inl is) =
    first_line _ line _ clean (sym (append_assoc old came rest) ∙ ap (λ l. l ++ rest) is ∙ append_assoc line (10 ∷ new) rest)
taken old line new came rest clean (inr h) =
    last_line _ line _ clean (sym (append_assoc old came rest) ∙ ap (λ l. l ++ rest) h.0 ∙ ap (λ l. line ++ l) h.3 ∙ append-nil line) (ap (λ l. l ++ rest) h.1 ∙ h.3) h.2

pub LosesLine-taken : (old line new : List ℕ) (left rest : Option (List ℕ)) → HasNoNewline line → TakesLine old left line new rest
    → LosesLine (prepend_known old left) line (prepend_known new rest)
LosesLine-taken old line new None rest clean takes = tt
LosesLine-taken old line new (Some xs) None clean takes = absurd takes.consumed
LosesLine-taken old line new (Some xs) (Some ys) clean takes =
    subst (λ l. IsFirstLine (old ++ l) line (new ++ ys)) (sym takes.consumed) (taken old line new takes.came ys clean takes.cut)

pub GivesUp-came : (old new : Reading) (bytes : List ℕ) (left rest : Option (List ℕ)) → new.is_spent ≡ true → Came old.pending bytes left rest → HasNoNewline bytes
    → (up : GivesUp old left new rest) × (old.pending ++ up.came ≡ bytes)
GivesUp-came old new bytes left rest spent came clean =
    let all = sym (starts_with_rest bytes old.pending came.0) in
    (record { spent = spent; came = drop (length old.pending) bytes; consumed = came.1; clean = subst HasNoNewline (sym all) clean }, all)

pub FirstIsTooLong-came : (old : List ℕ) (left rest : Option (List ℕ)) (came : List ℕ) → Consumes left rest came → HasNoNewline (old ++ came) → length (old ++ came) ≡ 65536
    → IfSome (prepend_known old left) FirstIsTooLong
FirstIsTooLong-came old None rest came consumed clean long = tt
FirstIsTooLong-came old (Some xs) None came consumed clean long = absurd consumed
FirstIsTooLong-came old (Some xs) (Some ys) came consumed clean long =
    subst FirstIsTooLong (append_assoc old came ys ∙ ap (λ l. old ++ l) (sym consumed)) (FirstIsTooLong-front (old ++ came) ys clean long)

-- ---- all lines

-- a byte before the first line is a byte before them all
joined-with_first : (b : ℕ) (bytes : List ℕ) (lines : List (List ℕ)) → (joined lines ≡ bytes) ⊎ (joined lines ≡ bytes ++ 10 ∷ [])
    → (joined (with_first b lines) ≡ b ∷ bytes) ⊎ (joined (with_first b lines) ≡ b ∷ bytes ++ 10 ∷ [])
joined-with_first b bytes [] (inl is) = inr (ap (λ l. b ∷ l ++ 10 ∷ []) is)
joined-with_first b bytes [] (inr is) = absurd (omega (arith, ap length is, length-append bytes (10 ∷ [])))
joined-with_first b bytes (line ∷ others) (inl is) = inl (ap (λ l. b ∷ l) is)
joined-with_first b bytes (line ∷ others) (inr is) = inr (ap (λ l. b ∷ l) is)

joined-newline : (bytes : List ℕ) (lines : List (List ℕ)) → (joined lines ≡ bytes) ⊎ (joined lines ≡ bytes ++ 10 ∷ [])
    → (joined ([] ∷ lines) ≡ 10 ∷ bytes) ⊎ (joined ([] ∷ lines) ≡ 10 ∷ bytes ++ 10 ∷ [])
joined-newline bytes lines (inl is) = inl (ap (λ l. 10 ∷ l) is)
joined-newline bytes lines (inr is) = inr (ap (λ l. 10 ∷ l) is)

lines_of-newline : (bytes : List ℕ) → lines_of (10 ∷ bytes) ≡ [] ∷ lines_of bytes
unfolding lines_of
lines_of-newline bytes = refl

abbrev Joins : List ℕ → List (List ℕ) → Type 0
Joins bytes lines = (joined lines ≡ bytes) ⊎ (joined lines ≡ bytes ++ 10 ∷ [])

pub joined-lines_of : JoinedIsLines
joined-lines_of [] = inl (ap joined lines_of-none)
joined-lines_of (b ∷ bytes) = elim (eqb_tells b 10) [
  | inl is ↦
      subst (λ (c : ℕ). Joins (c ∷ bytes) (lines_of (c ∷ bytes))) (sym is.1) (subst (Joins (10 ∷ bytes)) (sym (lines_of-newline bytes)) (joined-newline bytes (lines_of bytes) (joined-lines_of bytes)))
  | inr other ↦ subst (Joins (b ∷ bytes)) (sym (lines_of-cons b bytes other.1)) (joined-with_first b bytes (lines_of bytes) (joined-lines_of bytes))
]

-- ---- a loop that takes one line after another

pub GivesLines-none : NoneGiven
GivesLines-none None = tt
GivesLines-none (Some bytes) = refl

pub GivesLines-more : OneMoreGiven
GivesLines-more None before after lines line given loses = tt
GivesLines-more (Some bytes) None after lines line given loses = absurd given
GivesLines-more (Some bytes) (Some rest) None lines line given loses = absurd loses
GivesLines-more (Some bytes) (Some rest) (Some left) lines line given loses =
    given ∙ ap (λ l. lines ++ l) loses.lines ∙ sym (append_assoc lines (line ∷ []) (lines_of left))

pub GivesLines-all : AllGiven
GivesLines-all None rest lines given end = tt
GivesLines-all (Some bytes) None lines given end = absurd given
GivesLines-all (Some bytes) (Some rest) lines given end = given ∙ ap (λ l. lines ++ lines_of l) end ∙ ap (λ l. lines ++ l) lines_of-none ∙ append-nil lines

pub IsAtEnd-to_come : (pending : List ℕ) (left : Option (List ℕ)) → pending ≡ [] → IsAtEnd left → IsAtEnd (prepend_known pending left)
IsAtEnd-to_come pending None none end = tt
IsAtEnd-to_come pending (Some xs) none end = ap (λ l. l ++ xs) none ∙ end
