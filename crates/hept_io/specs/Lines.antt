-- The lines of bytes, and what a call of a line reader does to the bytes that are not yet given.
use Rattle.std.specs.Prelude.{◌≡◌, ◌≢◌, ℕ, ◌<◌, ◌≤◌, ◌==◌, Bool, true, false, List, [], ◌∷◌, ◌++◌, length, All, Option, None, Some, Result, Ok, Err, ◌⊎◌, ⊤, IfSome, if◌then◌else◌}
use Rattle.std.specs.Borrow.{Bor}
use Rattle.std.specs.Io.KnownBytes.{Consumes, IsAtEnd, Keeps, prepend_known}
use Rattle.hept_io.specs.declared.lines.LineFault.{LineFault}
use Rattle.hept_io.specs.declared.lines.LineFault.TheVariants.{Failed, TooLong}

-- the bytes hold no newline
abbrev pub HasNoNewline : List ℕ → Type 0
HasNoNewline bytes = All (λ b. b ≢ 10) bytes

-- a line holds no newline, and has at most 65,535 bytes
abbrev pub IsLine : List ℕ → Type 0
IsLine line = HasNoNewline line × (length line < 65536)

-- a byte before the first of some lines, or a line of its own where there is none
abbrev pub with_first : ℕ → List (List ℕ) → List (List ℕ)
with_first b [] = (b ∷ []) ∷ []
with_first b (line ∷ others) = (b ∷ line) ∷ others

-- the lines of bytes: a line is the bytes up to a newline, which is no part of it, and bytes after the
-- last newline, if there are any, are a line
unfoldable pub lines_of : List ℕ → List (List ℕ)
lines_of [] = []
lines_of (b ∷ bytes) = if b == 10 then [] ∷ lines_of bytes else with_first b (lines_of bytes)

-- the first line of bytes, and what is left after it and its newline
pub record IsFirstLine (bytes line rest : List ℕ) : Type 0 where
  pub cut : (bytes ≡ line ++ 10 ∷ rest) ⊎ ((bytes ≡ line) × (rest ≡ []) × (0 < length line))
  pub lines : lines_of bytes ≡ line ∷ lines_of rest

-- the first line of bytes has more than 65,535 bytes
pub record FirstIsTooLong (bytes : List ℕ) : Type 0 where
  pub first : List ℕ
  pub others : List (List ℕ)
  pub lines : lines_of bytes ≡ first ∷ others
  pub long : 65535 < length first

-- known bytes lose their first line
abbrev pub LosesLine : Option (List ℕ) → List ℕ → Option (List ℕ) → Type 0
LosesLine None line new = ⊤
LosesLine (Some bytes) line None = ⊥
LosesLine (Some bytes) line (Some rest) = IsFirstLine bytes line rest

-- these lines were given of the known bytes
abbrev pub GivesLines : Option (List ℕ) → List (List ℕ) → Option (List ℕ) → Type 0
GivesLines None lines new = ⊤
GivesLines (Some bytes) lines None = ⊥
GivesLines (Some bytes) lines (Some rest) = lines_of bytes ≡ lines ++ lines_of rest

-- ---- a reader

-- the bytes that a reader took from its source and didn't give yet, and whether it gives no more
pub record Reading : Type 0 where
  pub pending : List ℕ
  pub is_spent : Bool

-- the bytes that are to come: the pending ones and those that are left in the source
abbrev pub to_come : Reading → Option (List ℕ) → Option (List ℕ)
to_come reading left = prepend_known reading.pending left

-- a call gave a line, and at most one buffer is pending
pub record GivesLine (old : Reading) (left : Option (List ℕ)) (line : List ℕ) (new : Reading) (rest : Option (List ℕ)) : Type 0 where
  pub goes_on : new.is_spent ≡ false
  pub few : length new.pending ≤ 65536
  pub loses : LosesLine (to_come old left) line (to_come new rest)

-- a call came to the end: no byte was pending, and none was left
pub record Ends (old : Reading) (left : Option (List ℕ)) (new : Reading) (rest : Option (List ℕ)) : Type 0 where
  pub spent : new.is_spent ≡ true
  pub none_pending : old.pending ≡ []
  pub none_left : IsAtEnd left
  pub none_to_come : IsAtEnd (to_come old left)
  pub kept : Keeps left rest

-- a call gave up with what was taken and not given, which holds no newline
pub record GivesUp (old : Reading) (left : Option (List ℕ)) (new : Reading) (rest : Option (List ℕ)) : Type 0 where
  pub spent : new.is_spent ≡ true
  pub came : List ℕ
  pub consumed : Consumes left rest came
  pub clean : HasNoNewline (old.pending ++ came)

-- what a call of `next` does
abbrev pub Moves : Reading → Option (List ℕ) → Result (Option (Bor (List ℕ))) LineFault → Reading → Option (List ℕ) → Type 0
Moves old left (Ok (Some line)) new rest = GivesLine old left line.now new rest
Moves old left (Ok None) new rest = Ends old left new rest
Moves old left (Err Failed) new rest = (up : GivesUp old left new rest) × (length (old.pending ++ up.came) < 65536)
Moves old left (Err TooLong) new rest = (up : GivesUp old left new rest) × (length (old.pending ++ up.came) ≡ 65536) × IfSome (to_come old left) FirstIsTooLong
