-- What the lines of bytes are.
use Rattle.std.specs.Prelude.{◌≡◌, ℕ, ◌<◌, List, [], ◌∷◌, ◌++◌, length, Option, IfSome, ◌⊎◌}
use Rattle.std.specs.Io.KnownBytes.{IsAtEnd}
use Rattle.std.specs.List.{flat_map}
use Rattle.hept_io.specs.Lines.{GivesLines, HasNoNewline, LosesLine, lines_of}

abbrev pub NoneOfNone : Type 0
NoneOfNone = lines_of [] ≡ []

-- a line and its newline, and then the lines of what is behind
abbrev pub LineIsFirst : Type 0
LineIsFirst = (line rest : List ℕ) → HasNoNewline line → lines_of (line ++ 10 ∷ rest) ≡ line ∷ lines_of rest

-- bytes without a newline are one line
abbrev pub LastIsLine : Type 0
LastIsLine = (line : List ℕ) → HasNoNewline line → 0 < length line → lines_of line ≡ line ∷ []

-- lines with a newline after each
abbrev pub joined : List (List ℕ) → List ℕ
joined lines = flat_map (λ line. line ++ 10 ∷ []) lines

-- the lines with a newline after each are the bytes, or the bytes and a last newline
abbrev pub JoinedIsLines : Type 0
JoinedIsLines = (bytes : List ℕ) → (joined (lines_of bytes) ≡ bytes) ⊎ (joined (lines_of bytes) ≡ bytes ++ 10 ∷ [])

-- ---- a loop that takes one line after another

-- no line was given yet
abbrev pub NoneGiven : Type 0
NoneGiven = (all : Option (List ℕ)) → GivesLines all [] all

-- one more line was given
abbrev pub OneMoreGiven : Type 0
OneMoreGiven =
    (all before after : Option (List ℕ)) (lines : List (List ℕ)) (line : List ℕ) → GivesLines all lines before → LosesLine before line after → GivesLines all (lines ++ line ∷ []) after

-- at the end all lines were given
abbrev pub AllGiven : Type 0
AllGiven = (all rest : Option (List ℕ)) (lines : List (List ℕ)) → GivesLines all lines rest → IsAtEnd rest → IfSome all (λ bytes. lines_of bytes ≡ lines)
