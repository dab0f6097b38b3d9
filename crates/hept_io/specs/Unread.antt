-- The bytes that were read ahead and not yet given.
use Rattle.std.specs.Prelude.{◌≡◌, ℕ, ◌<◌, List, [], ◌∷◌, ◌++◌, length, drop, slice_range, Option, ◌⊎◌}
use Rattle.std.specs.Io.{StartsWith}
use Rattle.std.specs.Io.KnownBytes.{Consumes, IsAtEnd}
use Rattle.hept_io.specs.declared.ahead.Ahead.{Ahead}

abbrev pub unread : Ahead → List ℕ
unread a = slice_range a.buf.items a.start a.end

-- the bytes grew at their end by bytes that a source lost
abbrev pub Came : List ℕ → List ℕ → Option (List ℕ) → Option (List ℕ) → Type 0
Came old new left rest = StartsWith new old × Consumes left rest (drop (length old) new)

-- bytes came behind the old ones, and they all are a line and the new ones, or the last line
pub record TakesLine (old : List ℕ) (left : Option (List ℕ)) (line new : List ℕ) (rest : Option (List ℕ)) : Type 0 where
  pub came : List ℕ
  pub consumed : Consumes left rest came
  pub cut : (old ++ came ≡ line ++ 10 ∷ new) ⊎ ((old ++ came ≡ line) × (new ≡ []) × (0 < length line) × IsAtEnd rest)
