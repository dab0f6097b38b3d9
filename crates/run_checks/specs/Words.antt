-- The words of the program.
use Rattle.std.specs.Prelude.{ℕ, Bool, false, not, ◌==◌, if◌then◌else◌, List, [], ◌∷◌, Option, Some, None}

-- a word that isn't empty and doesn't begin with `-`
abbrev pub is_file : List ℕ → Bool
is_file [] = false
is_file (b ∷ bs) = not (b == 45)

-- the file that the words name: they are one word, and it names a file
abbrev pub file_of : List (List ℕ) → Option (List ℕ)
file_of [] = None
file_of (word ∷ []) = if is_file word then Some word else None
file_of (word ∷ other ∷ words) = None
