-- Comments, read two bytes at a time.
use Rattle.std.specs.Prelude.{ℕ, zero, suc, Option, Some}
use Rattle.ept_tokens.specs.Tokens.{Bytes, comment_length}

-- how many bytes a comment takes, with so many open and so many bytes so far, at its end where none is open
abbrev pub length_from : (open_ones so_far : ℕ) → Bytes → Option ℕ
length_from zero n bs = Some n
length_from (suc d) n bs = comment_length (suc d) 0 n bs
