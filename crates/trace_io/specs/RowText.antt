-- The row that a line of a trace spells, or the first fault in it.
use Rattle.std.specs.Prelude.{◌≡◌, ℕ, ◌+◌, ◌-◌, ◌%◌, ◌^◌, Bool, ◌||◌, ◌&&◌, if◌then◌else◌, ◌==◌, nat_le, List, [], ◌∷◌, drop, Option, Some, None, Result, Ok, Err, codes}
use Rattle.std.specs.List.{list_all}
use Rattle.std.specs.Char.{is_ascii_digit}
use Rattle.std.specs.Str.{bytes_eq}
use Rattle.std.specs.Str.Parse.{digits_value, starts_with_minus}
use Rattle.hept_ast.specs.Texts.{Name, is_in, place_in}
use Rattle.step_objects.specs.declared.shape.Values.{Values}
use Rattle.step_objects.specs.declared.shape.Values.TheVariants.{Numbers, Truths, Constructors}
use Rattle.step_cells.specs.declared.cell.Cell.{Cell}
use Rattle.step_cells.specs.Cells.{cells_of}
use Rattle.trace_io.specs.declared.row_text.RowFault.{RowFault}
use Rattle.trace_io.specs.declared.row_text.RowFault.TheVariants.{TooFew, TooMany, BadValue}

-- ---- words

-- space, tab or carriage return
unfoldable pub is_blank : ℕ → Bool
is_blank b = b == 32 || (b == 9 || b == 13)

-- a longest run of bytes that are no blanks, and the place of its first byte
pub record Word : Type 0 where
  pub at : ℕ
  pub bytes : List ℕ

abbrev pub word_at : ℕ → List ℕ → Word
word_at n bs = record { at = n; bytes = bs }

-- a byte at a place before words: it goes onto the first of them where that begins right after it
abbrev pub put_before : ℕ → ℕ → List Word → List Word
put_before n b [] = record { at = n; bytes = b ∷ [] } ∷ []
put_before n b (w ∷ ws) = if w.at == n + 1 then record { at = n; bytes = b ∷ w.bytes } ∷ ws else record { at = n; bytes = b ∷ [] } ∷ w ∷ ws

-- the words of a text that begins at a place
abbrev pub words_from : ℕ → List ℕ → List Word
words_from n [] = []
words_from n (b ∷ bs) = if is_blank b then words_from (n + 1) bs else put_before n b (words_from (n + 1) bs)

-- ---- values

-- the value that digits spell, where it is at most the greatest one
abbrev pub magnitude : ℕ → List ℕ → Option ℕ
magnitude greatest [] = None
magnitude greatest ds = if list_all is_ascii_digit ds && nat_le (digits_value 10 ds) greatest then Some (digits_value 10 ds) else None

-- the bits of the number of this magnitude below zero, in two's complement
abbrev pub negated : Option ℕ → Option ℕ
negated None = None
negated (Some m) = Some ((2 ^ 32 - m) % 2 ^ 32)

-- the bits of the number that a word spells: an optional minus sign and digits, from -2147483648 to 2147483647
abbrev pub number_text : List ℕ → Option ℕ
number_text bs = if starts_with_minus bs then negated (magnitude 2147483648 (drop 1 bs)) else magnitude 2147483647 bs

abbrev pub truth_text : List ℕ → Option ℕ
truth_text bs = if bytes_eq bs (codes "false") then Some 0 else if bytes_eq bs (codes "true") then Some 1 else None

-- the position of the first of the names that is this word
abbrev pub position_of : List ℕ → List Name → Option ℕ
position_of bs names = if is_in bs names then Some (place_in bs names) else None

-- the value that a word spells
abbrev pub word_value : Values → List ℕ → Option ℕ
word_value Numbers bs = number_text bs
word_value Truths bs = truth_text bs
word_value (Constructors names) bs = position_of bs names

-- ---- rows

abbrev pub with_value : Word → Option ℕ → Result (List ℕ) RowFault → Result (List ℕ) RowFault
with_value w None rest = Err (BadValue w.at)
with_value w (Some v) (Ok row) = Ok (v ∷ row)
with_value w (Some v) (Err e) = Err e

-- the values of the words, each of the next type that is left, after as many as were kept
abbrev pub row_from : (left : List Values) → (kept : ℕ) → List Word → Result (List ℕ) RowFault
row_from [] kept [] = Ok []
row_from [] kept (w ∷ ws) = Err (TooMany w.at)
row_from (t ∷ ts) kept [] = Err (TooFew kept)
row_from (t ∷ ts) kept (w ∷ ws) = with_value w (word_value t w.bytes) (row_from ts (kept + 1) ws)

-- the row that a line spells
abbrev pub row_text : (shape : List Values) → (line : List ℕ) → Result (List ℕ) RowFault
row_text shape line = row_from shape 0 (words_from 0 line)

-- the cells hold the row that the line spells
abbrev pub IsRow : (shape : List Values) → (line : List ℕ) → List Cell → Type 0
IsRow shape line cells = (row : List ℕ) × (row_text shape line ≡ Ok row) × (cells ≡ cells_of row)
