-- What the turns of a run do to the bytes that are to come and to those that are written.
use Rattle.std.specs.Prelude.{◌≡◌, ◌≢◌, ℕ, ◌+◌, ◌<◌, ◌≤◌, List, [], ◌∷◌, ◌++◌, length, map, take, Option, Some, None, Ok, Err, ⊤}
use Rattle.std.specs.Io.KnownBytes.{Appends, Consumes, IsAtEnd}
use Rattle.hept_ast.specs.declared.tree.Program.{Program}
use Rattle.step_objects.specs.declared.shape.Values.{Values}
use Rattle.hept_io.specs.Lines.{HasNoNewline, lines_of}
use Rattle.trace_io.specs.RowText.{row_text}
use Rattle.trace_io.specs.OutputText.{row_line, output_text}
use Rattle.step_objects.specs.Interfaces.{input_shape, output_shape}
use Rattle.hepasync_top.specs.Outputs.{ErasedOutputs}
use Rattle.run_messages.specs.declared.end.BadRow.{BadRow}
use Rattle.run_messages.specs.declared.end.BadRow.TheVariants.{TooLong, Fault}
use Rattle.run_messages.specs.declared.end.End.{End}
use Rattle.run_messages.specs.declared.end.End.TheVariants.{Ended, BadRow as Bad_row, Limit, ReadFault, WriteFault}

-- no line has more than 65,535 bytes
abbrev pub AllShort : List (List ℕ) → Type 0
AllShort [] = ⊤
AllShort (line ∷ lines) = (length line ≤ 65535) × AllShort lines

-- the first lines of bytes spell rows, and this is the rest
pub record TakesRows (inputs : List Values) (bytes : List ℕ) (rows : List (List ℕ)) (rest : List ℕ) : Type 0 where
  pub lines : List (List ℕ)
  pub cut : lines_of bytes ≡ lines ++ lines_of rest
  pub read : map (row_text inputs) lines ≡ map Ok rows
  pub short : AllShort lines
  pub shorter : length rest + length rows ≤ length bytes

-- known bytes lose their first lines, which spell rows
abbrev pub LosesRows : List Values → Option (List ℕ) → List (List ℕ) → Option (List ℕ) → Type 0
LosesRows inputs None rows rest = ⊤
LosesRows inputs (Some bytes) rows None = ⊥
LosesRows inputs (Some bytes) rows (Some rest) = TakesRows inputs bytes rows rest

-- Of known bytes these were taken from the front, at most a line with its newline and a buffer.
pub record IsAhead (coming left : Option (List ℕ)) : Type 0 where
  pub taken : List ℕ
  pub few : length taken ≤ 131072
  pub consumed : Consumes coming left taken

-- Of known bytes these were taken from the front, and they are part of a line: no newline came.
pub record IsCutOff (coming left : Option (List ℕ)) : Type 0 where
  pub taken : List ℕ
  pub few : length taken < 65536
  pub clean : HasNoNewline taken
  pub consumed : Consumes coming left taken

-- what is wrong with a line
abbrev pub IsWrong : List Values → (line : List ℕ) → BadRow → Type 0
IsWrong inputs line TooLong = 65535 < length line
IsWrong inputs line (Fault fault) = (length line ≤ 65535) × (row_text inputs line ≡ Err fault)

-- the first line is too long, or spells no row
pub record IsBadLine (inputs : List Values) (fault : BadRow) (bytes : List ℕ) : Type 0 where
  pub line : List ℕ
  pub others : List (List ℕ)
  pub lines : lines_of bytes ≡ line ∷ others
  pub wrong : IsWrong inputs line fault

abbrev pub NextIsBad : List Values → BadRow → Option (List ℕ) → Type 0
NextIsBad inputs fault None = ⊤
NextIsBad inputs fault (Some bytes) = IsBadLine inputs fault bytes

abbrev pub HasNext : Option (List ℕ) → Type 0
HasNext None = ⊤
HasNext (Some bytes) = lines_of bytes ≢ []

-- These rows counted: the first lines spell them, and the text of the outputs on them was written.
pub record Counted (p : Program) (coming held : Option (List ℕ)) (rows outs : List (List ℕ)) (rest now : Option (List ℕ)) : Type 0 where
  pub read : LosesRows (input_shape p) coming rows rest
  pub outputs : ErasedOutputs p rows outs
  pub written : Appends held now (output_text (output_shape p) outs)

-- Rows counted, what was to come then has a property, and little was taken of it.
pub record EndsAfter (p : Program) (coming held left now : Option (List ℕ)) (Why : (count : ℕ) → (rest : Option (List ℕ)) → Type 0) : Type 0 where
  pub rows : List (List ℕ)
  pub outs : List (List ℕ)
  pub rest : Option (List ℕ)
  pub counted : Counted p coming held rows outs rest now
  pub ahead : IsAhead rest left
  pub why : Why (length rows) rest

-- Rows counted, and the text of the outputs on the last one was written in part.
pub record EndsInPart (p : Program) (coming held left now : Option (List ℕ)) : Type 0 where
  pub rows : List (List ℕ)
  pub outs : List (List ℕ)
  pub row : List ℕ
  pub out : List ℕ
  pub rest : Option (List ℕ)
  pub read : LosesRows (input_shape p) coming (rows ++ row ∷ []) rest
  pub outputs : ErasedOutputs p (rows ++ row ∷ []) (outs ++ out ∷ [])
  pub taken : ℕ
  pub part : taken < length (row_line (output_shape p) out)
  pub written : Appends held now (output_text (output_shape p) outs ++ take taken (row_line (output_shape p) out))
  pub ahead : IsAhead rest left

-- How a run over a trace ends, where at most `limit` rows may count. Lines count from 1. Where a read failed, the rows of all
-- lines that had come whole counted.
abbrev pub RunEnds : Program → (limit : ℕ) → (coming held left now : Option (List ℕ)) → End → Type 0
RunEnds p limit coming held left now Ended = EndsAfter p coming held left now (λ n rest. (n ≤ limit) × IsAtEnd rest)
RunEnds p limit coming held left now (Bad_row line fault) = EndsAfter p coming held left now (λ n rest. (n < limit) × (line ≡ n + 1) × NextIsBad (input_shape p) fault rest)
RunEnds p limit coming held left now (Limit rows) = (rows ≡ limit) × EndsAfter p coming held left now (λ n rest. (n ≡ limit) × HasNext rest)
RunEnds p limit coming held left now ReadFault = EndsAfter p coming held left now (λ n rest. (n ≤ limit) × IsCutOff rest left)
RunEnds p limit coming held left now WriteFault = EndsInPart p coming held left now
RunEnds p limit coming held left now end = ⊥
