-- How a run over the lines of a trace ends where nothing fails.
use Rattle.std.specs.Prelude.{◌≡◌, ℕ, ◌+◌, ◌≤◌, ◌==◌, nat_lt, if◌then◌else◌, ⊤, List, [], ◌∷◌, length, map, Option, IfSome, Result, Ok, Err}
use Rattle.step_objects.specs.declared.shape.Values.{Values}
use Rattle.hept_io.specs.Lines.{lines_of}
use Rattle.trace_io.specs.RowText.{row_text}
use Rattle.trace_io.specs.declared.row_text.RowFault.{RowFault}
use Rattle.run_messages.specs.declared.end.BadRow.TheVariants.{TooLong, Fault}
use Rattle.run_messages.specs.declared.end.End.{End}
use Rattle.run_messages.specs.declared.end.End.TheVariants.{Ended, BadRow, Limit, ReadFault, WriteFault}
use Rattle.hepasync_top.specs.Turns.{AllShort}

-- a line that spells a row goes on, and a fault ends the run at the line of this number
abbrev pub row_end : Result (List ℕ) RowFault → (number : ℕ) → End → End
row_end (Ok row) number end = end
row_end (Err fault) number end = BadRow number (Fault fault)

-- how a run ends over the lines that are left, after n rows, where at most `limit` rows may count
abbrev pub lines_end : List Values → (limit n : ℕ) → List (List ℕ) → End
lines_end inputs limit n [] = Ended
lines_end inputs limit n (line ∷ lines) =
    if n == limit then Limit limit
    else (if nat_lt 65535 (length line) then BadRow (n + 1) TooLong else row_end (row_text inputs line) (n + 1) (lines_end inputs limit (n + 1) lines))

-- unless reading or writing failed, the end is the one that the lines of the bytes come to
abbrev pub FollowsLines : List Values → (limit : ℕ) → (bytes : List ℕ) → End → Type 0
FollowsLines inputs limit bytes ReadFault = ⊤
FollowsLines inputs limit bytes WriteFault = ⊤
FollowsLines inputs limit bytes end = end ≡ lines_end inputs limit 0 (lines_of bytes)

-- the same, where the bytes of the trace are told
abbrev pub FollowsTrace : List Values → (limit : ℕ) → (trace : Option (List ℕ)) → End → Type 0
FollowsTrace inputs limit trace end = IfSome trace (λ bytes. FollowsLines inputs limit bytes end)

-- each line spells a row, none is too long, and there are at most `limit`
pub record ReadsWhole (inputs : List Values) (limit : ℕ) (bytes : List ℕ) : Type 0 where
  pub rows : List (List ℕ)
  pub read : map (row_text inputs) (lines_of bytes) ≡ map Ok rows
  pub short : AllShort (lines_of bytes)
  pub few : length (lines_of bytes) ≤ limit
