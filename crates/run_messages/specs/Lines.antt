-- The line that tells how a run ended.
use Rattle.std.specs.Prelude.{ℕ, List, [], ◌∷◌, ◌++◌, Option, Result, Ok, Err, codes, decimal}
use Rattle.std.specs.List.{flat_map}
use Rattle.std.specs.Io.KnownBytes.{Appends}
use Rattle.hept_ast.specs.Texts.{Name}
use Rattle.hept_io.specs.declared.outside.Failed.{Failed}
use Rattle.trace_io.specs.OutputText.{AppendsPart}
use Rattle.trace_io.specs.declared.row_text.RowFault.{RowFault}
use Rattle.trace_io.specs.declared.row_text.RowFault.TheVariants.{TooFew, TooMany, BadValue}
use Rattle.run_messages.specs.declared.end.End.{End}
use Rattle.run_messages.specs.declared.end.End.TheVariants.{Ended, Refused, Usage, File, BadRow as Bad_row, Limit as Limit_of, ReadFault, WriteFault, Memory}
use Rattle.run_messages.specs.declared.end.FileFault.{FileFault}
use Rattle.run_messages.specs.declared.end.FileFault.TheVariants.{Failed as Not_read, TooLarge, Missing}
use Rattle.run_messages.specs.declared.end.BadRow.{BadRow}
use Rattle.run_messages.specs.declared.end.BadRow.TheVariants.{TooLong, Fault}
use Rattle.run_messages.specs.declared.end.Refusal.{Refusal}
use Rattle.run_messages.specs.declared.end.Refusal.TheVariants.{BadByte, OpenComment, NumberTooLarge, Unexpected, TooDeep, UnknownName, Duplicate, Mismatch, ZeroDivisor, Recursive, NotDefined, FutureKept, NestedAsync, Limit, NoNode, FutureInterface, NoClock, MayBeNil, Cycle, NotServed, TooLarge as Too_large}

-- ---- texts

-- a limit is passed by what was kept, at a place
abbrev pub passed_text : (at kept limit : ℕ) → List ℕ
passed_text at kept limit = (codes "limit at " ++ decimal at) ++ ((codes ": " ++ decimal kept) ++ (codes " of " ++ decimal limit))

abbrev pub behind_space : Name → List ℕ
behind_space x = 32 ∷ x

-- names with one space between them
abbrev pub spaced : List Name → List ℕ
spaced [] = []
spaced (x ∷ xs) = x ++ flat_map behind_space xs

-- why a program is refused
abbrev pub refusal_text : Refusal → List ℕ
refusal_text (BadByte at) = codes "bad byte at " ++ decimal at.0
refusal_text (OpenComment at) = codes "open comment at " ++ decimal at.0
refusal_text (NumberTooLarge at) = codes "number too large at " ++ decimal at.0
refusal_text (Unexpected at) = codes "unexpected at " ++ decimal at.0
refusal_text (TooDeep at) = codes "too deep at " ++ decimal at.0
refusal_text (UnknownName at) = codes "unknown name at " ++ decimal at.0
refusal_text (Duplicate at) = codes "duplicate at " ++ decimal at.0
refusal_text (Mismatch at) = codes "mismatch at " ++ decimal at.0
refusal_text (ZeroDivisor at) = codes "zero divisor at " ++ decimal at.0
refusal_text (Recursive at) = codes "recursive at " ++ decimal at.0
refusal_text (NotDefined at) = codes "not defined at " ++ decimal at.0
refusal_text (FutureKept at) = codes "future kept at " ++ decimal at.0
refusal_text (NestedAsync at) = codes "nested async at " ++ decimal at.0
refusal_text (Limit at kept limit) = passed_text at.0 kept limit
refusal_text NoNode = codes "no node"
refusal_text (FutureInterface at) = codes "future interface at " ++ decimal at.0
refusal_text (NoClock at) = codes "no clock at " ++ decimal at.0
refusal_text (MayBeNil at) = codes "may be nil at " ++ decimal at.0
refusal_text (Cycle vars) = codes "cycle: " ++ spaced vars
refusal_text NotServed = codes "not served"
refusal_text (Too_large kept) = codes "too large: " ++ decimal kept ++ codes " over 1000000"

abbrev pub file_text : FileFault → List ℕ
file_text Not_read = codes "file not read"
file_text TooLarge = codes "file too large"
file_text Missing = codes "no such file"

abbrev pub row_fault_text : RowFault → List ℕ
row_fault_text (TooFew kept) = codes "too few values: " ++ decimal kept
row_fault_text (TooMany at) = codes "too many values at " ++ decimal at
row_fault_text (BadValue at) = codes "bad value at " ++ decimal at

abbrev pub bad_row_text : BadRow → List ℕ
bad_row_text TooLong = codes "too long"
bad_row_text (Fault fault) = row_fault_text fault

abbrev pub end_text : End → List ℕ
end_text Ended = []
end_text (Refused refusal) = codes "refused: " ++ refusal_text refusal
end_text Usage = codes "usage"
end_text (File fault) = file_text fault
end_text (Bad_row line fault) = (codes "line " ++ decimal line) ++ (codes ": " ++ bad_row_text fault)
end_text (Limit_of rows) = codes "limit of " ++ decimal rows ++ codes " instants reached"
end_text ReadFault = codes "trace not read"
end_text WriteFault = codes "output not written"
end_text Memory = codes "out of memory"

-- the line of an end, with its newline; where the trace ended there is none
abbrev pub line_of : End → List ℕ
line_of Ended = []
line_of end = codes "hepasync: " ++ (end_text end ++ 10 ∷ [])

-- ---- writing

-- a sink grows by the bytes, or on a failure by a part of them, from their front, that is not the whole
abbrev pub Writes : Result (Unit {0}) Failed → (old new : Option (List ℕ)) → List ℕ → Type 0
Writes (Ok u) old new bytes = Appends old new bytes
Writes (Err e) old new bytes = AppendsPart old new bytes
