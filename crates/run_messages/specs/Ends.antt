-- The exit status of an end.
use Rattle.std.specs.Prelude.{ℕ}
use Rattle.run_messages.specs.declared.end.End.{End}
use Rattle.run_messages.specs.declared.end.End.TheVariants.{Ended, Refused, Usage, File, BadRow, Limit, ReadFault, WriteFault, Memory}

abbrev pub status_of : End → ℕ
status_of Ended = 0
status_of (Refused refusal) = 1
status_of Usage = 2
status_of (File fault) = 3
status_of (BadRow line fault) = 4
status_of (Limit rows) = 5
status_of ReadFault = 6
status_of WriteFault = 7
status_of Memory = 8
