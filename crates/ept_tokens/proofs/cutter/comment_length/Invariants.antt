use Rattle.std.proofs.Common.{◌≡◌, ◌+◌, ◌-◌, ◌≤◌, length}
use Rattle.ept_tokens.specs.Tokens.{comment_length}
use Rattle.ept_tokens.proofs.Comments.{length_from}
use Rattle.ept_tokens.proofs.cutter.comment_length.Given as goal

abbrev pub invariant-bytes : goal.invariant-bytes
invariant-bytes l = record { same : length_from l.depth (length l.bytes - length l.rest) l.rest ≡ comment_length 0 0 0 l.bytes; depth : l.depth + length l.rest ≤ length l.bytes; within : 2 + length l.rest ≤ length l.bytes }

abbrev pub decreases-bytes : goal.decreases-bytes
decreases-bytes l = length l.rest
