use Rattle.std.proofs.Common.{length, drop, ◌-◌, ◌≤◌}
use Rattle.ept_tokens.proofs.Cuts.{GoesOn}
use Rattle.ept_tokens.proofs.cutter.cut.Given as goal

abbrev pub invariant-loop-at : goal.invariant-loop-at
invariant-loop-at l = record { so_far : GoesOn l.bytes l.tokens (drop l.at l.bytes) l.at; within : l.at ≤ length l.bytes }

abbrev pub decreases-loop-at : goal.decreases-loop-at
decreases-loop-at l = length l.bytes - l.at
