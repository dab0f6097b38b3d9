use Rattle.std.proofs.Common.{◌≡◌, length, map}
use Rattle.ept_tokens.specs.Tokens.{fixed_kind}
use Rattle.ept_tokens.proofs.cutter.find_kind.Given as goal

abbrev pub invariant-loop-table : goal.invariant-loop-table
invariant-loop-table l = fixed_kind (map (λ e. (e.1, e.0.now)) l.table) l.spelling ≡ fixed_kind (map (λ e. (e.1, e.0.now)) l.initial.table) l.spelling

abbrev pub decreases-loop-table : goal.decreases-loop-table
decreases-loop-table l = length l.table
