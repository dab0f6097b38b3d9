use Rattle.std.proofs.Common.{◌≡◌, ◌<◌, ℕ, suc, length, slice_index}
use Rattle.plan_nodes.proofs.registers.input_registers.Given as goal

abbrev pub invariant-loop-k : goal.invariant-loop-k
invariant-loop-k l = (length l.registers.items ≡ l.k) × ((j : ℕ) → j < l.k → slice_index l.registers.items j ≡ suc j)
