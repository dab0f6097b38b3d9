use Rattle.std.proofs.Common.{◌≡◌, ℕ, length, None}
use Rattle.clock_calculus.specs.Unify.{bound}
use Rattle.clock_calculus.proofs.solve.unbound.Given as goal

abbrev pub invariant-loop : goal.invariant-loop
invariant-loop l = (length l.bindings.items ≡ l.counter) × ((u : ℕ) → bound l.bindings.items u ≡ None)
