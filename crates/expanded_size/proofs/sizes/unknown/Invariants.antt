use Rattle.expanded_size.specs.Tables.{IsUnknown}
use Rattle.expanded_size.proofs.sizes.unknown.Given as goal

abbrev pub invariant-loop : goal.invariant-loop
invariant-loop l = IsUnknown l.counter l.sizes.items
