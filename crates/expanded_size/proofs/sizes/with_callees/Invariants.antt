use Rattle.std.proofs.Common.{◌≡◌, drop}
use Rattle.expanded_size.specs.Tables.{with_callees}
use Rattle.expanded_size.proofs.sizes.with_callees.Given as goal

abbrev pub invariant-loop-callee : goal.invariant-loop-callee
invariant-loop-callee l = with_callees l.sizes l.fn.own l.callees ≡ with_callees l.sizes l.size (drop l.callee-index l.callees)
