use Rattle.std.proofs.Common.{◌≡◌, ◌++◌, map, take}
use Rattle.clock_calculus.specs.Sites.{around_of}
use Rattle.clock_calculus.proofs.scope.Scope.within.Given as goal

abbrev pub invariant-loop-outer : goal.invariant-loop-outer
invariant-loop-outer l = map around_of l.site.items ≡ map around_of l.initial.site.items ++ map around_of (take l.outer-index l.outer-items)
