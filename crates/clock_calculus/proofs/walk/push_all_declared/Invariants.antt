use Rattle.std.proofs.Common.{◌≡◌, fold, take}
use Rattle.clock_calculus.specs.Collecting.{collection, after_declared}
use Rattle.clock_calculus.proofs.walk.push_all_declared.Given as goal

abbrev pub invariant-loop-decl : goal.invariant-loop-decl
invariant-loop-decl l = collection l.out ≡ fold after_declared (collection l.initial.out) (take l.decl-index l.decls)
