use Rattle.std.proofs.Common.{◌≡◌, fold, take}
use Rattle.clock_calculus.specs.Collecting.{collection, after_condition}
use Rattle.clock_calculus.specs.Sites.{own_of}
use Rattle.clock_calculus.proofs.walk.push_escapes.Given as goal

abbrev pub invariant-loop-escape : goal.invariant-loop-escape
invariant-loop-escape l = collection l.out ≡ fold (after_condition (own_of l.scope)) (collection l.initial.out) (take l.escape-index l.escapes)
