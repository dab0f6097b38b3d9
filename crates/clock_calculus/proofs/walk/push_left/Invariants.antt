use Rattle.std.proofs.Common.{◌≡◌, fold, take}
use Rattle.clock_calculus.specs.Collecting.{collection, after_defined}
use Rattle.clock_calculus.specs.Sites.{own_of}
use Rattle.clock_calculus.specs.Written.{base_term}
use Rattle.clock_calculus.proofs.walk.push_left.Given as goal

abbrev pub invariant-loop-name : goal.invariant-loop-name
invariant-loop-name l = collection l.out ≡ fold (after_defined (own_of l.scope) l.place.0 (base_term l.right)) (collection l.initial.out) (take l.name-index l.left)
