use Rattle.std.proofs.Common.{◌≡◌, fold, take, map}
use Rattle.clock_calculus.specs.Collecting.{collection, after_set}
use Rattle.clock_calculus.specs.Sites.{seen_of}
use Rattle.clock_calculus.proofs.walk.push_sets.Given as goal

abbrev pub invariant-loop-name : goal.invariant-loop-name
invariant-loop-name l = collection l.out ≡ fold (after_set (seen_of l.scope)) (collection l.initial.out) (map (λ r. r.now) (take l.name-index l.names))
