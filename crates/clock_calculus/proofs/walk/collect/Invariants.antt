use Rattle.std.proofs.Common.{◌≡◌, [], fold, take}
use Rattle.std.specs.List.{flat_map}
use Rattle.hept_ast.specs.Parts.{parts_of}
use Rattle.clock_calculus.specs.Collecting.{after_part, collection}
use Rattle.clock_calculus.proofs.walk.collect.Given as goal

abbrev pub invariant-loop-equation : goal.invariant-loop-equation
invariant-loop-equation l = collection l.out ≡ fold (after_part l.node) (collection l.initial.out) (flat_map (parts_of []) (take l.equation-index l.equation-items))
