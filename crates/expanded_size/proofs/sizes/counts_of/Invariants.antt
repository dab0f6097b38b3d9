use Rattle.std.proofs.Common.{◌≡◌, length, map, take}
use Rattle.hept_ast.specs.Parts.{expressions}
use Rattle.expanded_size.specs.Sizes.{kept}
use Rattle.expanded_size.proofs.sizes.counts_of.Given as goal

abbrev pub invariant-loop-node : goal.invariant-loop-node
invariant-loop-node l = l.counts.items ≡ map (λ n. kept (length (expressions n))) (take l.node-index l.nodes)
