use Rattle.expanded_size.specs.Tables.{known}
use Rattle.expanded_size.proofs.Right.{found_size, is_size, no_size}
use Rattle.expanded_size.proofs.sizes.expanded_size.Goals as goal

pub unreachable-requires : goal.unreachable-requires
unreachable-requires c =
    no_size c.args.program.now c.args.node.0 (known c.deref-2.result.now c.args.node.0) c.in-None.ensures
    (found_size c.args.program.now c.as_slice-nodes.result.now c.in_ok-graph.graph c.in_ok-counts.counts.items c.deref.result.now c.in_ok-sizes.sizes.items c.deref-2.result.now c.args.node.0
    c.requires.typed c.as_slice-nodes.ensures c.in_ok-graph.ensures c.in_ok-counts.ensures c.deref.ensures.value c.in_ok-sizes.ensures c.deref-2.ensures.value c.requires.within)

pub returns : goal.returns
returns c =
    is_size c.args.program.now c.args.node.0 c.in-Some.size (known c.deref-2.result.now c.args.node.0) c.in-Some.ensures
    (found_size c.args.program.now c.as_slice-nodes.result.now c.in_ok-graph.graph c.in_ok-counts.counts.items c.deref.result.now c.in_ok-sizes.sizes.items c.deref-2.result.now c.args.node.0
    c.requires.typed c.as_slice-nodes.ensures c.in_ok-graph.ensures c.in_ok-counts.ensures c.deref.ensures.value c.in_ok-sizes.ensures c.deref-2.ensures.value c.requires.within)
