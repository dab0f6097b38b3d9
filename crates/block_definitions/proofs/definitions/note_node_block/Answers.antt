use Rattle.std.proofs.Common.{map}
use Rattle.block_definitions.proofs.NodeBlock.{block_renamed, node_block_noted}
use Rattle.block_definitions.proofs.definitions.note_node_block.Goals as goal

pub returns : goal.returns
returns c =
    let os = c.as_slice-outputs.result.now in
    let ls = c.as_slice-locals.result.now in
    let body = c.as_slice-body.result.now in
    block_renamed c.args.types.now os _ ls _ body _ _ _ c.note_second_definitions.result c.as_slice-outputs.ensures c.as_slice-locals.ensures c.as_slice-body.ensures
    (node_block_noted c.args.types.now os ls body (map (λ r. r.now) c.in_ok-sets.sets.keys) _ _ _ _ _ _ c.note_second_definitions.result c.in_ok-sets.ensures
    c.note_decls.ensures c.note_decls-2.ensures c.note_undefined.ensures c.note_undefined-2.ensures c.note_second_definitions.ensures)
