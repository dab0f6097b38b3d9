use Rattle.std.proofs.Common.{map, refl}
use Rattle.hept_ast.specs.InnerParts.{decl_label}
use Rattle.hept_ast.specs.Parts.{variables}
use Rattle.type_futures.proofs.NodeParts.{node_noted}
use Rattle.type_futures.proofs.nodes.note_node.Goals as goal

pub returns : goal.returns
returns c =
    node_noted c.args.around.now (map decl_label (variables c.args.around.now.node.now)) c.as_slice.result.now c.as_slice-2.result.now _ _ _ _ _ c.note_parts.result
    refl c.as_slice.ensures c.as_slice-2.ensures c.in_ok-note_second_variables.ensures c.note_decls.ensures c.note_kept_outputs.ensures c.note_parts.ensures
