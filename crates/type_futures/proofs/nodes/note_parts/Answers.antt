use Rattle.std.proofs.Common.{◌∙◌, ap, map, Bor, List}
use Rattle.hept_ast.specs.declared.tree.Decl.{Decl}
use Rattle.type_futures.proofs.NodeParts.{parts_noted}
use Rattle.type_futures.proofs.nodes.note_parts.Goals as goal

pub returns : goal.returns
returns c =
    parts_noted c.args.around.now (map (λ r. r.now) c.as_slice.result.now) c.as_slice-2.result.now _ _ _ c.note_equations.result
    (ap (λ (rs : List (Bor Decl)). map (λ r. r.now) rs) c.as_slice.ensures.value ∙ c.in_ok-seen.ensures) c.as_slice-2.ensures c.in_ok-note_node_block.ensures c.note_equations.ensures
