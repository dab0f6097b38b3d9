-- The variables of a node, by its own block and the parts of its equations.
use Rattle.std.proofs.Common.{◌≡◌, ◌++◌, sym, ◌∙◌, ap, append-nil, append_assoc}
use Rattle.std.specs.List.{flat_map}
use Rattle.hept_ast.specs.Parts.{declared_in, variables}
use Rattle.hept_ast.specs.InnerParts.{inner_parts}
use Rattle.hept_ast.specs.declared.tree.Node.{Node}
use Rattle.hept_ast.proofs.WholeNode.{of_parts}

pub all_declared : (node : Node) → variables node ≡ node.inputs ++ node.outputs ++ node.block.locals ++ flat_map declared_in (flat_map inner_parts node.block.body)
all_declared node =
    let inner = flat_map declared_in (flat_map inner_parts node.block.body) in
    ap (λ t. node.inputs ++ ((node.outputs ++ node.block.locals) ++ t)) (of_parts declared_in node.block.body)
    ∙ (sym (append_assoc node.inputs (node.outputs ++ node.block.locals) inner)
    ∙ ap (λ t. t ++ inner) (sym (append_assoc node.inputs node.outputs node.block.locals)))

pub ruleset variables_of = (all_declared, append_assoc, append-nil)
