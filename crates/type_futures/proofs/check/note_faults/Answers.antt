use Rattle.std.proofs.Common.{ap, ◌∙◌}
use Rattle.std.specs.List.{flat_map}
use Rattle.hept_ast.specs.Faults.{node_faults}
use Rattle.hept_ast.specs.declared.tree.Node.{Node}
use Rattle.hept_ast.specs.declared.tree.TypeDec.{TypeDec}
use Rattle.std.proofs.Common.{List}
use Rattle.type_futures.specs.Labels.{second_declarations}
use Rattle.earliest_fault.proofs.Noting.{also_noted, renamed}
use Rattle.type_futures.proofs.check.note_faults.Goals as goal

pub returns : goal.returns
returns c =
    let types = c.args.program.now.types in
    let nodes = c.args.program.now.nodes in
    also_noted (second_declarations c.args.program.now) (flat_map (node_faults c.args.program.now) nodes) _ _ _ c.note_nodes.result c.in_ok-note_second_declarations.ensures
    (renamed _ (flat_map (node_faults c.args.program.now) nodes) _ _ c.note_nodes.result
    (ap (λ (ts : List TypeDec). flat_map (node_faults (record { types = ts; nodes = c.as_slice-2.result.now })) c.as_slice-2.result.now) c.as_slice.ensures
    ∙ ap (λ (ns : List Node). flat_map (node_faults (record { types = types; nodes = ns })) ns) c.as_slice-2.ensures) c.note_nodes.ensures)
