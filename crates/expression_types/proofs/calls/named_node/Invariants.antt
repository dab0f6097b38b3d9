use Rattle.std.proofs.Common.{◌≡◌, drop}
use Rattle.hept_ast.specs.Faults.{node_named}
use Rattle.expression_types.proofs.calls.named_node.Given as goal

abbrev pub invariant-loop-index : goal.invariant-loop-index
invariant-loop-index l = node_named l.scene.around.nodes.now l.name ≡ node_named (drop l.index l.scene.around.nodes.now) l.name
