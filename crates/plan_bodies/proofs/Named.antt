-- The node of a name among those from a place on.
use Rattle.std.proofs.Common.{Option}
use Rattle.std.specs.List.{find}
use Rattle.std.specs.Option.{option_map}
use Rattle.std.proofs.Common.{List}
use Rattle.hept_ast.specs.Scopes.{Lowered, Text}
use Rattle.hept_ast.specs.Texts.{Name, same}
use Rattle.hept_ast.specs.declared.tree.CoreNode.{CoreNode}

abbrev pub node_among : Name → List CoreNode → Option Text
node_among x nodes = option_map Lowered (find (λ node. same x node.name) nodes)
