use Rattle.std.proofs.Common.{◌≡◌, ◌++◌, map, take}
use Rattle.hept_ast.specs.InnerParts.{escape_parts}
use Rattle.node_text.specs.Pieces.{piece_of}
use Rattle.node_text.proofs.pieces.push_escapes.Given as goal

abbrev pub invariant-loop-escape : goal.invariant-loop-escape
invariant-loop-escape l = map piece_of l.pieces.items ≡ map piece_of l.initial.pieces.items ++ escape_parts l.strong l.states (take l.escape-index l.escapes)
