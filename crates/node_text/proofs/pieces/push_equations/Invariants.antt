use Rattle.std.proofs.Common.{◌≡◌, ◌++◌, map, take}
use Rattle.std.specs.List.{flat_map}
use Rattle.hept_ast.specs.InnerParts.{inner_parts}
use Rattle.node_text.specs.Pieces.{piece_of}
use Rattle.node_text.proofs.pieces.push_equations.Given as goal

abbrev pub invariant-loop-equation : goal.invariant-loop-equation
invariant-loop-equation l = map piece_of l.pieces.items ≡ map piece_of l.initial.pieces.items ++ flat_map inner_parts (take l.equation-index l.equations)
