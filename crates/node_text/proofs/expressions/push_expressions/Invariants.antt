use Rattle.std.proofs.Common.{◌≡◌, ◌++◌, map, take}
use Rattle.std.specs.List.{flat_map}
use Rattle.hept_ast.specs.InnerParts.{expressions_in}
use Rattle.node_text.specs.Pieces.{piece_of}
use Rattle.node_text.proofs.expressions.push_expressions.Given as goal

abbrev pub invariant-loop-piece : goal.invariant-loop-piece
invariant-loop-piece l = map (λ r. r.now) l.exprs.items ≡ map (λ r. r.now) l.initial.exprs.items ++ flat_map expressions_in (map piece_of (take l.piece-index l.pieces))
