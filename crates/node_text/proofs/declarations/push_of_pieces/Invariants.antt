use Rattle.std.proofs.Common.{◌≡◌, ◌++◌, map, take}
use Rattle.std.specs.List.{flat_map}
use Rattle.hept_ast.specs.Parts.{declared_in}
use Rattle.node_text.specs.Pieces.{piece_of}
use Rattle.node_text.proofs.declarations.push_of_pieces.Given as goal

abbrev pub invariant-loop-piece : goal.invariant-loop-piece
invariant-loop-piece l = map (λ r. r.now) l.out.items ≡ map (λ r. r.now) l.initial.out.items ++ flat_map declared_in (map piece_of (take l.piece-index l.pieces))
