use Rattle.std.proofs.Common.{◌≡◌, map, take}
use Rattle.std.specs.List.{flat_map}
use Rattle.hept_ast.specs.Limits.{earlier_of, earliest, state_limits}
use Rattle.node_text.specs.Pieces.{piece_of}
use Rattle.text_limits.proofs.limits.note_all_pieces.Given as goal

abbrev pub invariant-loop-piece : goal.invariant-loop-piece
invariant-loop-piece l = l.found ≡ earlier_of l.initial.found (earliest (flat_map state_limits (map piece_of (take l.piece-index l.pieces))))
