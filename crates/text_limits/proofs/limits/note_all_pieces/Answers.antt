use Rattle.hept_ast.specs.Limits.{state_limits}
use Rattle.node_text.specs.Pieces.{piece_of}
use Rattle.earliest_fault.proofs.Noting.{noted_mapped}
use Rattle.text_limits.proofs.limits.note_all_pieces.Goals as goal

pub loop-piece-preserved : goal.loop-piece-preserved
loop-piece-preserved c = noted_mapped state_limits piece_of _ _ c.piece-item.result c.piece-item.result _ _ _ c.loop-piece-test.true c.loop-piece.invariant c.piece-item.is c.note_piece_limits.ensures
