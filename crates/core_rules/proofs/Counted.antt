-- Futures that two small cores keep.
use Rattle.std.specs.Prelude.{[], ◌∷◌}
use Rattle.hept_ast.specs.declared.tree.Form.{out-Form}
use Rattle.hept_ast.proofs.Unfolded.{static}
use denote.Hole.Carrier
use Rattle.core_rules.specs.FutureMemories.{CoreFutures, FuturesAreCounted, keeping_node, no_pieces, one_piece, with_pieces}
use Rattle.core_rules.specs.WellFormed.{sum_core, sum_node}

keeps_one : CoreFutures (record { types = []; nodes = keeping_node ∷ [] }) keeping_node 1
unfolding static out-Form Carrier.out Carrier.shown
keeps_one = with_pieces (one_piece (with_pieces (one_piece (with_pieces (one_piece (with_pieces no_pieces) (one_piece (with_pieces no_pieces) no_pieces))) no_pieces)) no_pieces)

keeps_none : CoreFutures sum_core sum_node 0
unfolding static out-Form Carrier.out Carrier.shown
keeps_none =
    with_pieces (one_piece (with_pieces (one_piece (with_pieces (one_piece (with_pieces no_pieces) (one_piece (with_pieces no_pieces) no_pieces))) no_pieces))
    (one_piece (with_pieces (one_piece (with_pieces (one_piece (with_pieces no_pieces) (one_piece (with_pieces no_pieces) no_pieces))) no_pieces)) no_pieces))

pub futures_are_counted : FuturesAreCounted
futures_are_counted = (keeps_one, keeps_none)
