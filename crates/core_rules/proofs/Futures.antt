-- An expanded text has one number of memories of future type.
use Rattle.std.proofs.Common.{◌≡◌, ℕ, ◌+◌, List, refl, ap}
use Rattle.hept_ast.specs.Scopes.{Top}
use Rattle.hept_ast.specs.Meaning.{Setting}
use Rattle.hept_ast.specs.Sites.{Piece, Body, pieces}
use Rattle.hept_ast.specs.declared.tree.Node.{Node}
use Rattle.hept_ast.specs.declared.tree.TypeDec.{TypeDec}
use Rattle.core_rules.specs.FutureMemories.{FuturesOf, FuturesOfAll, OneNumberOfFutures, no_pieces, one_piece, own_memories, with_pieces}

module _ (types : List TypeDec) (nodes : List Node) where
  mutual
    one_of : (w : Setting) (piece : Piece) (a b : ℕ) → FuturesOf types nodes w piece a → FuturesOf types nodes w piece b → a ≡ b
    one_of w piece a b (with_pieces {n = n} h) (with_pieces {n = m} k) =
        let e : n ≡ m = one_of_all w (pieces w piece) n m h k in
        ap (λ (x : ℕ). own_memories types nodes piece + x) e

    one_of_all : (w : Setting) (ps : List Piece) (a b : ℕ) → FuturesOfAll types nodes w ps a → FuturesOfAll types nodes w ps b → a ≡ b
    one_of_all w ps a b no_pieces no_pieces = refl
    one_of_all w ps a b (one_piece {piece = piece} {rest = rest} {n = a1} {m = a2} h hs) (one_piece {n = b1} {m = b2} k ks) =
        let e : a1 ≡ b1 = one_of w piece a1 b1 h k in
        let f : a2 ≡ b2 = one_of_all w rest a2 b2 hs ks in
        cc

pub one_number : OneNumberOfFutures
one_number types nodes w text n m h k = one_of types nodes w (Body (Top text)) n m h k
