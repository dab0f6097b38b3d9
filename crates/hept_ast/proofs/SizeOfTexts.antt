-- A node has one expanded size.
use Rattle.std.proofs.Common.{◌≡◌, ℕ, ◌+◌, List, refl, ap}
use Rattle.hept_ast.specs.Scopes.{Top}
use Rattle.hept_ast.specs.Meaning.{Setting}
use Rattle.hept_ast.specs.Sites.{Piece, Body}
use Rattle.hept_ast.specs.ExpandedSize.{all_parts, own_size, SizeOf, with_parts, SizeOfAll, no_parts, one_part, OneExpandedSize}

mutual
  one_size : (w : Setting) (piece : Piece) (a b : ℕ) → SizeOf w piece a → SizeOf w piece b → a ≡ b
  one_size w piece a b (with_parts {n = n} h) (with_parts {n = m} k) =
      let e : n ≡ m = one_size_all w (all_parts w piece) n m h k in
      ap (λ (x : ℕ). own_size piece + x) e

  one_size_all : (w : Setting) (ps : List Piece) (a b : ℕ) → SizeOfAll w ps a → SizeOfAll w ps b → a ≡ b
  one_size_all w ps a b no_parts no_parts = refl
  one_size_all w ps a b (one_part {piece = piece} {rest = rest} {n = a1} {m = a2} h hs) (one_part {n = b1} {m = b2} k ks) =
      let e : a1 ≡ b1 = one_size w piece a1 b1 h k in
      let f : a2 ≡ b2 = one_size_all w rest a2 b2 hs ks in
      cc

pub one_expanded_size : OneExpandedSize
one_expanded_size w text n m h k = one_size w (Body (Top text)) n m h k
