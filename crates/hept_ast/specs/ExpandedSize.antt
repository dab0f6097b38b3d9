-- The expanded size of a node: one for each expression of its text, and the expanded size of the called node for each call, by `async` or not.
use Rattle.std.specs.Prelude.{◌≡◌, ℕ, ◌+◌, List, [], ◌∷◌, ◌++◌}
use Rattle.hept_ast.specs.Scopes.{Clock, Text, Scope, Top}
use Rattle.hept_ast.specs.Meaning.{Setting, call_of}
use Rattle.hept_ast.specs.Sites.{Piece, Expression, Body, expressions, callee_pieces, form_pieces, pieces}
use Rattle.hept_ast.specs.declared.tree.Expr.{Expr}
use Rattle.hept_ast.specs.declared.tree.MergeBranch.{MergeBranch}
use Rattle.hept_ast.specs.declared.tree.Form.{Form, out-Form}
use Rattle.hept_ast.specs.declared.tree.Form.TheOpen.{Form-F}

-- the pieces of a piece, with the bodies of the nodes that are called by `async` too
abbrev pub form_parts : Setting → Form-F Form Expr MergeBranch → Expr → Clock → Scope → List Piece
form_parts w (Form-F.AsyncCall q f args) e clock s = callee_pieces w (call_of w (Form-F.AsyncCall q f args)) e.place.0 clock s ++ expressions args clock s
form_parts w f e clock s = form_pieces w f e clock s

abbrev pub all_parts : Setting → Piece → List Piece
all_parts w (Expression e clock s) = form_parts w (out-Form e.form) e clock s
all_parts w piece = pieces w piece

abbrev pub own_size : Piece → ℕ
own_size (Expression e clock s) = 1
own_size _ = 0

-- the size of a piece: calls lead from no node to itself, so this ends
mutual
  pub data SizeOf (w : Setting) : Piece → ℕ → Type 0 where
    with_parts : {piece : Piece} {n : ℕ} → SizeOfAll w (all_parts w piece) n → SizeOf w piece (own_size piece + n)

  pub data SizeOfAll (w : Setting) : List Piece → ℕ → Type 0 where
    no_parts : SizeOfAll w [] 0
    one_part : {piece : Piece} {rest : List Piece} {n m : ℕ} → SizeOf w piece n → SizeOfAll w rest m → SizeOfAll w (piece ∷ rest) (n + m)

abbrev pub ExpandedSize : Setting → Text → ℕ → Type 0
ExpandedSize w text n = SizeOf w (Body (Top text)) n

-- a node has one expanded size
abbrev pub OneExpandedSize : Type 0
OneExpandedSize = (w : Setting) (text : Text) (n m : ℕ) → ExpandedSize w text n → ExpandedSize w text m → n ≡ m
