-- The memories of future type of an expanded text.
use Rattle.std.specs.Prelude.{◌≡◌, ℕ, ◌+◌, ◌&&◌, Bool, false, if◌then◌else◌, not, List, [], ◌∷◌, ◌++◌, length, filter, map, Option, Some, None, is_some, codes, pos}
use Rattle.hept_ast.specs.Texts.{Name}
use Rattle.hept_ast.specs.Settings.{no_marks, no_replies, of_core, of_program}
use Rattle.hept_ast.specs.Scopes.{Clock, Text, Written, Lowered, Scope, Top, Called, In_branch, In_body, In_state, Under, declared_in, text_of}
use Rattle.hept_ast.specs.Meaning.{Setting}
use Rattle.hept_ast.specs.Sites.{Piece, Expression, Statement, Core_statement, Body, pieces}
use Rattle.hept_ast.specs.Types.{is_plain}
use Rattle.hept_ast.specs.Faults.{Judging, judge_expr}
use Rattle.hept_ast.specs.declared.tree.Program.{Program}
use Rattle.hept_ast.specs.declared.tree.Core.{Core}
use Rattle.hept_ast.specs.declared.tree.CoreNode.{CoreNode}
use Rattle.hept_ast.specs.declared.tree.Decl.{Decl}
use Rattle.hept_ast.specs.declared.tree.Node.{Node}
use Rattle.hept_ast.specs.declared.tree.TypeDec.{TypeDec}
use Rattle.hept_ast.specs.declared.tree.Expr.{Expr}
use Rattle.hept_ast.specs.declared.tree.MergeBranch.{MergeBranch}
use Rattle.hept_ast.specs.declared.tree.Ty.{Ty}
use Rattle.hept_ast.specs.declared.tree.Ty.TheVariants as ty
use Rattle.hept_ast.specs.declared.tree.Plain.TheVariants.{Int}
use Rattle.hept_ast.specs.declared.tree.Const.TheVariants.{Number}
use Rattle.hept_ast.specs.declared.tree.Form.TheVariants as form
use Rattle.hept_ast.specs.declared.tree.Form.{Form, out-Form}
use Rattle.hept_ast.specs.declared.tree.Form.TheOpen.{Form-F}
use Rattle.core_rules.specs.Cores.{as_interface}
use Rattle.core_rules.specs.WellFormed.{expr, sum_core, sum_node}

-- a node seen without its text
abbrev pub interface : Text → Node
interface (Written n node) = record node { block = record { locals = []; body = [] } }
interface (Lowered node) = as_interface node

-- what a scope sees, the innermost first
abbrev pub seen_in : Scope → List Decl
seen_in (Top text) = declared_in (Top text)
seen_in (Called s clock place args text) = declared_in (Called s clock place args text)
seen_in (In_branch s on branch) = declared_in (In_branch s on branch) ++ seen_in s
seen_in (In_body s every block) = declared_in (In_body s every block) ++ seen_in s
seen_in (In_state s states k) = declared_in (In_state s states k) ++ seen_in s
seen_in (Under s resets) = seen_in s

abbrev pub is_future : Option (List Ty) → Bool
is_future (Some (t ∷ [])) = not (is_plain t)
is_future _ = false

-- the nodes that are called, without their texts
module _ (types : List TypeDec) (nodes : List Node) where
  abbrev pub judging_in : Scope → Judging
  judging_in s = record { types = types; nodes = nodes; node = interface (text_of s); seen = seen_in s; strong = false }

  abbrev pub counted : Bool → ℕ
  counted b = if b then 1 else 0

  -- a `fby` or a `pre` on a future
  abbrev pub operator_memories : Form-F Form Expr MergeBranch → Scope → ℕ
  operator_memories (Form-F.Fby a b) s = counted (is_future (judge_expr (judging_in s) b).types)
  operator_memories (Form-F.Pre a) s = counted (is_future (judge_expr (judging_in s) a).types)
  operator_memories _ s = 0

  -- a variable of future type that is declared with `last`; a core has none
  abbrev pub last_memories : Text → Scope → ℕ
  last_memories (Written n node) s = length (filter (λ d. is_some d.init && not (is_plain d.ty)) (declared_in s))
  last_memories (Lowered node) s = 0

  abbrev pub own_memories : Piece → ℕ
  own_memories (Expression e clock s) = operator_memories (out-Form e.form) s
  own_memories (Statement e s) = 0
  own_memories (Core_statement e s) = 0
  own_memories (Body s) = last_memories (text_of s) s

  -- how many a piece has, with the bodies of the nodes that it calls other than by `async`
  mutual
    pub data FuturesOf (w : Setting) : Piece → ℕ → Type 0 where
      with_pieces : {piece : Piece} {n : ℕ} → FuturesOfAll w (pieces w piece) n → FuturesOf w piece (own_memories piece + n)

    pub data FuturesOfAll (w : Setting) : List Piece → ℕ → Type 0 where
      no_pieces : FuturesOfAll w [] 0
      one_piece : {piece : Piece} {rest : List Piece} {n m : ℕ} → FuturesOf w piece n → FuturesOfAll w rest m → FuturesOfAll w (piece ∷ rest) (n + m)

  -- how many a node's expanded text has
  abbrev pub FutureMemories : Setting → Text → ℕ → Type 0
  FutureMemories w text n = FuturesOf w (Body (Top text)) n

-- of a node of a program, and of one of a core
abbrev pub without_text : Node → Node
without_text node = record node { block = record { locals = []; body = [] } }

abbrev pub ProgramFutures : Program → (ℕ → Name → Clock) → (k : ℕ) → Node → ℕ → Type 0
ProgramFutures p clock k node n = FutureMemories p.types (map without_text p.nodes) (of_program p clock no_marks no_replies) (Written k node) n

abbrev pub CoreFutures : Core → CoreNode → ℕ → Type 0
CoreFutures core node n = FutureMemories core.types (map as_interface core.nodes) (of_core core no_marks no_replies) (Lowered node) n

-- a core of one node, which gives its input, a future, an instant later
abbrev pub future_decl : Name → Decl
future_decl x = record { place = record { 0 = 0 }; name = x; ty = ty.Future Int; init = None }

abbrev pub keeping_node : CoreNode
keeping_node = record {
  name = codes "keep";
  inputs = future_decl (codes "x") ∷ [];
  outputs = future_decl (codes "y") ∷ [];
  locals = [];
  equations =
      record { place = record { 0 = 0 }; left = codes "y" ∷ []; clock = record { steps = [] }; right = expr (form.Fby (expr (form.AsyncConst (Number (pos 0)))) (expr (form.Var (codes "x")))); resets = [] } ∷ [];
}

-- it keeps one future, and the core that sums its inputs none
abbrev pub FuturesAreCounted : Type 0
FuturesAreCounted = CoreFutures (record { types = []; nodes = keeping_node ∷ [] }) keeping_node 1 × CoreFutures sum_core sum_node 0

-- an expanded text has one number of them
abbrev pub OneNumberOfFutures : Type 0
OneNumberOfFutures = (types : List TypeDec) (nodes : List Node) (w : Setting) (text : Text) (n m : ℕ) → FutureMemories types nodes w text n → FutureMemories types nodes w text m → n ≡ m
