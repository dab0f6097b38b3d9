-- What stands in the text of a node, and that a path names one call.
use Rattle.std.specs.Prelude.{◌≡◌, ℕ, true, List, [], ◌∷◌, Some, map, slice_get}
use Rattle.hept_ast.specs.Texts.{Name, is_in}
use Rattle.hept_ast.specs.Scopes.{Clock, Text, Scope, Top, Called, In_branch, In_body, In_state, Under, Written, Lowered, text_of}
use Rattle.hept_ast.specs.Meaning.{Setting, clock_seen, call_of}
use Rattle.hept_ast.specs.Sites.{Piece, path_of, Expression, Statement, Body, Site, Sites, expressions, form_pieces, clock_of_left, pieces}
use Rattle.hept_ast.specs.Settings.{Marks, Replies, of_program, of_core}
use Rattle.hept_ast.specs.OwnReplies.{PathsTell}
use Rattle.hept_ast.specs.declared.name.Place.{Place}
use Rattle.hept_ast.specs.declared.tree.Expr.{Expr}
use Rattle.hept_ast.specs.declared.tree.MergeBranch.{MergeBranch}
use Rattle.hept_ast.specs.declared.tree.Form.{Form, out-Form}
use Rattle.hept_ast.specs.declared.tree.Form.TheOpen.{Form-F}
use Rattle.hept_ast.specs.CallPlaces.{block_places, text_places}
use Rattle.hept_ast.specs.declared.tree.Block.{Block}
use Rattle.hept_ast.specs.declared.tree.Branch.{Branch}
use Rattle.hept_ast.specs.declared.tree.State.{State}
use Rattle.hept_ast.specs.declared.tree.Node.{Node}
use Rattle.hept_ast.specs.declared.tree.Program.{Program}
use Rattle.hept_ast.specs.declared.tree.Core.{Core}
use Rattle.hept_ast.specs.declared.tree.CoreNode.{CoreNode}
use Rattle.hept_ast.specs.declared.tree.Equation.{Equation, out-Equation}
use Rattle.hept_ast.specs.declared.tree.Equation.TheOpen.{Equation-F}

pub data IsAmong {A : Type 0} (x : A) : List A → Type 0 where
  at_head : {rest : List A} → IsAmong x (x ∷ rest)
  in_tail : {other : A} {rest : List A} → IsAmong x rest → IsAmong x (other ∷ rest)

-- the pieces of a piece without the bodies of called nodes
abbrev pub form_inside : Setting → Form-F Form Expr MergeBranch → Expr → Clock → Scope → List Piece
form_inside w (Form-F.Call f args) e clock s = expressions args clock s
form_inside w f e clock s = form_pieces w f e clock s

abbrev pub inside : Setting → Piece → List Piece
inside w (Expression e clock s) = form_inside w (out-Form e.form) e clock s
inside w piece = pieces w piece

-- a piece stands in another, in the text of one node
pub data StandsIn (w : Setting) : Piece → Piece → Type 0 where
  itself : {piece : Piece} → StandsIn w piece piece
  deeper : {piece part other : Piece} → IsAmong part (inside w piece) → StandsIn w part other → StandsIn w piece other

abbrev pub IsBodyOfNode : Scope → Type 0
IsBodyOfNode (Top text) = Unit {0}
IsBodyOfNode (Called s clock place args text) = Unit {0}
IsBodyOfNode _ = ⊥

-- a scope stands in the body of a node, with what decides whether it is active and restarted
pub data ScopeIn (w : Setting) (frame : Scope) : Scope → Type 0 where
  at_body : {s : Scope} → s ≡ frame → IsBodyOfNode s → ScopeIn w frame s
  at_branch : {s : Scope} {on : Expr} {branch : Branch} → ScopeIn w frame s → StandsIn w (Body frame) (Expression on [] s) →
      StandsIn w (Body frame) (Body (In_branch s on branch)) → ScopeIn w frame (In_branch s on branch)
  at_reset : {s : Scope} {every : Expr} {block : Block} → ScopeIn w frame s → StandsIn w (Body frame) (Expression every [] s) →
      StandsIn w (Body frame) (Body (In_body s every block)) → ScopeIn w frame (In_body s every block)
  at_state : {s : Scope} {states : List State} {k : ℕ} (n : ℕ) (node : Node) (e : Equation) (p : Place) → text_of s ≡ Written n node → ScopeIn w frame s → StandsIn w (Body frame) (Statement e s) →
      out-Equation e ≡ Equation-F.Automaton p states → ScopeIn w frame (In_state s states k)
  at_right : {s : Scope} {resets : List Name} → ScopeIn w frame s → ScopeIn w frame (Under s resets)

-- the bodies of a node and of the nodes called in such bodies
pub data IsFrame (w : Setting) (text : Text) : Scope → Type 0 where
  whole_text : IsFrame w text (Top text)
  of_call : {frame s : Scope} {clock : Clock} {place : ℕ} {args : List Expr} {called : Text} (e : Expr) → IsFrame w text frame → ScopeIn w frame s →
      StandsIn w (Body frame) (Expression e clock s) → call_of w (out-Form e.form) ≡ Some (args, called) → e.place.0 ≡ place →
      IsFrame w text (Called s clock place args called)

-- in the body of a node the place of a call tells where it stands
abbrev pub PlacesTell : Setting → Text → Type 0
PlacesTell w text = (frame : Scope) → IsFrame w text frame → (e d : Expr) (clock other : Clock) (s u : Scope) (call called : List Expr × Text) →
    StandsIn w (Body frame) (Expression e clock s) → call_of w (out-Form e.form) ≡ Some call →
    StandsIn w (Body frame) (Expression d other u) → call_of w (out-Form d.form) ≡ Some called →
    e.place.0 ≡ d.place.0 → (e ≡ d) × (clock ≡ other) × (s ≡ u)

-- the variables of a left side are on one clock
abbrev pub LeftsAgree : Setting → Text → Type 0
LeftsAgree w text = (frame : Scope) → IsFrame w text frame → (e : Equation) (s : Scope) (p : Place) (left : List Name) (right : Expr) (x : Name) →
    StandsIn w (Body frame) (Statement e s) → out-Equation e ≡ Equation-F.Define p left right → is_in x left ≡ true →
    clock_seen w x s ≡ clock_of_left w left s

-- where places tell calls of a text apart, paths tell the sites apart from all calls that are reached
abbrev pub PathsTellCalls : Type 0
PathsTellCalls = (w : Setting) (rows : List (List ℕ)) (text : Text) (sites : List Site) → PlacesTell w text → LeftsAgree w text →
    Sites w text sites → PathsTell w rows text sites

-- no element stands twice in a list
abbrev pub AllDiffer : {A : Type 0} → List A → Type 0
AllDiffer [] = Unit {0}
AllDiffer (x ∷ xs) = (IsAmong x xs → ⊥) × AllDiffer xs

-- in each node's text no two calls have one place
pub record PlacesDiffer (w : Setting) (text : Text) : Type 0 where
  pub own : AllDiffer (text_places text)
  pub called : (f : Name) (other : Text) → w.node f ≡ Some other → AllDiffer (text_places other)

-- then places tell calls apart
abbrev pub PlacesTellCalls : Type 0
PlacesTellCalls = (w : Setting) (text : Text) → LeftsAgree w text → PlacesDiffer w text → PlacesTell w text

-- and no two sites have one path
abbrev pub PathsDiffer : Type 0
PathsDiffer = (w : Setting) (text : Text) (sites : List Site) → LeftsAgree w text → PlacesDiffer w text → Sites w text sites → AllDiffer (map path_of sites)

-- a core's equations have clocks of their own
abbrev pub CoreLeftsAgree : Type 0
CoreLeftsAgree = (core : Core) (marked : Marks) (replies : Replies) (node : CoreNode) → LeftsAgree (of_core core marked replies) (Lowered node)

-- in a program no two calls of a node's text have one place, where they have none in each node
abbrev pub ProgramPlacesDiffer : Type 0
ProgramPlacesDiffer = (p : Program) (clock : ℕ → Name → Clock) (marked : Marks) (replies : Replies) (k : ℕ) (node : Node) →
    ((i : ℕ) (other : Node) → slice_get p.nodes i ≡ Some other → AllDiffer (block_places other.block)) → slice_get p.nodes k ≡ Some node →
    PlacesDiffer (of_program p clock marked replies) (Written k node)

-- and in a core
abbrev pub CorePlacesDiffer : Type 0
CorePlacesDiffer = (core : Core) (marked : Marks) (replies : Replies) (k : ℕ) (node : CoreNode) →
    ((i : ℕ) (other : CoreNode) → slice_get core.nodes i ≡ Some other → AllDiffer (text_places (Lowered other))) → slice_get core.nodes k ≡ Some node →
    PlacesDiffer (of_core core marked replies) (Lowered node)
