-- The expanded size of a node: the number of expressions in its text, and the expanded size of the callee for each call, by `async` or not.
use Rattle.std.specs.Prelude.{◌≡◌, ℕ, ◌+◌, ◌<◌, min, List, [], ◌∷◌, length, Some, slice_get}
use Rattle.hept_ast.specs.Texts.{Name}
use Rattle.hept_ast.specs.Scopes.{Clock, Written}
use Rattle.hept_ast.specs.Parts.{expressions}
use Rattle.hept_ast.specs.Faults.{IsTyped, calls_of, node_named}
use Rattle.hept_ast.specs.Settings.{Marks, Replies, of_program}
use Rattle.hept_ast.specs.ExpandedSize.{ExpandedSize}
use Rattle.hept_ast.specs.declared.tree.Node.{Node}
use Rattle.hept_ast.specs.declared.tree.Program.{Program}

mutual
  -- a node's size, among these nodes
  pub data SizeIs (nodes : List Node) : Node → ℕ → Type 0 where
    of_text : {node : Node} {n : ℕ} → SizesAre nodes (calls_of (Some node)) n → SizeIs nodes node (length (expressions node) + n)

  -- the sizes of the nodes that these calls name, together
  pub data SizesAre (nodes : List Node) : List Name → ℕ → Type 0 where
    no_call : SizesAre nodes [] 0
    a_call : {f : Name} {fs : List Name} {callee : Node} {n m : ℕ} → node_named nodes f ≡ Some callee → SizeIs nodes callee n → SizesAre nodes fs m → SizesAre nodes (f ∷ fs) (n + m)

-- the expanded size of the node at a position
abbrev pub HasSize : List Node → (k n : ℕ) → Type 0
HasSize nodes k n = (node : Node) × (slice_get nodes k ≡ Some node) × SizeIs nodes node n

-- a size as it is kept: 4,294,967,295 where it is greater
abbrev pub kept : ℕ → ℕ
kept n = min n 4294967295

-- ---- laws

-- a node has one size at most
abbrev pub OneSize : Type 0
OneSize = (nodes : List Node) (k n m : ℕ) → HasSize nodes k n → HasSize nodes k m → n ≡ m

-- in a program without faults of types each node has a size
abbrev pub EachHasSize : Type 0
EachHasSize = (p : Program) (k : ℕ) → IsTyped p → k < length p.nodes → (n : ℕ) × HasSize p.nodes k n

-- it is the size of the node's expanded text, over whose pieces the stream meaning goes
abbrev pub SizesAgree : Type 0
SizesAgree = (p : Program) (clock : ℕ → Name → Clock) (marked : Marks) (replies : Replies) (k n : ℕ) (node : Node) →
    slice_get p.nodes k ≡ Some node → SizeIs p.nodes node n → ExpandedSize (of_program p clock marked replies) (Written k node) n
