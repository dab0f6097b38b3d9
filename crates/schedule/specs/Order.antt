-- Equations in an order in which each stands after those that it reads.
use Rattle.std.specs.Prelude.{◌≡◌, ℕ, ◌<◌, Bool, false, if◌then◌else◌, IsTrue, List, [], ◌∷◌, ◌++◌, All, Some, length, slice_get}
use Rattle.std.specs.List.{flat_map, list_any}
use Rattle.std.specs.List.Sorted.{IsPermutation}
use Rattle.hept_ast.specs.Texts.{Name, is_in}
use Rattle.hept_ast.specs.Causal.{HasNoCycle}
use Rattle.hept_ast.specs.declared.tree.Core.{Core}
use Rattle.hept_ast.specs.declared.tree.CoreNode.{CoreNode}
use Rattle.hept_ast.specs.declared.tree.CoreEquation.{CoreEquation}
use Rattle.core_rules.specs.Cores.{equation_reads}
use Rattle.core_rules.specs.WellFormed.{IsWellFormed}
use Rattle.core_naming.specs.Normal.{IsNormal}

-- whether an equation has a name on its left side
abbrev pub is_left : List CoreEquation → Name → Bool
is_left es x = list_any (λ e. is_in x e.left) es

-- an equation reads a left side of another
abbrev pub ReadsLeft : CoreEquation → CoreEquation → Type 0
ReadsLeft e other = (x : Name) × IsTrue (is_in x (equation_reads e)) × IsTrue (is_in x other.left)

-- each equation stands after every equation whose left side it reads
abbrev pub AreInOrder : List CoreEquation → Type 0
AreInOrder es = (i j : ℕ) (e other : CoreEquation) → slice_get es i ≡ Some e → slice_get es j ≡ Some other → ReadsLeft e other → j < i

abbrev pub IsOrderedNode : CoreNode → Type 0
IsOrderedNode node = AreInOrder node.equations

-- a core that can be read from the first equation of each node to the last
pub record IsOrdered (core : Core) : Type 0 where
  pub well_formed : IsWellFormed core
  pub normal : IsNormal core
  pub order : All IsOrderedNode core.nodes

-- ---- equations that are left

-- an equation reads a left side of one of those that are left, maybe its own
abbrev pub waits : CoreEquation → (left : List CoreEquation) → Bool
waits e left = list_any (is_left left) (equation_reads e)

pub record IsReady (left : List CoreEquation) (k : ℕ) : Type 0 where
  pub within : k < length left
  pub ready : (e : CoreEquation) → slice_get left k ≡ Some e → waits e left ≡ false

-- by some equations, one variable reads another
abbrev pub ReadsBy : List CoreEquation → Name → Name → Type 0
ReadsBy es x y = IsTrue (is_in y (flat_map (λ e. if is_in x e.left then equation_reads e else []) es))

abbrev pub HaveNoCycle : List CoreEquation → Type 0
HaveNoCycle es = HasNoCycle (ReadsBy es)

-- the same equations in order
pub record InOrder (es others : List CoreEquation) : Type 0 where
  pub moved : IsPermutation es others
  pub order : AreInOrder others

-- while equations are taken: what is taken is in order, and reads nothing that is left
pub record Taking (es taken left : List CoreEquation) : Type 0 where
  pub moved : IsPermutation es (taken ++ left)
  pub order : AreInOrder taken
  pub free : All (λ e. waits e left ≡ false) taken
  pub acyclic : HaveNoCycle left

-- ---- nodes

-- a node with its equations in order
pub record IsNodeInOrder (node other : CoreNode) : Type 0 where
  pub name : other.name ≡ node.name
  pub inputs : other.inputs ≡ node.inputs
  pub outputs : other.outputs ≡ node.outputs
  pub locals : other.locals ≡ node.locals
  pub equations : InOrder node.equations other.equations

pub data AreNodesInOrder : List CoreNode → List CoreNode → Type 0 where
  no_nodes : AreNodesInOrder [] []
  more_nodes : {node other : CoreNode} {nodes others : List CoreNode} → IsNodeInOrder node other → AreNodesInOrder nodes others → AreNodesInOrder (node ∷ nodes) (other ∷ others)

-- while nodes are done: the first ones are, and none that is left has a cycle
pub record Doing (nodes done left : List CoreNode) : Type 0 where
  pub front : List CoreNode
  pub all : nodes ≡ front ++ left
  pub done_nodes : AreNodesInOrder front done
  pub acyclic : All (λ node. HaveNoCycle node.equations) left
